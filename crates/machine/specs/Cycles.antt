-- One cycle: judged, seen, done, settled and reported (document 01, the machine and one cycle).
use Rattle.std.specs.Prelude.{ℕ, Option, Some, None, Result, Ok, Err}
use Rattle.choice.specs.Pick.{pick}
use Rattle.choice.specs.Tells.{Tells, accepted, refused}
use Rattle.alu.specs.declared.Mode.{Mode}
use Rattle.alu.specs.declared.Outcome.{Outcome}
use Rattle.refusals.specs.declared.Refusal.{Refusal}
use Rattle.refusals.specs.Numbers.{number_of}
use Rattle.isa.specs.declared.Named.{Named}
use Rattle.plan.specs.declared.Chooser.TheVariants.{Pins}
use Rattle.plan.specs.declared.Destination.{Destination}
use Rattle.plan.specs.declared.Plan.{Plan}
use Rattle.machine.specs.declared.Waiting.TheVariants.{Nothing, Held}
use Rattle.machine.specs.declared.Registers.{Registers}
use Rattle.machine.specs.declared.Machine.{Machine}
use Rattle.machine.specs.declared.Words.{Words}
use Rattle.machine.specs.declared.Report.{Report}
use Rattle.machine.specs.declared.Turn.{Turn}
use Rattle.machine.specs.declared.Effect.{Effect}
use Rattle.machine.specs.Pins.{oe_y_high}
use Rattle.machine.specs.Judging.{Judgement, Refuse, Wait, Perform, word_about, operand_about, judgement_of}
use Rattle.machine.specs.Seeing.{view_of}
use Rattle.machine.specs.Acting.{status_for, effect_of}
use Rattle.machine.specs.Settling.{latched, with_waiting, ram_after, acc_after, settled_of}
use Rattle.machine.specs.Reporting.{ct_of, t_of}

-- what a cycle leaves and tells: the machine after it, and a report or the number of the refusal
pub record Turned : Type 0 where
  pub machine : Machine
  pub answer : Tells Report

-- the machine of some registers
abbrev pub machine_of : Registers → Machine
machine_of r = record { registers = r }

-- a refused cycle changes nothing
abbrev pub refused_turn : Machine → ℕ → Turned
refused_turn m k = record { machine = m; answer = refused k }

-- a first immediate cycle keeps its word; nothing of Y is known, and CT and T are as in any cycle
abbrev pub waiting_turn : Registers → Words → Turned
waiting_turn r c = record {
  machine = machine_of (with_waiting r (Held c.lines));
  answer = accepted (record { y = 0; mask = 0; ct = ct_of Pins r.status c.pins; t = t_of r.status c.pins; completed = None });
}

-- what an instruction does from some registers, D latched already
abbrev pub effect_from : Plan → Registers → ℕ → Effect
effect_from p r immediate = effect_of p (view_of p.mode p.register r immediate)

-- CT judges the status before the cycle, T shows the one after it
abbrev pub report_of : Named → Effect → ℕ → ℕ → ℕ → Report
report_of n e ct after pins = record {
  y = pick (oe_y_high pins) 0 e.shown;
  mask = pick (oe_y_high pins) 0 e.mask;
  ct = ct;
  t = t_of after pins;
  completed = Some n;
}

abbrev pub turn_from : Named → Plan → Registers → Registers → Effect → ℕ → Turned
turn_from n p before after e pins = record {
  machine = machine_of after;
  answer = accepted (report_of n e (ct_of p.work.chooser before.status pins) after.status pins);
}

-- an instruction reads and writes the register that it names
abbrev pub performed_turn : Named → Plan → Registers → ℕ → ℕ → Turned
performed_turn n p r immediate pins =
    turn_from n p r (settled_of p.mode p.register r (effect_from p r immediate) pins) (effect_from p r immediate) pins

abbrev pub turn_of : Judgement → Machine → Registers → Words → Turned
turn_of (Refuse k) m r c = refused_turn m k
turn_of Wait m r c = waiting_turn r c
turn_of (Perform n p immediate) m r c = performed_turn n p r immediate c.pins

-- the registers that a cycle works on: D is latched before anything else
abbrev pub before : Machine → Words → Registers
before m c = latched m.registers c.input c.pins

unfoldable pub cycle_of : Machine → Words → Turned
cycle_of m c = turn_of (judgement_of m.registers.waiting c) m (before m c) c

-- the word that a cycle is about, and its I operand
abbrev pub instruction_word : Machine → Words → ℕ
instruction_word m c = word_about m.registers.waiting c.lines

abbrev pub operand_word : Machine → Words → ℕ
operand_word m c = operand_about m.registers.waiting c.lines

-- what an answer tells, and what a turn of the code is
abbrev pub answer_tells : Result Report Refusal → Tells Report
answer_tells (Ok r) = accepted r
answer_tells (Err k) = refused (number_of k)

abbrev pub turn_tells : Turn → Turned
turn_tells t = record { machine = t.machine; answer = answer_tells t.answer }

-- how many instructions a cycle completed (document 01, runs): a waiting cycle none, every other one
abbrev pub completions : Option Named → ℕ
completions None = 0
completions (Some n) = 1

-- IEN and SRE low: the destination and the status take what an operation gives, D stays, and nothing waits (document 01, the machine and one
-- cycle). For the laws that spell a cycle out
abbrev pub written : Mode → ℕ → Registers → Destination → Outcome → Registers
written mode k r d o = record {
  ram = ram_after d mode k o.result r.ram;
  acc = acc_after d mode o.result r.acc;
  latch = r.latch;
  status = status_for d mode o r.status;
  waiting = Nothing;
}
