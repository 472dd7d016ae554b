-- The two cycles of a bit: what each leaves.
use mathlib.Core.Path.{◌≡◌, refl, ap, ap₂, ◌∙◌}
use mathlib.Core.Bool.{Bool, true, false}
use Prim.Native.Nat.{ℕ, ◌%◌, ◌^◌, ◌<◌}
use native.Mathlib.Omega.{arith}
use lib.Bits.{bit_and, bit_or}
use lib.ListN.{get_or, set}
use Rattle.alu.specs.declared.Operation.{Operation}
use Rattle.alu.specs.declared.Operation.TheVariants.{CrcForward, CrcReverse}
use Rattle.alu.specs.Width.{bit, low, write_back}
use Rattle.alu.specs.Flags.{stored_link}
use Rattle.alu.specs.Operations.{crc_forward, crc_reverse, outcome_of}
use Rattle.alu.proofs.Bits.{bit_cases, bit_lt, bit_and_lem, bit_or_lem}
use Rattle.alu.proofs.Written.{written_over}
use Rattle.isa.specs.declared.Named.{Named}
use Rattle.isa.specs.Words.{named_row, asks_i}
use Rattle.plan.specs.declared.Plan.{Plan}
use Rattle.plan.specs.Plans.{work_of, plan_of}
use Rattle.machine.specs.declared.Waiting.TheVariants.{Nothing}
use Rattle.machine.specs.declared.Registers.{Registers}
use Rattle.machine.specs.declared.Machine.{Machine}
use Rattle.machine.specs.declared.Words.{Words}
use Rattle.machine.specs.Seeing.{register_at, view_of}
use Rattle.machine.specs.Acting.{outcome_for, performed_of}
use Rattle.machine.specs.Settling.{latched}
use Rattle.machine.specs.Cycles.{Turned, machine_of, cycle_of, written}
use Rattle.machine.proofs.Spelt.{performs_at_once, leaves_at_once}
use Rattle.run.specs.Leading.{Accepts}
use Rattle.remainder.specs.Remainder.{put_in_link, Direction, forward, reverse, step_on, Asks, digit, mirror, oriented}
use Rattle.remainder.proofs.Division.{next_lt}
use Rattle.remainder.proofs.Mirrors.{mirror_lt, mirrored_step}

-- A cycle of an instruction without an I operand, nothing waiting.
module _ (m : Machine) (c : Words) (i : Named) (idle : m.registers.waiting ≡ Nothing) (asks : Asks i c) (single : asks_i (named_row i) i.a i.b ≡ false) where
  abbrev plan : Plan
  plan = plan_of i

  abbrev before : Registers
  before = latched m.registers c.input c.pins

  accepts : Accepts m c
  accepts = (_, ap (λ (t : Turned). t.answer) (performs_at_once m c i idle asks.stray asks.clash asks.word single))

  leaves : (cycle_of m c).machine
      ≡ machine_of (written plan.mode plan.register before plan.work.destination (performed_of plan (view_of plan.mode plan.register before 0)))
  leaves = leaves_at_once m c i idle asks.stray asks.clash asks.word single asks.low

-- A bit is put into LINK, bit 4 of the status; nothing else changes but D.

abbrev with_bit : Bool → ℕ → ℕ
with_bit true status = bit_or status 0x10
with_bit false status = bit_and status 0xEF

link_is : (b : Bool) (status : ℕ) → stored_link (with_bit b status) ≡ digit b
link_is true status = bit_or_lem 4 status 0x10 ∙ bit_cases (λ (x : ℕ). bit_or x 1 ≡ 1) refl refl (bit 4 status) (bit_lt 4 status)
link_is false status = bit_and_lem 4 status 0xEF ∙ bit_cases (λ (x : ℕ). bit_and x 0 ≡ 0) refl refl (bit 4 status) (bit_lt 4 status)

pub record Put (b : Bool) (m : Machine) (c : Words) : Type 0 where
  pub accepts : Accepts m c
  pub ram : (cycle_of m c).machine.registers.ram ≡ m.registers.ram
  pub acc : (cycle_of m c).machine.registers.acc ≡ m.registers.acc
  pub waiting : (cycle_of m c).machine.registers.waiting ≡ Nothing
  pub link : stored_link (cycle_of m c).machine.registers.status ≡ digit b

module _ (m : Machine) (c : Words) (idle : m.registers.waiting ≡ Nothing) where
  after_bit : (b : Bool) → Asks (put_in_link b) c → (cycle_of m c).machine ≡ machine_of (record {
    ram = m.registers.ram;
    acc = m.registers.acc;
    latch = (latched m.registers c.input c.pins).latch;
    status = with_bit b m.registers.status;
    waiting = Nothing;
  })
  unfolding plan_of work_of outcome_for view_of
  after_bit true asks = leaves m c (put_in_link true) idle asks refl
  after_bit false asks = leaves m c (put_in_link false) idle asks refl

  bit_without_I : (b : Bool) → asks_i (named_row (put_in_link b)) (put_in_link b).a (put_in_link b).b ≡ false
  bit_without_I true = refl
  bit_without_I false = refl

  pub put : (b : Bool) → Asks (put_in_link b) c → Put b m c
  put b asks =
      let e = after_bit b asks in
      record {
        accepts = accepts m c (put_in_link b) idle asks (bit_without_I b);
        ram = ap (λ (n : Machine). n.registers.ram) e;
        acc = ap (λ (n : Machine). n.registers.acc) e;
        waiting = ap (λ (n : Machine). n.registers.waiting) e;
        link = ap (λ (n : Machine). stored_link n.registers.status) e ∙ link_is b m.registers.status;
      }

-- A step.

abbrev operation : Direction → ℕ → ℕ → Operation
operation forward register acc = CrcForward register acc
operation reverse register acc = CrcReverse register acc

-- a word is seen whole
seen : (x : ℕ) → x < 2 ^ 16 → low 16 (low 16 x) ≡ x
seen x h = omega arith

-- on words as they stand, the alu gives the result of CRCF as it stands
step_result : (d : Direction) (p a status : ℕ) → p < 2 ^ 16 → a < 2 ^ 16
    → (outcome_of 16 (operation d (low 16 (oriented d a)) (low 16 (oriented d p))) status).result ≡ oriented d (crc_forward 16 a p status).result
unfolding outcome_of
step_result forward p a status hp ha = ap₂ (λ (x y : ℕ). (crc_forward 16 x y status).result) (seen a ha) (seen p hp)
step_result reverse p a status hp ha =
    ap₂ (λ (x y : ℕ). (crc_reverse 16 x y status).result) (seen (mirror 16 a) (mirror_lt 16 a)) (seen (mirror 16 p) (mirror_lt 16 p))
    ∙ mirrored_step 15 p a status

pub oriented_lt : (d : Direction) (x : ℕ) → x < 2 ^ 16 → oriented d x < 2 ^ 16
oriented_lt forward x h = h
oriented_lt reverse x h = mirror_lt 16 x

-- the word that a step writes, by the status, the register and ACC
abbrev written_by : Direction → ℕ → ℕ → ℕ → ℕ
written_by d status register acc = write_back 16 register (outcome_of 16 (operation d (low 16 register) (low 16 acc)) status).result

written_is : (d : Direction) (p a status : ℕ) → p < 2 ^ 16 → a < 2 ^ 16
    → written_by d status (oriented d a) (oriented d p) ≡ oriented d (crc_forward 16 a p status).result
written_is d p a status hp ha =
    let next = (crc_forward 16 a p status).result in
    ap (write_back 16 (oriented d a)) (step_result d p a status hp ha)
    ∙ written_over 16 (oriented d a) (oriented d next) (oriented_lt d a ha) (oriented_lt d next (next_lt p a status hp ha))

-- the status after it, which nothing here looks at
abbrev status_by : Direction → ℕ → ℕ → ℕ → ℕ
status_by d status register acc = (outcome_of 16 (operation d (low 16 register) (low 16 acc)) status).status

-- the plan's register is k modulo 32, and RAM is read and written modulo 32 once more
after_step : (d : Direction) (k : ℕ) (m : Machine) (c : Words) → m.registers.waiting ≡ Nothing → Asks (step_on k d) c
    → let old = m.registers in let j = k % 32 % 32 in
    (cycle_of m c).machine ≡ machine_of (record {
      ram = set old.ram j (written_by d old.status (get_or old.ram j 0) old.acc);
      acc = old.acc;
      latch = (latched old c.input c.pins).latch;
      status = status_by d old.status (get_or old.ram j 0) old.acc;
      waiting = Nothing;
    })
unfolding plan_of work_of outcome_for view_of
after_step forward k m c idle asks = leaves m c (step_on k forward) idle asks refl
after_step reverse k m c idle asks = leaves m c (step_on k reverse) idle asks refl

step_without_I : (d : Direction) (k : ℕ) → asks_i (named_row (step_on k d)) (step_on k d).a (step_on k d).b ≡ false
step_without_I forward k = refl
step_without_I reverse k = refl

-- register k takes the step's word, and no other register changes, nor ACC
pub record Stepped (d : Direction) (k next : ℕ) (m : Machine) (c : Words) : Type 0 where
  pub accepts : Accepts m c
  pub ram : (cycle_of m c).machine.registers.ram ≡ set m.registers.ram (k % 32) (oriented d next)
  pub acc : (cycle_of m c).machine.registers.acc ≡ m.registers.acc
  pub waiting : (cycle_of m c).machine.registers.waiting ≡ Nothing

pub stepped : (d : Direction) (k p a : ℕ) (m : Machine) (c : Words) → m.registers.waiting ≡ Nothing → Asks (step_on k d) c → p < 2 ^ 16 → a < 2 ^ 16
    → register_at m.registers k ≡ oriented d a → m.registers.acc ≡ oriented d p → Stepped d k (crc_forward 16 a p m.registers.status).result m c
stepped d k p a m c idle asks hp ha register acc =
    let e = after_step d k m c idle asks in
    let old = m.registers in
    let place : k % 32 % 32 ≡ k % 32 = omega arith in
    record {
      accepts = accepts m c (step_on k d) idle asks (step_without_I d k);
      ram =
          ap (λ (n : Machine). n.registers.ram) e
          ∙ ap (λ (j : ℕ). set old.ram j (written_by d old.status (get_or old.ram j 0) old.acc)) place
          ∙ ap (set old.ram (k % 32)) (ap₂ (written_by d old.status) register acc ∙ written_is d p a old.status hp ha);
      acc = ap (λ (n : Machine). n.registers.acc) e;
      waiting = ap (λ (n : Machine). n.registers.waiting) e;
    }
