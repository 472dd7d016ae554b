-- What demand 3 speaks of: two runs that differ only in upper bytes, and what is then the same in both.
use Rattle.std.specs.Prelude.{◌≡◌, ℕ, ◌*◌, ◌≤◌, ◌<◌, List, map, length, take}
use Rattle.alu.specs.declared.Mode.TheVariants.{Byte}
use Rattle.alu.specs.Width.{width_of, low}
use Rattle.isa.specs.Fields.{mark_of}
use Rattle.machine.specs.declared.Waiting.{Waiting}
use Rattle.machine.specs.declared.Waiting.TheVariants.{Nothing, Held}
use Rattle.machine.specs.declared.Registers.{Registers}
use Rattle.machine.specs.declared.Machine.{Machine}
use Rattle.machine.specs.declared.Words.{Words}
use Rattle.machine.specs.Judging.{word_about}
use Rattle.machine.specs.Settling.{UpperBytesKept}
use Rattle.run.specs.declared.Ran.{Ran}
use Rattle.run.specs.Splitting.{cycle_at, cycles_in, words_per_report}
use Rattle.run.specs.Courses.{Course, machine_after}
use Rattle.run.specs.Runs.{start_refusal, run_of}

abbrev pub low_byte : ℕ → ℕ
low_byte x = low (width_of Byte) x

-- the same status, waiting word and low bytes
pub record SameLowBytes (a b : Registers) : Type 0 where
  pub ram : map low_byte a.ram ≡ map low_byte b.ram
  pub acc : low_byte a.acc ≡ low_byte b.acc
  pub latch : low_byte a.latch ≡ low_byte b.latch
  pub status : a.status ≡ b.status
  pub waiting : a.waiting ≡ b.waiting

abbrev pub ByteMark : ℕ → Type 0
ByteMark w = mark_of w ≡ 0

-- the lines of two cycles: the same instruction word or, where one waits, immediate data with the same low byte
abbrev pub LinesAlike : Waiting → ℕ → ℕ → Type 0
LinesAlike Nothing x y = x ≡ y
LinesAlike (Held w) x y = low_byte x ≡ low_byte y

-- two cycles differ only in upper bytes of the bus input and of immediate data
pub record CyclesAlike (waiting : Waiting) (c d : Words) : Type 0 where
  pub lines : LinesAlike waiting c.lines d.lines
  pub input : low_byte c.input ≡ low_byte d.input
  pub pins : c.pins ≡ d.pins

-- the word that waits when cycle i begins; past the run's end, the one that waits there
abbrev pub waiting_before : Machine → Course → ℕ → Waiting
waiting_before m c i = (machine_after m (take i c.steps)).registers.waiting

-- a run reaches cycle i: it is judged, and accepted or refused
pub record Reached (m : Machine) (words : List ℕ) (budget room i : ℕ) : Type 0 where
  pub started : start_refusal m words room ≡ 0
  pub given : i < cycles_in (length words)
  pub paid : i < budget
  pub next : i ≤ length (run_of m words budget room).steps

-- two runs with the same budget and report room. What is asked is asked of the first run: the second then goes the same way
module _ (m n : Machine) (v w : List ℕ) (budget room : ℕ) where
  abbrev first : Course
  first = run_of m v budget room

  -- the premises: the cycles reached differ only in upper bytes, and every word accepted has the byte mark. Cycles that are not reached
  -- may differ in anything, and a word that is refused may have any mark
  pub record Premises : Type 0 where
    pub number : length v ≡ length w
    pub starts : SameLowBytes m.registers n.registers
    pub cycles : (i : ℕ) → Reached m v budget room i → CyclesAlike (waiting_before m first i) (cycle_at v i) (cycle_at w i)
    pub marks : (i : ℕ) → i < length first.steps → ByteMark (word_about (waiting_before m first i) (cycle_at v i).lines)

  -- a stricter reading: all cycles differ only so, those not reached too, where the word that waits at the run's end says what is immediate
  -- data; and the byte mark is asked of the refused word as well, and of a word that waits at the start even where no cycle is reached
  pub record StricterPremises : Type 0 where
    pub number : length v ≡ length w
    pub starts : SameLowBytes m.registers n.registers
    pub cycles : (i : ℕ) → i < cycles_in (length v) → CyclesAlike (waiting_before m first i) (cycle_at v i) (cycle_at w i)
    pub marks : (i : ℕ) → Reached m v budget room i → ByteMark (word_about (waiting_before m first i) (cycle_at v i).lines)
    pub waiting : (word : ℕ) → m.registers.waiting ≡ Held word → ByteMark word

-- what is said of the answers of two runs, and of the lent reports after the calls: the same reports, as far as they are filled, the same ending
-- with number and index, and the same counts; the same status, waiting word and low bytes; and in each run the upper bytes that it started with
pub record Isolated (m n : Machine) (r s : Ran) (reports reports' : List ℕ) : Type 0 where
  pub filled : take (words_per_report * r.accepted) reports ≡ take (words_per_report * s.accepted) reports'
  pub ending : r.ending ≡ s.ending
  pub accepted : r.accepted ≡ s.accepted
  pub completed : r.completed ≡ s.completed
  pub ends : SameLowBytes r.machine.registers s.machine.registers
  pub first : UpperBytesKept m.registers r.machine.registers
  pub second : UpperBytesKept n.registers s.machine.registers
