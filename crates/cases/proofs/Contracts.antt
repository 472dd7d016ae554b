-- The contracts of what the cases begin with are their statements (choice, specs/Promises), of which no two outcomes satisfy one.
use mathlib.Core.Path.{◌≡◌, refl, ◌∙◌, sym}
use mathlib.Core.List.{List}
use Prim.Native.Nat.{ℕ, ◌%◌}
use Rattle.choice.specs.Promises.{States, first, second, third, fourth}
use Rattle.machine.specs.declared.Machine.{Machine}
use Rattle.machine.specs.declared.Waiting.{Waiting}
use Rattle.streams.specs.Digits.{hex_from}
use Rattle.cases.specs.declared.TheConstants.{RAM}
use Rattle.cases.specs.Start.{waits_for, Begins}
use Rattle.cases.proofs.word.Reads as word-contract
use Rattle.cases.proofs.start.Reads as start-contract

pub word_states : States word-contract.Asked word-contract.Learnt (λ κs a r b. r ≡ hex_from 0 (first a).now % 65536)
word_states = λ κs a r b. (refl, refl)

pub start_states : States start-contract.Asked start-contract.Learnt (λ κs a r b. Begins (first a) (second a) (third a) (fourth a) r)
start_states = λ κs a r b. (refl, refl)

pub word_unique : (digits : List ℕ) (r s : ℕ) → r ≡ hex_from 0 digits % 65536 → s ≡ hex_from 0 digits % 65536 → r ≡ s
word_unique digits r s f g = f ∙ sym g

-- a machine's parts make it
made : List ℕ → ℕ → ℕ → ℕ → Waiting → Machine
made ram acc latch status waiting =
    record { registers = record { ram = ram; acc = acc; latch = latch; status = status; waiting = waiting } }

begins : (w acc latch status : ℕ) (m : Machine) → Begins w acc latch status m → m ≡ made RAM acc latch (status % 256) (waits_for w)
unfolding made
begins w acc latch status m (by_ram, (by_acc, (by_latch, (by_status, by_waiting)))) =
    let parts : made m.registers.ram m.registers.acc m.registers.latch m.registers.status m.registers.waiting ≡ made RAM acc latch (status % 256) (waits_for w) =
    rw (by_ram, by_acc, by_latch, by_status, by_waiting) in
    parts

pub start_unique : (waiting acc latch status : ℕ) (m n : Machine) → Begins waiting acc latch status m → Begins waiting acc latch status n → m ≡ n
start_unique w acc latch status m n f g = begins w acc latch status m f ∙ sym (begins w acc latch status n g)
