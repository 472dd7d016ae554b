-- What a case of the test programs begins with.
use Rattle.std.specs.Prelude.{◌≡◌, ℕ, ◌%◌, eqb}
use Rattle.choice.specs.Pick.{pick}
use Rattle.machine.specs.declared.Machine.{Machine}
use Rattle.machine.specs.declared.Waiting.{Waiting}
use Rattle.machine.specs.declared.Waiting.TheVariants.{Nothing, Held}
use Rattle.cases.specs.declared.TheConstants.{RAM}

-- the word that waits, 0 for none
abbrev pub waits_for : ℕ → Waiting
waits_for w = pick (eqb w 0) Nothing (Held w)

-- the machine of a case's waiting word, ACC, D and status
abbrev pub Begins : ℕ → ℕ → ℕ → ℕ → Machine → Type 0
Begins w acc latch status m =
    (m.registers.ram ≡ RAM) × ((m.registers.acc ≡ acc) × ((m.registers.latch ≡ latch) × ((m.registers.status ≡ status % 256) × (m.registers.waiting ≡ waits_for w))))
