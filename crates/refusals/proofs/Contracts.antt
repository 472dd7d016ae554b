-- The contracts of the two conversions are their statements (choice, specs/Promises).
use mathlib.Core.Path.{◌≡◌, refl}
use Rattle.choice.specs.Promises.{States, first}
use Rattle.refusals.specs.Numbers.{number_of, whole}
use Rattle.refusals.proofs.U8FromRefusal.from.Reads as number-contract
use Rattle.refusals.proofs.RefusedFromRefusal.from.Reads as whole-contract

pub number_states : States number-contract.Asked number-contract.Learnt (λ κs a r b. r ≡ number_of (first a))
number_states = λ κs a r b. (refl, refl)

pub whole_states : States whole-contract.Asked whole-contract.Learnt (λ κs a r b. r ≡ whole (first a))
whole_states = λ κs a r b. (refl, refl)
