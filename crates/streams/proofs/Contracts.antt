-- The contracts of the calls that read digits are their statements (choice, specs/Promises), of which no two outcomes satisfy one.
use mathlib.Core.Path.{◌≡◌, ◌∙◌, sym, refl}
use mathlib.Core.List.{List}
use Rattle.std.specs.Prelude.{Option}
use Prim.Native.Nat.{ℕ}
use Rattle.choice.specs.Promises.{States, first}
use Rattle.streams.specs.Digits.{hex_from, decimal_from}
use Rattle.streams.proofs.digits.hex.Reads as hex-contract
use Rattle.streams.proofs.digits.decimal.Reads as decimal-contract

pub hex_states : States hex-contract.Asked hex-contract.Learnt (λ κs a r b. r ≡ hex_from 0 (first a).now)
hex_states = λ κs a r b. (refl, refl)

pub decimal_states : States decimal-contract.Asked decimal-contract.Learnt (λ κs a r b. r ≡ decimal_from 0 (first a).now)
decimal_states = λ κs a r b. (refl, refl)

pub hex_unique : (digits : List ℕ) (r s : ℕ) → r ≡ hex_from 0 digits → s ≡ hex_from 0 digits → r ≡ s
hex_unique digits r s f g = f ∙ sym g

pub decimal_unique : (digits : List ℕ) (r s : Option ℕ) → r ≡ decimal_from 0 digits → s ≡ decimal_from 0 digits → r ≡ s
decimal_unique digits r s f g = f ∙ sym g
