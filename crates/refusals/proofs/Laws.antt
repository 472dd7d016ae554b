-- What holds of the refusals' numbers: `number_of_positive`, none is 0, and `number_of_one`, no two refusals share one.
use mathlib.Core.Path.{◌≡◌, refl, ◌∙◌, sym, ap, subst}
use mathlib.Core.List.{List, [], ◌∷◌}
use Prim.Native.Nat.{ℕ, ◌-◌}
use mathlib.Core.Bool.{true, false}
use lib.Dec.{T, leb}
use lib.ListN.{get_or}
use Rattle.refusals.specs.declared.Refusal.{Refusal}
use Rattle.refusals.specs.declared.Refusal.TheVariants.{NotWholeCycles, TooLong, NoRoom, NothingToOperate, StrayPin, BusClash, Unlisted, AccTwice, BitTooHigh, DisabledImmediate, NotWholeBlocks, WrongCheck, WrongPlace, WrongShape, NoSuchName, NoSuchNumber, RestOfLine}
use Rattle.refusals.specs.Numbers.{number_of}

from_one : (k : Refusal) → T (leb 1 (number_of k))
from_one NotWholeCycles = tt
from_one TooLong = tt
from_one NoRoom = tt
from_one NothingToOperate = tt
from_one StrayPin = tt
from_one BusClash = tt
from_one Unlisted = tt
from_one AccTwice = tt
from_one BitTooHigh = tt
from_one DisabledImmediate = tt
from_one NotWholeBlocks = tt
from_one WrongCheck = tt
from_one WrongPlace = tt
from_one WrongShape = tt
from_one NoSuchName = tt
from_one NoSuchNumber = tt
from_one RestOfLine = tt

pub number_of_positive : (k : Refusal) → number_of k ≡ 0 → ⊥
number_of_positive k e = absurd (subst (λ (n : ℕ). T (leb 1 n)) e (from_one k))

-- the refusals in the order of their numbers: 1 to 14, then 20 to 22
in_order : List Refusal
in_order =
    NotWholeCycles ∷ TooLong ∷ NoRoom ∷ NothingToOperate ∷ StrayPin ∷ BusClash ∷ Unlisted ∷ AccTwice ∷ BitTooHigh
    ∷ DisabledImmediate ∷ NotWholeBlocks ∷ WrongCheck ∷ WrongPlace ∷ WrongShape ∷ NoSuchName ∷ NoSuchNumber ∷ RestOfLine ∷ []

-- the refusal of a number
named : ℕ → Refusal
named n = get_or in_order (elim (leb n 14) [ true ↦ n - 1 | false ↦ n - 6 ]) NotWholeCycles

named_back : (k : Refusal) → named (number_of k) ≡ k
unfolding named in_order
named_back NotWholeCycles = refl
named_back TooLong = refl
named_back NoRoom = refl
named_back NothingToOperate = refl
named_back StrayPin = refl
named_back BusClash = refl
named_back Unlisted = refl
named_back AccTwice = refl
named_back BitTooHigh = refl
named_back DisabledImmediate = refl
named_back NotWholeBlocks = refl
named_back WrongCheck = refl
named_back WrongPlace = refl
named_back WrongShape = refl
named_back NoSuchName = refl
named_back NoSuchNumber = refl
named_back RestOfLine = refl

pub number_of_one : (j k : Refusal) → number_of j ≡ number_of k → j ≡ k
number_of_one j k e = sym (named_back j) ∙ ap named e ∙ named_back k
