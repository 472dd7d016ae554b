-- A contract as a caller has it: what its `requires` and `ensures` in src/ make of it. For each public call there are `Asked`, what a caller must show
-- of the arguments, and `Learnt`, what it learns of the arguments a, the answer r and the arguments after the call b.
use Rattle.std.specs.Prelude.{◌≡◌}
use Prim.{Unit}

-- a contract asks nothing of a caller, and what the caller learns is just the statement; κs are the lifetimes of a call's lent arguments
abbrev pub States : {K : Type 0} {A R B : K → Type 0} → ((κs : K) → A κs → Type 0) → ((κs : K) → A κs → R κs → B κs → Type 0)
    → ((κs : K) → A κs → R κs → B κs → Type 0) → Type 1
States {K} {A} {R} {B} asked learnt statement =
    (κs : K) (a : A κs) (r : R κs) (b : B κs) → (asked κs a ≡ Unit {0}) × (learnt κs a r b ≡ statement κs a r b)

-- the arguments stand one after another
abbrev pub first : {A B : Type 0} → A × B → A
first a = a.0

abbrev pub second : {A B C : Type 0} → A × (B × C) → B
second a = first a.1

abbrev pub third : {A B C D : Type 0} → A × (B × (C × D)) → C
third a = second a.1

abbrev pub fourth : {A B C D E : Type 0} → A × (B × (C × (D × E))) → D
fourth a = third a.1

abbrev pub fifth : {A B C D E F : Type 0} → A × (B × (C × (D × (E × F)))) → E
fifth a = fourth a.1

abbrev pub sixth : {A B C D E F G : Type 0} → A × (B × (C × (D × (E × (F × G))))) → F
sixth a = fifth a.1
