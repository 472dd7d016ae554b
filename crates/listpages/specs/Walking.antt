-- Lines that are made one after another, each by a state that the ones before it left.
use Rattle.std.specs.Prelude.{ℕ, List, [], ◌∷◌, ◌++◌}

module _ {S A : Type 0} (line : S → A → List ℕ) (next : S → A → S) where
  abbrev pub text_from : S → List A → List ℕ
  text_from s [] = []
  text_from s (x ∷ xs) = line s x ++ text_from (next s x) xs

module _ {S A : Type 0} (next : S → A → S) where
  -- the state after them
  abbrev pub state_after : S → List A → S
  state_after s [] = s
  state_after s (x ∷ xs) = state_after (next s x) xs
