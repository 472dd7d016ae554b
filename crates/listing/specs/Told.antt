-- For the contracts of private parts alone: what the code's own types say in the words of the definitions.
use Rattle.std.specs.Prelude.{ℕ, List, [], ◌∷◌, ◌++◌, map, Option, None, Some}
use Rattle.std.specs.Borrow.{Bor}
use Rattle.std.proofs.Math.Option.{Option as Maybe, none, some}
use Rattle.refusals.specs.Numbers.{number_of}
use Rattle.listing.specs.declared.names.Name.{Name as Entry}
use Rattle.listing.specs.declared.places.Place.{Place as Spot}
use Rattle.listing.specs.declared.places.Form.{Form as Spots}
use Rattle.listing.specs.declared.writing.Texts.{Texts}
use Rattle.listing.specs.Names.{Name}
use Rattle.listing.specs.Places.{Place, place, unwritten, Form, form}

abbrev pub option_told : {A : Type 0} → Option A → Maybe A
option_told None = none
option_told (Some x) = some x

abbrev pub name_told : Entry → Name
name_told x = record { value = x.0; text = x.1.now }

abbrev pub names_told : List Entry → List Name
names_told xs = map name_told xs

abbrev pub place_told : Spot → Place
place_told p = place (number_of p.refusal) (names_told p.names.now)

-- a field that has no place is not written
abbrev pub field_told : Option Spot → Place
field_told None = unwritten
field_told (Some p) = place_told p

abbrev pub form_told : Spots → Form
form_told f = form (field_told f.a) (field_told f.b) (field_told f.c)

-- the text of a field, if it is written
abbrev pub text_told : Option (Bor (List ℕ)) → List (List ℕ)
text_told None = []
text_told (Some t) = t.now ∷ []

abbrev pub texts_told : Texts → List (List ℕ)
texts_told t = t.family.now ∷ t.mode.now ∷ (text_told t.a ++ (text_told t.b ++ text_told t.c))
