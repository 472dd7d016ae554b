-- What a byte of a text is. Document 01 says nothing of traces as text: the form is ours (docs/DECISIONS.md).
use Rattle.std.specs.Prelude.{ℕ, ◌-◌, Bool, true, false, eqb, leb, Option, Some, None}
use Rattle.choice.specs.Pick.{pick}
use Rattle.text.specs.declared.Kind.{Kind}
use Rattle.text.specs.declared.Kind.TheVariants.{Over, Blank, Digit, Other}

-- a line feed ends a line, and "#" begins a comment
abbrev pub line_feed : ℕ
line_feed = 10

abbrev pub comment_sign : ℕ
comment_sign = 35

-- a space, a tab or a carriage return
abbrev pub is_blank : ℕ → Bool
is_blank b = pick (eqb b 32) true (pick (eqb b 9) true (eqb b 13))

-- b is a byte from `first` to `last`
abbrev pub among : ℕ → ℕ → ℕ → Bool
among first last b = pick (leb first b) (leb b last) false

-- what a hex digit is worth, small or capital ("0" is 48, "A" 65, "a" 97); nothing for any other byte
unfoldable pub digit_value : ℕ → Option ℕ
digit_value b = pick (among 48 57 b) (Some (b - 48)) (pick (among 65 70 b) (Some (b - 55)) (pick (among 97 102 b) (Some (b - 87)) None))

abbrev pub digit_or_other : Option ℕ → Kind
digit_or_other (Some v) = Digit v
digit_or_other None = Other

-- what a byte is in a line, whose words are over at its end and where a comment begins
unfoldable pub kind_of : ℕ → Kind
kind_of b =
    pick (eqb b line_feed) Over
    (pick (eqb b comment_sign) Over
    (pick (is_blank b) Blank
    (digit_or_other (digit_value b))))
