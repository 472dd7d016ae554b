-- Numbers as text, in ASCII (document 01, examples), and quoted text as bytes.
use Rattle.std.specs.Prelude.{ℕ, zero, suc, ◌+◌, ◌/◌, ◌%◌, List, [], ◌∷◌, ◌++◌, eqb, ltb}
use Prim.Native.String.{String, [] as empty, ◌∷◌ as ◌before◌}
use Prim.Native.Char.{code}
use Rattle.choice.specs.Pick.{pick}

-- "\n", " ", "-" and "0"
abbrev pub newline : ℕ
newline = 10

abbrev pub blank : ℕ
blank = 32

abbrev pub dash : ℕ
dash = 45

abbrev pub zero_digit : ℕ
zero_digit = 48

-- a digit below 16: "0" to "9", then capital letters, of which "A" is 65
abbrev pub digit : ℕ → ℕ
digit d = pick (ltb d 10) (zero_digit + d) (55 + d)

-- the last n digits of x in a base, the highest first
abbrev pub numeral : ℕ → ℕ → ℕ → List ℕ
numeral base zero x = []
numeral base (suc n) x = numeral base n (x / base) ++ digit (x % base) ∷ []

unfoldable pub hex : ℕ → ℕ → List ℕ
hex n x = numeral 16 n x

-- no zeros in front of another digit
abbrev pub trimmed : List ℕ → List ℕ
trimmed [] = []
trimmed (d ∷ []) = d ∷ []
trimmed (d ∷ e ∷ digits) = pick (eqb d zero_digit) (trimmed (e ∷ digits)) (d ∷ e ∷ digits)

-- 20 digits hold every 64-bit number
abbrev pub longest : ℕ
longest = 20

unfoldable pub decimal : ℕ → List ℕ
decimal x = trimmed (numeral 10 longest x)

-- a digit where x is below a limit, which is at most 16, and "-" for none
abbrev pub digit_or_none : ℕ → ℕ → ℕ
digit_or_none limit x = pick (ltb x limit) (digit x) dash

-- quoted text
abbrev pub ascii : String → List ℕ
ascii empty = []
ascii (c before text) = code c ∷ ascii text
