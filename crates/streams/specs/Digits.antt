-- Numbers that stand in a text as digits.
use Rattle.std.specs.Prelude.{ℕ, ◌+◌, ◌-◌, ◌*◌, ◌%◌, ◌^◌, List, [], ◌∷◌, leb, Option, Some, None}
use Rattle.choice.specs.Pick.{pick}

-- what a capital hexadecimal digit is worth ("0" is 48, "A" 65); any other byte is 0
abbrev pub digit_value : ℕ → ℕ
digit_value b = pick (leb b 47) 0 (pick (leb b 57) (b - 48) (pick (leb b 64) 0 (pick (leb b 70) (b - 65 + 10) 0)))

-- a number below 2^64 with more hexadecimal digits after it, modulo 2^64
abbrev pub hex_from : ℕ → List ℕ → ℕ
hex_from n [] = n
hex_from n (d ∷ ds) = hex_from ((n * 16 % 2 ^ 64 + digit_value d) % 2 ^ 64) ds

-- a number below 2^64 with more decimal digits after it, modulo 2^64; none where another byte stands among them
abbrev pub decimal_from : ℕ → List ℕ → Option ℕ
decimal_from n [] = Some n
decimal_from n (d ∷ ds) = pick (leb 48 d) (pick (leb d 57) (decimal_from ((n * 10 % 2 ^ 64 + (d - 48)) % 2 ^ 64) ds) None) None
