-- std's rotate of a word is the rotate of specs/Operations: of a word as it is, and of a byte that stands in both halves of a word.
use Rattle.std.proofs.Common.{◌≡◌, sym, ap, subst, ◌∙◌, ℕ, zero, suc, ◌+◌, ◌-◌, ◌*◌, ◌/◌, ◌%◌, ◌^◌, ◌<◌, Bool, arith}
use native.Mathlib.Nat.{mod-lt, mod-eq_of_lt, mod-mod, mod_self, div-one, div-eq_of_lt}
use lib.Arith.{digits_lt}
use lib.Dec.{T, eqb, eqb→eq, lit<}
use lib.Pow.{pow_pos, pow-add, shr_lt, split, low as low_part, mod-mod-pow}
use lib.Bits.{bit_or, or_self}
use Rattle.std.proofs.lemmas.Nat.{or_shifted}
use Rattle.choice.proofs.Spans.{span, below}

-- by k places of d + k
turned_places : (d k x : ℕ) → x < 2 ^ (k + d) → bit_or (x * 2 ^ k % 2 ^ (d + k)) (x / 2 ^ d) ≡ (x * 2 ^ k + x / 2 ^ d) % 2 ^ (d + k)
turned_places d k x h =
    let below : x / 2 ^ d < 2 ^ k = shr_lt k d h in
    let kept : x % 2 ^ d < 2 ^ d = mod-lt x (pow_pos d) in
    let size : 2 ^ (d + k) ≡ 2 ^ d * 2 ^ k = pow-add 2 d k in
    let parts : x / 2 ^ d * 2 ^ d + x % 2 ^ d ≡ x = split x d in
    let moved : x * 2 ^ k ≡ x / 2 ^ d * 2 ^ (d + k) + x % 2 ^ d * 2 ^ k =
    rw size (ap (λ (y : ℕ). y * 2 ^ k) (sym parts) ∙ omega arith) in
    let room : x % 2 ^ d * 2 ^ k + x / 2 ^ d < 2 ^ (d + k) = rw size (digits_lt kept below) in
    let bare : x % 2 ^ d * 2 ^ k < 2 ^ (d + k) = omega arith in
    ap (λ (y : ℕ). bit_or (y % 2 ^ (d + k)) (x / 2 ^ d)) moved
    ∙ ap (λ (y : ℕ). bit_or y (x / 2 ^ d)) (low_part (x / 2 ^ d) (d + k) bare)
    ∙ or_shifted (x % 2 ^ d) k (x / 2 ^ d) below
    ∙ sym (low_part (x / 2 ^ d) (d + k) room)
    ∙ ap (λ (y : ℕ). y % 2 ^ (d + k)) (omega (arith, moved))

-- by none, and by some places of w
turned_by : (w k x : ℕ) → k < w → x < 2 ^ w → bit_or (x * 2 ^ k % 2 ^ w) (x / 2 ^ ((w - k) % w)) ≡ (x * 2 ^ k + x / 2 ^ (w - k)) % 2 ^ w
turned_by w zero x h l =
    let whole : w - 0 ≡ w = omega arith in
    let one : x * 1 ≡ x = omega arith in
    let bare : x + 0 ≡ x = omega arith in
    rw (whole, mod_self w, div-eq_of_lt l, one, div-one x, bare, mod-eq_of_lt l) (or_self x)
turned_by w (suc k) x h l =
    let d : (w - suc k) + suc k ≡ w = omega arith in
    let e : suc k + (w - suc k) ≡ w = omega arith in
    let f : (w - suc k) % w ≡ w - suc k = mod-eq_of_lt (omega arith) in
    rw f
    (subst (λ (m : ℕ). bit_or (x * 2 ^ suc k % 2 ^ m) (x / 2 ^ (w - suc k)) ≡ (x * 2 ^ suc k + x / 2 ^ (w - suc k)) % 2 ^ m) d
    (turned_places (w - suc k) (suc k) x (rw e l)))

pub turned_word : (n x : ℕ) → x < 65536 → bit_or (x * 2 ^ (n % 16) % 65536) (x / 2 ^ ((16 - n % 16) % 16)) % 65536 ≡ (x * 2 ^ (n % 16) + x / 2 ^ (16 - n % 16)) % 65536
turned_word n x l = ap (λ (y : ℕ). y % 65536) (turned_by 16 (n % 16) x (mod-lt n (lit< tt)) l) ∙ mod-mod (x * 2 ^ (n % 16) + x / 2 ^ (16 - n % 16)) 65536

-- a byte in both halves, by k places
abbrev doubled : ℕ → ℕ → Bool
doubled k x = eqb (bit_or (x * 257 * 2 ^ k % 2 ^ 16) (x * 257 / 2 ^ ((16 - k) % 16)) % 2 ^ 8) ((x * 2 ^ (k % 8) + x / 2 ^ (8 - k % 8)) % 2 ^ 8)

doubled_at : (k x : ℕ) → k < 16 → x < 256 → T (doubled k x)
doubled_at k x h l = below (doubled k) 256 x (below (λ k. span 0 256 (doubled k)) 16 k tt h) l

pub turned_byte : (n x : ℕ) → x < 256 → bit_or (x * 257 * 2 ^ (n % 16) % 65536) (x * 257 / 2 ^ ((16 - n % 16) % 16)) % 256 ≡ (x * 2 ^ (n % 8) + x / 2 ^ (8 - n % 8)) % 256
turned_byte n x l =
    let e : n % 16 % 8 ≡ n % 8 = mod-mod-pow n 1 3 in
    rw (← e) (eqb→eq _ _ (doubled_at (n % 16) x (mod-lt n (lit< tt)) l))
