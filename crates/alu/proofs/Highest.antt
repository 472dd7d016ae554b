-- Prioritize names the highest set bit: `prioritize_highest`, at the end.
use mathlib.Core.Path.{◌≡◌, refl}
use Prim.Native.Nat.{ℕ, zero, suc, ◌+◌, ◌-◌, ◌*◌, ◌^◌, ◌<◌, zero-le, suc-le-suc}
use native.Mathlib.Nat.{pow-suc}
use native.Mathlib.Omega.{arith}
use lib.Dec.{eqb-suc-zero}
use lib.Pow.{pow_pos}
use lib.Bits.{bit_and, and_lt}
use lib.Count.{count_leading_zeros, leading_top}
use Rattle.alu.specs.declared.Operation.TheVariants.{Prioritize}
use Rattle.alu.specs.Width.{low, complement}
use Rattle.alu.specs.Flags.{with_sign, plain}
use Rattle.alu.specs.Operations.{priority, prioritize, outcome_of}
use Rattle.alu.specs.Highest.{Highest}
use Rattle.alu.proofs.Fits.{low_lt, complement_lt}

priority_highest : (w x : ℕ) → x < 2 ^ w → Highest w x (priority w x)
unfolding priority
priority_highest w zero l = record {
  none = λ e. refl;
  first = λ h. omega arith;
  last = zero-le;
  reached = λ h. omega arith;
  unpassed = omega (arith, pow_pos (w - priority w 0));
}
priority_highest w (suc x) l =
    let t = leading_top w (suc x) (suc-le-suc zero-le) l in
    let e : w - (count_leading_zeros w (suc x) + 1) ≡ t.0 = omega (arith, t.1) in
    let top : suc x < 2 * 2 ^ t.0 = omega (arith, t.3, pow-suc 2 t.0) in
    rw (eqb-suc-zero x) (record {
      none = λ h. omega arith;
      first = λ h. omega arith;
      last = omega (arith, t.1);
      reached = λ h. rw e t.2;
      unpassed = rw e top;
    })

pub prioritize_highest : (w source mask status : ℕ)
    → Highest w (bit_and (low w source) (complement w (low w mask))) (outcome_of w (Prioritize source mask) status).result
unfolding outcome_of prioritize plain with_sign
prioritize_highest w source mask status =
    priority_highest w (bit_and (low w source) (complement w (low w mask)))
    (and_lt w (low w source) (complement w (low w mask)) (low_lt w source) (complement_lt w (low w mask)))
