-- What lies above the width in an operand neither counts nor shows.
use mathlib.Core.Path.{◌≡◌, sym, ap, ◌∙◌}
use Prim.Native.Nat.{ℕ, ◌^◌}
use native.Mathlib.Nat.{mod-mod}
use Rattle.alu.specs.declared.Operation.{Operation}
use Rattle.alu.specs.declared.Operation.TheVariants.{TwoOperand, OneOperand, Bit, Shift, Rotate, Merge, Compare, Prioritize, CrcForward, CrcReverse}
use Rattle.alu.specs.Operations.{outcome_of}
use Rattle.alu.specs.Columns.{reduced}

-- reducing every operand changes nothing
pub low_parts_decide : (w : ℕ) (operation : Operation) (status : ℕ) → outcome_of w (reduced w operation) status ≡ outcome_of w operation status
unfolding outcome_of
low_parts_decide w (TwoOperand kind r s) status = rw (mod-mod r (2 ^ w), mod-mod s (2 ^ w))
low_parts_decide w (OneOperand kind source) status = rw (mod-mod source (2 ^ w))
low_parts_decide w (Bit kind n source) status = rw (mod-mod source (2 ^ w))
low_parts_decide w (Shift kind source) status = rw (mod-mod source (2 ^ w))
low_parts_decide w (Rotate n source) status = rw (mod-mod source (2 ^ w))
low_parts_decide w (Merge n u r mask) status = rw (mod-mod u (2 ^ w), mod-mod r (2 ^ w), mod-mod mask (2 ^ w))
low_parts_decide w (Compare n u r mask) status = rw (mod-mod u (2 ^ w), mod-mod r (2 ^ w), mod-mod mask (2 ^ w))
low_parts_decide w (Prioritize source mask) status = rw (mod-mod source (2 ^ w), mod-mod mask (2 ^ w))
low_parts_decide w (CrcForward register acc) status = rw (mod-mod register (2 ^ w), mod-mod acc (2 ^ w))
low_parts_decide w (CrcReverse register acc) status = rw (mod-mod register (2 ^ w), mod-mod acc (2 ^ w))

-- so two operations whose operands agree below the width have one outcome
pub same_low_parts : (w : ℕ) (a b : Operation) (status : ℕ) → reduced w a ≡ reduced w b → outcome_of w a status ≡ outcome_of w b status
same_low_parts w a b status e =
    sym (low_parts_decide w a status) ∙ ap (λ (x : Operation). outcome_of w x status) e ∙ low_parts_decide w b status
