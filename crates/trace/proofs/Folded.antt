-- The check, which is defined by the machine's CRCF, is the fold of the alu's CRC step over the bits.
-- The laws, in this order: `crc_accepted`, `check_fold`, `check_lt`, `check_vector`.
use mathlib.Core.Path.{◌≡◌, refl, ap, ◌∙◌}
use mathlib.Core.List.{List, [], ◌∷◌}
use Prim.Native.Nat.{ℕ, zero, suc, ◌*◌, ◌%◌, ◌^◌, ◌<◌}
use native.Mathlib.Omega.{arith}
use lib.ListN.{replicate}
use Rattle.alu.specs.declared.Outcome.{Outcome}
use Rattle.alu.specs.declared.Operation.TheVariants.{CrcForward}
use Rattle.alu.specs.Width.{bit, low, write_back}
use Rattle.alu.specs.Flags.{flagged, with_sign, plain, linked}
use Rattle.alu.specs.Operations.{moved_up, crc_step, crc_forward, outcome_of}
use Rattle.alu.proofs.Changes.{result_lt}
use Rattle.isa.specs.Words.{decode_of, takes_immediate}
use Rattle.plan.specs.Plans.{work_of, plan_of}
use Rattle.machine.specs.declared.Waiting.TheVariants.{Nothing}
use Rattle.machine.specs.declared.Machine.{Machine}
use Rattle.machine.specs.Judging.{judgement_of}
use Rattle.machine.specs.Seeing.{view_of, register_at}
use Rattle.machine.specs.Acting.{outcome_for, effect_of}
use Rattle.machine.specs.Settling.{settled_of}
use Rattle.machine.specs.Reporting.{condition_of}
use Rattle.machine.specs.Cycles.{cycle_of}
use Rattle.trace.specs.Check.{check_start, crc_cycle, check_bit, check_bits, check_bytes, check_of}
use Rattle.trace.specs.Folding.{fold_bit, fold_bits, fold_bytes}

-- the machine with a register in R0 and some status, and else as at the start
abbrev holding : ℕ → ℕ → Machine
holding register status = record { registers = record { ram = register ∷ replicate 31 0; acc = 0x1021; latch = 0; status = status; waiting = Nothing } }

-- the cycle is accepted, and puts the register's next value in its place
module _ (register status : ℕ) where
  abbrev next : Outcome
  next = outcome_of 16 (CrcForward (low 16 register) 0x1021) status

  pub crc_accepted : (cycle_of (holding register status) crc_cycle).answer.number ≡ 0
  unfolding decode_of takes_immediate work_of plan_of judgement_of view_of outcome_for effect_of settled_of condition_of cycle_of
  crc_accepted = refl

  crc_cycle_lem : (cycle_of (holding register status) crc_cycle).machine ≡ holding (write_back 16 register next.result) next.status
  unfolding decode_of takes_immediate work_of plan_of judgement_of view_of outcome_for effect_of settled_of condition_of cycle_of
  crc_cycle_lem = refl

-- with a 16-bit register, nothing is cut off and nothing lies above
module _ (register status : ℕ) (small : register < 65536) where
  next_is : next register status ≡ crc_forward 16 register 0x1021 status
  unfolding outcome_of
  next_is =
      let e : register % 2 ^ 16 ≡ register = omega arith in
      rw (e, e)

  next_small : (crc_forward 16 register 0x1021 status).result < 65536
  next_small = rw next_is at (result_lt 16 (omega arith) (CrcForward (low 16 register) 0x1021) status)

  written_is : write_back 16 register (next register status).result ≡ (crc_forward 16 register 0x1021 status).result
  unfolding write_back
  written_is = rw next_is (omega (arith, next_small))

-- a machine on the way through a check
record Holds (m : Machine) (register : ℕ) : Type 0 where
  status : ℕ
  same : m ≡ holding register status
  small : register < 65536

holds_bit : (m : Machine) (register : ℕ) → Holds m register → (b : ℕ) → Holds (check_bit m b) (fold_bit register b)
holds_bit m register h b = record {
  status = (next register (16 * (b % 2))).status;
  same =
      ap (λ (x : Machine). check_bit x b) h.same ∙ crc_cycle_lem register (16 * (b % 2))
      ∙ ap (λ (x : ℕ). holding x (next register (16 * (b % 2))).status) (written_is register (16 * (b % 2)) h.small);
  small = next_small register (16 * (b % 2)) h.small;
}

holds_bits : (n : ℕ) (m : Machine) (register byte : ℕ) → Holds m register → Holds (check_bits n m byte) (fold_bits n register byte)
holds_bits zero m register byte h = h
holds_bits (suc n) m register byte h = holds_bits n (check_bit m (bit n byte)) (fold_bit register (bit n byte)) byte (holds_bit m register h (bit n byte))

holds_bytes : (bytes : List ℕ) (m : Machine) (register : ℕ) → Holds m register → Holds (check_bytes m bytes) (fold_bytes register bytes)
holds_bytes [] m register h = h
holds_bytes (byte ∷ bytes) m register h = holds_bytes bytes (check_bits 8 m byte) (fold_bits 8 register byte) (holds_bits 8 m register byte h)

module _ (bytes : List ℕ) where
  through : Holds (check_bytes check_start bytes) (fold_bytes 0 bytes)
  through = holds_bytes bytes check_start 0 (record { status = 0; same = refl; small = omega arith })

  pub check_fold : check_of bytes ≡ fold_bytes 0 bytes
  unfolding check_of
  check_fold = ap (λ (m : Machine). register_at m.registers 0) through.same

  pub check_lt : check_of bytes < 65536
  check_lt = rw check_fold through.small

-- an outside vector: the nine bytes "123456789" (CRC-16/XMODEM)
pub check_vector : check_of (0x31 ∷ 0x32 ∷ 0x33 ∷ 0x34 ∷ 0x35 ∷ 0x36 ∷ 0x37 ∷ 0x38 ∷ 0x39 ∷ []) ≡ 0x31C3
unfolding plain linked moved_up flagged with_sign crc_step crc_forward
check_vector = check_fold (0x31 ∷ 0x32 ∷ 0x33 ∷ 0x34 ∷ 0x35 ∷ 0x36 ∷ 0x37 ∷ 0x38 ∷ 0x39 ∷ []) ∙ refl
