-- The status byte: bit 0 Z, 1 C, 2 N, 3 OVR, 4 LINK, 5 to 7 Flag1 to Flag3 (document 01, the machine and one cycle).
use Rattle.std.specs.Prelude.{ℕ, ◌+◌, ◌-◌, ◌*◌, ◌/◌, ◌%◌}
use Rattle.alu.specs.declared.Outcome.{Outcome}
use Rattle.alu.specs.Width.{bit, low}

-- what a status byte holds
abbrev pub stored_c : ℕ → ℕ
stored_c status = bit 1 status

abbrev pub stored_n : ℕ → ℕ
stored_n status = bit 2 status

abbrev pub stored_ovr : ℕ → ℕ
stored_ovr status = bit 3 status

abbrev pub stored_link : ℕ → ℕ
stored_link status = bit 4 status

-- Z: 1 where the part at the width is 0, else 0 (document 01, what the instructions do); a difference of naturals stops at 0
abbrev pub zero_flag : ℕ → ℕ → ℕ
zero_flag w result = 1 - low w result

-- N: the top bit at the width (document 01, what the instructions do)
abbrev pub sign_flag : ℕ → ℕ → ℕ
sign_flag w result = bit (w - 1) result

-- the old status with new Z, C, N and OVR, each one bit; bits 4 to 7 stay
unfoldable pub flagged : ℕ → ℕ → ℕ → ℕ → ℕ → ℕ
flagged z c n ovr status = status / 16 * 16 + (z % 2 + c % 2 * 2 + n % 2 * 4 + ovr % 2 * 8)

-- a result with a given N; C and OVR become 0, as they do unless an operation says more (document 01, what the instructions do)
unfoldable pub with_sign : ℕ → ℕ → ℕ → ℕ → Outcome
with_sign w n result status = record { result = result; status = flagged (zero_flag w result) 0 n 0 status }

-- the same with N its top bit
unfoldable pub plain : ℕ → ℕ → ℕ → Outcome
plain w result status = with_sign w (sign_flag w result) result status

-- an outcome whose LINK is the bit shifted out (document 01, shifts)
unfoldable pub linked : ℕ → Outcome → Outcome
linked out o = record { result = o.result; status = o.status / 32 * 32 + out % 2 * 16 + o.status % 16 }
