-- What goes out of a text, and of an output with what there is to say.
use Rattle.std.specs.Prelude.{ℕ, ◌≤◌, ◌⊎◌, List, [], ◌++◌, Option, Some, None, length, take}
use Rattle.std.specs.Io.KnownBytes.{Appends}
use Rattle.lines.specs.declared.Program.{Program}
use Rattle.lines.specs.declared.Remark.TheVariants.{NoOutput}
use Rattle.lines.specs.Remarks.{remark_line}

-- the text of so many bytes that was made, or none where it has no room
abbrev pub made_text : Option ℕ → List ℕ → List ℕ
made_text (Some n) text = take n text
made_text None text = []

-- text was made, and the slice has all of it
abbrev pub IsWhole : Option ℕ → List ℕ → Type 0
IsWhole (Some n) text = n ≤ length text
IsWhole None text = ⊥

-- the first bytes of a text go out, all of them or fewer
abbrev pub AppendsStart : Option (List ℕ) → Option (List ℕ) → List ℕ → Type 0
AppendsStart old new text = (n : ℕ) × Appends old new (take n text)

-- an output that was made goes out, and what is said; or a start of it does, and before what is said it is said that it cannot be written
abbrev pub WritesBoth : Program → Option ℕ → List ℕ → List ℕ → Option (List ℕ) → Option (List ℕ) → Option (List ℕ) → Option (List ℕ) → Type 0
WritesBoth program made text said output errors output' errors' =
    (IsWhole made text × Appends output output' (made_text made text) × AppendsStart errors errors' said)
    ⊎ (AppendsStart output output' (made_text made text) × ((m : ℕ) × ((n : ℕ) × Appends errors errors' (take m (remark_line program NoOutput) ++ take n said))))
