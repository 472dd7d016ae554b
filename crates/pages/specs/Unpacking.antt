-- What `unpacktrace` writes of a trace, and what it says of it. Document 01 has no such program: it is ours.
use Rattle.std.specs.Prelude.{ℕ, List, []}
use Rattle.trace.specs.Layout.{words_per_record}
use Rattle.trace.specs.Reading.{read_words}
use Rattle.lines.specs.declared.Program.TheVariants.{UnpackTrace}
use Rattle.lines.specs.Words.{text_of}
use Rattle.pages.specs.Running.{reading_of, if_accepted, refusal_said}

-- the words of the trace's cycles, one line per cycle; nothing where the trace is refused
unfoldable pub unpacked_text : List ℕ → List ℕ
unpacked_text trace = if_accepted (reading_of trace) (text_of (read_words words_per_record trace)) (λ (number index : ℕ). [])

unfoldable pub unpacked_said : List ℕ → List ℕ
unpacked_said trace = if_accepted (reading_of trace) [] (refusal_said UnpackTrace)
