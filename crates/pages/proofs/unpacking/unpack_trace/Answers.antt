-- `pages::unpacking::unpack_trace` meets its contract: by the reader's answer.
use Rattle.std.proofs.Common.{ap, rules, arith}
use Rattle.std.proofs.lemmas.List.{length-take}
use Rattle.lines.specs.declared.Program.TheVariants.{UnpackTrace}
use Rattle.lines.specs.Remarks.{remark_line}
use Rattle.lines.proofs.Answered.{makes_as, nothing_made}
use Rattle.pages.proofs.Outs.{read_le, unpacked_refused, unpacked_read}
use Rattle.pages.proofs.unpacking.unpack_trace.Goals as goal

pub slice_bounds-cycles-end : goal.slice_bounds-cycles-end
slice_bounds-cycles-end c = omega (arith, read_le c.args.trace.now _ _ _ c.read.ensures (search rules) _ c.in-Ok.is (search rules))

pub slice_bounds-unpack_words-end : goal.slice_bounds-unpack_words-end
slice_bounds-unpack_words-end c = simp length-take (omega (arith, read_le c.args.trace.now _ _ _ c.read.ensures (search rules) _ c.in-Ok.is (search rules)))

pub unpack_words-requires : goal.unpack_words-requires
unpack_words-requires c = simp length-take (omega (arith, read_le c.args.trace.now _ _ _ c.read.ensures (search rules) _ c.in-Ok.is (search rules)))

pub returns-in-Err : goal.returns-in-Err
returns-in-Err c = unpacked_refused c.args.trace.now _ _ _ c.read.ensures (search rules) _ _ _ _ _ _ c.in-Err.is (nothing_made _) (makes_as (ap (remark_line UnpackTrace) c.remark_of.ensures) c.remark_line.ensures)

pub returns-in-Ok : goal.returns-in-Ok
returns-in-Ok c = unpacked_read c.args.trace.now _ _ _ c.read.ensures (search rules) _ _ _ _ _ _ c.in-Ok.is (search rules) c.unpack_words.ensures (nothing_made _)
