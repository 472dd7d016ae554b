-- `reading::count_rest`: what is kept of any length is short, and counts what was taken.
use Rattle.std.proofs.Common.{rules, ◌≡◌, ◌+◌, ◌≤◌, [], ◌++◌, length, take, ap, ◌∙◌, arith}
use Rattle.std.proofs.KnownBytes.{Consumes-nil, Consumes-trans}
use Rattle.trace.specs.Layout.{words_per_record}
use Rattle.trace.specs.Limits.{kept_length}
use Rattle.trace.proofs.Long.{kept_lt}
use Rattle.files.proofs.Kept.{counted_more, all_taken}
use Rattle.files.proofs.reading.count_rest.Goals as goal

pub loop-init : goal.loop-init
loop-init g c =
    let same : c.args.first ≡ c.args.first + 0 = omega arith in
    (omega (arith, c.kept-kept.ensures, kept_lt 3 c.args.first), ([], Consumes-nil _, c.kept-kept.ensures ∙ ap (kept_length words_per_record) same))

pub returns-then-read-lt-CHUNK : goal.returns-then-read-lt-CHUNK
returns-then-read-lt-CHUNK g c =
    let n = c.in-Ok.read in
    let chunk = c.fill.new.bytes in
    let (taken, consumed, kept) = c.loop.invariant.1 in
    let fits : n ≤ length chunk = search rules in
    record {
      short = omega (arith, c.kept-kept-in-Ok.ensures, kept_lt 3 (c.loop.kept + n));
      counted = all_taken _ _ (taken ++ take n chunk) (λ xs. c.kept-kept-in-Ok.result ≡ kept_length words_per_record (c.args.first + length xs))
          (Consumes-trans _ _ _ _ _ consumed c.in-Ok.ensures.read)
          (c.in-Ok.ensures.end (search rules))
          (counted_more c.args.first n c.loop.kept c.kept-kept-in-Ok.result taken chunk fits kept c.kept-kept-in-Ok.ensures);
    }

pub returns-in-Err-clause-short : goal.returns-in-Err-clause-short
returns-in-Err-clause-short g c = omega (arith, c.kept-bytes.ensures, kept_lt 3 (c.loop.kept + c.in-Err.failed.bytes))

pub loop-preserved : goal.loop-preserved
loop-preserved g c =
    let n = c.in-Ok.read in
    let chunk = c.fill.new.bytes in
    let (taken, consumed, kept) = c.loop.invariant.1 in
    let fits : n ≤ length chunk = search rules in (
      omega (arith, c.kept-kept-in-Ok.ensures, kept_lt 3 (c.loop.kept + n)),
      (
        taken ++ take n chunk,
        Consumes-trans _ _ _ _ _ consumed c.in-Ok.ensures.read,
        counted_more c.args.first n c.loop.kept c.kept-kept-in-Ok.result taken chunk fits kept c.kept-kept-in-Ok.ensures,
      ),
    )
