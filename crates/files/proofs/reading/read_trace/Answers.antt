-- `reading::read_trace`: an input that ends within the room is there whole, and of a longer one the rest is counted.
use Rattle.std.specs.Prelude.{Result}
use Rattle.std.proofs.Common.{rules, ◌≡◌, ℕ, ◌+◌, ◌<◌, ◌≤◌, Ok, Err, IfOk, IfSome, length, take, refl, arith, length-take-le}
use Rattle.trace.specs.Layout.{words_per_record, block_bytes}
use Rattle.trace.specs.Limits.{too_long, kept_length}
use Rattle.streams.specs.declared.reading.ReadFailed.{ReadFailed}
use Rattle.streams.specs.Reading.{bytes_read}
use Rattle.files.specs.Keeping.{IsKeptOf}
use Rattle.files.proofs.Kept.{all_taken, kept_within, rest_counted}
use Rattle.files.proofs.reading.read_trace.Goals as goal

pub returns-then-read-lt-INPUT_BYTES-clause-kept : goal.returns-then-read-lt-INPUT_BYTES-clause-kept
returns-then-read-lt-INPUT_BYTES-clause-kept g c =
    let n = c.in_ok-read.read in
    let bytes = c.fill.new.bytes in
    let fits : n ≤ length bytes = search rules in
    let long : length (take n bytes) ≡ n = length-take-le n bytes fits in
    λ full. all_taken _ _ (take n bytes) (λ xs. IsKeptOf xs (take n bytes)) c.in_ok-read.ensures.read
    (c.in_ok-read.ensures.end (omega arith))
    (record { size = kept_within (length (take n bytes)) (omega arith); short = λ h. refl })

pub returns-clause-kept : goal.returns-clause-kept
returns-clause-kept g c =
    go c.count_rest.result c.count_rest.ensures.short c.count_rest.ensures.counted
  where
    go : (r : Result ℕ ReadFailed) → bytes_read r < too_long words_per_record + block_bytes
        → IfOk r (λ k. IfSome (g.R.Read.remaining c.fill.new.input) (λ ys. k ≡ kept_length words_per_record (too_long words_per_record + block_bytes + length ys)))
        → IfOk r (λ k. length c.args.bytes.now ≡ too_long words_per_record + block_bytes → IfSome (g.R.Read.remaining c.args.input.now) (λ xs. IsKeptOf xs (take k c.fill.new.bytes)))
    go (Ok k) short counted = λ full.
        let n = c.in_ok-read.read in
        let bytes = c.fill.new.bytes in
        let fits : n ≤ length bytes = search rules in
        let same : length bytes ≡ too_long words_per_record + block_bytes = search rules in
        let filled : length (take n bytes) ≡ too_long words_per_record + block_bytes = omega (arith, length-take-le n bytes fits) in
        let room : k ≤ length bytes = omega (arith, short) in
        rest_counted _ _ (take n bytes) (take k bytes) k c.in_ok-read.ensures.read filled (length-take-le k bytes room) counted
    go (Err e) short counted = tt
