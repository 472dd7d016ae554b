-- `writing::write_all`: what a write puts follows what is done.
use Rattle.std.proofs.Common.{rules, ◌≡◌, ℕ, ◌+◌, ◌-◌, List, ◌++◌, length, take, drop, sym, ap, ◌∙◌, subst}
use Rattle.std.proofs.lemmas.List.{take_rest}
use Rattle.std.proofs.Math.Seq.{take-add}
use Rattle.std.specs.Io.KnownBytes.{Appends}
use Rattle.std.proofs.KnownBytes.{Appends-trans}
use Rattle.streams.proofs.writing.write_all.Goals as goal

-- the first d bytes, and then n of the rest
further : (d n : ℕ) (xs : List ℕ) → take d xs ++ take n (take (length xs - d) (drop d xs)) ≡ take (d + n) xs
further d n xs = ap (λ l. take d xs ++ take n l) (take_rest xs d) ∙ sym (take-add d n xs)

pub loop-done-preserved : goal.loop-done-preserved
loop-done-preserved g c = record {
  within = search rules;
  written = subst (Appends _ _) (further c.loop-done.done c.in-Ok.count c.args.bytes.now)
      (Appends-trans _ _ _ _ _ c.loop-done.invariant.written c.in-Ok.ensures.written);
}
