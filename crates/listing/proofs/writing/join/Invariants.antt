use Rattle.std.proofs.Common.{◌≡◌, ◌++◌, length, drop}
use Rattle.listing.proofs.Joins.{so_far, others_of}
use Rattle.listing.proofs.writing.join.Given as goal

abbrev pub invariant-loop-text : goal.invariant-loop-text
invariant-loop-text l =
    let line = so_far l.fn.texts.family.now (others_of l.fn.texts) l.text-index in
    record { size : l.size ≡ length line; bytes : l.out ≡ line ++ drop (length line) l.fn.out }
