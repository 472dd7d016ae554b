-- `pages::draft::Draft::add` meets its contract: the line stands after what was there.
use Rattle.std.proofs.Common.{◌≡◌, ℕ, List, ap, ◌∙◌, refl, ◌++◌, ◌+◌, ◌-◌, ◌≤◌, length, take, arith}
use Rattle.std.specs.Fn.{FnOnceReturnsAtMut}
use Rattle.std.proofs.Math.Nat.{min-eq_left}
use Rattle.std.proofs.lemmas.List.{length-take, length-drop}
use Rattle.pages.proofs.Drafted.{line_added}
use Rattle.pages.proofs.draft.Draft.add.Goals as goal

pub returns : goal.returns
returns g c = λ line makes fits.
    let gave : FnOnceReturnsAtMut g.F.FnOnce c.args.make _ c.make.result c.make.new.arg2 = record { shown = _; shows = refl; left = _; met = c.make.ensures; leaves = refl } in
    let n = c.self.inside.length in
    let bytes = c.self.inside.bytes in
    let held : length (take n bytes) ≡ length c.args.self.now = ap length c.self.view_is in
    let long : n + length line ≤ length bytes = omega (arith, fits, held, length-take n bytes, min-eq_left c.self.invariant, c.self.told) in
    rw (c.min.ensures, c.unwrap_or-made.ensures)
    (line_added bytes _ c.make.new.arg2 line n (length bytes - n) (g.row.N - n) c.make.result (makes _ _ _ gave) (omega arith) (simp (length-take, length-drop) (omega (arith, long))) (omega (arith, long))
    ∙ ap (λ (l : List ℕ). l ++ line) c.self.view_is)
