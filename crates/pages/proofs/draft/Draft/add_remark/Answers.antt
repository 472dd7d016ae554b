-- `pages::draft::Draft::add_remark` meets its contract: a line more.
use Rattle.std.proofs.Common.{◌≡◌, ◌++◌, rules, arith}
use Rattle.std.proofs.lemmas.List.{length-append}
use Rattle.lines.specs.declared.Program.TheVariants.{PackTrace}
use Rattle.lines.specs.Remarks.{remark_line}
use Rattle.lines.proofs.Longest.{remark_line_le}
use Rattle.pages.proofs.draft.Draft.add_remark.Goals as goal

pub returns-clause-text : goal.returns-clause-text
returns-clause-text g c = c.add.ensures (remark_line PackTrace c.args.remark) (λ before after r call. search rules) (omega (arith, c.requires, remark_line_le PackTrace c.args.remark))

pub returns-clause-long : goal.returns-clause-long
returns-clause-long g c =
    let line = remark_line PackTrace c.args.remark in
    let text : c.add.new.self ≡ c.args.self.now ++ line = c.add.ensures line (λ before after r call. search rules) (omega (arith, c.requires, remark_line_le PackTrace c.args.remark)) in
    rw (text, length-append c.args.self.now line) (omega (arith, remark_line_le PackTrace c.args.remark))
