use Rattle.std.proofs.Common.{◌∙◌, ◌++◌, ℕ, ◌-◌, ◌<◌, ◌≤◌, List, Some, length, get_or, ap, sym, arith, append-nil}
use Rattle.std.proofs.lemmas.Result.{on_ok_weaker}
use Rattle.lexlook_text.specs.LineViews.{line_of}
use Rattle.lexlook_check.specs.Notices.{line_notices}
use Rattle.lexlook_text.specs.declared.definitions.Line.{Line}
use Rattle.lexlook_check.specs.declared.notices.Notice.{Notice}
use Rattle.lexlook_text.proofs.PieceLaws.{no_line, line_there}
use Rattle.lexlook_check.proofs.notices.add_rule_notices.Goals as goal

pub returns-in-None : goal.returns-in-None
returns-in-None c =
    let far : length c.args.lines.now ≤ c.args.rule - 1 = grind (arith, c.in-None.ensures.lookup.0, c.saturating_sub.ensures) in
    let none = ap line_notices (no_line c.args.lines.now (c.args.rule - 1) far) in
    sym (ap (λ (z : List Notice). c.args.notices.now.items ++ z) none ∙ append-nil _)

pub returns-in-Some : goal.returns-in-Some
returns-in-Some c =
    let near : c.args.rule - 1 < length c.args.lines.now = grind (arith, c.in-Some.ensures.lookup.0, c.saturating_sub.ensures) in
    let some = line_there c.args.lines.now (c.args.rule - 1) c.in-Some.line.now near in
    let there =
    some
    ∙ ap (λ (k : ℕ). Some (line_of (get_or c.args.lines.now k c.in-Some.line.now))) (sym c.saturating_sub.ensures)
    ∙ ap (λ (l : Line). Some (line_of l)) (sym c.in-Some.ensures.lookup.1) in
    on_ok_weaker c.add_rule_line_notices.result
    (λ h. h ∙ ap (λ (z : List Notice). c.args.notices.now.items ++ z) (sym (ap line_notices there))) c.add_rule_line_notices.ensures
