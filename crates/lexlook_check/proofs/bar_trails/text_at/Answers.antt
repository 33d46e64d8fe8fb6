use Rattle.std.proofs.Common.{◌∙◌, ℕ, ◌-◌, ◌<◌, ◌≤◌, List, [], Option, Some, length, get_or, ap, sym, arith}
use Rattle.std.specs.Option.{option_map_or}
use Rattle.lexlook_text.specs.LineViews.{line_of}
use Rattle.lexlook_text.specs.declared.definitions.Line.{Line}
use Rattle.lexlook_text.proofs.PieceLaws.{no_line, line_there}
use Rattle.lexlook_check.proofs.bar_trails.text_at.Goals as goal

abbrev text_of : Option (ℕ × List ℕ) → List ℕ
text_of o = option_map_or (λ l. l.1) o []

pub returns-in-None : goal.returns-in-None
returns-in-None c =
    let far : length c.args.lines.now ≤ c.args.number - 1 = grind (arith, c.in-None.ensures.lookup.0, c.saturating_sub.ensures) in
    sym (ap text_of (no_line c.args.lines.now (c.args.number - 1) far))

pub returns-in-Some : goal.returns-in-Some
returns-in-Some c =
    let near : c.args.number - 1 < length c.args.lines.now = grind (arith, c.in-Some.ensures.lookup.0, c.saturating_sub.ensures) in
    let some = line_there c.args.lines.now (c.args.number - 1) c.in-Some.line.now near in
    let there =
    some
    ∙ ap (λ (k : ℕ). Some (line_of (get_or c.args.lines.now k c.in-Some.line.now))) (sym c.saturating_sub.ensures)
    ∙ ap (λ (l : Line). Some (line_of l)) (sym c.in-Some.ensures.lookup.1) in
    sym (ap text_of there)
