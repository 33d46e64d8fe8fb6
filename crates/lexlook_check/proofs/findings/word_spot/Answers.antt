use Rattle.std.proofs.Common.{◌∙◌, ℕ, ◌-◌, ◌<◌, ◌≤◌, List, Some, length, map, get_or, ap, sym, arith}
use Rattle.lexlook_text.proofs.PieceLaws.{no_line, line_there}
use Rattle.lexlook_text.specs.DefinitionLines.{section_lines}
use Rattle.lexlook_text.specs.Known.{argument_names, condition_names}
use Rattle.lexlook_text.specs.LineViews.{line_of}
use Rattle.lexlook_text.specs.Spots.{spot_of}
use Rattle.lexlook_text.specs.declared.definitions.Line.{Line}
use Rattle.lexlook_text.specs.declared.definitions.LineKind.TheVariants.{Declaration}
use Rattle.lexlook_check.specs.Findings.{line_spot}
use Rattle.lexlook_check.proofs.findings.word_spot.Goals as goal

pub returns-in-None : goal.returns-in-None
returns-in-None c =
    let lines = c.args.lines.now in
    let declared = section_lines Declaration (map line_of lines) in
    let far : length lines ≤ c.args.fault.line - 1 = grind (arith, c.in-None.ensures.lookup.0, c.saturating_sub.ensures) in
    sym (ap (line_spot (condition_names declared) (argument_names declared) c.args.fault.kind) (no_line lines (c.args.fault.line - 1) far))

pub returns-in-Some : goal.returns-in-Some
returns-in-Some c =
    let lines = c.args.lines.now in
    let declared = section_lines Declaration (map line_of lines) in
    let line = c.in-Some.line.now in
    let kind = c.args.fault.kind in
    let near : c.args.fault.line - 1 < length lines = grind (arith, c.in-Some.ensures.lookup.0, c.saturating_sub.ensures) in
    let there =
    line_there lines (c.args.fault.line - 1) line near
    ∙ ap (λ (k : ℕ). Some (line_of (get_or lines k line))) (sym c.saturating_sub.ensures)
    ∙ ap (λ (l : Line). Some (line_of l)) (sym c.in-Some.ensures.lookup.1) in
    c.spot_of.ensures
    ∙ ap (λ (z : List ℕ). spot_of z c.args.names.now.arguments.items kind (line_of line)) c.requires.conditions
    ∙ ap (λ (z : List ℕ). spot_of (condition_names declared) z kind (line_of line)) c.requires.arguments
    ∙ sym (ap (line_spot (condition_names declared) (argument_names declared) kind) there)
