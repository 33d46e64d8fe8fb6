use Rattle.std.proofs.Common.{◌≡◌, ◌++◌, map, take, flat_map}
use Rattle.lexlook_text.specs.LineViews.{line_of}
use Rattle.lexlook_check.specs.BarTrails.{text_at}
use Rattle.lexlook_check.specs.NamedTrails.{named_notices}
use Rattle.lexlook_check.proofs.named_trails.add_named_trails.Given as goal

abbrev pub invariant-loop-rule : goal.invariant-loop-rule
invariant-loop-rule l =
    l.notices.items ≡ l.fn.notices.items
    ++ flat_map (λ n. named_notices (map line_of l.definitions) n (text_at (map line_of l.lines) n)) (take l.rule-index l.rule-items)
