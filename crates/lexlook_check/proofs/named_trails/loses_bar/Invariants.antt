use Rattle.std.proofs.Common.{◌≡◌, ◌-◌, map, option_map}
use Rattle.lexlook_text.specs.LineViews.{line_of}
use Rattle.lexlook_check.specs.NamedTrails.{end_of, loses_bar, most_names}
use Rattle.lexlook_check.proofs.named_trails.loses_bar.Given as goal

-- the name that comes next, with as many names as are left
abbrev pub invariant-loop : goal.invariant-loop
invariant-loop l =
    loses_bar (most_names - l.counter) (map line_of l.definitions) (option_map end_of l.next)
    ≡ loses_bar most_names (map line_of l.definitions) (option_map end_of l.end)
