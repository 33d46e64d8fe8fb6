use Rattle.std.proofs.Common.{◌∙◌, ℕ, List, [], ◌++◌, ap, map, sym}
use Rattle.std.specs.Prelude.{slice_index, slice_index_or}
use Rattle.std.proofs.lemmas.List.{get_or-map}
use Rattle.std.specs.Borrow.{Bor}
use Rattle.lexlook_specs.proofs.Joining.{more_in_range}
use Rattle.lexlook_counts.specs.CountLines.{turn_line}
use Rattle.lexlook_counts.proofs.lines.add_conditions.Goals as goal

pub loop-condition-preserved : goal.loop-condition-preserved
loop-condition-preserved c =
    more_in_range (λ i. turn_line c.args.form (slice_index_or (map (λ n. n.now) c.args.names.now) i []) (slice_index c.args.turns.now i)) _ _ _ c.loop-condition.condition c.loop-condition.invariant
    (c.in_ok-add_turns.ensures
    ∙ ap (λ (w : List ℕ). c.loop-condition.text.items ++ turn_line c.args.form w (slice_index c.args.turns.now c.loop-condition.condition))
    (sym (get_or-map (λ (n : Bor (List ℕ)). n.now) c.args.names.now c.loop-condition.condition _ [] c.loop-condition-test.true)))
