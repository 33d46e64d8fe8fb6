use Rattle.std.proofs.Common.{◌≡◌, ℕ, ◌<◌, List, length, slice_index, sym, ap, subst, ◌∙◌}
use Rattle.lexauto_dfa.specs.Least.{by_turns}
use Rattle.lexauto_dfa.proofs.ByTurns.{turns_below}
use Rattle.lexauto_dfa.proofs.least.minimising.table_of.Goals as goal

pub quotient-requires-clause-starts : goal.quotient-requires-clause-starts
quotient-requires-clause-starts c =
    let d = c.args.parts.now in
    let is : c.deref-3.result.now ≡ by_turns d.starts.items d.line_starts.items =
    c.deref-3.ensures.value ∙ c.in_ok-starts.ensures ∙ ap (λ (xs : List ℕ). by_turns xs c.deref-2.result.now) c.deref.ensures.value ∙ ap (λ (xs : List ℕ). by_turns d.starts.items xs) c.deref-2.ensures.value in
    let below = turns_below d.starts.items d.line_starts.items (length d.goes_on.items) c.requires.automaton.lines c.requires.automaton.starts_known c.requires.automaton.lines_known in
    subst (λ (n : ℕ). (i : ℕ) → i < length c.deref-3.result.now → slice_index c.deref-3.result.now i < n) (sym c.requires.len)
    (subst (λ (xs : List ℕ). (i : ℕ) → i < length xs → slice_index xs i < length d.goes_on.items) (sym is) below)
