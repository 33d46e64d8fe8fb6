use Rattle.std.proofs.Common.{◌∷◌, ◌↔◌, [], ℕ, List, ap, sym, subst, ◌∙◌}
use Rattle.lex_semantics.specs.Text.{Among}
use Rattle.lexauto_reports.specs.Counting.{IsStart}
use Rattle.lexauto_reports.specs.Searching.{words_of, states_of_groups}
use Rattle.lexauto_reports.proofs.Searched.{first_up_to}
use Rattle.lexauto_reports.proofs.Starting.{starts_known}
use Rattle.lexauto_reports.proofs.search.first_group.Goals as goal

pub returns : goal.returns
returns c =
    let p = c.args.dfa.now.parts in
    let starts = c.deref.result.now in
    let are = subst (λ (l : List ℕ). (x : ℕ) → Among l x ↔ IsStart p x) (sym c.deref.ensures.value) c.in_ok-states.ensures in
    let groups = c.in_ok-groups.ensures in
    first_up_to p (words_of c.in_ok-groups.groups) (states_of_groups c.in_ok-groups.groups) c.args.places.now.items c.put_first.new.places.items starts
    groups.words (groups.states ∙ ap (λ (l : List ℕ). l ∷ []) (sym c.deref.ensures.value))
    (c.put_first.ensures.len ∙ c.requires.len)
    are (λ x m. starts_known p c.args.dfa.now.lawful x ((are x).0 m)) c.requires.none c.put_first.ensures.first c.put_first.ensures.only
