use Rattle.std.proofs.Common.{◌≡◌, ◌∙◌, List, ap, subst, take}
use Rattle.lex_semantics.specs.Text.{Among}
use Rattle.lexlook_suites.specs.Covers.{line_limit}
use Rattle.lexlook_suites.specs.Edges.{all_edges}
use Rattle.lexlook_suites.specs.Texts.{unwalked}
use Rattle.lexlook_suites.specs.declared.edges.Edge.{Edge}
use Rattle.lexlook_suites.proofs.Members.{told_edge}
use Rattle.lexlook_suites.proofs.covering.cover_of.Goals as goal

pub texts_of-requires-clause-edges : goal.texts_of-requires-clause-edges
texts_of-requires-clause-edges c = λ e a.
    let p = c.args.dfa.now.parts in
    let m = c.args.marks.now in
    let told : c.told_of-told.result.now ≡ take line_limit (unwalked (all_edges p m c.args.rules)) =
    c.told_of-told.ensures ∙ ap (λ (l : List Edge). take line_limit l) (c.deref-3.ensures.value ∙ c.in_ok-left.ensures ∙ ap (λ (l : List Edge). unwalked l) (c.deref-2.ensures.value ∙ c.in_ok-all.ensures)) in
    told_edge p m c.args.rules line_limit e c.args.dfa.now.lawful.some (subst (λ (l : List Edge). Among l e) told a)
