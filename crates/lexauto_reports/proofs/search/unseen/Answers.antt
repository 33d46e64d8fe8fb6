use Rattle.std.proofs.Common.{rules, ◌≡◌, ◌<◌, ◌++◌, ◌∷◌, ◌+◌, [], ℕ, List, Option, Some, None, Vec, Global, length, set, sym, ap, subst, ◌∙◌, arith}
use Rattle.std.proofs.lemmas.List.{take_all, get_or_read}
use Rattle.lex_semantics.specs.Text.{Among}
use Rattle.lexauto_reports.specs.Searching.{place_of, AreSeen}
use Rattle.lexauto_dfa.proofs.Accepting.{among_get}
use Rattle.lexauto_reports.proofs.Searched.{seen_before, seen_first, none_is, some_is}
use Rattle.lexauto_reports.proofs.search.unseen.Goals as goal
use Rattle.lexauto_reports.proofs.search.unseen.Goals.{then-is_none+in_ok-push, else-is_none}

pub next-target-requires : goal.next-target-requires
next-target-requires c =
    let low : c.loop-state.state-index < length c.args.states.now = search rules in
    c.requires.known _ (among_get c.args.states.now c.loop-state.state-index low)

pub loop-state-preserved : goal.loop-state-preserved
loop-state-preserved c =
    let p = c.args.dfa.now.parts in
    let from = c.args.states.now in
    let i = c.loop-state.state-index in
    let low : i < length from = search rules in
    let old = c.args.places.now.items in
    let places = c.loop-state.places.items in
    let fresh = c.loop-state.unseen.items in
    let x = c.next-target.result in
    let a = c.loop-state.invariant in
    let known = c.next-target.ensures.known in
    let room : x < length places = omega (arith, known, c.requires.len, a.len) in
    let at_x : c.index.result.now ≡ place_of places x = get_or_read places x c.index.result.now room c.index.ensures None in
    elim c.if-is_none.branch [
      | then-is_none+in_ok-push w ↦
          (let ps : c.if-is_none.places.items ≡ set places x (Some c.args.place) = ap (λ (v : Vec (Option ℕ) Global). v.items) w.places-is in
          let us : c.if-is_none.unseen.items ≡ fresh ++ x ∷ [] = ap (λ (v : Vec ℕ Global). v.items) w.unseen-is ∙ w.in_ok-push.ensures.items in
          let none : place_of places x ≡ None = sym at_x ∙ none_is c.index.result.now w.if-is_none.ensures in
          subst (λ (l : List (Option ℕ)). AreSeen p from (i + 1) c.args.byte c.args.place old l c.if-is_none.unseen.items) (sym ps)
          (subst (λ (l : List ℕ). AreSeen p from (i + 1) c.args.byte c.args.place old (set places x (Some c.args.place)) l) (sym us)
          (seen_first p from i c.args.byte c.args.place old places fresh a low x c.next-target.ensures.state (among_get from i low) known room none)))
      | else-is_none w ↦
          (let ps = ap (λ (v : Vec (Option ℕ) Global). v.items) w.places-is in
          let us = ap (λ (v : Vec ℕ Global). v.items) w.unseen-is in
          let some = some_is c.index.result.now w.if-is_none.ensures in
          subst (λ (l : List (Option ℕ)). AreSeen p from (i + 1) c.args.byte c.args.place old l c.if-is_none.unseen.items) (sym ps)
          (subst (λ (l : List ℕ). AreSeen p from (i + 1) c.args.byte c.args.place old places l) (sym us)
          (seen_before p from i c.args.byte c.args.place old places fresh a low x some.0 c.next-target.ensures.state (sym at_x ∙ some.1))))
    ]

pub returns-clause-all : goal.returns-clause-all
returns-clause-all c = λ y m.
    let all = take_all c.loop-state.state-index c.args.states.now (search rules) in
    c.loop-state.invariant.all y (subst (λ (l : List ℕ). Among l y) (sym all) m)
