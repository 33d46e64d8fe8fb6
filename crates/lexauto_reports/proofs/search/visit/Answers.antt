use Rattle.std.proofs.Common.{rules, ◌≡◌, ◌<◌, ◌+◌, ◌++◌, ◌∷◌, [], ℕ, List, length, sym, subst, ◌∙◌, arith}
use Rattle.std.proofs.lemmas.Bool.{eqb-true}
use Rattle.std.proofs.lemmas.List.{nil_from_length, length-map}
use Rattle.lex_semantics.specs.Text.{Among}
use Rattle.lexauto_reports.specs.Searching.{at, word_in, words_of, states_of_groups, IsAt}
use Rattle.lexauto_reports.proofs.Searched.{Visits, passed_over, extends_not, extends_more, visited, states_at}
use Rattle.lexauto_reports.proofs.search.visit.Goals as goal

pub unseen-requires-clause-known : goal.unseen-requires-clause-known
unseen-requires-clause-known c =
    let gs = c.args.groups.now in
    let k = c.args.place in
    let h = c.requires.here in
    let n = length-map gs.groups.items (word_in gs.text.items) in
    let low : k < length gs.groups.items = (let w = h.within in omega (arith, w, n)) in
    let from : c.deref.result.now ≡ at (states_of_groups gs) k = c.deref.ensures.value ∙ sym (states_at gs.groups.items k c.index.result.now low c.index.ensures) in
    λ x m. (h.sound.leads k x h.within (subst (λ (l : List ℕ). Among l x) from m)).0

pub returns-then-is_empty-clause-next : goal.returns-then-is_empty-clause-next
returns-then-is_empty-clause-next c =
    let p = c.args.dfa.now.parts in
    let gs = c.args.groups.now in
    let k = c.args.place in
    let h = c.requires.here in
    let n : length (words_of gs) ≡ length gs.groups.items = length-map gs.groups.items (word_in gs.text.items) in
    let low : k < length gs.groups.items = (let w = h.within in omega (arith, w, n)) in
    let from : c.deref.result.now ≡ at (states_of_groups gs) k = c.deref.ensures.value ∙ sym (states_at gs.groups.items k c.index.result.now low c.index.ensures) in
    let next : c.len-new.result ≡ length (words_of gs) = search (rules, sym n) in
    let u = c.in_ok-states.ensures in
    let none : c.in_ok-states.states.items ≡ [] = nil_from_length c.in_ok-states.states.items (omega (arith, eqb-true _ 0 (sym c.is_empty.ensures ∙ c.if-is_empty.true), c.in_ok-states.states.ok.0)) in
    let v : Visits p c.deref.result.now c.len-new.result c.args.byte c.in_ok-states.states.items c.args.places.now.items c.unseen.new.places.items = record { len = u.len; kept = u.kept; only = u.only; seen = u.seen; all = u.all } in
    let w = subst (λ (l : List ℕ). Visits p l (length (words_of gs)) c.args.byte c.in_ok-states.states.items c.args.places.now.items c.unseen.new.places.items) from (subst (λ m. Visits p c.deref.result.now m c.args.byte c.in_ok-states.states.items c.args.places.now.items c.unseen.new.places.items) next v) in
    visited p (words_of gs) (states_of_groups gs) (words_of gs) (states_of_groups gs) c.args.places.now.items c.unseen.new.places.items c.in_ok-states.states.items k c.args.byte h (search rules) w
    (extends_not (words_of gs) (states_of_groups gs) (at (words_of gs) k ++ c.args.byte ∷ []) c.in_ok-states.states.items h.sound.each none)

pub returns-clause-next : goal.returns-clause-next
returns-clause-next c =
    let p = c.args.dfa.now.parts in
    let gs = c.args.groups.now in
    let k = c.args.place in
    let h = c.requires.here in
    let n : length (words_of gs) ≡ length gs.groups.items = length-map gs.groups.items (word_in gs.text.items) in
    let low : k < length gs.groups.items = (let w = h.within in omega (arith, w, n)) in
    let from : c.deref.result.now ≡ at (states_of_groups gs) k = c.deref.ensures.value ∙ sym (states_at gs.groups.items k c.index.result.now low c.index.ensures) in
    let next : c.len-new.result ≡ length (words_of gs) = search (rules, sym n) in
    let u = c.in_ok-states.ensures in
    let fresh = c.in_ok-states.states.items in
    let v : Visits p c.deref.result.now c.len-new.result c.args.byte fresh c.args.places.now.items c.unseen.new.places.items = record { len = u.len; kept = u.kept; only = u.only; seen = u.seen; all = u.all } in
    let w = subst (λ (l : List ℕ). Visits p l (length (words_of gs)) c.args.byte fresh c.args.places.now.items c.unseen.new.places.items) from (subst (λ m. Visits p c.deref.result.now m c.args.byte fresh c.args.places.now.items c.unseen.new.places.items) next v) in
    let more = c.in_ok-add.ensures in
    let e = extends_more (words_of gs) (states_of_groups gs) (at (words_of gs) k ++ c.args.byte ∷ []) fresh h.sound.each in
    subst (λ (l : List (List ℕ)). IsAt p l (states_of_groups c.add.new.self) c.unseen.new.places.items k (c.args.byte + 1)) (sym more.words)
    (subst (λ (l : List (List ℕ)). IsAt p (words_of gs ++ (at (words_of gs) k ++ c.args.byte ∷ []) ∷ []) l c.unseen.new.places.items k (c.args.byte + 1)) (sym more.states)
    (visited p (words_of gs) (states_of_groups gs) _ _ c.args.places.now.items c.unseen.new.places.items fresh k c.args.byte h (search rules) w e))

pub returns-then-lead-byte-clause-next : goal.returns-then-lead-byte-clause-next
returns-then-lead-byte-clause-next c =
    let gs = c.args.groups.now in
    passed_over c.args.dfa.now.parts (words_of gs) (states_of_groups gs) c.args.places.now.items c.args.place c.args.byte c.args.lead c.requires.here (let f = c.ranges.byte.fits in omega arith) c.if-lead-byte.true c.requires.alike
