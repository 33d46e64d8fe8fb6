use Rattle.std.proofs.Common.{rules, ◌≡◌, ◌≤◌, length, arith, subst}
use Rattle.std.proofs.lemmas.List.{length-map}
use Rattle.lexauto_reports.specs.Searching.{word_in, words_of, states_of_groups, IsUpTo}
use Rattle.lexauto_reports.proofs.Searched.{all_found}
use Rattle.lexauto_reports.proofs.search.first_words.Goals as goal

pub returns : goal.returns
returns c =
    let gs = c.loop-place.groups in
    let p = c.args.dfa.now.parts in
    let n = length-map gs.groups.items (word_in gs.text.items) in
    let low = c.loop-place.invariant.within in
    let end : length gs.groups.items ≤ c.loop-place.place = search rules in
    let all : c.loop-place.place ≡ length (words_of gs) = omega (arith, n, low, end) in
    all_found p (words_of gs) (states_of_groups gs) c.loop-place.places.items (subst (λ k. IsUpTo p (words_of gs) (states_of_groups gs) c.loop-place.places.items k) all c.loop-place.invariant)
