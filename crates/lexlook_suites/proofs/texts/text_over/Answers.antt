use Rattle.std.proofs.Common.{◌≡◌, ◌∙◌, [], ◌∷◌, ◌++◌, Some, None, ap, refl, subst, sym}
use Rattle.lexauto_reports.specs.Searching.{words_of}
use Rattle.lexlook_suites.proofs.Over.{FirstWord, first_word, no_word, over_first, over_no_start, over_nowhere, place_to}
use Rattle.lexlook_suites.proofs.texts.text_over.Goals as goal

pub returns-in_default : goal.returns-in_default
returns-in_default c =
    let p = c.args.dfa.now.parts in
    let s = c.args.edge.state in
    let places = c.args.found.now.places.items in
    let none : place_to places s ≡ None = ap (λ l. place_to l s) (sym c.deref.ensures.value) ∙ sym c.first_place.ensures ∙ c.in_default.is in
    over_nowhere p c.args.edge (no_word p s (words_of c.args.found.now.groups) places c.requires.found none)

pub returns-in_default-first_start : goal.returns-in_default-first_start
returns-in_default-first_start c =
    let p = c.args.dfa.now.parts in
    let s = c.args.edge.state in
    let places = c.args.found.now.places.items in
    let some : place_to places s ≡ Some c.in-Some.place = ap (λ l. place_to l s) (sym c.deref.ensures.value) ∙ sym c.first_place.ensures ∙ c.in-Some.is in
    over_no_start p c.args.edge c.word-word.result.now c.args.conditions c.requires.conditions
    (subst (FirstWord p s) (sym c.word-word.ensures) (first_word p s (words_of c.args.found.now.groups) places c.requires.found c.in-Some.place some)) c.in_default-first_start.ensures

pub returns : goal.returns
returns c =
    let p = c.args.dfa.now.parts in
    let s = c.args.edge.state in
    let places = c.args.found.now.places.items in
    let some : place_to places s ≡ Some c.in-Some.place = ap (λ l. place_to l s) (sym c.deref.ensures.value) ∙ sym c.first_place.ensures ∙ c.in-Some.is in
    over_first p c.args.edge c.word-word.result.now c.args.conditions c.in-Some-first_start.start (record { condition = c.in-Some-first_start.start.condition; line_start = c.in-Some-first_start.start.line_start; text = c.push.new.self }) c.requires.conditions c.requires.edge
    (subst (FirstWord p s) (sym c.word-word.ensures) (first_word p s (words_of c.args.found.now.groups) places c.requires.found c.in-Some.place some)) c.in-Some-first_start.ensures
    refl refl (c.in_ok-push.ensures.items ∙ ap (λ l. l ++ c.args.edge.byte ∷ []) c.in_ok-text.ensures.items)
