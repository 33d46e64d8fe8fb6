use Rattle.std.proofs.Common.{◌≡◌, ◌+◌, ◌*◌, [], true, Some, None, length, sym, refl, ◌∙◌, arith}
use Rattle.std.proofs.lemmas.List.{get_or_read, nil_from_length}
use Rattle.std.proofs.lemmas.Bool.{eqb-true}
use Rattle.lexauto_dfa.specs.Parts.{goes_on, accepts}
use Rattle.lexauto_reports.specs.Searching.{at, words_of, place_of}
use Rattle.lexauto_reports.proofs.Entered.{first_word, no_entry}
use Rattle.lexauto_reports.proofs.backing.entry.Goals as goal

pub word-requires : goal.word-requires
word-requires c =
    let a = c.requires.found in
    let all = a.all in
    let known = c.requires.known in
    let there : place_of c.args.found.now.places.items (3 * c.args.state + 2) ≡ Some c.in-Some.place = sym (get_or_read c.args.found.now.places.items _ _ (omega (arith, all, known)) c.index.ensures None) ∙ c.in-Some.is in
    (a.known (3 * c.args.state + 2) c.in-Some.place there).0

pub returns-in-None : goal.returns-in-None
returns-in-None c =
    let a = c.requires.found in
    let all = a.all in
    let known = c.requires.known in
    let there : place_of c.args.found.now.places.items (3 * c.args.state + 2) ≡ None = sym (get_or_read c.args.found.now.places.items _ _ (omega (arith, all, known)) c.index.ensures None) ∙ c.in-None.is in
    no_entry c.args.dfa.now.parts c.args.state (words_of c.args.found.now.groups) c.args.found.now.places.items a there

pub returns-in_ok-word-in-Some : goal.returns-in_ok-word-in-Some
returns-in_ok-word-in-Some c =
    let p = c.args.dfa.now.parts in
    let gs = c.args.found.now.groups in
    let a = c.requires.found in
    let all = a.all in
    let known = c.requires.known in
    let there : place_of c.args.found.now.places.items (3 * c.args.state + 2) ≡ Some c.in-Some.place = sym (get_or_read c.args.found.now.places.items _ _ (omega (arith, all, known)) c.index.ensures None) ∙ c.in-Some.is in
    let low = (a.known (3 * c.args.state + 2) c.in-Some.place there).0 in
    let word : c.in_ok-word-in-Some.word.items ≡ at (words_of gs) c.in-Some.place =
    c.in_ok-word-in-Some.ensures.items ∙ c.word.ensures in
    let goes : goes_on p c.args.state ≡ true = sym c.goes_on.ensures.flag ∙ c.if-not-goes_on.false in
    let none : accepts p c.args.state ≡ [] = sym c.accepts.ensures.rules ∙ nil_from_length c.accepts.result.now (eqb-true (length c.accepts.result.now) 0 (sym c.is_empty.ensures ∙ c.if-not-is_empty.false)) in
    let f = first_word p c.args.state c.in-Some.place (words_of gs) c.args.found.now.places.items c.in_ok-word-in-Some.word.items a there word in
    (refl, (goes, none, c.in_ok-word-in-Some.word.items, f.0), f)
