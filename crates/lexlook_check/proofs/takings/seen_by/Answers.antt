use Rattle.std.proofs.Common.{◌∙◌, Bool, List, length, ap, sym, subst}
use Rattle.std.specs.Prelude.{slice_get}
use Rattle.lex_semantics.specs.Spec.{Rule, has_reject, statements_at}
use Rattle.lexlook_specs.proofs.FitsAlike.{rejecting_again, words_shown_by}
use Rattle.lexlook_specs.specs.Matches.{matches_in}
use Rattle.lexlook_specs.specs.Rejecting.{rejecting}
use Rattle.lexlook_specs.specs.Words.{AreWords}
use Rattle.lexspec.specs.Views.{rules_in, spec_of}
use Rattle.lexlook_check.proofs.RejectedLaws.{accepts_known, as_many}
use Rattle.lexlook_check.proofs.takings.seen_by.Goals as goal

pub find_words-requires-clause-rules : goal.find_words-requires-clause-rules
find_words-requires-clause-rules c =
    let S = spec_of c.args.spec in
    let T = spec_of c.in_ok-spec.spec in
    let count = ap (λ (l : List Bool). length l) c.as_slice.ensures.value ∙ c.in_ok-some.ensures.len ∙ as_many S T c.in_ok-spec.ensures in
    λ s i _ a. accepts_known _ _ c.in-Ok.ensures.laws count s i a

pub find_words-requires-in-Ok-clause-rules : goal.find_words-requires-in-Ok-clause-rules
find_words-requires-in-Ok-clause-rules c =
    let count = ap (λ (l : List Bool). length l) c.as_slice-in-Ok.ensures.value ∙ c.in_ok-all.ensures.len in
    λ s i _ a. accepts_known _ _ c.in-Ok.ensures.laws count s i a

pub returns-clause-taken : goal.returns-clause-taken
returns-clause-taken c =
    let b = c.in-Ok.ensures in
    let p = c.in-Ok.automaton.parts in
    let v = c.in_ok-taken-in-Ok.taken in
    words_shown_by (spec_of c.args.spec) (spec_of c.in_ok-spec.spec) p c.in_ok-some.some.items v c.in_ok-spec.ensures b.conditions b.table c.in_ok-some.ensures.len c.in_ok-some.ensures.flags
    (subst (λ (l : List Bool). AreWords (matches_in p l) v) c.as_slice.ensures.value c.in_ok-taken-in-Ok.ensures)

pub returns-clause-fits : goal.returns-clause-fits
returns-clause-fits c =
    let b = c.in-Ok.ensures in
    let p = c.in-Ok.automaton.parts in
    let v = c.in_ok-fits-in-Ok.fits in
    let S = spec_of c.args.spec in
    let T = spec_of c.in_ok-spec.spec in
    let all = c.in_ok-all.all.items in
    let is = c.in_ok-spec.ensures in
    let rules = ap rules_in is in
    words_shown_by (rejecting S) T p all v (is ∙ sym (rejecting_again S)) b.conditions b.table
    (c.in_ok-all.ensures.len ∙ ap (λ (rs : List Rule). length rs) rules)
    (λ i. c.in_ok-all.ensures.flags i ∙ ap (λ (rs : List Rule). has_reject (statements_at (slice_get rs i))) rules)
    (subst (λ (l : List Bool). AreWords (matches_in p l) v) c.as_slice-in-Ok.ensures.value c.in_ok-fits-in-Ok.ensures)
