use Rattle.std.proofs.Common.{◌<◌, ◌≡◌, ℕ, length, arith, refl, sym, ap, subst, ◌∙◌, Err}
use Rattle.std.proofs.lemmas.Result.{err_from_is_err_and}
use Rattle.lex_semantics.specs.Subsets.{HasSubsets}
use Rattle.lex_semantics.specs.TableFor.{TableFor}
use Rattle.lex_semantics.specs.MachineLaws.{MachineLaws}
use Rattle.lexauto_dfa.specs.declared.dfa.Parts.{Parts}
use Rattle.lexauto_dfa.specs.Parts.{conditions, states}
use Rattle.lexauto_dfa.specs.Machines.{IsDeadOrReached}
use Rattle.lexauto_dfa.specs.Automata.{machine_in}
use Rattle.lexspec.specs.declared.spec.Spec.{Spec}
use Rattle.lexspec.specs.Views.{spec_of}
use Rattle.lexspec.proofs.TestLaws.{spec_is_sound}
use Rattle.lexauto.specs.declared.explore.ExploreError.{ExploreError}
use Rattle.lexauto.specs.declared.explore.ExploreError.TheVariants.{TooMany, Memory}
use Rattle.lexauto.specs.declared.error.BuildError.TheVariants.{TooManyStates}
use Rattle.lexauto.specs.Errors.{build_error}
use Rattle.lexauto.specs.Keys.{keys_in}
use Rattle.lexauto.specs.KeyPacking.{kept_in}
use Rattle.lexauto.specs.WordKeys.{Surveys}
use Rattle.lexauto.specs.Facts.{AcceptedBy, GoOnBy}
use Rattle.lexauto.proofs.Kept.{kept_length}
use Rattle.lexauto.proofs.Counting.{counted}
use Rattle.lexauto.proofs.Built.{automaton_is, table_is, reached_are, laws_are}
use Rattle.lexauto.proofs.subsets.build.Goals as goal

from_too_many : (x : ExploreError) → build_error x ≡ TooManyStates → x ≡ TooMany
from_too_many TooMany e = refl
from_too_many Memory e = absurd cc

pub returns-in_err-found-clause-too_many_states : goal.returns-in_err-found-clause-too_many_states
returns-in_err-found-clause-too_many_states c = λ e n s.
    let p = err_from_is_err_and c.from_residual-in_err-found.result c.from_residual-in_err-found.ensures.1 in
    let told = rw (p.1, p.2) at e in
    let error : build_error c.in_err-found.field-0.0 ≡ TooManyStates = cc in
    let same : c.in_err-found.field-0.0 ≡ TooMany = from_too_many c.in_err-found.field-0.0 error in
    c.in_err-found.ensures.too_many (ap Err same) n (subst (λ s. HasSubsets (spec_of s) n) (sym c.in_ok-moves.ensures.0) s)

pub new-automaton-requires : goal.new-automaton-requires
new-automaton-requires c =
    let found = c.in_ok-found.found in
    let keys = kept_in found.keys.items in
    let same : c.in_ok-moves.moves.spec.now ≡ c.args.spec.now = c.in_ok-moves.ensures.0 in
    let s = subst (λ (p : Spec). Surveys (spec_of p) keys found.next.items found.starts.items found.line_starts.items) same c.in_ok-found.ensures.ok in
    let accepted = subst (λ (p : Spec). AcceptedBy (spec_of p) keys (keys_in found.accepts.items)) same c.in_ok-found.ensures.accepted in
    let on = subst (λ (p : Spec). GoOnBy (spec_of p) keys found.goes_on.items) same c.in_ok-found.ensures.goes_on in
    let size = kept_length found.keys.items in
    let goes = c.in_ok-found.ensures.len ∙ sym size in
    let lists = c.in_ok-found.ensures.accepts_len ∙ sym size in
    let room = c.in_ok-found.ensures.room in
    let most = c.requires.states in
    automaton_is (spec_of c.args.spec.now) (spec_is_sound (spec_of c.args.spec.now) c.args.spec.now.sound)
    (record { starts = found.starts; line_starts = found.line_starts; next = found.next; accepts = found.accepts; goes_on = found.goes_on })
    keys s accepted on lists goes (omega (arith, size, room, most))

pub returns-clause-table : goal.returns-clause-table
returns-clause-table c =
    let found = c.in_ok-found.found in
    let keys = kept_in found.keys.items in
    let same : c.in_ok-moves.moves.spec.now ≡ c.args.spec.now = c.in_ok-moves.ensures.0 in
    let s = subst (λ (p : Spec). Surveys (spec_of p) keys found.next.items found.starts.items found.line_starts.items) same c.in_ok-found.ensures.ok in
    let accepted = subst (λ (p : Spec). AcceptedBy (spec_of p) keys (keys_in found.accepts.items)) same c.in_ok-found.ensures.accepted in
    let on = subst (λ (p : Spec). GoOnBy (spec_of p) keys found.goes_on.items) same c.in_ok-found.ensures.goes_on in
    let size = kept_length found.keys.items in
    let goes = c.in_ok-found.ensures.len ∙ sym size in
    let lists = c.in_ok-found.ensures.accepts_len ∙ sym size in
    subst (λ (p : Parts). TableFor (machine_in p (spec_of c.args.spec.now)) (spec_of c.args.spec.now)) (sym c.new-automaton.ensures)
    (table_is (spec_of c.args.spec.now) (spec_is_sound (spec_of c.args.spec.now) c.args.spec.now.sound)
    (record { starts = found.starts; line_starts = found.line_starts; next = found.next; accepts = found.accepts; goes_on = found.goes_on })
    keys s accepted on lists goes)

pub returns-clause-conditions : goal.returns-clause-conditions
returns-clause-conditions c =
    let found = c.in_ok-found.found in
    let keys = kept_in found.keys.items in
    let same : c.in_ok-moves.moves.spec.now ≡ c.args.spec.now = c.in_ok-moves.ensures.0 in
    let s = subst (λ (p : Spec). Surveys (spec_of p) keys found.next.items found.starts.items found.line_starts.items) same c.in_ok-found.ensures.ok in
    ap (λ (p : Parts). conditions p) c.new-automaton.ensures ∙ s.starts_len

pub returns-clause-reached : goal.returns-clause-reached
returns-clause-reached c =
    let found = c.in_ok-found.found in
    let keys = kept_in found.keys.items in
    let same : c.in_ok-moves.moves.spec.now ≡ c.args.spec.now = c.in_ok-moves.ensures.0 in
    let s = subst (λ (p : Spec). Surveys (spec_of p) keys found.next.items found.starts.items found.line_starts.items) same c.in_ok-found.ensures.ok in
    let accepted = subst (λ (p : Spec). AcceptedBy (spec_of p) keys (keys_in found.accepts.items)) same c.in_ok-found.ensures.accepted in
    let on = subst (λ (p : Spec). GoOnBy (spec_of p) keys found.goes_on.items) same c.in_ok-found.ensures.goes_on in
    let size = kept_length found.keys.items in
    let goes = c.in_ok-found.ensures.len ∙ sym size in
    let lists = c.in_ok-found.ensures.accepts_len ∙ sym size in
    subst (λ (p : Parts). (q : ℕ) → q < states p → IsDeadOrReached (machine_in p (spec_of c.args.spec.now)) (spec_of c.args.spec.now) q) (sym c.new-automaton.ensures)
    (reached_are (spec_of c.args.spec.now) (spec_is_sound (spec_of c.args.spec.now) c.args.spec.now.sound)
    (record { starts = found.starts; line_starts = found.line_starts; next = found.next; accepts = found.accepts; goes_on = found.goes_on })
    keys s accepted on lists goes)

pub returns-clause-laws : goal.returns-clause-laws
returns-clause-laws c =
    let found = c.in_ok-found.found in
    let keys = kept_in found.keys.items in
    let same : c.in_ok-moves.moves.spec.now ≡ c.args.spec.now = c.in_ok-moves.ensures.0 in
    let s = subst (λ (p : Spec). Surveys (spec_of p) keys found.next.items found.starts.items found.line_starts.items) same c.in_ok-found.ensures.ok in
    let accepted = subst (λ (p : Spec). AcceptedBy (spec_of p) keys (keys_in found.accepts.items)) same c.in_ok-found.ensures.accepted in
    let on = subst (λ (p : Spec). GoOnBy (spec_of p) keys found.goes_on.items) same c.in_ok-found.ensures.goes_on in
    let size = kept_length found.keys.items in
    let goes = c.in_ok-found.ensures.len ∙ sym size in
    let lists = c.in_ok-found.ensures.accepts_len ∙ sym size in
    subst (λ (p : Parts). MachineLaws (machine_in p (spec_of c.args.spec.now))) (sym c.new-automaton.ensures)
    (laws_are (spec_of c.args.spec.now) (spec_is_sound (spec_of c.args.spec.now) c.args.spec.now.sound)
    (record { starts = found.starts; line_starts = found.line_starts; next = found.next; accepts = found.accepts; goes_on = found.goes_on })
    keys s accepted on lists goes)

pub returns-clause-states : goal.returns-clause-states
returns-clause-states c =
    let S = spec_of c.args.spec.now in
    let found = c.in_ok-found.found in
    let keys = kept_in found.keys.items in
    let same : c.in_ok-moves.moves.spec.now ≡ c.args.spec.now = c.in_ok-moves.ensures.0 in
    let s : Surveys S keys found.next.items found.starts.items found.line_starts.items =
    subst (λ (p : Spec). Surveys (spec_of p) keys found.next.items found.starts.items found.line_starts.items) same c.in_ok-found.ensures.ok in
    let goes : length found.goes_on.items ≡ length found.keys.items = c.in_ok-found.ensures.len in
    let states_are = ap (λ (p : Parts). states p) c.new-automaton.ensures in
    subst (λ (n : ℕ). HasSubsets S n) (kept_length found.keys.items ∙ sym goes ∙ sym states_are)
    (counted S (spec_is_sound S c.args.spec.now.sound) keys found.next.items found.starts.items found.line_starts.items s)
