use Rattle.std.proofs.Common.{rules, ◌≡◌, ◌+◌, ◌∙◌, ℕ, List, Option, length, ap, sym, subst, arith}
use Rattle.lex_semantics.specs.Text.{Among}
use Rattle.lexauto_dfa.specs.Automata.{accepts_of, states_of}
use Rattle.lexauto_reports.specs.Searching.{place_of}
use Rattle.lexauto_dfa.proofs.Accepting.{put_back}
use Rattle.lexlook_specs.specs.Placing.{IsLeastOf, TakesAt, least_place, takers}
use Rattle.lexlook_specs.proofs.Places.{place_more}
use Rattle.lexlook_specs.proofs.Takers.{takers_among}
use Rattle.lexlook_specs.proofs.words.placing.first_places.Goals as goal

pub lower-requires : goal.lower-requires
lower-requires c = record {
  known = λ i a.
      let taken : c.taken-rules.result.now ≡ takers c.args.rejects.now (accepts_of c.args.dfa.now c.loop-state.state) = c.taken-rules.ensures ∙ ap (takers c.args.rejects.now) c.accepts.ensures.rules in
      let n = c.len-state-end.ensures.states in
      let end = c.loop-state-test.true in
      let m = takers_among c.args.rejects.now (accepts_of c.args.dfa.now c.loop-state.state) i (subst (λ l. Among l i) taken a) in
      let known = c.requires.rules c.loop-state.state i (omega (arith, n, end)) m in
      let len = c.loop-state.invariant.len in
      let value = ap length c.deref_mut.ensures.value in
      omega (arith, known, len, value);
}

pub loop-state-preserved : goal.loop-state-preserved
loop-state-preserved c =
    let new = c.lower.new.firsts in
    let p = c.args.dfa.now.parts in
    let rejects = c.args.rejects.now in
    let places = c.args.places.now in
    let n = c.loop-state.state in
    let taken : c.taken-rules.result.now ≡ takers rejects (accepts_of c.args.dfa.now n) = c.taken-rules.ensures ∙ ap (takers rejects) c.accepts.ensures.rules in
    let size : length c.loop-state.firsts.items ≡ c.loop-state.firsts.len = search rules in
    let value = c.deref_mut.ensures.value in
    let len : length new ≡ length c.loop-state.firsts.items = c.lower.ensures.len ∙ ap length value in
    let same = put_back c.loop-state.firsts.len new c.loop-state.firsts.items (omega (arith, len, size)) size in
    record {
      len = ap length same ∙ len ∙ c.loop-state.invariant.len;
      least = λ i. subst (λ (l : List (Option ℕ)). IsLeastOf (TakesAt p rejects places (n + 1) i) (place_of l i)) (sym same)
          (place_more p rejects places n i (place_of c.loop-state.firsts.items i) (place_of new i) c.place_at.result (c.loop-state.invariant.least i) c.place_at.ensures
          (λ none. c.lower.ensures.kept i (λ a. none (subst (λ l. Among l i) taken a)) ∙ ap (λ (l : List (Option ℕ)). place_of l i) value)
          (λ a. c.lower.ensures.lowered i (subst (λ l. Among l i) (sym taken) a) ∙ ap (λ (l : List (Option ℕ)). least_place (place_of l i) c.place_at.result) value));
    }

pub returns-clause-least : goal.returns-clause-least
returns-clause-least c = λ i.
    let n = c.len-state-end.ensures.states in
    let up = c.loop-state.auto.state-end in
    let end = c.loop-state-test.false in
    let all : c.loop-state.state ≡ states_of c.args.dfa.now = omega (arith, n, up, end) in
    subst (λ (k : ℕ). IsLeastOf (TakesAt c.args.dfa.now.parts c.args.rejects.now c.args.places.now k i) (place_of c.loop-state.firsts.items i)) all (c.loop-state.invariant.least i)
