use Rattle.std.proofs.Common.{rules, ◌≡◌, ◌+◌, ◌∙◌, ℕ, List, Option, length, ap, sym, subst, arith}
use Rattle.lex_semantics.specs.Text.{Among}
use Rattle.lexauto_dfa.specs.Automata.{accepts_of, states_of}
use Rattle.lexauto_reports.specs.Searching.{place_of}
use Rattle.lexauto_dfa.proofs.Accepting.{put_back}
use Rattle.lexlook_specs.specs.Placing.{IsLeastOf, SharesAt, behind, least_place}
use Rattle.lexlook_specs.proofs.Behind.{behind_among}
use Rattle.lexlook_specs.proofs.Places.{shared_more}
use Rattle.lexlook_specs.proofs.words.placing.shared_places.Goals as goal

pub lower-requires : goal.lower-requires
lower-requires c = record {
  known = λ j a.
      let rejects = c.args.rejects.now in
      let rules = accepts_of c.args.dfa.now c.loop-state.state in
      let is : c.behind-rules.result.now ≡ behind rejects rules c.args.rule = c.behind-rules.ensures ∙ ap (λ (l : List ℕ). behind rejects l c.args.rule) c.accepts.ensures.rules in
      let n = c.len-state-end.ensures.states in
      let end = c.loop-state-test.true in
      let m = behind_among rejects c.args.rule j rules (subst (λ (l : List ℕ). Among l j) is a) in
      let known = c.requires.rules c.loop-state.state j (omega (arith, n, end)) m in
      let len = c.loop-state.invariant.len in
      let value = ap length c.deref_mut.ensures.value in
      omega (arith, known, len, value);
}

pub loop-state-preserved : goal.loop-state-preserved
loop-state-preserved c =
    let new = c.lower.new.firsts in
    let p = c.args.dfa.now.parts in
    let rejects = c.args.rejects.now in
    let places = c.args.places.now in
    let n = c.loop-state.state in
    let i = c.args.rule in
    let is : c.behind-rules.result.now ≡ behind rejects (accepts_of c.args.dfa.now n) i = c.behind-rules.ensures ∙ ap (λ (l : List ℕ). behind rejects l i) c.accepts.ensures.rules in
    let size : length c.loop-state.firsts.items ≡ c.loop-state.firsts.len = search rules in
    let value = c.deref_mut.ensures.value in
    let len : length new ≡ length c.loop-state.firsts.items = c.lower.ensures.len ∙ ap length value in
    let same = put_back c.loop-state.firsts.len new c.loop-state.firsts.items (omega (arith, len, size)) size in
    record {
      len = ap length same ∙ len ∙ c.loop-state.invariant.len;
      least = λ j. subst (λ (l : List (Option ℕ)). IsLeastOf (SharesAt p rejects places (n + 1) i j) (place_of l j)) (sym same)
          (shared_more p rejects places n i j (place_of c.loop-state.firsts.items j) (place_of new j) c.place_at.result (c.loop-state.invariant.least j) c.place_at.ensures
          (λ none. c.lower.ensures.kept j (λ a. none (subst (λ (l : List ℕ). Among l j) is a)) ∙ ap (λ (l : List (Option ℕ)). place_of l j) value)
          (λ a. c.lower.ensures.lowered j (subst (λ (l : List ℕ). Among l j) (sym is) a) ∙ ap (λ (l : List (Option ℕ)). least_place (place_of l j) c.place_at.result) value));
    }

pub returns-clause-least : goal.returns-clause-least
returns-clause-least c = λ j.
    let n = c.len-state-end.ensures.states in
    let up = c.loop-state.auto.state-end in
    let end = c.loop-state-test.false in
    let all : c.loop-state.state ≡ states_of c.args.dfa.now = omega (arith, n, up, end) in
    subst (λ (k : ℕ). IsLeastOf (SharesAt c.args.dfa.now.parts c.args.rejects.now c.args.places.now k c.args.rule j) (place_of c.loop-state.firsts.items j)) all (c.loop-state.invariant.least j)
