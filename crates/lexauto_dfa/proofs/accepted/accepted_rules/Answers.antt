use Rattle.std.proofs.Common.{rules, ◌≡◌, ◌↔◌, ◌⊎◌, ℕ, Bool, true, List, length, ◌+◌, arith, subst, sym, ap, ◌∙◌}
use Rattle.lex_semantics.specs.Text.{flag, Among}
use Rattle.lexauto_dfa.specs.Accepted.{AcceptsBelow}
use Rattle.lexauto_dfa.proofs.Accepting.{put_back, accepts_more}
use Rattle.lexauto_dfa.proofs.accepted.accepted_rules.Goals as goal

pub loop-state-preserved : goal.loop-state-preserved
loop-state-preserved c =
    let new = c.set.new.flags in
    let size : length c.loop-state.accepted.items ≡ c.loop-state.accepted.len = search rules in
    let value = c.deref_mut.ensures.value in
    let len : length new ≡ length c.loop-state.accepted.items = c.set.ensures.len ∙ ap length value in
    let same = put_back c.loop-state.accepted.len new c.loop-state.accepted.items (omega (arith, len, size)) size in
    record {
      len = ap length same ∙ len ∙ c.loop-state.invariant.len;
      flags = subst (λ (l : List Bool). (i : ℕ) → (flag l i ≡ true) ↔ AcceptsBelow c.args.dfa.now (c.loop-state.state + 1) i) (sym same)
          (accepts_more c.args.dfa.now c.loop-state.state c.accepts.result.now c.loop-state.accepted.items new c.accepts.ensures.rules c.loop-state.invariant.flags (subst (λ (l : List Bool). (i : ℕ) → (flag new i ≡ true) ↔ ((flag l i ≡ true) ⊎ Among c.accepts.result.now i)) value c.set.ensures.flags));
    }
