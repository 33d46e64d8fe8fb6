use Rattle.std.proofs.Common.{◌≡◌, ℕ, ◌+◌, ◌<◌, ◌≤◌, true, inl, inr, length, take, get_or, sym, ap, subst, ◌∙◌, arith}
use Rattle.std.proofs.lemmas.Bool.{cases_lt}
use Rattle.lex_semantics.specs.Machine.{Machine, walk}
use Rattle.lexscan_matching.proofs.Telling.{walk_more}
use Rattle.lexscan.proofs.asking.walk_over.Goals as goal

pub loop-byte-preserved : goal.loop-byte-preserved
loop-byte-preserved g c =
    let inv = c.loop-byte.invariant in
    record { known = c.step-state.ensures.known; walked = walked; goes = goes }
  where
    M : Machine
    M = g.M.Machine.machine c.args.machine.now

    n : ℕ
    n = c.loop-byte.byte-index

    walked : c.step-state.result ≡ walk M c.args.first (take (n + 1) c.args.bytes.now)
    walked =
        let here : n < length c.args.bytes.now = omega arith in
        c.step-state.ensures.state ∙ ap (λ s. M.next s (get_or c.args.bytes.now n 0)) c.loop-byte.invariant.walked ∙ sym (walk_more M c.args.first c.args.bytes.now n here)

    on : M.goes_on c.step-state.result ≡ true
    on = sym c.goes_on.ensures ∙ c.if-not-goes_on.false

    goes : (i : ℕ) → 1 ≤ i → i ≤ n + 1 → M.goes_on (walk M c.args.first (take i c.args.bytes.now)) ≡ true
    goes i some le = elim (cases_lt n i) [
      | inr few ↦ c.loop-byte.invariant.goes i some few
      | inl more ↦ (let e : n + 1 ≡ i = omega (arith, more, le) in subst (λ k. M.goes_on (walk M c.args.first (take k c.args.bytes.now)) ≡ true) e (ap M.goes_on (sym walked) ∙ on))
    ]
