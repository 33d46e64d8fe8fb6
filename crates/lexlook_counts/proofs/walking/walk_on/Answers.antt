use Rattle.std.proofs.Common.{◌≡◌, ℕ, ◌+◌, ◌-◌, ◌⊎◌, false, inl, inr, length, ◌∙◌, arith, subst, sym}
use Rattle.lex_semantics.specs.Machine.{Machine}
use Rattle.lexlook_counts.proofs.Walked.{Went, far_walk_told, went_one}
use Rattle.lexlook_counts.proofs.walking.walk_on.Goals as goal
use Rattle.lexlook_counts.proofs.walking.walk_on.Goals.{then-mark-bytes-via-then-mark-bytes, then-mark-bytes-via-else-mark-bytes+then-not-goes_on-2}

pub returns-then-mark-bytes : goal.returns-then-mark-bytes
returns-then-mark-bytes g c =
    let M : Machine = g.M.Machine.machine c.args.machine.now in
    let states : ℕ = g.M.Machine.states c.args.machine.now in
    let w = c.args.bytes.now in
    let n : ℕ = c.bytes.count in
    let m = c.in-Some.mark in
    let k = c.in-Some.ensures in
    let went : Went M c.args.first w (n + 1) c.step-state.result c.bytes.state = subst (λ s. Went M c.args.first w (n + 1) s c.bytes.state) (sym c.step-state.ensures.state) (went_one M c.args.first w n c.bytes.state c.bytes.before c.bytes-test.true c.bytes.invariant.went c.bytes.invariant.goes_on) in
    let ends : (m.count ≡ length w - (n + 1)) ⊎ (M.goes_on m.last ≡ false) = elim c.then-mark-bytes.branch [
      | then-mark-bytes-via-then-mark-bytes v ↦ inl v.if-mark-bytes.true
      | then-mark-bytes-via-else-mark-bytes+then-not-goes_on-2 v ↦ inr (sym v.if-not-goes_on-2.ensures)
    ] in
    far_walk_told M states c.args.first w c.args.place (n + 1) c.step-state.result c.bytes.state c.args.memo.now m c.requires.marks k.0 k.1 k.2 k.3 (omega arith) went (sym c.goes_on.ensures ∙ c.if-not-goes_on.false) ends
