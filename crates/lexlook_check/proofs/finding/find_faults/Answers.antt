use Rattle.std.proofs.Common.{◌≡◌, ◌≢◌, ◌<◌, ◌≤◌, ◌∙◌, ℕ, List, length, false, Ok, Err, sym, ap, subst, arith}
use Rattle.std.specs.Cmp.Lexicographic.{other_text}
use Rattle.lexkit.specs.Faults.{lacks_memory}
use Rattle.lexlook_check.specs.Leaving.{without_rule_at}
use Rattle.lexlook_check.specs.Finding.{max_faults}
use Rattle.lexlook_check.proofs.Chains.{filled, goes_on, taken}
use Rattle.lexlook_check.proofs.finding.find_faults.Goals as goal

pub returns-in-Ok : goal.returns-in-Ok
returns-in-Ok g c =
    taken _ _ _ _ c.faults.invariant
    (subst (λ (t : List ℕ). g.R.SpecReader.reads c.args.reader.now t (Ok tt)) c.as_slice.ensures.value c.in-Ok.ensures)

pub faults-preserved : goal.faults-preserved
faults-preserved g c =
    let few : length c.faults.faults.items < max_faults = omega arith in
    let known : lacks_memory c.in-Err.fault.kind ≡ false = sym c.lacks_memory.ensures ∙ c.if-lacks_memory.false in
    let other : c.in_ok-next.next.items ≢ c.faults.left.items =
    λ same. other_text _ _ c.if-eq.ensures (c.as_slice-in-faults-2.ensures.value ∙ same ∙ sym c.as_slice-in-faults-3.ensures.value) in
    goes_on _ _ _ _ _ _ c.in-Err.fault c.faults.invariant few
    (subst (λ (t : List ℕ). g.R.SpecReader.reads c.args.reader.now t (Err c.in-Err.fault)) c.as_slice.ensures.value c.in-Err.ensures)
    known c.in_ok-push.ensures.items (c.in_ok-next.ensures ∙ ap (without_rule_at c.in-Err.fault.line) c.as_slice-in-faults.ensures.value) other

pub returns : goal.returns
returns g c =
    let many : max_faults ≤ length c.faults.faults.items = omega arith in
    filled _ _ _ _ c.faults.invariant many
