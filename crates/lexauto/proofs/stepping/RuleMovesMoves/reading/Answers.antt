use Rattle.std.proofs.Common.{◌≡◌, ℕ, Bool, List, map, IfOk, ap, subst, ◌∙◌}
use Rattle.lexauto_positions.specs.RuleFlow.{rules_read}
use Rattle.lexspec.specs.RuleViews.{rule_of}
use Rattle.lexauto.specs.Sets.{marked_by}
use Rattle.lexauto.specs.KeyPacking.{packed}
use Rattle.lexauto.proofs.StepLemmas.{reading_is}
use Rattle.lexauto.proofs.stepping.RuleMovesMoves.reading.Goals as goal

pub returns : goal.returns
returns c =
    let moves = c.args.self.now in
    let rules = map rule_of moves.spec.now.rules.items in
    let same : (q : ℕ) → marked_by c.deref.result.now c.deref-2.result.now q ≡ rules_read rules c.args.byte q 0 =
    λ q. ap (λ (ps : List ℕ). marked_by ps c.deref-2.result.now q) c.deref.ensures.value ∙ ap (λ (m : List Bool). marked_by moves.places.items m q) c.deref-2.ensures.value
    ∙ c.kind.ensures.marks q in
    subst (λ (k : List ℕ). IfOk c.pack_marked.result (λ v. v.items ≡ packed k)) (reading_is rules c.args.followers.now c.args.byte (marked_by c.deref.result.now c.deref-2.result.now) same) c.pack_marked.ensures
