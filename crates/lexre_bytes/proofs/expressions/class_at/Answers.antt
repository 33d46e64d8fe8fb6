use Rattle.std.proofs.Common.{◌≡◌, refl, sym, rules}
use Rattle.lex_semantics.specs.ByteSets.{empty_set}
use Rattle.lexre_bytes.proofs.ClassLaws.{plain_refused, plain_found, negated_refused, negated_empty, negated_found}
use Rattle.lexre_bytes.proofs.MemberLaws.{complement_some, folded_some}
use Rattle.lexre_bytes.proofs.expressions.class_at.Goals as goal

pub returns-in-Err-clause-set : goal.returns-in-Err-clause-set
returns-in-Err-clause-set c = negated_refused c.args.fold _ _ c.in-Some.listed.now (sym c.skip_first-inside.ensures) c.in-Some.ensures c.in-Err.ensures.set

pub returns-then-is_empty-clause-set : goal.returns-then-is_empty-clause-set
returns-then-is_empty-clause-set c =
    let none : c.negate-others.result ≡ empty_set = search rules in
    negated_empty c.args.fold _ _ c.in-Some.listed.now _ _ _ _ (sym c.skip_first-inside.ensures) c.in-Some.ensures c.in-Ok.ensures.set refl c.negate-others.ensures none

pub returns-in-Some-clause-set : goal.returns-in-Some-clause-set
returns-in-Some-clause-set c =
    let some : c.negate-others.result ≡ empty_set → ⊥ = search rules in
    negated_found c.args.fold _ _ c.in-Some.listed.now _ _ _ _ (sym c.skip_first-inside.ensures) c.in-Some.ensures c.in-Ok.ensures.set refl c.negate-others.ensures some

pub returns-in-Err-members_at-clause-set : goal.returns-in-Err-members_at-clause-set
returns-in-Err-members_at-clause-set c = plain_refused c.args.fold _ _ (sym c.skip_first-inside.ensures) c.in_default.ensures c.in-Err-members_at.ensures.set

pub returns-clause-set : goal.returns-clause-set
returns-clause-set c = plain_found c.args.fold _ _ _ _ _ (sym c.skip_first-inside.ensures) c.in_default.ensures c.in-Ok-members_at.ensures.set c.fold_if.ensures

pub returns-in-Some-clause-some : goal.returns-in-Some-clause-some
returns-in-Some-clause-some c =
    let some : c.negate-others.result ≡ empty_set → ⊥ = search rules in
    complement_some _ _ c.negate-others.ensures some

pub returns-clause-some : goal.returns-clause-some
returns-clause-some c = rw c.fold_if.ensures (folded_some c.args.fold _ c.in-Ok-members_at.ensures.some)
