use Rattle.std.proofs.Common.{◌≡◌, Some, rules}
use Rattle.lex_semantics.specs.ByteSets.{named_set}
use Rattle.lexre_bytes.proofs.MemberLaws.{named_some}
use Rattle.lexre_bytes.proofs.expressions.member_at.Goals as goal

pub returns-in_ok-set-in-Named-clause-some : goal.returns-in_ok-set-in-Named-clause-some
returns-in_ok-set-in-Named-clause-some c =
    let e : named_set c.in-Named.name.now ≡ Some c.in_ok-set-in-Named.set = search rules in
    named_some c.in-Named.name.now c.in_ok-set-in-Named.set e
