use Rattle.std.proofs.Common.{rules, ◌≡◌, ◌<◌, length, ap, arith}
use Rattle.std.specs.Prelude.{slice_index_or}
use Rattle.lexscan.specs.declared.series.BriefToken.{BriefToken}
use Rattle.liblex_calls.proofs.Drawn.{next_small}
use Rattle.liblex_calls.proofs.ahead.Ahead.next.Goals as goal

pub overflow_add-self-2 : goal.overflow_add-self-2
overflow_add-self-2 c =
    let a = c.args.self.now in
    let t = c.index-token.result.now in
    let low : a.given < length a.tokens.items = first_of (search rules, grind arith) in
    let is : t ≡ slice_index_or a.tokens.items a.given t = first_of (search rules, grind (arith, rules)) in
    let fits = next_small a.tokens.items a.start a.given t low a.small in
    omega (arith, fits, ap (λ (b : BriefToken). b.length) is, c.from.ensures)
