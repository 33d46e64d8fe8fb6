use Rattle.std.proofs.Common.{rules, ◌≡◌, ◌==◌, not, Bool, [], ◌∷◌, ◌++◌, length, ap, ◌∙◌}
use Rattle.lex_semantics.specs.Reading.{is_empty}
use Rattle.lexauto.specs.Explored.{goes_by}
use Rattle.lexauto.specs.Keys.{Key, keys_in}
use Rattle.lexauto.specs.KeyPacking.{unpacked}
use Rattle.lexauto.proofs.Places.{keys_of_push}
use Rattle.lexauto.proofs.Works.{some_is}
use Rattle.lexauto.proofs.explore.Told.add.Goals as goal

pub returns : goal.returns
returns g c =
    let follow = g.M.Moves.follow c.args.moves.now in
    let accept = g.M.Moves.accept c.args.moves.now in
    let kept = unpacked c.args.kept.now in
    let followers = c.in_ok-walked.walked.followers.items in
    let accepts = c.args.self.now.accepts.items in
    let next : followers ≡ follow kept = c.in_ok-walked.ensures.followers in
    let accepted : c.in_ok-walked.walked.accepted.items ≡ accept kept = c.in_ok-walked.ensures.accepted in
    let empty : c.is_empty.result ≡ (length followers == 0) = search rules in
    let some : not (length followers == 0) ≡ not (is_empty followers) = some_is followers in
    let goes : not c.is_empty.result ≡ goes_by follow kept = ap not empty ∙ some ∙ ap (λ l. not (is_empty l)) next in
    let shared : c.in_ok-accepted.accepted.value.items ≡ accept kept = c.in_ok-accepted.ensures ∙ accepted in
    let pushed : keys_in c.push.new.self.items ≡ keys_in (accepts ++ c.in_ok-accepted.accepted ∷ []) = ap keys_in c.in_ok-push.ensures.items in
    record {
      followers = next;
      ascending = c.in_ok-walked.ensures.ascending;
      changes = λ b some low not. (let h = c.changes.ensures b some low not in search (rules, h));
      accepts = pushed ∙ keys_of_push accepts c.in_ok-accepted.accepted ∙ ap (λ (k : Key). keys_in accepts ++ k ∷ []) shared;
      goes_on = c.in_ok-push-2.ensures.items ∙ ap (λ (b : Bool). c.args.self.now.goes_on.items ++ b ∷ []) goes;
    }
