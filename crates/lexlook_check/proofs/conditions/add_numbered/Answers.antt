use Rattle.std.proofs.Common.{◌≡◌, ◌∙◌, ◌++◌, List, Option, ap, append_assoc}
use Rattle.std.proofs.lemmas.Result.{on_ok_weaker}
use Rattle.lexlook_text.specs.DeclaredNames.{declared_name_of}
use Rattle.lexlook_check.specs.Conditions.{placed_notices}
use Rattle.lexlook_check.specs.declared.notices.Notice.{Notice}
use Rattle.lexlook_check.specs.declared.notices.NoticeKind.{NoticeKind}
use Rattle.lexlook_check.proofs.conditions.add_numbered.Goals as goal

both : (a b d p q : List Notice) → b ≡ a ++ p → d ≡ b ++ q → d ≡ a ++ (p ++ q)
both a b d p q one two = two ∙ ap (λ (z : List Notice). z ++ q) one ∙ append_assoc a p q

pub returns : goal.returns
returns c =
    let place = declared_name_of c.args.place in
    let old = c.args.notices.now.items in
    let one = c.in_ok-add_placed.ensures ∙ ap (λ (k : Option NoticeKind). old ++ placed_notices place k) c.condition_notice.ensures in
    on_ok_weaker c.add_placed-2.result
    (λ h. both _ _ _ _ _ one (h ∙ ap (λ (k : Option NoticeKind). c.add_placed.new.notices.items ++ placed_notices place k) c.copied_notice.ensures)) c.add_placed-2.ensures
