use Rattle.std.proofs.Common.{◌≡◌, [], Err, refl, sym, ap, subst, ◌∙◌}
use Rattle.lexscan.specs.Pulls.{WantsPiece}
use Rattle.lexscan.specs.Scanners.{pull_machine, pull_state, pull_waiting, pull_finished, pull_text}
use Rattle.lexscan.specs.declared.pull.Pulled.TheVariants as pulls
use Rattle.liblex_calls.specs.Rules.{rules_machine}
use Rattle.liblex_calls.specs.Stages.{answer_at, fault_of, status_in}
use Rattle.liblex_calls.specs.Told.{token_machine, TokensStand, Told, NextTells}
use Rattle.liblex_calls.specs.declared.answer.Answer.{Answer}
use Rattle.liblex_calls.specs.declared.rules.Rules.{Rules}
use Rattle.liblex_calls.specs.declared.stage.Stage.{Stage}
use Rattle.liblex_calls.specs.declared.token_scan.TokenScan.{TokenScan}
use Rattle.liblex_calls.proofs.Flowing.{stands_at, told_by, pulled_as, pulled_ok, going_stands, refused_stands, fault_stops, next_again, turn_handed}
use Rattle.liblex_calls.proofs.Heading.{just_told, still_ahead, shows_told}
use Rattle.liblex_calls.proofs.token_scan.TokenScan.pull_one.Goals as goal

pub returns-in-Ok-Token : goal.returns-in-Ok-Token
returns-in-Ok-Token c file lines told fed tokens text T =
    let p = c.args.self.now in
    let t = c.in-Ok-Token.found in
    let M = token_machine p in
    let s = c.next.new.self in
    let h = stands_at file lines told fed tokens text p _ c.requires.going T in
    let before = just_told M fed told tokens (pull_state p.scanner) (pull_waiting p.scanner) p.ahead c.requires.none h in
    let after = pulled_ok M fed (pull_finished p.scanner) told tokens (pull_state p.scanner) (pull_state s) (pull_waiting p.scanner) (pull_waiting s) (pull_text s) c.in-Ok-Token.field-0 (pulls.Token t) c.in-Ok-Token.field-0-is T.finished (c.in-Ok-Token.ensures.pulled fed tokens) before in
    c.hand_on.ensures file lines told fed tokens (turn_handed file lines told fed tokens text p _ t c.requires.going T c.next.ensures.machine c.next.ensures.finished after.0 after.1 c.requires.none c.requires.given refl refl refl refl)

pub returns-in-Ok-More : goal.returns-in-Ok-More
returns-in-Ok-More c file lines told fed tokens text T =
    let p = c.args.self.now in
    let a = p.ahead in
    let M = token_machine p in
    let q : TokenScan = record { scanner = c.next.new.self; ahead = a; stage = p.stage; lines = p.lines; turns = p.turns } in
    let h = stands_at file lines told fed tokens text p _ c.requires.going T in
    let before = just_told M fed told tokens (pull_state p.scanner) (pull_waiting p.scanner) a c.requires.none h in
    let after = pulled_ok M fed (pull_finished p.scanner) told tokens (pull_state p.scanner) (pull_state q.scanner) (pull_waiting p.scanner) (pull_waiting q.scanner) (pull_text q.scanner) c.in-Ok-More.field-0 pulls.More c.in-Ok-More.field-0-is T.finished (c.in-Ok-More.ensures.pulled fed tokens) before in
    let on = still_ahead M fed told tokens (pull_state p.scanner) (pull_state q.scanner) (pull_waiting p.scanner) (pull_waiting q.scanner) a c.requires.none h after.0.0 in (
      refl,
      ap status_in c.requires.going,
      c.requires.going,
      told_by file lines told fed tokens [] q (pull_machine p.scanner) c.next.ensures.machine T.machine T.is_text (c.next.ensures.finished ∙ T.finished) (shows_told q.scanner a c.requires.given ∙ after.1) T.held T.counts T.counted
          (going_stands M p.stage told fed tokens [] (pull_state q.scanner) (pull_waiting q.scanner) a c.requires.going on),
      subst (λ (r : Rules). WantsPiece (rules_machine r) fed told tokens (pull_state q.scanner) (pull_waiting q.scanner)) (sym c.next.ensures.machine) after.0,
    )

pub returns-in-Ok-Ended : goal.returns-in-Ok-Ended
returns-in-Ok-Ended c file lines told fed tokens text T =
    let p = c.args.self.now in
    let h = stands_at file lines told fed tokens text p _ c.requires.going T in
    let before = just_told (token_machine p) fed told tokens (pull_state p.scanner) (pull_waiting p.scanner) p.ahead c.requires.none h in
    let after = pulled_ok (token_machine p) fed (pull_finished p.scanner) told tokens (pull_state p.scanner) (pull_state c.next.new.self) (pull_waiting p.scanner) (pull_waiting c.next.new.self) (pull_text c.next.new.self) c.in-Ok-Ended.field-0 (pulls.Ended c.in-Ok-Ended.status) c.in-Ok-Ended.field-0-is T.finished (c.in-Ok-Ended.ensures.pulled fed tokens) before in
    (refl, refl, refl, told_by file lines told fed tokens [] _ (pull_machine p.scanner) c.next.ensures.machine T.machine T.is_text (c.next.ensures.finished ∙ T.finished) (shows_told c.next.new.self p.ahead c.requires.given ∙ after.2) T.held T.counts T.counted (after.1, refl))

pub returns-in-Err : goal.returns-in-Err
returns-in-Err c file lines told fed tokens text T =
    let p = c.args.self.now in
    let e = c.in-Err.error in
    let stage = c.after_fault-self.result in
    let q : TokenScan = record { scanner = c.next.new.self; ahead = p.ahead; stage = stage; lines = p.lines; turns = p.turns } in
    let is : stage ≡ fault_of e = c.after_fault-self.ensures in
    let h = stands_at file lines told fed tokens text p _ c.requires.going T in
    let before = just_told (token_machine p) fed told tokens (pull_state p.scanner) (pull_waiting p.scanner) p.ahead c.requires.none h in
    let after = pulled_as (token_machine p) fed (pull_finished p.scanner) told tokens (pull_state p.scanner) (pull_state q.scanner) (pull_waiting p.scanner) (pull_waiting q.scanner) (pull_text q.scanner) (Err e) T.finished (c.in-Err.ensures.pulled fed tokens) before in
    let stands = subst (λ (g : Stage). TokensStand (token_machine p) g told fed tokens [] (pull_state q.scanner) (pull_waiting q.scanner) p.ahead) (sym is) (refused_stands (token_machine p) told fed tokens [] (pull_state q.scanner) (pull_waiting q.scanner) p.ahead e T.is_text refl after.0) in
    let left : Told file lines told fed tokens [] q = told_by file lines told fed tokens [] q (pull_machine p.scanner) c.next.ensures.machine T.machine T.is_text (c.next.ensures.finished ∙ T.finished) (shows_told q.scanner p.ahead c.requires.given ∙ after.1) T.held T.counts T.counted stands in
    subst (λ (a : Answer). NextTells file lines told fed tokens q c.args.token.now c.args.token.now (status_in stage) a) (sym (c.feed_answer.ensures ∙ ap answer_at is))
    (next_again file lines told fed tokens [] q c.args.token.now (fault_of e) is (fault_stops e) left)
