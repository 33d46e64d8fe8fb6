use Rattle.std.proofs.Common.{ℕ, Bool, List, [], ◌∷◌, ◌++◌, ◌+◌, ◌^◌, ◌<◌, length, refl, sym, ap, subst, ◌∙◌, arith}
use Rattle.lex_semantics.specs.Text.{part}
use Rattle.lex_semantics.specs.Machine.{rules_of_machine}
use Rattle.lexscan.specs.Pulls.{whole_token}
use Rattle.lexscan.specs.Scanners.{pull_machine, pull_state, pull_waiting}
use Rattle.lexscan.proofs.Refusing.{just_these}
use Rattle.liblex_calls.specs.Lines.{Counted, IsSpotOf}
use Rattle.liblex_calls.specs.Stages.{status_in}
use Rattle.liblex_calls.specs.Told.{token_machine}
use Rattle.liblex_calls.specs.declared.lines.Spot.{Spot}
use Rattle.liblex_calls.specs.declared.token_scan.TokenScan.{TokenScan}
use Rattle.liblex_calls.proofs.Flowing.{told_by, going_stands}
use Rattle.liblex_calls.proofs.Lining.{follows, ends_inside, stands_so}
use Rattle.liblex_calls.proofs.token_scan.TokenScan.hand_on.Goals as goal

pub returns : goal.returns
returns c file lines told fed tokens H =
    let p = c.args.self.now in
    let t = c.args.found in
    let whole = whole_token t in
    let now = tokens ++ whole ∷ [] in
    let spot : Spot = c.spot_of-spot.result in
    let q : TokenScan = record { scanner = p.scanner; ahead = p.ahead; stage = p.stage; lines = c.spot_of-spot.new.lines; turns = p.turns } in
    let (turns, first) = H.ahead.handed fed (H.is_text, just_these fed told) in
    let place = follows (rules_of_machine (token_machine p)) fed turns tokens whole first in
    let shows = H.shows in
    let few : length fed + 1 < 2 ^ 64 = (let size = H.held.size in let low = p.ahead.texts.few in omega (arith, size, low)) in
    let counted = subst (λ (b : Bool). Counted b fed tokens p.lines) (sym H.counts) H.counted in
    let tells = c.spot_of-spot.ensures.told fed tokens whole counted place.0 refl (place.3 ∙ ap (λ (l : List ℕ). t.start + length l) (sym (shows ∙ place.2))) (ends_inside fed place.1 t.start (t.start + t.length) place.2 place.3) few shows in
    let by_flag = subst (λ (b : Bool). Counted b fed now q.lines × IsSpotOf b fed t.start spot) H.counts tells in (
      t,
      spot,
      c.shown.ensures,
      ap status_in H.going,
      H.going,
      λ x so. stands_so lines fed told x tokens whole q.lines spot by_flag.0 so by_flag.1,
      told_by file lines told fed now (part fed t.start (t.start + t.length)) q (pull_machine p.scanner) refl H.machine H.is_text H.finished H.shows H.held (c.spot_of-spot.ensures.counts ∙ H.counts) by_flag.0
          (going_stands (token_machine p) p.stage told fed now _ (pull_state p.scanner) (pull_waiting p.scanner) p.ahead H.going H.ahead),
    )
