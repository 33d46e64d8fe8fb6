use Rattle.std.proofs.Common.{◌≡◌, ◌++◌, ◌≤◌, false, refl, sym, subst, ◌∙◌, arith}
use Rattle.lex_machine.proofs.Growing.{is_text_from}
use Rattle.liblex_calls.specs.Ahead.{tokens_ahead}
use Rattle.liblex_calls.proofs.Flowing.{fed_told, same_told}
use Rattle.liblex_calls.proofs.Heading.{fed_more, taken_back}
use Rattle.liblex_calls.proofs.token_scan.TokenScan.feed_on.Goals as goal

pub returns-in-Ok-feed : goal.returns-in-Ok-feed
returns-in-Ok-feed c file lines told fed tokens text T =
    let p = c.args.self.now in
    let piece = c.args.piece.now in
    let open_end = c.requires.unfinished in
    let untold : told ≡ false = sym T.finished ∙ open_end in
    let kept = c.drop_before.ensures.holds (fed ++ piece) (fed_more fed piece p.ahead.texts c.push.new.self T.held c.push.ensures.before c.in-Ok.ensures.bytes) in (
      untold,
      fed_told file lines told fed piece tokens text p _ c.requires.going untold (is_text_from piece (λ k. omega (arith, c.type_inv.piece k))) T c.feed.ensures.machine (c.feed.ensures.unfinished ∙ open_end) c.feed.ensures.text (c.in-Ok-feed.ensures.told fed (tokens ++ tokens_ahead p.ahead) open_end) kept
          (λ low. c.drop_before.ensures.low (subst (λ n. n ≤ p.ahead.last) (sym c.push.ensures.before) low)) refl refl refl refl refl refl,
    )

pub returns-in-Err-feed : goal.returns-in-Err-feed
returns-in-Err-feed c file lines told fed tokens text T =
    let p = c.args.self.now in
    let held = taken_back fed c.args.piece.now p.ahead.texts c.push.new.self c.take_back.new.self T.held c.in-Ok.ensures.bytes c.push.ensures.before c.take_back.ensures.bytes c.take_back.ensures.before in
    same_told file lines told fed tokens text p _ c.requires.going T c.in-Err-feed.ensures.kept held refl refl refl refl (c.take_back.ensures.before ∙ c.push.ensures.before) refl refl
