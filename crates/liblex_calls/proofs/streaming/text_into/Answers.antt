use Rattle.std.proofs.Common.{◌≡◌, List, ℕ, sym, ap, subst, ◌∙◌}
use Rattle.liblex_calls.specs.Ahead.{text_shown}
use Rattle.liblex_calls.specs.Buffers.{HandedOut, FitsInto}
use Rattle.liblex_calls.specs.declared.token_scan.TokenScan.{TokenScan}
use Rattle.liblex_calls.proofs.Opened.{some_of, same_there}
use Rattle.liblex_calls.proofs.streaming.text_into.Goals as goal

pub scan-requires : goal.scan-requires
scan-requires c = some_of c.args.stream.now.place.value (sym c.is_open.ensures ∙ c.if-not-is_open.false)

pub returns-clause-handed : goal.returns-clause-handed
returns-clause-handed c file lines told fed tokens text (p, is, T) =
    let e : c.scan.result.now ≡ p = same_there c.args.stream.now.place.value c.scan.result.now p c.scan.ensures.value is in
    let shown = ap (λ (x : TokenScan). text_shown x.scanner x.ahead) e ∙ T.shows in (
      sym c.scan.ensures.value,
      subst (λ (l : List ℕ). HandedOut l c.args.buffer.now c.hand_text.new.buffer c.hand_text.new.count) shown c.hand_text.ensures.handed,
      subst (λ (l : List ℕ). FitsInto l c.args.buffer.now c.hand_text.result) shown c.hand_text.ensures.fits,
    )
