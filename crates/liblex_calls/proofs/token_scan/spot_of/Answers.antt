use Rattle.std.proofs.Common.{ℕ, List, length, ◌+◌, sym, ap, ◌∙◌}
use Rattle.liblex_calls.proofs.token_scan.spot_of.Goals as goal

pub returns-clause-told : goal.returns-clause-told
returns-clause-told c fed tokens t counted follows start ends inside few text =
    let shown = c.text.ensures in
    c.tell.ensures.told fed tokens t counted follows start (ends ∙ ap (λ (l : List ℕ). t.start + length l) (sym shown)) inside few (shown ∙ text)
