-- What flex takes otherwise in the lines of a text.
use Rattle.std.proofs.Common.{◌≡◌, ◌∙◌, ◌++◌, ℕ, Bool, List, ap}
use Rattle.lex_semantics.specs.Spec as S
use Rattle.lexspec_lines.specs.Lines.{without_returns}
use Rattle.lexlook_check.specs.Differences.{differences, differences_in}
use Rattle.lexlook_check.specs.Findings.{known_lines}
use Rattle.lexlook_check.specs.declared.notices.Notice.{Notice}

pub differing : (faultless : Bool) (spec : S.Spec) (text : List ℕ) (old next : List Notice) (lines : List (ℕ × List ℕ)) → lines ≡ known_lines (without_returns text)
    → next ≡ old ++ differences_in faultless spec lines → next ≡ old ++ differences faultless spec text
differing faultless spec text old next lines read h = h ∙ ap (λ (ls : List (ℕ × List ℕ)). old ++ differences_in faultless spec ls) read
