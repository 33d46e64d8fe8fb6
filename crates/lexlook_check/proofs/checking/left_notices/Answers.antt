use Rattle.std.proofs.Common.{◌≡◌, ℕ, List, Option, true, sym, subst}
use Rattle.std.proofs.lemmas.Result.{IfOk-weaker}
use Rattle.lex_semantics.specs.Spec.{Spec}
use Rattle.lexkit.specs.Headline.{reading}
use Rattle.lexlook_specs.specs.Copied.{AreCopied}
use Rattle.lexlook_specs.specs.Matches.{matches_of}
use Rattle.lexspec.specs.Views.{spec_of}
use Rattle.lexlook_check.proofs.checking.left_notices.Goals as goal

pub returns : goal.returns
returns c =
    let S = spec_of c.in-Ok.spec in
    let left = c.args.left.now in
    let spells = c.in-Ok.ensures.spells in
    let copied : c.args.faultless ≡ true → AreCopied (matches_of S) c.as_slice.result.now =
    λ yes. (
    let known = c.in_ok-copied.ensures yes in
    let same : known.0 ≡ S = c.one_specification.ensures (reading c.args.options) left known.0 S known.1 spells in
    subst (λ (bytes : List (Option ℕ)). AreCopied (matches_of S) bytes) (sym c.as_slice.ensures.value) (subst (λ (T : Spec). AreCopied (matches_of T) c.in_ok-copied.copied.items) same known.2)
    ) in
    IfOk-weaker c.noted_of.result _ _ (λ noted h. (S, spells, c.as_slice.result.now, copied, h)) c.noted_of.ensures
