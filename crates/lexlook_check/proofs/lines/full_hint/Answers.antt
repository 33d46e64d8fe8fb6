use Rattle.std.proofs.Common.{◌≡◌, ◌∙◌, ◌++◌, List, ℕ, Some, ap, sym, option_map}
use Rattle.lexlook_check.specs.CheckLines.{hint_of, said_words}
use Rattle.lexlook_check.specs.Findings.{known_lines}
use Rattle.lexlook_check.specs.Remarks.{remark_told}
use Rattle.lexlook_check.proofs.Parts.{hinted}
use Rattle.lexlook_check.proofs.lines.full_hint.Goals as goal

pub returns-in_ok-add_each-in-Some : goal.returns-in_ok-add_each-in-Some
returns-in_ok-add_each-in-Some c =
    let said = said_words c.args.files.now c.args.whole.now c.args.what c.args.offset c.args.line.now in
    let told = remark_told c.args.whole.now c.args.what c.args.offset c.args.line.now in
    let hint : hint_of c.args.what ≡ Some c.in-Some.hint.now = sym c.hint_of.ensures ∙ ap (option_map (λ h. h.now)) c.in-Some.is in
    let front = c.in_ok-add_front-in-Some.ensures (known_lines c.args.whole.now) c.requires in
    ap Some (hinted _ _ _ _ _ _ _ _ _ _ _ _ c.new-text.ensures.items front c.in_ok-add_home_of-in-Some.ensures c.in_ok-add_limit-in-Some.ensures
    (c.as_bytes-remark.ensures.value ∙ c.remark_told.ensures) c.as_bytes.ensures.value c.in_ok-add_each-in-Some.ensures)
    ∙ sym (ap (option_map (λ (h : List ℕ). (said ++ told) ++ h)) hint)
