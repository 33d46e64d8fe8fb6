use Rattle.std.proofs.Common.{◌≡◌, ◌∙◌, ℕ, List, ap, map, subst, sym}
use Rattle.std.proofs.lemmas.Result.{IfOk-weaker}
use Rattle.lexspec_lines.specs.Lines.{without_returns}
use Rattle.lexlook_text.specs.Known.{AreNamesOf}
use Rattle.lexlook_text.specs.LineViews.{line_of}
use Rattle.lexlook_check.specs.Findings.{AreInOrder, findings_of, known_lines}
use Rattle.lexlook_check.specs.Takings.{taking_of}
use Rattle.lexlook_check.specs.Telling.{told_bytes}
use Rattle.lexlook_check.specs.declared.takings.Taking.{Taking}
use Rattle.lexlook_check.proofs.telling.bytes_of.Goals as goal

pub findings_in_order-requires : goal.findings_in_order-requires
findings_in_order-requires c =
    subst (λ (ls : List (ℕ × List ℕ)). AreNamesOf ls c.in_ok-names.names)
    (ap (map line_of) (c.as_slice-2.ensures.value ∙ sym c.as_slice-3.ensures.value)) c.in_ok-names.ensures

pub told_bytes-requires : goal.told_bytes-requires
told_bytes-requires c =
    subst (λ (ls : List (ℕ × List ℕ)). AreNamesOf ls c.in_ok-names.names)
    (ap (map line_of) c.as_slice-2.ensures.value ∙ c.in_ok-lines.ensures ∙ ap known_lines (c.as_slice.ensures.value ∙ sym c.as_slice-4.ensures.value))
    c.in_ok-names.ensures

pub returns : goal.returns
returns c =
    let files = c.args.files.now in
    let shown : List ℕ = without_returns c.args.text.now in
    let checked = c.args.checked.now in
    let lines : map line_of c.as_slice-3.result.now ≡ known_lines shown =
    ap (map line_of) c.as_slice-3.ensures.value ∙ c.in_ok-lines.ensures ∙ ap known_lines (c.as_slice.ensures.value ∙ c.in_ok-whole.ensures) in
    IfOk-weaker c.told_bytes.result _ _
    (λ bytes h. record {
      told = c.in_ok-findings.findings.items;
      in_order = subst (λ (ls : List (ℕ × List ℕ)). AreInOrder (findings_of ls checked) c.in_ok-findings.findings.items) lines c.in_ok-findings.ensures;
      bytes_are = h
          ∙ ap (λ (t : List ℕ). told_bytes c.args.form files t (map taking_of c.as_slice-5.result.now) c.as_slice-6.result.now) (c.as_slice-4.ensures.value ∙ c.in_ok-whole.ensures)
          ∙ ap (λ (ts : List Taking). told_bytes c.args.form files shown (map taking_of ts) c.as_slice-6.result.now) c.as_slice-5.ensures.value
          ∙ ap (told_bytes c.args.form files shown (map taking_of checked.takings.items)) c.as_slice-6.ensures.value;
    }) c.told_bytes.ensures
