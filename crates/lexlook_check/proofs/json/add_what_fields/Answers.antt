use Rattle.std.proofs.Common.{◌++◌, ◌∙◌, List, ℕ, ap, codes}
use Rattle.std.proofs.lemmas.Result.{on_ok_weaker}
use Rattle.lexlook_check.specs.JsonLines.{string_field}
use Rattle.lexlook_check.proofs.Parts.{five}
use Rattle.lexlook_check.proofs.json.add_what_fields.Goals as goal

pub returns : goal.returns
returns c =
    let severity = c.in_ok-add_string_field.ensures ∙ ap (λ (z : List ℕ). c.args.text.now.items ++ string_field (codes ",\"severity\":") z) (c.as_bytes.ensures.value ∙ c.severity_text.ensures) in
    let kind = c.in_ok-add_string_field-2.ensures ∙ ap (λ (z : List ℕ). c.add_string_field.new.text.items ++ string_field (codes ",\"kind\":") z) (c.as_bytes-2.ensures.value ∙ c.what_name.ensures) in
    let message = c.in_ok-add_string_field-3.ensures ∙ ap (λ (z : List ℕ). c.add_string_field-2.new.text.items ++ string_field (codes ",\"message\":") z) (c.as_bytes-3.ensures.value ∙ c.what_text.ensures) in
    let hint = c.in_ok-add_hint_fields.ensures in
    on_ok_weaker c.add.result (λ h. five _ _ _ _ _ _ _ _ _ _ _ severity kind message hint h) c.add.ensures
