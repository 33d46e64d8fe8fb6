use Rattle.std.proofs.Common.{◌≡◌, ◌∙◌, ℕ, List, subst}
use Rattle.lexlook_check.specs.Checks.{IsChecked}
use Rattle.lexlook_check.specs.Places.{joined_text}
use Rattle.lexlook_check.specs.Telling.{AreBytesOf}
use Rattle.lexlook_check.proofs.telling.telling_of.Goals as goal

pub returns : goal.returns
returns c =
    let files = c.args.files.now in
    let checked = c.in_ok-checked.checked in
    let text : c.as_slice-2.result.now ≡ joined_text files = c.as_slice-2.ensures.value ∙ c.in_ok-text.ensures in
    let again : c.as_slice-3.result.now ≡ joined_text files = c.as_slice-3.ensures.value ∙ c.in_ok-text.ensures in
    let told : AreBytesOf c.args.form files (joined_text files) checked c.in_ok-bytes.bytes.items =
    subst (λ (t : List ℕ). AreBytesOf c.args.form files t checked c.in_ok-bytes.bytes.items) again c.in_ok-bytes.ensures in
    record {
      is_checked = subst (λ (n : ℕ). IsChecked c.args.options n c.args.strict (joined_text files) checked) c.own_line-own.ensures
          (subst (λ (t : List ℕ). IsChecked c.args.options c.own_line-own.result c.args.strict t checked) text c.in_ok-checked.ensures);
      told = told.told;
      in_order = told.in_order;
      bytes_are = told.bytes_are;
    }
