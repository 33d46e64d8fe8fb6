use Rattle.std.proofs.Common.{◌∙◌, ◌++◌, ℕ, List, ap, codes, flat_map}
use Rattle.std.proofs.lemmas.Result.{on_ok_weaker}
use Rattle.lexlook_check.specs.Places.{file_line_words}
use Rattle.lexlook_check.specs.Takings.{text_byte}
use Rattle.lexlook_check.proofs.Parts.{five}
use Rattle.lexlook_check.proofs.takings.add_taken.Goals as goal

pub returns : goal.returns
returns c =
    let places = c.in_ok-add_places.ensures ∙ ap (λ (ls : List ℕ). c.add.new.text.items ++ flat_map (λ n. codes " " ++ file_line_words c.args.files.now n) ls) c.as_slice.ensures.value in
    let text = c.in_ok-add_text.ensures ∙ ap (λ (bs : List ℕ). c.add-2.new.text.items ++ flat_map text_byte bs) c.as_slice-2.ensures.value in
    on_ok_weaker c.add-3.result (λ h. five _ _ _ _ _ _ _ _ _ _ _ c.in_ok-add.ensures places c.in_ok-add-2.ensures text h) c.add-3.ensures
