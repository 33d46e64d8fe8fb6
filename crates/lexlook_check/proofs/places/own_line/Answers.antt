use Rattle.std.proofs.Common.{◌≡◌, ◌∙◌, ℕ, suc, ◌+◌, ◌-◌, ◌<◌, List, [], ◌∷◌, length, get_or, ap, refl, sym, arith}
use Rattle.lexspec_lines.specs.Lines.{newlines}
use Rattle.lexlook_check.specs.Places.{joined_text, last_text}
use Rattle.lexlook_check.specs.declared.places.SourceFile.{SourceFile}
use Rattle.lexlook_check.proofs.places.own_line.Goals as goal

last_of : (files : List SourceFile) (d : SourceFile) → 0 < length files → last_text files ≡ (get_or files (length files - 1) d).bytes.now
last_of [] d h = absurd (omega (arith, h))
last_of (f ∷ []) d h = refl
last_of (f ∷ g ∷ fs) d h =
    let one : suc (suc (length fs) - 1) ≡ suc (suc (length fs)) - 1 = omega arith in
    last_of (g ∷ fs) d (omega arith) ∙ ap (λ (k : ℕ). (get_or (f ∷ g ∷ fs) k d).bytes.now) one

pub returns-in-Some : goal.returns-in-Some
returns-in-Some c =
    let files = c.args.files.now in
    let item = c.in-Some.ensures.item.3 in
    let last : c.in-Some.last.now.bytes.now ≡ last_text files = ap (λ (f : SourceFile). f.bytes.now) (item.1 c.in-Some.last.now) ∙ sym (last_of files c.in-Some.last.now item.0) in
    let all : c.newlines.result ≡ newlines (joined_text files) = c.newlines.ensures ∙ ap newlines c.requires in
    let own : c.newlines-in-Some.result ≡ newlines (last_text files) = c.newlines-in-Some.ensures ∙ ap newlines last in
    ap (λ (n : ℕ). 1 + n)
    (c.saturating_sub.ensures ∙ ap (λ (n : ℕ). n - c.newlines-in-Some.result) all ∙ ap (λ (n : ℕ). newlines (joined_text files) - n) own)
