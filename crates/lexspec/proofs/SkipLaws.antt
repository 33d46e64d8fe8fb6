-- Lines of the rules section that are no rules.
use Rattle.std.proofs.Common.{◌≡◌, ℕ, suc, ◌<◌, Bool, true, List, [], ◌∷◌, length, Option, Some, None, sym, ap, ◌∙◌, arith}
use Rattle.std.specs.Prelude.{codes}
use Rattle.lex_semantics.specs.Reading.{begins}
use Rattle.lexspec_lines.specs.Lines.{line_in, after_block}
use Rattle.lexspec.specs.ItemRuns.{Item, skipped, skipped_line, skipped_block, rule, IsLine}
use Rattle.lexspec.proofs.OneItems.{both_ways, AllBlank, StartsBlank, OpensBlock, tests_of, block_tests}
use Rattle.lexspec_lines.proofs.SkipLaws.{line_shorter, block_same}

abbrev Split : Type 0
Split = List ℕ × List ℕ

pub after_opening : (t text rest : List ℕ) → 0 < length t → ◌≡◌ {A = Split} (line_in t) (text, rest) → after_block (suc (length t)) (line_in t).1 ≡ after_block (suc (length rest)) rest
after_opening [] text rest h e = absurd (omega arith)
after_opening (c ∷ t) text rest h e =
    let same : (line_in (c ∷ t)).1 ≡ rest = ap (λ (s : Split). s.1) e in
    let short : length rest < suc (length (c ∷ t)) = omega (arith, line_shorter c t, ap length same) in
    ap (after_block (suc (length (c ∷ t)))) same ∙ block_same (suc (length (c ∷ t))) (suc (length rest)) rest short (omega arith)

pub block_item : (t text rest beyond : List ℕ) (o : Bool) → 0 < length t → ◌≡◌ {A = Split} (line_in t) (text, rest) → o ≡ begins (codes "%{") t → o ≡ true
    → after_block (suc (length rest)) rest ≡ Some beyond → IsLine t skipped_block beyond
block_item t text rest beyond o h e opens on ends = (sym opens ∙ on, after_opening t text rest h e ∙ ends)

pub block_left_open : (t text rest : List ℕ) (o : Bool) → 0 < length t → ◌≡◌ {A = Split} (line_in t) (text, rest) → o ≡ begins (codes "%{") t → o ≡ true
    → after_block (suc (length rest)) rest ≡ None → (i : Item) (beyond : List ℕ) → IsLine t i beyond → ⊥
block_left_open t text rest o h e opens on none skipped beyond item = both_ways (AllBlank t) (tests_of t skipped beyond item) (block_tests t (sym opens ∙ on)).0
block_left_open t text rest o h e opens on none skipped_line beyond item = both_ways (StartsBlank t) (tests_of t skipped_line beyond item).1 (block_tests t (sym opens ∙ on)).1
block_left_open t text rest o h e opens on none skipped_block beyond (begins_block, ends) = no_some (sym ends ∙ after_opening t text rest h e ∙ none)
  where
    no_some : ◌≡◌ {A = Option (List ℕ)} (Some beyond) None → ⊥
    no_some p = cc
block_left_open t text rest o h e opens on none (rule asked subject action) beyond item =
    both_ways (OpensBlock t) (block_tests t (sym opens ∙ on)).2 (tests_of t (rule asked subject action) beyond item).2
