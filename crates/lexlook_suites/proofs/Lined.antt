-- Lines that are made part by part.
use Rattle.std.proofs.Common.{◌≡◌, ◌≢◌, ◌∙◌, ℕ, List, [], ◌++◌, Option, Some, ap, append-nil, codes, sym}
use Rattle.std.specs.Prelude.{◌==◌, decimal}
use Rattle.std.proofs.lemmas.Bool.{ne_eqb}
use Rattle.lexlook_specs.specs.declared.words.finding.ShownText.{ShownText}
use Rattle.lexlook_specs.proofs.Joining.{in_six, in_three}
use Rattle.lexlook_suites.specs.Shown.{text_and_start}
use Rattle.lexlook_suites.specs.CoverLines.{edge_line, missed_line, more_line}
use Rattle.lexlook_suites.specs.declared.texts.Missed.{Missed}
use Rattle.lexlook_suites.proofs.Edged.{other}

-- the line of an edge over which a text leads
pub edge_told : (names : List (List ℕ)) (m : Missed) (s : ShownText) (old one two three four text : List ℕ) → m.text ≡ Some s → one ≡ old ++ codes "not walked: " → two ≡ one ++ decimal m.edge.state
    → three ≡ two ++ codes " -> " → four ≡ three ++ decimal m.edge.target → text ≡ four ++ text_and_start names s → text ≡ old ++ missed_line names m
edge_told names m s old one two three four text is h1 h2 h3 h4 h5 =
    in_six old _ _ _ _ _ [] one two three four text text h1 h2 h3 h4 h5 (sym (append-nil text)) ∙ ap (λ (o : Option ShownText). old ++ edge_line names m.edge o) (sym is)

-- the line of some edges more
pub more_told : (n : ℕ) (old one two text : List ℕ) → n ≢ 0 → one ≡ old ++ codes "not walked: " → two ≡ one ++ decimal n → text ≡ two ++ codes " more\n" → text ≡ old ++ more_line n
more_told n old one two text some h1 h2 h3 = in_three old _ _ _ one two text h1 h2 h3 ∙ ap (λ (l : List ℕ). old ++ l) (sym (other (n == 0) [] _ (ne_eqb n 0 some)))
