-- Files that spell no specification.
use Rattle.std.proofs.Common.{◌≡◌, ℕ, ◌+◌, ◌-◌, ◌≤◌, true, false, Bool, cond, List, [], ◌∷◌, map, Option, Some, None, inl, refl, sym, ap, ◌∙◌, subst, arith}
use Rattle.std.proofs.lemmas.List.Sums.{sum_by-cons}
use Rattle.std.specs.FinMap.{from_entries}
use Rattle.std.specs.Prelude.{codes, ◌++◌, length, count_by}
use Rattle.lex_semantics.specs.ByteSets.{is_upper, is_lower, is_alpha, is_digit, is_alnum, is_blank}
use Rattle.lex_semantics.specs.Reading.{take_up_to, begins}
use Rattle.lex_semantics.specs.Spec.{Spec, EndAction}
use Rattle.lexre.specs.Cutting.{IsCutting}
use Rattle.lexre.specs.PatternExamples.{plain}
use Rattle.lexre.proofs.CuttingLaws.{one_cutting}
use Rattle.lexre_bytes.specs.Lexical.{name_at}
use Rattle.lexspec_lines.specs.DefinitionLines.{DefinitionLine, declares, options, defines, definition_at, definition_in, percent_line, IsUpTo, all_conditions, has_name, substitutes_of, all_options}
use Rattle.lexspec_lines.specs.Declaring.{names_of, are_distinct}
use Rattle.lexspec_lines.specs.DefinitionViews.{are_known}
use Rattle.lexspec_lines.specs.Folding.{with_fold}
use Rattle.lexspec_lines.specs.Lines.{without_returns, line_in, newlines}
use Rattle.lexspec_lines.proofs.DeclaringLaws.{distinct_test}
use Rattle.lexspec_lines.proofs.OneSection.{no_true, one_up_to, separator_ends}
use Rattle.lexspec.specs.WaitingRules.{RulesFrom}
use Rattle.lexspec.specs.Files.{AreSingle, SpellsSpec}
use Rattle.lexspec.specs.Endings.{is_unlisted}
use Rattle.lexspec.specs.Items.{unlisted, only, conditions_at, after_piece, action_end, action_at}
use Rattle.lexspec.specs.RuleItems.{EndRule}
use Rattle.lexspec.specs.SpecExamples as Example
use Rattle.lexspec.specs.ItemRuns.{ItemsFrom, Item, rule, no_trail, at_end, matching}
use Rattle.lexspec.proofs.ComputedSections.{a_here}
use Rattle.lexspec.proofs.OneItems.{one_items}
use Rattle.lexspec.proofs.RuleRunLaws.{file_rules}
use Rattle.lexspec.proofs.ItemRunLaws.{without_rest}
use Rattle.lexspec.proofs.FileSections.{sections_of}

-- the definitions of a file are those up to a text where there is none
one_section : (file after : List ℕ) (ds : List DefinitionLine) → IsUpTo definition_at (without_returns file) ds after → definition_at after ≡ None
    → (S : Spec) (h : SpellsSpec plain file S) → (h.definitions ≡ ds) × ((sections_of file h.definitions h.items h.sections).after ≡ after)
one_section file after ds first stop S h =
    let cut = sections_of file h.definitions h.items h.sections in
    one_up_to definition_at (without_returns file) h.definitions ds cut.after after cut.first first (separator_ends cut.after cut.separator) stop

-- what a file without definitions spells, by its items
spells_items : (file : List ℕ) (items : List (ℕ × Item)) → definition_at (without_returns file) ≡ None → ItemsFrom (2 + newlines file - newlines (without_returns file)) (line_in (without_returns file)).1 items
    → (S : Spec) → SpellsSpec plain file S → (ends : List EndRule) × RulesFrom (codes "INITIAL" ∷ []) plain false (from_entries []) items S.rules ends × AreSingle 1 ends
spells_items file items stop second S h =
    let same = one_section file (without_returns file) [] refl stop S h in
    let cut = sections_of file h.definitions h.items h.sections in
    let (is, kept, here) = without_rest (2 + newlines file - newlines cut.after) (line_in cut.after).1 h.items cut.rest cut.second in
    let all : is ≡ items = one_items cut_once (2 + newlines file - newlines (without_returns file)) (line_in (without_returns file)).1 is items
    (subst (λ z. ItemsFrom (2 + newlines file - newlines z) (line_in z).1 is) same.1 here) second in (
      h.ends,
      subst (λ z. RulesFrom (codes "INITIAL" ∷ []) plain false (from_entries []) z S.rules h.ends) all
          (subst (λ ds. RulesFrom (names_of (all_conditions ds)) (with_fold plain (has_name (all_options ds) (codes "case-insensitive"))) (has_name (all_options ds) (codes "stack")) (from_entries (substitutes_of ds)) is S.rules h.ends) same.0 (file_rules plain file S h is kept)),
      subst (λ ds. AreSingle (length (all_conditions ds)) h.ends) same.0 h.one_end,
    )
  where
    cut_once : (t : List ℕ) (stop stop' : ℕ) (at at' : Option ℕ) (two two' special special' : Bool) → IsCutting t stop at two special → IsCutting t stop' at' two' special' → (stop ≡ stop') × (at ≡ at') × (special ≡ special')
    cut_once t stop stop' at at' two two' special special' h k = let same = one_cutting t stop stop' at at' two two' special special' h k in (same.0, same.1, same.3)

no_separator : Example.IsNoSpec (codes "D [0-9]\n")
unfolding definition_at definition_in name_at take_up_to is_alpha is_upper is_lower is_alnum is_blank is_digit
no_separator S h =
    let same = one_section (codes "D [0-9]\n") [] (defines (codes "D") (codes "[0-9]") ∷ []) ([], refl, refl) refl S h in
    no_true (sym (ap (begins (codes "%%")) same.1) ∙ (sections_of (codes "D [0-9]\n") h.definitions h.items h.sections).separator)

no_option : Example.IsNoSpec (codes "%option none\n%%\n")
unfolding definition_at percent_line take_up_to is_blank
no_option S h =
    let same = one_section (codes "%option none\n%%\n") (codes "%%\n") (options (codes "none" ∷ []) ∷ []) (codes "%%\n", refl, refl) refl S h in
    no_true (sym (ap (λ ds. are_known (all_options ds)) same.0) ∙ h.options)

declared_twice : Example.IsNoSpec (codes "%s A\n%x A\n%%\n")
unfolding definition_at percent_line take_up_to is_alpha is_upper is_lower is_alnum is_blank is_digit
declared_twice S h =
    let same =
    one_section (codes "%s A\n%x A\n%%\n") (codes "%%\n") (declares false (codes "A" ∷ []) ∷ declares true (codes "A" ∷ []) ∷ []) (codes "%x A\n%%\n", refl, (codes "%%\n", refl, refl)) refl S h in
    no_true (sym (ap (λ ds. are_distinct (names_of (all_conditions ds))) same.0) ∙ distinct_test (names_of (all_conditions h.definitions)) h.names)

defined_twice : Example.IsNoSpec (codes "D a\nD b\n%%\n")
unfolding definition_at definition_in name_at take_up_to is_alpha is_upper is_lower is_alnum is_blank is_digit
defined_twice S h =
    let same =
    one_section (codes "D a\nD b\n%%\n") (codes "%%\n") (defines (codes "D") (codes "a") ∷ defines (codes "D") (codes "b") ∷ []) (codes "D b\n%%\n", refl, (codes "%%\n", refl, refl)) refl S h in
    no_true (sym (ap (λ ds. are_distinct (map (λ (d : List ℕ × List ℕ). d.0) (substitutes_of ds))) same.0) ∙ distinct_test (map (λ (d : List ℕ × List ℕ). d.0) (substitutes_of h.definitions)) h.defined_once)

not_declared : Example.IsNoSpec (codes "%%\n<A>a ECHO;\n")
unfolding definition_at conditions_at take_up_to is_blank action_at action_end after_piece
not_declared S h =
    let item = rule (only (codes "A" ∷ [])) (matching false (codes "a") no_trail) (Some (codes "ECHO;")) in
    let found = spells_items (codes "%%\n<A>a ECHO;\n") ((2, item) ∷ []) refl (
      [],
      refl,
      (refl, codes "a ECHO;\n", codes " ECHO;\n", codes "ECHO;", refl, (refl, refl, a_here (codes "ECHO;\n")), refl, refl),
      inl refl,
    ) S h in
    no found.1.0.conditions found.1.3.0.listed
  where
    no : (numbers : Option (List ℕ)) → ◌≡◌ {A = Option (Option (List ℕ))} None (Some numbers) → ⊥
    no numbers e = cc

bar_at_end : Example.IsNoSpec (codes "%%\na |\n")
unfolding definition_at conditions_at take_up_to is_blank action_at action_end after_piece
bar_at_end S h =
    let item = rule unlisted (matching false (codes "a") no_trail) None in
    let found = spells_items (codes "%%\na |\n") ((2, item) ∷ []) refl (
      [],
      refl,
      (refl, codes "a |\n", codes " |\n", codes "|", refl, (refl, refl, a_here (codes "|\n")), refl, refl),
      inl refl,
    ) S h in
    no_true found.1.3.1

-- ends of which two have no list
two_unlisted : (ends others more : List EndRule) (m n : Option (List ℕ)) (e f : EndAction) → ◌≡◌ {A = Option (Option (List ℕ))} (Some None) (Some m) → ◌≡◌ {A = Option (Option (List ℕ))} (Some None) (Some n)
    → ends ≡ (m, e) ∷ others → others ≡ (n, f) ∷ more → count_by is_unlisted ends ≤ 1 → ⊥
two_unlisted ends others more m n e f listed listed' first second one =
    let a : None ≡ m = cc in
    let b : None ≡ n = cc in
    let all : ends ≡ (None, e) ∷ (None, f) ∷ more =
    first ∙ ap (λ z. (m, e) ∷ z) second ∙ ap (λ z. (z, e) ∷ (n, f) ∷ more) (sym a) ∙ ap (λ z. (None, e) ∷ (z, f) ∷ more) (sym b) in
    let two : count_by is_unlisted ((None, e) ∷ (None, f) ∷ more) ≤ 1 = subst (λ z. count_by is_unlisted z ≤ 1) all one in
    let from_first = sum_by-cons (λ (x : EndRule). cond (is_unlisted x) 1 0) (None, e) ((None, f) ∷ more) in
    let from_second = sum_by-cons (λ (x : EndRule). cond (is_unlisted x) 1 0) (None, f) more in
    omega (arith, two, from_first, from_second)

two_ends : Example.IsNoSpec (codes "%%\n<<EOF>> exit(1);\n<<EOF>> exit(2);\n")
unfolding definition_at conditions_at take_up_to is_blank action_at action_end after_piece
two_ends S h =
    let first = rule unlisted at_end (Some (codes "exit(1);")) in
    let second = rule unlisted at_end (Some (codes "exit(2);")) in
    let left = codes "<<EOF>> exit(2);\n" in
    let found = spells_items (codes "%%\n<<EOF>> exit(1);\n<<EOF>> exit(2);\n") ((2, first) ∷ (3, second) ∷ []) refl (
      left,
      refl,
      (refl, codes "<<EOF>> exit(1);\n" ++ left, codes " exit(1);\n" ++ left, codes "exit(1);", refl, (refl, refl, refl), refl, refl),
      ([], refl, (refl, left, codes " exit(2);\n", codes "exit(2);", refl, (refl, refl, refl), refl, refl), inl refl),
    ) S h in
    let rest = found.1.6 in
    two_unlisted found.0 found.1.2 rest.2 found.1.0 rest.0 found.1.1 rest.1 found.1.3 rest.3 found.1.5 rest.5 found.2.1

pub none : Example.NoFiles
none = record {
  no_separator = no_separator;
  no_option = no_option;
  declared_twice = declared_twice;
  defined_twice = defined_twice;
  not_declared = not_declared;
  bar_at_end = bar_at_end;
  two_ends = two_ends;
}
