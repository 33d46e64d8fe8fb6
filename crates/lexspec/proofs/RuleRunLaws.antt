-- The rules of items, whether a `|` stands before them, and where it goes.
use Rattle.std.proofs.Common.{◌≡◌, ℕ, suc, ◌+◌, ◌∙◌, ◌≤◌, Bool, true, false, List, [], ◌∷◌, ◌++◌, length, Option, Some, None, refl, sym, ap, subst, arith}
use Rattle.std.specs.Prelude.{codes, position, nat_lt, cond, not, if◌then◌else◌, IsSomeAnd, MatchOption}
use Rattle.std.specs.List.{position_or_len}
use Rattle.std.proofs.lemmas.Bool.{lt-ltb, le-ltb, ltb-true, ltb-false}
use Rattle.std.specs.FinMap.{get, from_entries}
use Rattle.lex_semantics.specs.Spec.{Spec, Rule, Statement}
use Rattle.lexspec_lines.specs.DefinitionLines.{all_conditions, has_name, substitutes_of, all_options}
use Rattle.lexspec_lines.specs.Declaring.{names_of}
use Rattle.lexspec_lines.specs.Folding.{with_fold}
use Rattle.lexspec.specs.ItemRuns.{Item, skipped, skipped_line, skipped_block, rule, Trailing, no_trail, line_end, pattern_after, at_end, matching}
use Rattle.lexspec.specs.Files.{SpellsSpec}
use Rattle.lex_semantics.specs.ByteSets.{same_bytes, has, set_below, set_of, single, fold_case, other_case}
use Rattle.lex_semantics.specs.Escapes.{simple_escape}
use Rattle.lex_semantics.specs.Reading.{take_up_to}
use Rattle.lex_semantics.specs.Tree.{Tree, Set}
use Rattle.lexre_bytes.specs.Lexical.{after_word, escape_at, symbol_at}
use Rattle.lexre.specs.Limits.{max_open}
use Rattle.lexre.specs.Running.{state, fresh}
use Rattle.lexre.specs.Spelling.{Spells}
use Rattle.lexre.proofs.OneTree.{one_tree}
use Rattle.lexre.proofs.PatternTries.{tried}
use Rattle.lexre.proofs.PatternsComputed.{is_tree}
use Rattle.lexre.specs.Definitions.{Definitions}
use Rattle.lexre.specs.declared.options.ReadOptions.{ReadOptions}
use Rattle.lexspec_actions.specs.Names.{number_from, Scope, known_in}
use Rattle.lexspec_actions.specs.Actions.{SpellsAction, SpellsEndAction}
use Rattle.lexspec.specs.Items as F
use Rattle.lexspec.specs.Items.{Conditions}
use Rattle.lexspec.specs.RuleItems as Of
use Rattle.lexspec.specs.RuleItems.{numbers_of, EndRule, AreRules}
use Rattle.lexspec.proofs.ItemRunLaws.{trail_as, all_as}
use Rattle.lexspec.specs.WaitingRules.{goes_to_rule, RulesFrom, IsTrail, HasHead}

not_after : (b : Bool) → (b ≡ true → false ≡ true) → b ≡ false
not_after false h = refl
not_after true h = sym (h refl)

-- `$` is spelled as `\n` is

found : (posix fold : Bool) → tried posix fold 20 (state fresh [] max_open) (codes "\\n") ≡ Some (Some (Set (single 10)))
unfolding symbol_at escape_at after_word simple_escape has set_below set_of single fold_case other_case take_up_to
found true true = refl
found true false = refl
found false true = refl
found false false = refl

newline_spelled : (how : ReadOptions) (defined : Definitions) → Spells how defined (codes "\\n") (Set (single 10))
newline_spelled how defined = is_tree how 20 (codes "\\n") (Set (single 10)) (found how.posix how.fold) refl defined

one_newline : (how : ReadOptions) (defined : Definitions) (t : Tree) → Spells how defined (codes "\\n") t → t ≡ Set (single 10)
unfolding symbol_at
one_newline how defined t h = one_tree how.posix (symbol_at how.fold) (get defined) refl 64 (codes "\\n") t (Set (single 10)) h.0 (newline_spelled how defined).0

abbrev TrailOf : ReadOptions → Definitions → Option (List ℕ) → Option Tree → Type 0
TrailOf how defined trail t = MatchOption trail (t ≡ None) (λ text. IsSomeAnd t (Spells how defined text))

trail_on : (how : ReadOptions) (defined : Definitions) (after : Trailing) (t : Option Tree) → IsTrail how defined after t → TrailOf how defined (trail_as after) t
trail_on how defined no_trail t h = h
trail_on how defined line_end t h = subst (λ z. IsSomeAnd z (Spells how defined (codes "\\n"))) (sym h) (newline_spelled how defined)
trail_on how defined (pattern_after text) t h = h

trail_off : (how : ReadOptions) (defined : Definitions) (after : Trailing) (t : Option Tree) → TrailOf how defined (trail_as after) t → IsTrail how defined after t
trail_off how defined no_trail t h = h
trail_off how defined line_end None h = absurd h
trail_off how defined line_end (Some t) h = ap Some (one_newline how defined t h)
trail_off how defined (pattern_after text) t h = h

both_more : (m l : ℕ) → nat_lt m l ≡ nat_lt (1 + m) (suc l)
both_more m l = from (nat_lt m l) refl
  where
    from : (b : Bool) → nat_lt m l ≡ b → b ≡ nat_lt (1 + m) (suc l)
    from true e = sym (lt-ltb (1 + m) (suc l) (omega (arith, ltb-true m l e)))
    from false e = sym (le-ltb (1 + m) (suc l) (omega (arith, ltb-false m l e)))

-- the number of a name is the place of the first that is it
placed : (k : ℕ) (ns : List (List ℕ)) (name : List ℕ) → number_from k ns name
    ≡ cond (nat_lt (position_or_len (λ n. same_bytes n name) ns) (length ns)) (Some (k + position_or_len (λ n. same_bytes n name) ns)) None
placed k [] name = refl
placed k (m ∷ ns) name = from (same_bytes m name) (placed (suc k) ns name)
  where
    place : ℕ
    place = position_or_len (λ n. same_bytes n name) ns

    from : (b : Bool) → number_from (suc k) ns name ≡ cond (nat_lt place (length ns)) (Some (suc k + place)) None
        → (if b then Some k else number_from (suc k) ns name) ≡ cond (nat_lt (cond (not b) (1 + place) 0) (suc (length ns))) (Some (k + cond (not b) (1 + place) 0)) None
    from true h = let e : k ≡ k + 0 = omega arith in ap Some e ∙ ap (λ t. cond t (Some (k + 0)) None) (sym (lt-ltb 0 (suc (length ns)) (omega arith)))
    from false h = let e : suc k + place ≡ k + (1 + place) = omega arith in
        h ∙ ap (λ z. cond (nat_lt place (length ns)) (Some z) None) e ∙ ap (λ t. cond t (Some (k + (1 + place))) None) (both_more place (length ns))

is_place : (ns : List (List ℕ)) (name : List ℕ) → number_from 0 ns name ≡ position (λ n. same_bytes n name) ns
is_place ns name =
    let place = position_or_len (λ n. same_bytes n name) ns in
    let e : 0 + place ≡ place = omega arith in
    placed 0 ns name ∙ ap (λ z. cond (nat_lt place (length ns)) (Some z) None) e

module _ (names : List (List ℕ)) (how : ReadOptions) (stack : Bool) (defined : Definitions) where
  abbrev Are : Bool → List (ℕ × F.Item) → List Rule → List EndRule → Type 0
  Are b is rs es = AreRules names how stack defined is rs es b

  known_same : known_in names stack ≡ Of.known names how stack defined
  known_same = λ i. record { number = λ name. is_place names name i; stack = stack }

  numbers_on : (asked : Conditions) (numbers : Option (List ℕ)) → numbers_of (number_from 0 names) (length names) asked ≡ Some numbers
      → numbers_of (Of.known names how stack defined).number (length names) asked ≡ Some numbers
  numbers_on asked numbers h = subst (λ (k : Scope). numbers_of k.number (length names) asked ≡ Some numbers) known_same h

  numbers_off : (asked : Conditions) (numbers : Option (List ℕ)) → numbers_of (Of.known names how stack defined).number (length names) asked ≡ Some numbers
      → numbers_of (number_from 0 names) (length names) asked ≡ Some numbers
  numbers_off asked numbers h = subst (λ (k : Scope). numbers_of k.number (length names) asked ≡ Some numbers) (sym known_same) h

  head_on : (n : ℕ) (asked : Conditions) (anchored : Bool) (head : List ℕ) (after : Trailing) (r : Rule) → HasHead names how stack defined n asked anchored head after r
      → Of.HasHead names how stack defined n asked anchored head (trail_as after) r
  head_on n asked anchored head after r h = record {
    line_is = h.line_is;
    listed = numbers_on asked r.conditions h.listed;
    anchor = h.anchor;
    head_is = h.head_is;
    trail_is = trail_on how defined after r.trail h.trail_is;
    cut_is = h.cut_is;
  }

  head_off : (n : ℕ) (asked : Conditions) (anchored : Bool) (head : List ℕ) (after : Trailing) (r : Rule) → Of.HasHead names how stack defined n asked anchored head (trail_as after) r
      → HasHead names how stack defined n asked anchored head after r
  head_off n asked anchored head after r h = record {
    line_is = h.line_is;
    listed = numbers_off asked r.conditions h.listed;
    anchor = h.anchor;
    head_is = h.head_is;
    trail_is = trail_off how defined after r.trail h.trail_is;
    cut_is = h.cut_is;
  }

  spelled_on : (text : List ℕ) (ss : List Statement) → SpellsAction (known_in names stack) text ss → SpellsAction (Of.known names how stack defined) text ss
  spelled_on text ss h = subst (λ k. SpellsAction k text ss) known_same h

  spelled_off : (text : List ℕ) (ss : List Statement) → SpellsAction (Of.known names how stack defined) text ss → SpellsAction (known_in names stack) text ss
  spelled_off text ss h = subst (λ k. SpellsAction k text ss) (sym known_same) h

  pub rules_on : (b : Bool) (is : List (ℕ × Item)) (rs : List Rule) (es : List EndRule) → RulesFrom names how stack defined is rs es
      → (b ≡ true → goes_to_rule None is ≡ true) → Are b (all_as is) rs es
  rules_on b [] rs es h go = subst (λ z. Are b [] z es) (sym h.0) (subst (λ z. Are b [] [] z) (sym h.1) tt)
  rules_on b ((n, skipped) ∷ is) rs es h go = rules_on b is rs es h go
  rules_on b ((n, skipped_line) ∷ is) rs es h go = rules_on b is rs es h go
  rules_on b ((n, skipped_block) ∷ is) rs es h go = rules_on b is rs es h go
  rules_on b ((n, rule asked at_end (Some text)) ∷ is) rs es (numbers, e, others, listed, acts, all, more) go =
      let here : Are false ((n, F.rule asked F.at_end (Some text)) ∷ all_as is) rs ((numbers, e) ∷ others) =
      (subst (λ k. SpellsEndAction k text e) known_same acts, numbers_on asked numbers listed, rules_on false is rs others more (λ x. cc)) in
      subst (λ z. Are z ((n, F.rule asked F.at_end (Some text)) ∷ all_as is) rs es) (sym (not_after b go))
      (subst (λ z. Are false ((n, F.rule asked F.at_end (Some text)) ∷ all_as is) rs z) (sym all) here)
  rules_on b ((n, rule asked at_end None) ∷ is) rs es h go = absurd h
  rules_on b ((n, rule asked (matching anchored head after) (Some text)) ∷ is) rs es (r, others, all, (has, goes, acts), more) go =
      subst (λ z. Are b ((n, F.rule asked (F.matching anchored head (trail_as after)) (Some text)) ∷ all_as is) z es) (sym all)
      (head_on n asked anchored head after r has, spelled_on text r.statements acts, rules_on false is others es more (λ x. cc))
  rules_on b ((n, rule asked (matching anchored head after) None) ∷ is) rs es (r, [], all, (has, goes, acts), more) go = absurd acts
  rules_on b ((n, rule asked (matching anchored head after) None) ∷ is) rs es (r, q ∷ others, all, (has, goes, acts), more) go =
      subst (λ z. Are b ((n, F.rule asked (F.matching anchored head (trail_as after)) None) ∷ all_as is) z es) (sym all)
      (head_on n asked anchored head after r has, acts, rules_on true is (q ∷ others) es more (λ x. goes))

  pub rules_off : (b : Bool) (is : List (ℕ × Item)) (rs : List Rule) (es : List EndRule) → Are b (all_as is) rs es
      → RulesFrom names how stack defined is rs es × (b ≡ true → 1 ≤ length rs → goes_to_rule None is ≡ true)
  rules_off b [] [] [] h = ((refl, refl), λ x some. absurd (omega (arith, some)))
  rules_off b [] [] (e ∷ es) h = absurd h
  rules_off b [] (r ∷ rs) es h = absurd h
  rules_off b ((n, skipped) ∷ is) rs es h = rules_off b is rs es h
  rules_off b ((n, skipped_line) ∷ is) rs es h = rules_off b is rs es h
  rules_off b ((n, skipped_block) ∷ is) rs es h = rules_off b is rs es h
  rules_off true ((n, rule asked at_end (Some text)) ∷ is) rs [] h = absurd h
  rules_off true ((n, rule asked at_end (Some text)) ∷ is) rs (end ∷ es) h = absurd h
  rules_off false ((n, rule asked at_end (Some text)) ∷ is) rs [] h = absurd h
  rules_off false ((n, rule asked at_end (Some text)) ∷ is) rs (end ∷ es) (acts, listed, more) =
      ((end.0, end.1, es, numbers_off asked end.0 listed, subst (λ k. SpellsEndAction k text end.1) (sym known_same) acts, refl, (rules_off false is rs es more).0), λ x some. cc)
  rules_off true ((n, rule asked at_end None) ∷ is) rs es h = absurd h
  rules_off false ((n, rule asked at_end None) ∷ is) rs [] h = absurd h
  rules_off false ((n, rule asked at_end None) ∷ is) rs (end ∷ es) h = absurd h
  rules_off true ((n, rule asked (matching anchored head after) (Some text)) ∷ is) [] es h = absurd h
  rules_off true ((n, rule asked (matching anchored head after) None) ∷ is) [] es h = absurd h
  rules_off false ((n, rule asked (matching anchored head after) (Some text)) ∷ is) [] es h = absurd h
  rules_off false ((n, rule asked (matching anchored head after) None) ∷ is) [] es h = absurd h
  rules_off b ((n, rule asked (matching anchored head after) (Some text)) ∷ is) (r ∷ rs) es (front, acts, more) =
      ((r, rs, refl, (head_off n asked anchored head after r front, refl, spelled_off text r.statements acts), (rules_off false is rs es more).0), λ x some. refl)
  rules_off true ((n, rule asked (matching anchored head after) None) ∷ is) (r ∷ []) es h = absurd h
  rules_off false ((n, rule asked (matching anchored head after) None) ∷ is) (r ∷ []) es h = absurd h
  rules_off b ((n, rule asked (matching anchored head after) None) ∷ is) (r ∷ q ∷ rs) es (front, acts, more) =
      let later = rules_off true is (q ∷ rs) es more in
      ((r, q ∷ rs, refl, (head_off n asked anchored head after r front, later.1 refl (omega arith), acts), later.0), λ x some. refl)

  -- where no `|` stands before them
  pub rules_first : (is : List (ℕ × Item)) (rs : List Rule) (es : List EndRule) → RulesFrom names how stack defined is rs es → Are false (all_as is) rs es
  rules_first is rs es h = rules_on false is rs es h (λ x. cc)

-- the items as the reader passes them, where it does not matter what is skipped
abbrev pub as_passed : List (ℕ × F.Item) → List (ℕ × Item)
as_passed [] = []
as_passed ((n, F.skipped line) ∷ is) = (n, skipped) ∷ as_passed is
as_passed ((n, F.rule asked F.at_end action) ∷ is) = (n, rule asked at_end action) ∷ as_passed is
as_passed ((n, F.rule asked (F.matching anchored head None) action) ∷ is) = (n, rule asked (matching anchored head no_trail) action) ∷ as_passed is
as_passed ((n, F.rule asked (F.matching anchored head (Some text)) action) ∷ is) = (n, rule asked (matching anchored head (pattern_after text)) action) ∷ as_passed is

module _ (names : List (List ℕ)) (how : ReadOptions) (stack : Bool) (defined : Definitions) where
  abbrev Given : Bool → List (ℕ × F.Item) → List Rule → List EndRule → Type 0
  Given b is rs es = AreRules names how stack defined is rs es b

  same_rules : (b : Bool) (is : List (ℕ × F.Item)) (rs : List Rule) (es : List EndRule) → Given b is rs es
      → Given b (all_as (as_passed is)) rs es
  same_rules b [] rs es h = h
  same_rules b ((n, F.skipped line) ∷ is) rs es h = same_rules b is rs es h
  same_rules true ((n, F.rule asked F.at_end (Some text)) ∷ is) rs [] h = absurd h
  same_rules true ((n, F.rule asked F.at_end (Some text)) ∷ is) rs (end ∷ es) h = absurd h
  same_rules false ((n, F.rule asked F.at_end (Some text)) ∷ is) rs [] h = absurd h
  same_rules false ((n, F.rule asked F.at_end (Some text)) ∷ is) rs (end ∷ es) (acts, listed, more) = (acts, listed, same_rules false is rs es more)
  same_rules true ((n, F.rule asked F.at_end None) ∷ is) rs es h = absurd h
  same_rules false ((n, F.rule asked F.at_end None) ∷ is) rs [] h = absurd h
  same_rules false ((n, F.rule asked F.at_end None) ∷ is) rs (end ∷ es) h = absurd h
  same_rules true ((n, F.rule asked (F.matching anchored head trail) (Some text)) ∷ is) [] es h = absurd h
  same_rules true ((n, F.rule asked (F.matching anchored head trail) None) ∷ is) [] es h = absurd h
  same_rules false ((n, F.rule asked (F.matching anchored head trail) (Some text)) ∷ is) [] es h = absurd h
  same_rules false ((n, F.rule asked (F.matching anchored head trail) None) ∷ is) [] es h = absurd h
  same_rules b ((n, F.rule asked (F.matching anchored head None) (Some text)) ∷ is) (r ∷ rs) es (front, acts, more) = (front, acts, same_rules false is rs es more)
  same_rules true ((n, F.rule asked (F.matching anchored head None) None) ∷ is) (r ∷ []) es h = absurd h
  same_rules false ((n, F.rule asked (F.matching anchored head None) None) ∷ is) (r ∷ []) es h = absurd h
  same_rules b ((n, F.rule asked (F.matching anchored head None) None) ∷ is) (r ∷ q ∷ rs) es (front, acts, more) = (front, acts, same_rules true is (q ∷ rs) es more)
  same_rules b ((n, F.rule asked (F.matching anchored head (Some trail)) (Some text)) ∷ is) (r ∷ rs) es (front, acts, more) = (front, acts, same_rules false is rs es more)
  same_rules true ((n, F.rule asked (F.matching anchored head (Some trail)) None) ∷ is) (r ∷ []) es h = absurd h
  same_rules false ((n, F.rule asked (F.matching anchored head (Some trail)) None) ∷ is) (r ∷ []) es h = absurd h
  same_rules b ((n, F.rule asked (F.matching anchored head (Some trail)) None) ∷ is) (r ∷ q ∷ rs) es (front, acts, more) = (front, acts, same_rules true is (q ∷ rs) es more)

  -- so for items that others stand before
  pub same_behind : (b : Bool) (is js : List (ℕ × F.Item)) (rs : List Rule) (es : List EndRule) → Given b (is ++ js) rs es → Given b (is ++ all_as (as_passed js)) rs es
  same_behind b [] js rs es h = same_rules b js rs es h
  same_behind b ((n, F.skipped line) ∷ is) js rs es h = same_behind b is js rs es h
  same_behind true ((n, F.rule asked F.at_end (Some text)) ∷ is) js rs [] h = absurd h
  same_behind true ((n, F.rule asked F.at_end (Some text)) ∷ is) js rs (end ∷ es) h = absurd h
  same_behind false ((n, F.rule asked F.at_end (Some text)) ∷ is) js rs [] h = absurd h
  same_behind false ((n, F.rule asked F.at_end (Some text)) ∷ is) js rs (end ∷ es) (acts, listed, more) = (acts, listed, same_behind false is js rs es more)
  same_behind true ((n, F.rule asked F.at_end None) ∷ is) js rs es h = absurd h
  same_behind false ((n, F.rule asked F.at_end None) ∷ is) js rs [] h = absurd h
  same_behind false ((n, F.rule asked F.at_end None) ∷ is) js rs (end ∷ es) h = absurd h
  same_behind true ((n, F.rule asked (F.matching anchored head trail) (Some text)) ∷ is) js [] es h = absurd h
  same_behind true ((n, F.rule asked (F.matching anchored head trail) None) ∷ is) js [] es h = absurd h
  same_behind false ((n, F.rule asked (F.matching anchored head trail) (Some text)) ∷ is) js [] es h = absurd h
  same_behind false ((n, F.rule asked (F.matching anchored head trail) None) ∷ is) js [] es h = absurd h
  same_behind b ((n, F.rule asked (F.matching anchored head None) (Some text)) ∷ is) js (r ∷ rs) es (front, acts, more) = (front, acts, same_behind false is js rs es more)
  same_behind true ((n, F.rule asked (F.matching anchored head None) None) ∷ is) js (r ∷ []) es h = absurd h
  same_behind false ((n, F.rule asked (F.matching anchored head None) None) ∷ is) js (r ∷ []) es h = absurd h
  same_behind b ((n, F.rule asked (F.matching anchored head None) None) ∷ is) js (r ∷ q ∷ rs) es (front, acts, more) = (front, acts, same_behind true is js (q ∷ rs) es more)
  same_behind b ((n, F.rule asked (F.matching anchored head (Some trail)) (Some text)) ∷ is) js (r ∷ rs) es (front, acts, more) = (front, acts, same_behind false is js rs es more)
  same_behind true ((n, F.rule asked (F.matching anchored head (Some trail)) None) ∷ is) js (r ∷ []) es h = absurd h
  same_behind false ((n, F.rule asked (F.matching anchored head (Some trail)) None) ∷ is) js (r ∷ []) es h = absurd h
  same_behind b ((n, F.rule asked (F.matching anchored head (Some trail)) None) ∷ is) js (r ∷ q ∷ rs) es (front, acts, more) = (front, acts, same_behind true is js (q ∷ rs) es more)

  pub rules_passed : (is : List (ℕ × F.Item)) (rs : List Rule) (es : List EndRule) → Given false is rs es
      → RulesFrom names how stack defined (as_passed is) rs es
  rules_passed is rs es h = (rules_off names how stack defined false (as_passed is) rs es (same_rules false is rs es h)).0

-- the rules of a file
pub file_rules : (how : ReadOptions) (file : List ℕ) (S : Spec) (h : SpellsSpec how file S) (is : List (ℕ × Item)) → all_as is ≡ h.items
    → RulesFrom (names_of (all_conditions h.definitions)) (with_fold how (has_name (all_options h.definitions) (codes "case-insensitive"))) (has_name (all_options h.definitions) (codes "stack"))
    (from_entries (substitutes_of h.definitions)) is S.rules h.ends
file_rules how file S h is all =
    (rules_off (names_of (all_conditions h.definitions)) (with_fold how (has_name (all_options h.definitions) (codes "case-insensitive"))) (has_name (all_options h.definitions) (codes "stack"))
    (from_entries (substitutes_of h.definitions)) false is S.rules h.ends
    (subst (λ z. AreRules (names_of (all_conditions h.definitions)) (with_fold how (has_name (all_options h.definitions) (codes "case-insensitive"))) (has_name (all_options h.definitions) (codes "stack"))
    (from_entries (substitutes_of h.definitions)) z S.rules h.ends false) (sym all) h.rules)).0
