-- Whole files, from their sections.
use Rattle.std.proofs.Common.{◌≡◌, ℕ, ◌+◌, ◌-◌, ◌≤◌, ◌==◌, ◌&&◌, Bool, true, false, if◌then◌else◌, List, [], ◌∷◌, ◌++◌, map, length, refl, sym, ap, subst, ◌∙◌, arith, length-append}
use Rattle.std.specs.Prelude.{Some, cond, codes, Result, Ok, Err, IfOk, IfErr}
use Rattle.std.specs.FinMap.{from_entries}
use Rattle.std.proofs.lemmas.List.{length-map}
use Rattle.std.proofs.lemmas.List.Sums.{sum_by-cons}
use Rattle.std.proofs.lemmas.Bool.{and_parts, eqb-true}
use Rattle.lex_semantics.specs.Spec.{Spec}
use Rattle.lex_semantics.specs.Reading.{◌>>=◌, IsReadAs, begins}
use Rattle.lexspec_lines.specs.Lines.{without_returns, line_in, newlines}
use Rattle.lexspec_lines.specs.DefinitionLines.{DefinitionLine, definition_at, IsUpTo, all_conditions, has_name, substitutes_of, all_options}
use Rattle.lexspec_lines.specs.Declaring.{names_of}
use Rattle.lexspec_lines.specs.Declaring.{declared_of, AreAllowed}
use Rattle.lexspec.specs.WaitingRules.{RulesFrom}
use Rattle.lexspec.specs.Items.{AreItems}
use Rattle.lexspec.specs.Skipped.{user_section, AreSkipped}
use Rattle.lexspec.specs.Files.{AreSingle, SpellsSpec}
use Rattle.lexspec.specs.Endings.{conditions_with}
use Rattle.lexspec.specs.ItemReads.{names_in}
use Rattle.lexspec.specs.SectionReads.{HasRules, IsRefused}
use Rattle.lexspec_lines.specs.Sections.{HasSection, IsFaultyLine}
use Rattle.lexspec.specs.Readings.{of_sections, IsRefusedRest, SpellsRest, SkipsRest}
use Rattle.lexspec.specs.FaultLines.{IsFirstFault, MayDeclare, TellsDefinitions, TellsLength, TellsRules}
use Rattle.lexspec.specs.EndRules.{end_rule_of}
use Rattle.lexspec.specs.RuleViews.{rule_of}
use Rattle.lexspec_lines.specs.Outcome.{UnlessMemory}
use Rattle.lexspec.specs.Tests.{is_sound}
use Rattle.lexspec.specs.Views.{spec_of, skipped_in}
use Rattle.lexre_bytes.specs.declared.refusals.SpecError.{SpecError}
use Rattle.lexre_bytes.specs.declared.refusals.SpecErrorKind.{SpecErrorKind}
use Rattle.lexspec.specs.declared.spec.Spec.{Spec as SpecOfCode}
use Rattle.lexspec_lines.specs.declared.declarations.Declarations.{Declarations}
use Rattle.lexspec.specs.declared.rules_section.RulesSection.{RulesSection}
use Rattle.lexspec.specs.ItemRuns.{ItemsFrom, EndsRules, IsLine, code_of_item}
use Rattle.lexspec_lines.specs.declared.section.Section.{Section}
use Rattle.lexspec_lines.specs.declared.skipped.Skipped.{Skipped}
use Rattle.lexspec_lines.specs.SkippedCode.{told_lines, code_of_definition}
use Rattle.lexspec_lines.specs.Skips.{AreFrom}
use Rattle.std.specs.Prelude.{flat_map}
use Rattle.lexspec_lines.specs.Skips.{TellsPieces}
use Rattle.lexspec_lines.proofs.CodeLaws.{lines_told}
use Rattle.lexspec_lines.proofs.DeclaringLaws.{names_kept, test_distinct, distinct_test}
use Rattle.lexspec_lines.proofs.OneSection.{separator_ends, one_up_to}
use Rattle.lexre_bytes.proofs.MemoryLaws.{unless_memory, always}
use Rattle.lexspec.proofs.PassLaws.{kept_passes, length_with}
use Rattle.lexspec.proofs.RestLaws.{newlines_few}
use Rattle.lexspec.proofs.RuleRunLaws.{rules_first, file_rules}
use Rattle.lexspec.proofs.FileSections.{cut_by, sections_of, from_sections, conditions_are, user_line}
use Rattle.lexspec.proofs.ItemRunLaws.{all_as, same_code, with_rest, without_rest, numbered_items, numbered_lines}
use Rattle.lexspec_lines.proofs.SectionLaws.{EndsWith, ends_on, definition_ends}
use Rattle.lex_semantics.specs.Limits.{max_conditions, max_file_bytes, max_rules}
use Rattle.lexspec_lines.specs.Folding.{with_fold}
use Rattle.lexre.specs.declared.options.ReadOptions.{ReadOptions}

-- without carriage returns

one_newline : (c : ℕ) (t : List ℕ) → newlines (c ∷ t) ≡ cond (c == 10) 1 0 + newlines t
one_newline c t = sum_by-cons (λ y. cond (y == 10) 1 0) c t

no_newline : (c : ℕ) (t : List ℕ) → c ≡ 13 → newlines (c ∷ t) ≡ newlines t
no_newline c t e = let is : newlines (c ∷ t) ≡ 0 + newlines t = one_newline c t ∙ ap (λ z. cond (z == 10) 1 0 + newlines t) e in omega arith

more_newlines : (c : ℕ) (s t : List ℕ) → newlines s ≡ newlines t → newlines (c ∷ s) ≡ newlines (c ∷ t)
more_newlines c s t e = one_newline c s ∙ ap (λ z. cond (c == 10) 1 0 + z) e ∙ sym (one_newline c t)

pub newlines_kept : (t : List ℕ) → newlines (without_returns t) ≡ newlines t
newlines_kept [] = refl
newlines_kept (c ∷ t) = from (c == 13 && begins (codes "\n") t) refl (newlines_kept t)
  where
    from : (b : Bool) → (c == 13 && begins (codes "\n") t) ≡ b → newlines (without_returns t) ≡ newlines t
        → newlines (if b then without_returns t else c ∷ without_returns t) ≡ newlines (c ∷ t)
    from true e later = later ∙ sym (no_newline c t (eqb-true c 13 (and_parts (c == 13) (begins (codes "\n") t) e).0))
    from false e later = more_newlines c (without_returns t) t later

not_longer : (t : List ℕ) → length (without_returns t) ≤ length t
not_longer [] = omega arith
not_longer (c ∷ t) = from (c == 13 && begins (codes "\n") t) (not_longer t)
  where
    from : (b : Bool) → length (without_returns t) ≤ length t → length (if b then without_returns t else c ∷ without_returns t) ≤ length (c ∷ t)
    from true h = omega arith
    from false h = omega arith

pub kept_short : (file kept : List ℕ) → length file ≤ max_file_bytes → kept ≡ without_returns file → length kept ≤ max_file_bytes
kept_short file kept few is = omega (arith, few, ap length is, not_longer file)

-- the first section

up_to_ends : (t : List ℕ) (ds : List DefinitionLine) (rest : List ℕ) → IsUpTo definition_at t ds rest → EndsWith t rest
up_to_ends t [] rest h = ([], h)
up_to_ends t (d ∷ ds) rest (next, here, later) = ends_on t next rest (definition_ends t (d, next) here) (up_to_ends next ds rest later)

pub rest_short : (how : ReadOptions) (t : List ℕ) (s : Section) → HasSection how t s → length s.rest.now ≤ length t
rest_short how t s h = let (front, e) = up_to_ends t h.definitions s.rest.now h.lines in omega (arith, ap length e, length-append front s.rest.now)

count_is : (how : ReadOptions) (t : List ℕ) (s : Section) (h : HasSection how t s) → length s.declarations.conditions.items ≡ length (all_conditions h.definitions)
count_is how t s h = sym (length-map s.declarations.conditions.items declared_of) ∙ ap length h.declares.conditions

pub line_few : (how : ReadOptions) (t : List ℕ) (s : Section) → HasSection how t s → s.line ≤ 1 + length t
line_few how t s h = omega (arith, h.line, newlines_few t)

-- the second one

pub sections_pass : (d : Declarations) (n : ℕ) (t : List ℕ) (x : RulesSection) → 1 ≤ length d.conditions.items → length d.conditions.items ≤ max_conditions → HasRules d n t x → is_sound (of_sections d x) ≡ true
sections_pass d n t x some few h =
    kept_passes d d.options d.stack d.definitions h.items (map rule_of x.rules.items) (map end_rule_of x.ends.items) _ some few (subst (λ z. z ≤ max_rules) (sym (length-map x.rules.items rule_of)) h.few) h.are h.sound refl

-- both

-- the specification of the declarations, in the words of the file's definition
pub spelled : (how : ReadOptions) (file : List ℕ) (s : Section) (S : Spec) → length file ≤ max_file_bytes → HasSection how (without_returns file) s → SpellsRest s S → SpellsSpec how file S
spelled how file s S short h r =
    let d = s.declarations in
    let names : names_in d ≡ names_of (all_conditions h.definitions) = sym (names_kept d.conditions.items) ∙ ap names_of h.declares.conditions in
    let line : s.line + 1 ≡ 2 + newlines file - newlines s.rest.now = omega (arith, h.line, newlines_kept file) in
    let count = count_is how (without_returns file) s h in
    let conditions : S.conditions ≡ conditions_with 0 (all_conditions h.definitions) r.ends = r.conditions ∙ ap (λ z. conditions_with 0 z r.ends) h.declares.conditions in
    let (rest, second) = with_rest (s.line + 1) (line_in s.rest.now).1 r.items r.here in
    record {
      short = short;
      definitions = h.definitions;
      items = all_as r.items;
      sections = from_sections file h.definitions (all_as r.items) (record {
        after = s.rest.now;
        first = h.lines;
        separator = h.separator;
        rest = rest;
        second = subst (λ z. AreItems z (line_in s.rest.now).1 (all_as r.items) rest) line second;
      });
      names = test_distinct (names_of (all_conditions h.definitions)) h.allowed.0.0;
      defined_once = test_distinct (map (λ (d : List ℕ × List ℕ). d.0) (substitutes_of h.definitions)) h.allowed.1;
      options = h.allowed.2;
      ends = r.ends;
      rules = rules_first (names_of (all_conditions h.definitions)) (with_fold how (has_name (all_options h.definitions) (codes "case-insensitive"))) (has_name (all_options h.definitions) (codes "stack"))
          (from_entries (substitutes_of h.definitions)) r.items S.rules r.ends (subst (λ z. RulesFrom z (with_fold how (has_name (all_options h.definitions) (codes "case-insensitive"))) (has_name (all_options h.definitions) (codes "stack")) (from_entries (substitutes_of h.definitions)) r.items S.rules r.ends) names
          (subst (λ z. RulesFrom (names_in d) z (has_name (all_options h.definitions) (codes "stack")) (from_entries (substitutes_of h.definitions)) r.items S.rules r.ends) h.declares.reads
          (subst (λ z. RulesFrom (names_in d) d.options z (from_entries (substitutes_of h.definitions)) r.items S.rules r.ends) h.declares.stacks
          (subst (λ z. RulesFrom (names_in d) d.options d.stack z r.items S.rules r.ends) h.declares.definitions r.are))));
      one_end = subst (λ z. AreSingle z r.ends) count r.one_end;
      conditions = conditions ∙ sym (conditions_are 0 (all_conditions h.definitions) r.ends);
      few_conditions = omega (arith, ap length conditions, length_with 0 (all_conditions h.definitions) r.ends);
      few_rules = r.few_rules;
    }

pub rest_of : (how : ReadOptions) (file : List ℕ) (s : Section) (S : Spec) → HasSection how (without_returns file) s → SpellsSpec how file S → SpellsRest s S
rest_of how file s S h k =
    let d = s.declarations in
    let cut = sections_of file k.definitions k.items k.sections in
    let (items, all, here) = without_rest (2 + newlines file - newlines cut.after) (line_in cut.after).1 k.items cut.rest cut.second in
    let same = one_up_to definition_at (without_returns file) k.definitions h.definitions cut.after s.rest.now cut.first h.lines (separator_ends cut.after cut.separator) (separator_ends s.rest.now h.separator) in
    let names : names_of (all_conditions h.definitions) ≡ names_in d = ap names_of (sym h.declares.conditions) ∙ names_kept d.conditions.items in
    let line : 2 + newlines file - newlines s.rest.now ≡ s.line + 1 = omega (arith, h.line, newlines_kept file) in
    let are : RulesFrom (names_of (all_conditions h.definitions)) (with_fold how (has_name (all_options h.definitions) (codes "case-insensitive"))) (has_name (all_options h.definitions) (codes "stack")) (from_entries (substitutes_of h.definitions)) items S.rules k.ends =
    subst (λ z. RulesFrom (names_of (all_conditions z)) (with_fold how (has_name (all_options z) (codes "case-insensitive"))) (has_name (all_options z) (codes "stack")) (from_entries (substitutes_of z)) items S.rules k.ends) same.0 (file_rules how file S k items all) in
    record {
      items = items;
      here = subst (λ z. ItemsFrom z (line_in s.rest.now).1 items) line (subst (λ z. ItemsFrom (2 + newlines file - newlines z) (line_in z).1 items) same.1 here);
      ends = k.ends;
      are = subst (λ z. RulesFrom (names_in d) d.options d.stack z items S.rules k.ends) (sym h.declares.definitions)
          (subst (λ z. RulesFrom (names_in d) d.options z (from_entries (substitutes_of h.definitions)) items S.rules k.ends) (sym h.declares.stacks)
          (subst (λ z. RulesFrom (names_in d) z (has_name (all_options h.definitions) (codes "stack")) (from_entries (substitutes_of h.definitions)) items S.rules k.ends) (sym h.declares.reads)
          (subst (λ z. RulesFrom z (with_fold how (has_name (all_options h.definitions) (codes "case-insensitive"))) (has_name (all_options h.definitions) (codes "stack")) (from_entries (substitutes_of h.definitions)) items S.rules k.ends) names are)));
      one_end = subst (λ z. AreSingle z k.ends) (sym (count_is how (without_returns file) s h)) (subst (λ z. AreSingle (length (all_conditions z)) k.ends) same.0 k.one_end);
      conditions = k.conditions ∙ conditions_are 0 (all_conditions k.definitions) k.ends ∙ ap (λ z. conditions_with 0 (all_conditions z) k.ends) same.0 ∙ ap (λ z. conditions_with 0 z k.ends) (sym h.declares.conditions);
      few_rules = k.few_rules;
    }

-- where the first section is not spelled, the file is not
pub no_section : (how : ReadOptions) (file : List ℕ) → ((ds : List DefinitionLine) (after : List ℕ) → IsUpTo definition_at (without_returns file) ds after → begins (codes "%%") after ≡ true → AreAllowed ds → ⊥)
    → (S : Spec) → SpellsSpec how file S → ⊥
no_section how file none S k =
    let few : length (all_conditions k.definitions) ≤ max_conditions = omega (arith, k.few_conditions, ap length (k.conditions ∙ conditions_are 0 (all_conditions k.definitions) k.ends), length_with 0 (all_conditions k.definitions) k.ends) in
    let cut = sections_of file k.definitions k.items k.sections in
    none k.definitions cut.after cut.first cut.separator
    ((distinct_test (names_of (all_conditions k.definitions)) k.names, few), distinct_test (map (λ (d : List ℕ × List ℕ). d.0) (substitutes_of k.definitions)) k.defined_once, k.options)

-- the first faulty line

pub tells_rules : (how : ReadOptions) (file : List ℕ) (s : Section) (e : SpecError) → HasSection how (without_returns file) s
    → IsFirstFault (names_in s.declarations) s.declarations.options s.declarations.stack s.declarations.definitions (s.line + 1) (line_in s.rest.now).1 e → TellsRules how file e
tells_rules how file s e h fault short ds rest (cut, separator, may) =
    let d = s.declarations in
    let same = one_up_to definition_at (without_returns file) ds h.definitions rest s.rest.now cut h.lines (separator_ends rest separator) (separator_ends s.rest.now h.separator) in
    let names : names_in d ≡ names_of (all_conditions h.definitions) = sym (names_kept d.conditions.items) ∙ ap names_of h.declares.conditions in
    let line : s.line + 1 ≡ 2 + newlines file - newlines s.rest.now = omega (arith, h.line, newlines_kept file) in
    subst (λ z. told ds z) (sym same.1) (subst (λ z. told z s.rest.now) (sym same.0)
    (subst (λ z. IsFirstFault (names_of (all_conditions h.definitions)) (fold_of h.definitions) (stack_of h.definitions) (from_entries (substitutes_of h.definitions)) z (line_in s.rest.now).1 e) line
    (subst (λ z. IsFirstFault (names_of (all_conditions h.definitions)) (fold_of h.definitions) (stack_of h.definitions) z (s.line + 1) (line_in s.rest.now).1 e) h.declares.definitions
    (subst (λ z. IsFirstFault (names_of (all_conditions h.definitions)) (fold_of h.definitions) z d.definitions (s.line + 1) (line_in s.rest.now).1 e) h.declares.stacks
    (subst (λ z. IsFirstFault (names_of (all_conditions h.definitions)) z d.stack d.definitions (s.line + 1) (line_in s.rest.now).1 e) h.declares.reads
    (subst (λ z. IsFirstFault z d.options d.stack d.definitions (s.line + 1) (line_in s.rest.now).1 e) names fault))))))
  where
    fold_of : List DefinitionLine → ReadOptions
    fold_of z = with_fold how (has_name (all_options z) (codes "case-insensitive"))

    stack_of : List DefinitionLine → Bool
    stack_of z = has_name (all_options z) (codes "stack")

    told : List DefinitionLine → List ℕ → Type 0
    told z rest = IsFirstFault (names_of (all_conditions z)) (fold_of z) (stack_of z) (from_entries (substitutes_of z)) (2 + newlines file - newlines rest) (line_in rest).1 e

-- what may be declared, as a test
allowed_of : (ds : List DefinitionLine) → MayDeclare ds → AreAllowed ds
allowed_of ds (distinct, few, once, known) = ((distinct_test (names_of (all_conditions ds)) distinct, few), distinct_test (map (λ (d : List ℕ × List ℕ). d.0) (substitutes_of ds)) once, known)

may_of : (ds : List DefinitionLine) → AreAllowed ds → MayDeclare ds
may_of ds ((distinct, few), once, known) = (test_distinct (names_of (all_conditions ds)) distinct, few, test_distinct (map (λ (d : List ℕ × List ℕ). d.0) (substitutes_of ds)) once, known)

abbrev NoSection : List ℕ → Type 0
NoSection file = (ds : List DefinitionLine) (after : List ℕ) → IsUpTo definition_at (without_returns file) ds after → begins (codes "%%") after ≡ true → AreAllowed ds → ⊥

no_rules_told : (how : ReadOptions) (file : List ℕ) (e : SpecError) → NoSection file → TellsRules how file e
no_rules_told how file e none short ds rest (cut, separator, may) = absurd (none ds rest cut separator (allowed_of ds may))

definitions_told : (file : List ℕ) (e : SpecError) → IsFaultyLine AreAllowed (without_returns file) e → TellsDefinitions file e
definitions_told file e h short none = record {
  definitions = h.definitions;
  rest = h.rest;
  lines = h.lines;
  allowed = may_of h.definitions h.allowed;
  off = h.off;
  stuck = (λ d next more here may. h.stuck d next more here (allowed_of (h.definitions ++ d ∷ more) may));
  told = h.told;
  ended = h.ended;
}

no_definitions_told : (how : ReadOptions) (file : List ℕ) (s : Section) (e : SpecError) → HasSection how (without_returns file) s → TellsDefinitions file e
no_definitions_told how file s e h short none = absurd (none h.definitions s.rest.now (h.lines, h.separator, may_of h.definitions h.allowed))

pub length_told : (file : List ℕ) (e : SpecError) → length file ≤ max_file_bytes → 1 ≤ e.line → TellsLength file e
length_told file e short line = (((λ none. absurd (omega (arith, none))), (λ long. absurd (omega arith))), (λ none. absurd (omega (arith, none))))

pub rest_refused : (s : Section) (text : List ℕ) (e : SpecError) → text ≡ (line_in s.rest.now).1 → UnlessMemory e.kind (IsRefused s.declarations (s.line + 1) text e) → UnlessMemory e.kind (IsRefusedRest s e)
rest_refused s text e is h = unless_memory e.kind (IsRefused s.declarations (s.line + 1) text e) (IsRefusedRest s e) (λ refused. record {
  none = (λ S r. refused.none r.items S.rules r.ends (subst (λ z. ItemsFrom (s.line + 1) z r.items) (sym is) r.here) r.are r.few_rules r.one_end);
  first = subst (λ z. IsFirstFault (names_in s.declarations) s.declarations.options s.declarations.stack s.declarations.definitions (s.line + 1) z e) is refused.first;
  line = omega (arith, refused.from_first);
}) h

-- the answers of the reader

abbrev File : Type 0
File = List ℕ

pub read_found : (r : Result SpecOfCode SpecError) (how : ReadOptions) (file kept : File) (s : Section) → length file ≤ max_file_bytes → kept ≡ without_returns file → HasSection how kept s
    → IfOk r (λ x. SpellsRest s (spec_of x)) → IfOk r (λ x. SpellsSpec how file (spec_of x))
read_found (Err e) how file kept s short is h rest = tt
read_found (Ok x) how file kept s short is h rest = spelled how file s (spec_of x) short (subst (λ z. HasSection how z s) is h) rest

pub read_none : (r : Result SpecOfCode SpecError) (how : ReadOptions) (file kept : File) (s : Section) → kept ≡ without_returns file → HasSection how kept s
    → IfErr r (λ e. UnlessMemory e.kind (IsRefusedRest s e)) → IfErr r (λ e. UnlessMemory e.kind ((S : Spec) → SpellsSpec how file S → ⊥))
read_none (Ok x) how file kept s is h rest = tt
read_none (Err e) how file kept s is h rest =
    unless_memory e.kind (IsRefusedRest s e) ((S : Spec) → SpellsSpec how file S → ⊥) (λ refused S k. refused.none S (rest_of how file s S (subst (λ z. HasSection how z s) is h) k)) rest

pub read_rules_told : (r : Result SpecOfCode SpecError) (how : ReadOptions) (file kept : File) (s : Section) → kept ≡ without_returns file → HasSection how kept s
    → IfErr r (λ e. UnlessMemory e.kind (IsRefusedRest s e)) → IfErr r (λ e. UnlessMemory e.kind (TellsRules how file e))
read_rules_told (Ok x) how file kept s is h rest = tt
read_rules_told (Err e) how file kept s is h rest =
    unless_memory e.kind (IsRefusedRest s e) (TellsRules how file e) (λ refused. tells_rules how file s e (subst (λ z. HasSection how z s) is h) refused.first) rest

pub read_definitions_told : (r : Result SpecOfCode SpecError) (how : ReadOptions) (file kept : File) (s : Section) → kept ≡ without_returns file → HasSection how kept s
    → IfErr r (λ e. UnlessMemory e.kind (TellsDefinitions file e))
read_definitions_told (Ok x) how file kept s is h = tt
read_definitions_told (Err e) how file kept s is h = always e.kind (TellsDefinitions file e) (no_definitions_told how file s e (subst (λ z. HasSection how z s) is h))

pub section_line_told : (file kept : File) (e : SpecError) → kept ≡ without_returns file → UnlessMemory e.kind (IsFaultyLine AreAllowed kept e) → UnlessMemory e.kind (TellsDefinitions file e)
section_line_told file kept e is h =
    unless_memory e.kind (IsFaultyLine AreAllowed kept e) (TellsDefinitions file e) (λ told. definitions_told file e (subst (λ z. IsFaultyLine AreAllowed z e) is told)) h

pub read_length_told : (r : Result SpecOfCode SpecError) (file : File) (s : Section) → length file ≤ max_file_bytes
    → IfErr r (λ e. UnlessMemory e.kind (IsRefusedRest s e)) → IfErr r (λ e. UnlessMemory e.kind (TellsLength file e))
read_length_told (Ok x) file s short rest = tt
read_length_told (Err e) file s short rest = unless_memory e.kind (IsRefusedRest s e) (TellsLength file e) (λ refused. length_told file e short refused.line) rest

pub section_told : (how : ReadOptions) (file kept : File) (e : SpecError) → kept ≡ without_returns file
    → UnlessMemory e.kind ((ds : List DefinitionLine) (after : List ℕ) → IsUpTo definition_at kept ds after → begins (codes "%%") after ≡ true → AreAllowed ds → ⊥)
    → UnlessMemory e.kind (TellsRules how file e)
section_told how file kept e is h =
    unless_memory e.kind ((ds : List DefinitionLine) (after : List ℕ) → IsUpTo definition_at kept ds after → begins (codes "%%") after ≡ true → AreAllowed ds → ⊥) (TellsRules how file e)
    (λ none. no_rules_told how file e (λ ds after up. none ds after (subst (λ z. IsUpTo definition_at z ds after) (sym is) up))) h

pub section_none : (how : ReadOptions) (file kept : File) (kind : SpecErrorKind) → kept ≡ without_returns file
    → UnlessMemory kind ((ds : List DefinitionLine) (after : List ℕ) → IsUpTo definition_at kept ds after → begins (codes "%%") after ≡ true → AreAllowed ds → ⊥)
    → UnlessMemory kind ((S : Spec) → SpellsSpec how file S → ⊥)
section_none how file kept kind is h =
    unless_memory kind ((ds : List DefinitionLine) (after : List ℕ) → IsUpTo definition_at kept ds after → begins (codes "%%") after ≡ true → AreAllowed ds → ⊥) ((S : Spec) → SpellsSpec how file S → ⊥)
    (λ none. no_section how file (λ ds after up. none ds after (subst (λ z. IsUpTo definition_at z ds after) (sym is) up))) h

-- the lines at which code was skipped

pub rest_skipped : (r : Result SpecOfCode SpecError) (s : Section) (x : RulesSection) (k : Skipped) (text : List ℕ) → text ≡ (line_in s.rest.now).1 → TellsPieces [] IsLine code_of_item (s.line + 1 + newlines text) text x.rest.now k → EndsRules x.rest.now
    → x.line + newlines x.rest.now ≡ s.line + 1 + newlines text
    → IfOk r (λ o. skipped_in o ≡ s.declarations.skipped.lines.items ++ k.lines.items ++ user_section x.line x.rest.now) → IfOk r (λ o. SkipsRest s (skipped_in o))
rest_skipped (Err e) s x k text is told over line lines = tt
rest_skipped (Ok o) s x k text is told over line lines =
    let items = told.pieces in
    let counts : newlines text ≡ newlines (line_in s.rest.now).1 = ap newlines is in
    let place : x.line ≡ s.line + 1 + newlines (line_in s.rest.now).1 - newlines x.rest.now = omega (arith, line, counts) in
    record {
      items = items;
      rest = x.rest.now;
      pieces = subst (λ z. AreFrom IsLine (s.line + 1) z items x.rest.now) is told.numbered;
      stops = over;
      lines_are = lines ∙ ap (λ z. s.declarations.skipped.lines.items ++ z ++ user_section x.line x.rest.now) (lines_told (flat_map code_of_item items) k told.told)
          ∙ ap (λ z. s.declarations.skipped.lines.items ++ told_lines 0 (flat_map code_of_item items) ++ user_section z x.rest.now) place;
    }

skipped_all : (how : ReadOptions) (file lines : List ℕ) (s : Section) → HasSection how (without_returns file) s → SkipsRest s lines → AreSkipped file lines
skipped_all how file lines s h r =
    let definitions = h.code.pieces in
    let count : s.line + newlines s.rest.now ≡ 1 + newlines file = omega (arith, h.line, newlines_kept file) in
    let line : s.line + 1 ≡ 2 + newlines file - newlines s.rest.now = omega (arith, h.line, newlines_kept file) in
    record {
      definitions = definitions;
      items = all_as r.items;
      rest = r.rest;
      sections = cut_by _ _ (without_returns file) definitions s.rest.now (subst (λ z. IsReadAs (λ t. definition_at t >>= λ (d, rest). Some ((1 + z - newlines t, d), rest)) (λ t. t ≡ s.rest.now) (without_returns file) definitions)
          (newlines_kept file) (numbered_lines (1 + newlines (without_returns file)) (without_returns file) definitions s.rest.now h.code.numbered)) (
            h.separator,
            subst (λ z. AreItems z (line_in s.rest.now).1 (all_as r.items) r.rest) line
                (numbered_items (s.line + 1 + newlines (line_in s.rest.now).1) (s.line + 1) (line_in s.rest.now).1 r.items r.rest refl r.stops r.pieces),
          );
      lines_are = r.lines_are ∙ ap (λ z. z ++ told_lines 0 (flat_map code_of_item r.items) ++ user_section (s.line + 1 + newlines (line_in s.rest.now).1 - newlines r.rest) r.rest)
          (lines_told (flat_map code_of_definition definitions) s.declarations.skipped h.code.told)
          ∙ ap (λ z. told_lines 0 (flat_map code_of_definition definitions) ++ told_lines 0 (flat_map code_of_item r.items) ++ z)
          (user_line s.line (s.line + 1 + newlines (line_in s.rest.now).1) (1 + newlines file) s.rest.now r.items r.rest count r.pieces)
          ∙ ap (λ z. told_lines 0 (flat_map code_of_definition definitions) ++ told_lines 0 z ++ user_section (1 + newlines file - newlines r.rest) r.rest) (same_code r.items);
    }

pub all_skipped : (r : Result SpecOfCode SpecError) (how : ReadOptions) (file kept : File) (s : Section) → kept ≡ without_returns file → HasSection how kept s
    → IfOk r (λ x. SkipsRest s (skipped_in x)) → IfOk r (λ x. AreSkipped file (skipped_in x))
all_skipped (Err e) how file kept s is h rest = tt
all_skipped (Ok x) how file kept s is h rest = skipped_all how file (skipped_in x) s (subst (λ z. HasSection how z s) is h) rest
