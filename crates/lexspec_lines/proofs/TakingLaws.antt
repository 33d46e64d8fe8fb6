-- What one line more declares.
use Rattle.std.proofs.Common.{◌≡◌, ℕ, ◌||◌, ◌&&◌, Bool, true, false, List, [], ◌∷◌, ◌++◌, map, cond, Option, Some, None, is_some, refl, sym, ap, subst, ◌∙◌, append-nil, rules}
use Rattle.std.specs.Prelude.{nat_eq, codes, IsSome}
use Rattle.std.specs.Cmp.Lexicographic.{slice_cmp, nat_list_cmp_total, lists_ties}
use Rattle.std.specs.FinMap as map
use Rattle.std.specs.FinMap.{from_entries}
use Rattle.std.specs.FinMap.Entries.{find}
use Rattle.std.specs.Ordering.{nat_cmp, eq_by_cmp}
use Rattle.std.proofs.lemmas.Bool.{and_parts, and_from}
use Rattle.std.proofs.lemmas.List.{map-append, append_assoc}
use Rattle.lex_semantics.specs.ByteSets.{same_bytes}
use Rattle.lexre.specs.Definitions.{Definitions}
use Rattle.lexre.specs.declared.options.ReadOptions.{ReadOptions}
use Rattle.lexspec_lines.specs.DefinitionLines.{DefinitionLine, code_line, code_block, declares, options, ignored, defines, all_conditions, has_name, substitutes_of, all_options, known_options}
use Rattle.lexspec_lines.specs.Declaring.{Declared, declared, are_distinct}
use Rattle.lexspec_lines.specs.DefinitionViews.{are_known}
use Rattle.lexspec_lines.specs.Declaring.{declared_of, with_kind, AreGood, AreAllowed, Declares}
use Rattle.lexspec_lines.specs.Folding.{with_fold}
use Rattle.lexspec_lines.specs.declared.declarations.Declarations.{Declarations}
use Rattle.lexspec_lines.proofs.OneSection.{no_true}
use Rattle.lexspec_lines.proofs.DeclaringLaws.{word_same, word_is, word_other, has_append, distinct_push, distinct_taken}

-- what is declared by one part and by another

pub declared_append : (ds es : List DefinitionLine) → declared (ds ++ es) ≡ declared ds ++ declared es
declared_append [] es = refl
declared_append (code_line ∷ ds) es = declared_append ds es
declared_append (code_block ∷ ds) es = declared_append ds es
declared_append (declares exclusive names ∷ ds) es =
    ap (λ z. with_kind exclusive names ++ z) (declared_append ds es) ∙ sym (append_assoc (with_kind exclusive names) (declared ds) (declared es))
declared_append (options ws ∷ ds) es = declared_append ds es
declared_append (ignored ∷ ds) es = declared_append ds es
declared_append (defines name text ∷ ds) es = declared_append ds es

pub conditions_append : (ds es : List DefinitionLine) → all_conditions (ds ++ es) ≡ all_conditions ds ++ declared es
conditions_append ds es = ap (λ z. (false, codes "INITIAL") ∷ z) (declared_append ds es)

pub substitutes_append : (ds es : List DefinitionLine) → substitutes_of (ds ++ es) ≡ substitutes_of ds ++ substitutes_of es
substitutes_append [] es = refl
substitutes_append (code_line ∷ ds) es = substitutes_append ds es
substitutes_append (code_block ∷ ds) es = substitutes_append ds es
substitutes_append (declares exclusive names ∷ ds) es = substitutes_append ds es
substitutes_append (options ws ∷ ds) es = substitutes_append ds es
substitutes_append (ignored ∷ ds) es = substitutes_append ds es
substitutes_append (defines name text ∷ ds) es = ap (λ z. (name, text) ∷ z) (substitutes_append ds es)

pub options_append : (ds es : List DefinitionLine) → all_options (ds ++ es) ≡ all_options ds ++ all_options es
options_append [] es = refl
options_append (code_line ∷ ds) es = options_append ds es
options_append (code_block ∷ ds) es = options_append ds es
options_append (declares exclusive names ∷ ds) es = options_append ds es
options_append (options ws ∷ ds) es = ap (λ z. ws ++ z) (options_append ds es) ∙ sym (append_assoc ws (all_options ds) (all_options es))
options_append (ignored ∷ ds) es = options_append ds es
options_append (defines name text ∷ ds) es = options_append ds es

and_assoc : (a b c : Bool) → ((a && b) && c) ≡ (a && (b && c))
and_assoc true b c = refl
and_assoc false b c = refl

known_append : (vs ws : List (List ℕ)) → are_known (vs ++ ws) ≡ (are_known vs && are_known ws)
known_append [] ws = refl
known_append (v ∷ vs) ws = ap (λ z. has_name known_options v && z) (known_append vs ws) ∙ sym (and_assoc (has_name known_options v) (are_known vs) (are_known ws))

abbrev pub firsts : List (List ℕ × List ℕ) → List (List ℕ)
firsts es = map (λ (d : List ℕ × List ℕ). d.0) es

or_assoc : (a b c : Bool) → (a || (b || c)) ≡ ((a || b) || c)
or_assoc true b c = refl
or_assoc false b c = refl

-- the line adds this to what is kept
pub record Adds (ds : List DefinitionLine) (d : DefinitionLine) (old new : Declarations) : Type 0 where
  pub conditions : map declared_of new.conditions.items ≡ map declared_of old.conditions.items ++ declared (d ∷ [])
  pub definitions : new.definitions ≡ from_entries (substitutes_of ds ++ substitutes_of (d ∷ []))
  pub reads : new.options ≡ with_fold old.options (has_name (all_options (d ∷ [])) (codes "case-insensitive"))
  pub stacks : new.stack ≡ (old.stack || has_name (all_options (d ∷ [])) (codes "stack"))

-- the same way of reading, but for this
abbrev with_folds : ReadOptions → Bool → ReadOptions
with_folds how fold = record { fold = fold; posix = how.posix }

adds_declares : (how : ReadOptions) (ds : List DefinitionLine) (d : DefinitionLine) (old new : Declarations) → Adds ds d old new → Declares how ds old → Declares how (ds ++ d ∷ []) new
adds_declares how ds d old new a h = record {
  conditions = a.conditions ∙ ap (λ z. z ++ declared (d ∷ [])) h.conditions ∙ sym (conditions_append ds (d ∷ []));
  definitions = a.definitions ∙ ap from_entries (sym (substitutes_append ds (d ∷ [])));
  reads = a.reads ∙ ap (λ z. with_fold z (has_name (all_options (d ∷ [])) (codes "case-insensitive"))) h.reads
      ∙ ap (λ z. with_folds how z) (sym (or_assoc how.fold (has_name (all_options ds) (codes "case-insensitive")) (has_name (all_options (d ∷ [])) (codes "case-insensitive"))))
      ∙ ap (with_fold how) (sym (has_append (all_options ds) (all_options (d ∷ [])) (codes "case-insensitive")) ∙ ap (λ z. has_name z (codes "case-insensitive")) (sym (options_append ds (d ∷ []))));
  stacks = a.stacks ∙ ap (λ z. z || has_name (all_options (d ∷ [])) (codes "stack")) h.stacks
      ∙ sym (has_append (all_options ds) (all_options (d ∷ [])) (codes "stack")) ∙ ap (λ z. has_name z (codes "stack")) (sym (options_append ds (d ∷ [])));
}

adds_allowed : (ds : List DefinitionLine) (d : DefinitionLine) → AreGood (all_conditions ds ++ declared (d ∷ [])) → are_distinct (firsts (substitutes_of ds ++ substitutes_of (d ∷ []))) ≡ true
    → are_known (all_options ds) ≡ true → are_known (all_options (d ∷ [])) ≡ true → AreAllowed (ds ++ d ∷ [])
adds_allowed ds d good once known more = (
  subst AreGood (sym (conditions_append ds (d ∷ []))) good,
  ap (λ z. are_distinct (firsts z)) (substitutes_append ds (d ∷ [])) ∙ once,
  ap are_known (options_append ds (d ∷ [])) ∙ known_append (all_options ds) (all_options (d ∷ [])) ∙ and_from (are_known (all_options ds)) (are_known (all_options (d ∷ []))) known more,
)

or_none : (b : Bool) → (b || false) ≡ b
or_none true = refl
or_none false = refl

none_asked : (how : ReadOptions) → with_fold how false ≡ how
none_asked how = ap (with_folds how) (or_none how.fold)

-- a line that declares nothing
pub adds_nothing : (d : DefinitionLine) → (declared (d ∷ []) ≡ []) → (substitutes_of (d ∷ []) ≡ []) → (all_options (d ∷ []) ≡ []) → (how : ReadOptions) (ds : List DefinitionLine) (old new : Declarations)
    → new.conditions.items ≡ old.conditions.items → new.definitions ≡ old.definitions → new.options ≡ old.options → new.stack ≡ old.stack → Declares how ds old → AreAllowed ds → Declares how (ds ++ d ∷ []) new × AreAllowed (ds ++ d ∷ [])
adds_nothing d none no_name no_option how ds old new conditions definitions reads stacks h allowed = (
  adds_declares how ds d old new (record {
    conditions = ap (map declared_of) conditions ∙ sym (append-nil (map declared_of old.conditions.items)) ∙ ap (λ z. map declared_of old.conditions.items ++ z) (sym none);
    definitions = definitions ∙ h.definitions ∙ ap from_entries (sym (append-nil (substitutes_of ds)) ∙ ap (λ z. substitutes_of ds ++ z) (sym no_name));
    reads = reads ∙ sym (none_asked old.options) ∙ ap (λ z. with_fold old.options (has_name z (codes "case-insensitive"))) (sym no_option);
    stacks = stacks ∙ sym (or_none old.stack) ∙ ap (λ z. old.stack || has_name z (codes "stack")) (sym no_option);
  }) h,
  adds_allowed ds d (subst AreGood (sym (append-nil (all_conditions ds)) ∙ ap (λ z. all_conditions ds ++ z) (sym none)) allowed.0)
      (ap (λ z. are_distinct (firsts (substitutes_of ds ++ z))) no_name ∙ ap (λ z. are_distinct (firsts z)) (append-nil (substitutes_of ds)) ∙ allowed.1) allowed.2 (ap are_known no_option),
)

-- a line that declares conditions
pub adds_conditions : (exclusive : Bool) (names : List (List ℕ)) (how : ReadOptions) (ds : List DefinitionLine) (old new : Declarations)
    → map declared_of new.conditions.items ≡ map declared_of old.conditions.items ++ with_kind exclusive names → new.definitions ≡ old.definitions → new.options ≡ old.options → new.stack ≡ old.stack → AreGood (map declared_of new.conditions.items)
    → Declares how ds old → AreAllowed ds → Declares how (ds ++ declares exclusive names ∷ []) new × AreAllowed (ds ++ declares exclusive names ∷ [])
adds_conditions exclusive names how ds old new conditions definitions reads stacks good h allowed =
    let all : with_kind exclusive names ≡ declared (declares exclusive names ∷ []) = sym (append-nil (with_kind exclusive names)) in
    let same : map declared_of new.conditions.items ≡ all_conditions ds ++ declared (declares exclusive names ∷ []) =
    conditions ∙ ap (λ z. z ++ with_kind exclusive names) h.conditions ∙ ap (λ z. all_conditions ds ++ z) all in (
      adds_declares how ds (declares exclusive names) old new (record {
        conditions = conditions ∙ ap (λ z. map declared_of old.conditions.items ++ z) all;
        definitions = definitions ∙ h.definitions ∙ ap from_entries (sym (append-nil (substitutes_of ds)));
        reads = reads ∙ sym (none_asked old.options);
        stacks = stacks ∙ sym (or_none old.stack);
      }) h,
      adds_allowed ds (declares exclusive names) (subst AreGood same good) (ap (λ z. are_distinct (firsts z)) (append-nil (substitutes_of ds)) ∙ allowed.1) allowed.2 refl,
    )

pub refused_conditions : (exclusive : Bool) (names : List (List ℕ)) (old : Declarations) → ((more : List Declared) → AreGood (map declared_of old.conditions.items ++ with_kind exclusive names ++ more) → ⊥)
    → (how : ReadOptions) (ds more : List DefinitionLine) → Declares how ds old → AreAllowed (ds ++ declares exclusive names ∷ more) → ⊥
refused_conditions exclusive names old none how ds more h allowed =
    let same : all_conditions (ds ++ declares exclusive names ∷ more) ≡ map declared_of old.conditions.items ++ with_kind exclusive names ++ declared more =
    conditions_append ds (declares exclusive names ∷ more) ∙ ap (λ z. z ++ (with_kind exclusive names ++ declared more)) (sym h.conditions)
    ∙ sym (append_assoc (map declared_of old.conditions.items) (with_kind exclusive names) (declared more)) in
    none (declared more) (subst AreGood same allowed.0)

-- a line of options
pub adds_options : (ws : List (List ℕ)) (how : ReadOptions) (ds : List DefinitionLine) (old new : Declarations) → new.conditions.items ≡ old.conditions.items → new.definitions ≡ old.definitions
    → new.options ≡ with_fold old.options (has_name ws (codes "case-insensitive")) → new.stack ≡ (old.stack || has_name ws (codes "stack")) → are_known ws ≡ true → Declares how ds old → AreAllowed ds
    → Declares how (ds ++ options ws ∷ []) new × AreAllowed (ds ++ options ws ∷ [])
adds_options ws how ds old new conditions definitions reads stacks known h allowed =
    let all : ws ≡ all_options (options ws ∷ []) = sym (append-nil ws) in (
      adds_declares how ds (options ws) old new (record {
        conditions = ap (map declared_of) conditions ∙ sym (append-nil (map declared_of old.conditions.items));
        definitions = definitions ∙ h.definitions ∙ ap from_entries (sym (append-nil (substitutes_of ds)));
        reads = reads ∙ ap (λ z. with_fold old.options (has_name z (codes "case-insensitive"))) all;
        stacks = stacks ∙ ap (λ z. old.stack || has_name z (codes "stack")) all;
      }) h,
      adds_allowed ds (options ws) (subst AreGood (sym (append-nil (all_conditions ds))) allowed.0) (ap (λ z. are_distinct (firsts z)) (append-nil (substitutes_of ds)) ∙ allowed.1) allowed.2
          (ap are_known (sym all) ∙ known),
    )

pub refused_options : (ws : List (List ℕ)) → are_known ws ≡ false → (ds more : List DefinitionLine) → AreAllowed (ds ++ options ws ∷ more) → ⊥
refused_options ws unknown ds more allowed =
    let all = sym (ap are_known (options_append ds (options ws ∷ more)) ∙ known_append (all_options ds) (ws ++ all_options more)) ∙ allowed.2 in
    let here = sym (known_append ws (all_options more)) ∙ (and_parts (are_known (all_options ds)) (are_known (ws ++ all_options more)) all).1 in
    no_true (sym unknown ∙ (and_parts (are_known ws) (are_known (all_options more)) here).0)

-- a definition of a name

nat_ties : (x y : ℕ) → nat_eq x y ≡ eq_by_cmp nat_cmp x y
nat_ties x y = search rules

word_turned : (v w : List ℕ) → same_bytes v w ≡ same_bytes w v
word_turned v w = from (same_bytes w v) refl
  where
    from : (b : Bool) → same_bytes w v ≡ b → same_bytes v w ≡ same_bytes w v
    from true e = (ap (same_bytes v) (word_is w v e) ∙ word_same v) ∙ sym e
    from false e = word_other w v e ∙ sym e

found_by_name : (es : List (List ℕ × List ℕ)) (name : List ℕ) → is_some (find (slice_cmp nat_cmp) name es) ≡ has_name (firsts es) name
found_by_name [] name = refl
found_by_name (e ∷ es) name =
    let same : eq_by_cmp (slice_cmp nat_cmp) name e.0 ≡ same_bytes e.0 name = sym (lists_ties nat_cmp nat_ties name e.0) ∙ word_turned name e.0 in
    ap (λ b. is_some (cond b (Some e.1) (find (slice_cmp nat_cmp) name es))) same ∙ rest (same_bytes e.0 name) (found_by_name es name)
  where
    rest : (b : Bool) → is_some (find (slice_cmp nat_cmp) name es) ≡ has_name (firsts es) name → is_some (cond b (Some e.1) (find (slice_cmp nat_cmp) name es)) ≡ (b || has_name (firsts es) name)
    rest true later = refl
    rest false later = later

name_there : (es : List (List ℕ × List ℕ)) (m : Definitions) (name : List ℕ) → m ≡ from_entries es → is_some (map.get m name) ≡ has_name (firsts es) name
name_there es m name e = ap (λ z. is_some (map.get z name)) e ∙ ap is_some (map.get-from_entries nat_list_cmp_total es name) ∙ found_by_name es name

pub refused_name : (name text : List ℕ) (old : Declarations) → IsSome (map.get old.definitions name) → (how : ReadOptions) (ds more : List DefinitionLine) → Declares how ds old
    → AreAllowed (ds ++ defines name text ∷ more) → ⊥
refused_name name text old there how ds more h allowed =
    let taken : has_name (firsts (substitutes_of ds)) name ≡ true = sym (name_there (substitutes_of ds) old.definitions name h.definitions) ∙ there in
    let names : firsts (substitutes_of (ds ++ defines name text ∷ more)) ≡ firsts (substitutes_of ds) ++ name ∷ firsts (substitutes_of more) =
    ap firsts (substitutes_append ds (defines name text ∷ more)) ∙ map-append (λ (d : List ℕ × List ℕ). d.0) (substitutes_of ds) ((name, text) ∷ substitutes_of more) in
    distinct_taken (firsts (substitutes_of ds)) (firsts (substitutes_of more)) name taken (sym (ap are_distinct names) ∙ allowed.1)

none_if : {A : Type 0} (o : Option A) → is_some o ≡ false → o ≡ None
none_if None e = refl
none_if (Some x) e = no_true (sym e)

pub adds_name : (name text : List ℕ) (how : ReadOptions) (ds : List DefinitionLine) (old new : Declarations) → new.conditions.items ≡ old.conditions.items → new.options ≡ old.options → new.stack ≡ old.stack
    → new.definitions ≡ map.insert old.definitions name text → (IsSome (map.get old.definitions name) → ⊥) → Declares how ds old → AreAllowed ds
    → Declares how (ds ++ defines name text ∷ []) new × AreAllowed (ds ++ defines name text ∷ [])
adds_name name text how ds old new conditions reads stacks definitions free h allowed =
    let entries = substitutes_of ds in
    let off : is_some (map.get old.definitions name) ≡ false = not_so (is_some (map.get old.definitions name)) free in
    let out : has_name (firsts entries) name ≡ false = sym (name_there entries old.definitions name h.definitions) ∙ off in
    let none : find (slice_cmp nat_cmp) name entries ≡ None = none_if (find (slice_cmp nat_cmp) name entries) (found_by_name entries name ∙ out) in (
      adds_declares how ds (defines name text) old new (record {
        conditions = ap (map declared_of) conditions ∙ sym (append-nil (map declared_of old.conditions.items));
        definitions = definitions ∙ ap (λ z. map.insert z name text) h.definitions
            ∙ sym (map.from_entries_push nat_list_cmp_total (map.slice_cmp-IsAntisymmetric map.nat_cmp-IsAntisymmetric) entries name text none);
        reads = reads ∙ sym (none_asked old.options);
        stacks = stacks ∙ sym (or_none old.stack);
      }) h,
      adds_allowed ds (defines name text) (subst AreGood (sym (append-nil (all_conditions ds))) allowed.0)
          (ap are_distinct (map-append (λ (d : List ℕ × List ℕ). d.0) entries ((name, text) ∷ [])) ∙ distinct_push (firsts entries) name allowed.1 out) allowed.2 refl,
    )
  where
    not_so : (b : Bool) → (b ≡ true → ⊥) → b ≡ false
    not_so true h = absurd (h refl)
    not_so false h = refl
