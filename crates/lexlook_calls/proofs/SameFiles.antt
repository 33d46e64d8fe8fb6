-- What it says of two files that nothing is told of them, and of which files nothing is told.
use Rattle.std.proofs.Common.{◌≡◌, ℕ, zero, suc, ◌<◌, Bool, true, false, ◌&&◌, List, [], ◌∷◌, ◌++◌, length, map, Option, Some, None, refl, sym, ◌∙◌, ap, subst, arith, codes}
use Rattle.std.specs.Prelude.{not, slice_get}
use Rattle.std.proofs.lemmas.Map.Keys.{any_passes_from_place}
use Rattle.lex_semantics.specs.ByteSets.{same_bytes}
use Rattle.lex_semantics.specs.Spec.{Spec, Statement, Echo, Print, Begin, More, Less, Reject, End, Push, Pop}
use Rattle.lex_semantics.specs.Machine.{Machine, state_after}
use Rattle.lexspec.specs.Files.{SpellsSpec}
use Rattle.lexspec.specs.Endings.{conditions_with}
use Rattle.lexspec.proofs.FileSections.{conditions_are}
use Rattle.lexspec.specs.RuleItems.{EndRule}
use Rattle.lexspec_lines.specs.Declaring as D
use Rattle.lexspec_lines.proofs.DeclaringLaws.{distinct_test}
use Rattle.lexspec_lines.specs.DefinitionLines.{has_name, all_conditions}
use Rattle.lexspec_lines.specs.Declaring.{Declared, are_distinct}
use Rattle.lextab_packed.specs.Table.{Table}
use Rattle.lextab_packed.specs.Checks.{IsTable}
use Rattle.lextab_packed.specs.Invariant.{GoesOn}
use Rattle.lextab_file.specs.File.{file_of}
use Rattle.lexkit.specs.Headline.{reading}
use Rattle.lexkit.specs.declared.options.Options.{Options}
use Rattle.lexkit.proofs.FileScanned.{one_list_of_flags, same_machine}
use Rattle.lexlook_tables.specs.Same.{number_in, renumbered, deed_of, deed_in, is_single, rules_at}
use Rattle.lexlook_tables.specs.Comparing.{Compares}
use Rattle.lexlook_tables.specs.Scans.{BeginTogether}
use Rattle.lexlook_tables.specs.declared.same.tables.Comparison.{Comparison}
use Rattle.lexlook_tables.specs.declared.same.tables.Comparison.TheVariants.{Same, Conditions, Ends, Texts}
use Rattle.lexlook_calls.specs.Compared.{HoldsOfSides}
use Rattle.lexlook_calls.specs.Looks.{names_of}
use Rattle.lexlook_calls.specs.Naming.{AreNamed, ArePaired}
use Rattle.lexlook_calls.specs.SameFiles.{SameScanAlike, EqualAreSame}
use Rattle.lexlook_calls.specs.Sides.{StandsFor, is_table_file}

-- the names of a specification's conditions are those that it declares
names_with : (k : ℕ) (cs : List Declared) (ends : List EndRule) → names_of (conditions_with k cs ends) ≡ D.names_of cs
names_with k [] ends = refl
names_with k (c ∷ cs) ends = ap (λ l. c.1 ∷ l) (names_with (suc k) cs ends)

abbrev initial : List ℕ
initial = codes "INITIAL"

is_itself : same_bytes initial initial ≡ true
is_itself = refl

not_both : (b c : Bool) → b ≡ true → not b && c ≡ true → ⊥
not_both true c e f = cc
not_both false c e f = cc

-- of distinct names the first one stands first alone
stands_first : (ns : List (List ℕ)) (i : ℕ) → are_distinct (initial ∷ ns) ≡ true → slice_get (initial ∷ ns) i ≡ Some initial → i ≡ 0
stands_first ns zero distinct at = refl
stands_first ns (suc i) distinct at = absurd (not_both (has_name ns initial) (are_distinct ns) (any_passes_from_place (λ n. same_bytes n initial) ns i initial at is_itself) distinct)

-- INITIAL has the number 0 in each specification
begins : (options : Options) (x y : List ℕ) (S T : Spec) (order : List ℕ) → SpellsSpec (reading options) x S → SpellsSpec (reading options) y T → AreNamed (names_of S.conditions) (names_of T.conditions) order → BeginTogether order
begins options x y S T order p q named = stands_first (D.names_of (D.declared q.definitions)) (number_in order 0) (distinct_test (initial ∷ D.names_of (D.declared q.definitions)) q.names) at
  where
    names : (options' : Options) (z : List ℕ) (U : Spec) (r : SpellsSpec (reading options') z U) → names_of U.conditions ≡ initial ∷ D.names_of (D.declared r.definitions)
    names options' z U r = ap names_of (r.conditions ∙ conditions_are 0 (all_conditions r.definitions) r.ends) ∙ names_with 0 (all_conditions r.definitions) r.ends

    some : 0 < length (names_of S.conditions)
    some = subst (λ l. 0 < length l) (sym (names options x S p)) (omega arith)

    at : slice_get (initial ∷ D.names_of (D.declared q.definitions)) (number_in order 0) ≡ Some initial
    at = ap (λ l. slice_get l (number_in order 0)) (sym (names options y T q)) ∙ named.named 0 some ∙ ap (λ l. slice_get l 0) (names options x S p)

pub same_scan_alike : SameScanAlike
same_scan_alike options g h a b order p q holds = holds.1.scan (together a.given b.given a.machine b.machine p.stands q.stands holds.0)
  where
    by_number : order ≡ [] → BeginTogether order
    by_number e = ap (λ o. number_in o 0) e

    together : (s t : Option Spec) (M N : Machine) → StandsFor options g.bytes.now M s → StandsFor options h.bytes.now N t → ArePaired s t order → BeginTogether order
    together (Some S) (Some T) M N x y named = begins options g.bytes.now h.bytes.now S T order x.1 y.1 named
    together (Some S) None M N x y e = by_number e
    together None t M N x y e = by_number e

-- a machine does the same as itself

own_statement : (s : Statement) → renumbered [] s ≡ s
own_statement Echo = refl
own_statement (Print bytes) = refl
own_statement (Begin c) = refl
own_statement More = refl
own_statement (Less n) = refl
own_statement Reject = refl
own_statement (End status) = refl
own_statement (Push c) = refl
own_statement Pop = refl

own_statements : (ss : List Statement) → map (renumbered []) ss ≡ ss
own_statements [] = refl
own_statements (s ∷ ss) = ap (λ z. z ∷ map (renumbered []) ss) (own_statement s) ∙ ap (λ l. s ∷ l) (own_statements ss)

own_deeds : (M : Machine) (is : List ℕ) → map (deed_in [] M) is ≡ map (deed_of M) is
own_deeds M [] = refl
own_deeds M (i ∷ is) = ap (λ ss. (record { cut = (deed_of M i).cut; statements = ss }) ∷ map (deed_in [] M) is) (own_statements (deed_of M i).statements) ∙ ap (λ l. deed_of M i ∷ l) (own_deeds M is)

same_as_itself : (M : Machine) (told : Comparison) → Compares [] M M told → (told ≡ Conditions → ⊥) → told ≡ Same
same_as_itself M Same c other = refl
same_as_itself M Conditions c other = absurd (other refl)
same_as_itself M (Ends d) c other = absurd (c.1.1 refl)
same_as_itself M (Texts d) c other = absurd (c.2.differ (own_deeds M (rules_at (is_single d.text.items) M (state_after M d.condition d.line_start d.text.items))))

module _ (one_table : (t u : Table) (x y : List ℕ) → IsTable t → IsTable u → file_of t ++ x ≡ file_of u ++ y → (t ≡ u) × (x ≡ y)) where
  -- the bytes of a table file stand for one machine
  one_machine : (options : Options) (bytes : List ℕ) (M N : Machine) → StandsFor options bytes M None → StandsFor options bytes N None → M ≡ N
  one_machine options bytes M N p q = p.5 ∙ same_machine p.1 q.1 p.3 q.3 table (one_list_of_flags q.1 p.3 q.3 (subst (λ t. GoesOn t p.3) table p.4) q.4) ∙ sym q.5
    where
      table : p.1 ≡ q.1
      table = (one_table p.1 q.1 [] [] p.2.0 q.2.0 (ap (λ l. l ++ []) (sym p.2.1 ∙ q.2.1))).0

  pub equal_are_same : EqualAreSame
  equal_are_same options g h a b order told file equal p q holds = by a.given b.given a.machine b.machine p.stands (subst (λ z. StandsFor options z b.machine b.given) (sym equal) q.stands) told holds
    where
      not_file : is_table_file g.bytes.now ≡ false → ⊥
      not_file e = (let f : true ≡ false = sym file ∙ e in cc)

      by : (s t : Option Spec) (M N : Machine) → StandsFor options g.bytes.now M s → StandsFor options g.bytes.now N t → (c : Comparison) → HoldsOfSides (record { name = a.name; machine = M; given = s }) (record { name = b.name; machine = N; given = t }) order c → c ≡ Same
      by (Some S) t M N x y c held = absurd (not_file x.0)
      by None (Some T) M N x y c held = absurd (not_file y.0)
      by None None M N x y Same held = refl
      by None None M N x y Conditions held = absurd (held [] refl (ap (λ (L : Machine). L.conditions) (one_machine options g.bytes.now M N x y)))
      by None None M N x y (Ends d) held = same_as_itself M (Ends d) (subst (λ o. Compares o M M (Ends d)) held.0 (subst (λ L. Compares order M L (Ends d)) (sym (one_machine options g.bytes.now M N x y)) held.1)) (λ e. absurd cc)
      by None None M N x y (Texts d) held = same_as_itself M (Texts d) (subst (λ o. Compares o M M (Texts d)) held.0 (subst (λ L. Compares order M L (Texts d)) (sym (one_machine options g.bytes.now M N x y)) held.1)) (λ e. absurd cc)
