-- What is told of a scan.
use Rattle.std.proofs.Common.{◌≡◌, ◌∙◌, ◌≤◌, ◌<◌, ◌^◌, ℕ, true, List, [], ◌++◌, length, Err, inl, inr, refl, sym, ap, subst, arith}
use Rattle.std.specs.Prelude.{◌&&◌, nat_le}
use Rattle.std.proofs.lemmas.Bool.{and_parts, leb-true}
use Rattle.lex_semantics.specs.Acting.{Status}
use Rattle.lex_semantics.specs.Limits.{max_conditions, max_rules}
use Rattle.lex_semantics.specs.Machine.{Machine, rules_of_machine}
use Rattle.lex_semantics.specs.Rules.{rules_of}
use Rattle.lex_semantics.specs.Spec.{Spec}
use Rattle.lex_semantics.specs.Sound.{IsSound}
use Rattle.lex_semantics.specs.TableFor.{TableFor}
use Rattle.lex_semantics.specs.Text.{IsText}
use Rattle.lexspec.specs.Tests.{is_sound, sound_conditions, sound_rules}
use Rattle.lextab_packed.specs.FlatViews.{tables_of}
use Rattle.lextab_packed.specs.Machines.{laws_of, table_machine}
use Rattle.lextab_packed.specs.declared.flat.Flat.{Flat}
use Rattle.lexscan.proofs.Tables.{table_tokens}
use Rattle.lexscan.specs.Tokens.{Stopped, Tokenised}
use Rattle.lexscan.specs.declared.token.Token.{Token}
use Rattle.lexscan_window.specs.Reads.{write_fault_count}
use Rattle.lexscan_window.specs.declared.error.RunError.{RunError}
use Rattle.lexscan_window.specs.declared.error.RunError.TheVariants as runs
use Rattle.lexspec.specs.Files.{SpellsSpec}
use Rattle.lexkit.specs.Generated.{SpecRefusal}
use Rattle.lexkit.specs.Headline.{Refusal, reading}
use Rattle.lexkit.specs.ScanCounts.{write_faults}
use Rattle.lexkit.specs.declared.errors.GenError.{GenError}
use Rattle.lexkit.specs.declared.errors.GenError.TheVariants as gens
use Rattle.lexkit.specs.declared.errors.ScanError.TheVariants.{Run}
use Rattle.lexkit.specs.declared.options.Options.{Options}
use Rattle.lexlook_suites.specs.Told.{Stops, TellsOf}
use Rattle.lexauto_dfa.specs.declared.dfa.Parts.{Parts}

-- ---- limits

few : (S : Spec) → is_sound S ≡ true → (length S.conditions ≤ max_conditions) × (length S.rules ≤ max_rules)
few S h =
    let a = nat_le 1 (length S.conditions) in
    let b = nat_le (length S.conditions) max_conditions in
    let d = nat_le (length S.rules) max_rules in
    let four = and_parts (a && b && d && sound_conditions S.conditions) (sound_rules (length S.conditions) S.rules) h in
    let three = and_parts (a && b && d) (sound_conditions S.conditions) four.0 in
    let two = and_parts (a && b) d three.0 in
    let one = and_parts a b two.0 in
    (leb-true (length S.conditions) max_conditions one.1, leb-true (length S.rules) max_rules two.1)

pub some_conditions : (S : Spec) → is_sound S ≡ true → 1 ≤ length S.conditions
some_conditions S h =
    let a = nat_le 1 (length S.conditions) in
    let b = nat_le (length S.conditions) max_conditions in
    let d = nat_le (length S.rules) max_rules in
    let four = and_parts (a && b && d && sound_conditions S.conditions) (sound_rules (length S.conditions) S.rules) h in
    let three = and_parts (a && b && d) (sound_conditions S.conditions) four.0 in
    let two = and_parts (a && b) d three.0 in
    leb-true 1 (length S.conditions) (and_parts a b two.0).0

pub few_rules : (S : Spec) → is_sound S ≡ true → length S.rules < 2 ^ 32
few_rules S h = let low = (few S h).1 in omega (arith, low)

pub few_conditions : (S : Spec) → is_sound S ≡ true → length S.conditions < 256
few_conditions S h = let low = (few S h).0 in omega (arith, low)

-- ---- the scan

module _ (S : Spec) (sound : IsSound S) (K : Machine) (table : TableFor K S) (f : Flat) (is : table_machine (tables_of f) ≡ K) (x : List ℕ) (old new : List Token) (empty : old ≡ []) where
  table_is : TableFor (table_machine (tables_of f)) S
  table_is = subst (λ (M : Machine). TableFor M S) (sym is) table

  all_new : (us : List Token) → new ≡ old ++ us → us ≡ new
  all_new us e = sym (e ∙ ap (λ (l : List Token). l ++ us) empty)

  pub scanned_by : (status : ℕ) → IsText x → (us : List Token) × (new ≡ old ++ us) × Tokenised (rules_of_machine (table_machine (tables_of f))) x us (Status status) → Tokenised (rules_of S) x new (Status status)
  scanned_by status text h =
      table_tokens (table_machine (tables_of f)) S (laws_of (tables_of f)) sound table_is x new (Status status) text
      (subst (λ (us : List Token). Tokenised (rules_of_machine (table_machine (tables_of f))) x us (Status status)) (all_new h.0 h.1) h.2)

  pub stopped_by : (e : RunError) → (us : List Token) × (new ≡ old ++ us) × Stopped (rules_of_machine (table_machine (tables_of f))) x us e → Stops S x e
  stopped_by e h = record {
    stack = λ same. (table_machine (tables_of f), table_is, h.0, subst (Stopped (rules_of_machine (table_machine (tables_of f))) x h.0) same h.2);
    not_write = λ same. elim h.2.why [
      | inl memory ↦ (let f = sym memory ∙ same in cc)
      | inr stack ↦ (let f = sym stack.0 ∙ same in cc)
    ];
  }

pub no_memory : (S : Spec) (x : List ℕ) → Stops S x runs.OutOfMemory
no_memory S x = record { stack = λ e. cc; not_write = λ e. cc }

-- ---- what is told

no_write : (e : RunError) → (e ≡ runs.Write → ⊥) → write_fault_count {T = ℕ} (Err e) ≡ 0
no_write runs.Read not = refl
no_write runs.TooManyReads not = refl
no_write runs.Write not = absurd (not refl)
no_write runs.OutOfMemory not = refl
no_write runs.Stack not = refl
no_write runs.Failed not = refl

pub none_written : (S : Spec) (x : List ℕ) (e : RunError) → Stops S x e → write_fault_count {T = ℕ} (Err e) ≡ 0
none_written S x e h = no_write e h.not_write

pub stops_told : {B : Type 0} (wrote : B → List ℕ → B → Type 0) (S : Spec) (p : Parts) (x : List ℕ) (t : B) (e : RunError) → Stops S x e → TellsOf wrote S p x t t (Err e)
stops_told wrote S p x t runs.Read h = (h, refl)
stops_told wrote S p x t runs.TooManyReads h = (h, refl)
stops_told wrote S p x t runs.Write h = absurd (h.not_write refl)
stops_told wrote S p x t runs.OutOfMemory h = (h, refl)
stops_told wrote S p x t runs.Stack h = (h, refl)
stops_told wrote S p x t runs.Failed h = (h, refl)

-- a specification that is refused refuses the text that spells it
pub refused_text : (options : Options) (text : List ℕ) (S : Spec) (e : GenError) → SpellsSpec (reading options) text S → SpecRefusal options.limits S e → Refusal options text e
refused_text options text S (gens.Build e) spells h = (S, spells, h)
refused_text options text S gens.OutOfMemory spells h = tt
refused_text options text S (gens.Spec e) spells h = absurd h

pub writes_of_run : (e : RunError) → write_fault_count {T = ℕ} (Err e) ≡ write_faults {T = ℕ} (Err (Run e))
writes_of_run runs.Read = refl
writes_of_run runs.TooManyReads = refl
writes_of_run runs.Write = refl
writes_of_run runs.OutOfMemory = refl
writes_of_run runs.Stack = refl
writes_of_run runs.Failed = refl
