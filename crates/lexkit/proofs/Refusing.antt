-- The builder's refusals, by their reasons.
use Rattle.std.proofs.Common.{◌≡◌, ℕ, ◌<◌, Bool, false, List, refl, Result, Ok, Err}
use Rattle.lex_semantics.specs.Spec.{Spec}
use Rattle.lex_semantics.specs.Subsets.{HasSubsets, all_positions}
use Rattle.lexauto.specs.declared.subsets.Limits.{Limits}
use Rattle.lexauto.specs.declared.error.BuildError.{BuildError}
use Rattle.lexauto.specs.declared.error.BuildError.TheVariants as builds
use Rattle.lexauto_dfa.specs.declared.dfa.Dfa.{Dfa}
use Rattle.lexspec.specs.Files.{SpellsSpec}
use Rattle.lexspec.specs.Skipped.{AreSkipped}
use Rattle.lexkit.specs.Headline.{BuildRefusal, IsWithin, Refusal, ScansBy, TableRefusal, reading}
use Rattle.lextab_packed.specs.Table as T
use Rattle.lextab_file.specs.File.{IsFileOf}
use Rattle.lextab_file.specs.Refusals.{is_out_of_memory}
use Rattle.lextab_file.specs.declared.error.TableError.{TableError}
use Rattle.lextab_file.specs.declared.error.TableError.TheVariants as errors
use Rattle.lexkit.specs.Generated.{SpecRefusal, MakesBy, Makes, MakesTablesBy, MakesTables}
use Rattle.lexkit.specs.LeastAutomata.{IsLeastOf}
use Rattle.lexkit.specs.declared.making.Generated.{Generated}
use Rattle.lexkit.specs.Ready.{MakesReady, MakesReadyBy}
use Rattle.lexkit.specs.declared.making.Made.{Made}
use Rattle.lexkit.specs.declared.ready.Ready.{Ready}
use Rattle.lexkit.specs.declared.options.Options.{Options}
use Rattle.lexkit.specs.declared.errors.GenError.{GenError}
use Rattle.lexkit.specs.declared.errors.GenError.TheVariants as gens
use Rattle.lexkit.specs.declared.errors.ScanError.TheVariants.{Generate}

pub by_reason : (limits : Limits) (S : Spec) (e : BuildError) → (e ≡ builds.TooManyPositions → limits.positions < all_positions S.rules) → (e ≡ builds.TooManyStates → (n : ℕ) → HasSubsets S n → limits.states < n) → BuildRefusal limits S e
by_reason limits S builds.TooManyPositions positions states = positions refl
by_reason limits S builds.TooManyStates positions states = states refl
by_reason limits S builds.OutOfMemory positions states = tt

-- a scan for which no automaton was made
pub told_of : {A B : Type 0} (gave : A → List ℕ → A → Type 0) (wrote : B → List ℕ → B → Type 0) (s : A) (t : B) (at_end : Bool) (faults : ℕ) (limits : Limits) (S : Spec) (e : GenError)
    → SpecRefusal limits S e → ScansBy gave wrote s s t t at_end faults limits S (Err (Generate e))
told_of gave wrote s t at_end faults limits S (gens.Build e) h = (h, refl, refl)
told_of gave wrote s t at_end faults limits S gens.OutOfMemory h = (refl, refl)
told_of gave wrote s t at_end faults limits S (gens.Spec e) h = absurd h

pub within : (limits : Limits) (S : Spec) (subsets : ℕ) (d : Dfa) → IsLeastOf limits S subsets d → IsWithin limits S
within limits S subsets d l = record { few_positions = l.few_positions; states = subsets; subsets = l.subsets_are; few_states = l.few_states }

-- where memory did not run out, the bytes are the file of no table
pub table_refusal : (bytes : List ℕ) (e : TableError) → (is_out_of_memory e ≡ false → (t : T.Table) → IsFileOf t bytes → ⊥) → TableRefusal bytes e
table_refusal bytes errors.BadMagic h = h refl
table_refusal bytes errors.BadVersion h = h refl
table_refusal bytes errors.Truncated h = h refl
table_refusal bytes errors.TrailingBytes h = h refl
table_refusal bytes (errors.BadField at) h = h refl
table_refusal bytes errors.OutOfMemory h = tt

-- a specification of which no automaton is made makes its text one that is refused
pub refused_of_text : (options : Options) (text : List ℕ) (S : Spec) → SpellsSpec (reading options) text S → (e : GenError) → SpecRefusal options.limits S e → Refusal options text e
refused_of_text options text S spells (gens.Build e) refused = (S, spells, refused)
refused_of_text options text S spells gens.OutOfMemory refused = tt
refused_of_text options text S spells (gens.Spec e) refused = absurd refused

-- what is made by the specification that a text spells, and by its lines of skipped code, is made of the text
pub made_of_text : (options : Options) (text : List ℕ) (S : Spec) (skipped : List ℕ) → SpellsSpec (reading options) text S → AreSkipped text skipped → (r : Result Generated GenError) → MakesBy options.limits S skipped r
    → Makes options text r
made_of_text options text S skipped spells lines (Ok g) made = (S, spells, skipped, lines, made)
made_of_text options text S skipped spells lines (Err e) refused = refused_of_text options text S spells e refused

pub tables_of_text : (options : Options) (text : List ℕ) (S : Spec) (skipped : List ℕ) → SpellsSpec (reading options) text S → AreSkipped text skipped → (r : Result Made GenError) → MakesTablesBy options.limits S skipped r
    → MakesTables options text r
tables_of_text options text S skipped spells lines (Ok m) made = (S, spells, skipped, lines, made)
tables_of_text options text S skipped spells lines (Err e) refused = refused_of_text options text S spells e refused

pub ready_of_text : (options : Options) (text : List ℕ) (S : Spec) (skipped : List ℕ) → SpellsSpec (reading options) text S → AreSkipped text skipped → (r : Result Ready GenError) → MakesReadyBy options.limits S skipped r
    → MakesReady options text r
ready_of_text options text S skipped spells lines (Ok ready) made = (S, spells, skipped, lines, made)
ready_of_text options text S skipped spells lines (Err e) refused = refused_of_text options text S spells e refused
