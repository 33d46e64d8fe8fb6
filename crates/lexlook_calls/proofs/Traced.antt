-- What a scan leaves by the specification that tells its matches.
use Rattle.std.proofs.Common.{◌≡◌, ℕ, refl, Bool, true, false, List, Result, Ok, Err, sym, ◌∙◌, ap}
use Rattle.lex_semantics.specs.Spec.{Spec}
use Rattle.std.specs.FinMap.{get}
use Rattle.lexre_bytes.specs.Lexical.{symbol_at}
use Rattle.lexre.proofs.CuttingLaws.{one_cutting}
use Rattle.lexre.proofs.OneTree.{one_tree}
use Rattle.lexspec.proofs.OneSpec.{one_specification}
use Rattle.lexspec.specs.Files.{SpellsSpec}
use Rattle.lexauto.specs.declared.error.BuildError.{BuildError}
use Rattle.lexre_bytes.proofs.MemoryLaws.{unless_memory}
use Rattle.lexre_bytes.specs.declared.refusals.SpecError.{SpecError}
use Rattle.lexkit.specs.Headline.{Refusal, ScansBy, reading}
use Rattle.lexkit.specs.declared.errors.GenError.{GenError}
use Rattle.lexkit.specs.declared.errors.GenError.TheVariants as gens
use Rattle.lexkit.specs.declared.errors.ScanError.{ScanError}
use Rattle.lexkit.specs.declared.errors.ScanError.TheVariants as scans
use Rattle.lexkit.specs.declared.options.Options.{Options}
use Rattle.lexlook_calls.specs.Tracing.{SpellsWithRoom, TraceRefusal, Traces}
use Rattle.lexlook_specs.specs.Traced.{has_room, traced}
use Rattle.lexlook_specs.specs.TraceLaw.{TellsRuns, TellsTurns}

-- a scan by it is a trace
told : {A B : Type 0} (gave : A → List ℕ → A → Type 0) (wrote : B → List ℕ → B → Type 0) (s s' : A) (t t' : B) (at_end : Bool) (faults : ℕ) (options : Options) (text : List ℕ) (S : Spec) (answer : Result ℕ ScanError) →
    SpellsWithRoom options text S → TellsTurns S → TellsRuns S → ScansBy gave wrote s s' t t' at_end faults options.limits (traced S) answer → Traces gave wrote s s' t t' at_end faults options text answer
told gave wrote s s' t t' at_end faults options text S (Ok status) spells turns runs h = record { spec = S; spells = spells; within = h.0; scans = h.1; turns = turns; runs = runs }
told gave wrote s s' t t' at_end faults options text S (Err (scans.Run e)) spells turns runs h = record { spec = S; spells = spells; within = h.0; scans = h.1; turns = turns; runs = runs }
told gave wrote s s' t t' at_end faults options text S (Err (scans.Generate (gens.Build e))) spells turns runs h = ((S, spells, h.0), h.1, h.2)
told gave wrote s s' t t' at_end faults options text S (Err (scans.Generate gens.OutOfMemory)) spells turns runs h = (tt, h.0, h.1)
told gave wrote s s' t t' at_end faults options text S (Err (scans.Generate (gens.Spec e))) spells turns runs h = absurd h
told gave wrote s s' t t' at_end faults options text S (Err (scans.Table e)) spells turns runs h = absurd h

-- a text spells one specification at most
one_spec : (options : Options) (text : List ℕ) (S T : Spec) → SpellsSpec (reading options) text S → SpellsSpec (reading options) text T → S ≡ T
unfolding symbol_at
one_spec options = one_specification
    (λ how definitions text t u h k. one_tree how.posix (symbol_at how.fold) (get definitions) refl 64 text t u h.0 k.0)
    (λ t stop stop' at at' two two' special special' h k. let same = one_cutting t stop stop' at at' two two' special special' h k in (same.0, same.1, same.3))
    (reading options)

no_true : false ≡ true → ⊥
no_true e = cc

-- so where that one has no room, it spells none that has
pub none_with_room : (options : Options) (text : List ℕ) (S : Spec) → SpellsSpec (reading options) text S → has_room S ≡ false → (T : Spec) → SpellsWithRoom options text T → ⊥
none_with_room options text S spells full T h = no_true (sym full ∙ ap has_room (one_spec options text S T spells h.0) ∙ h.1)

no_build : (e : BuildError) (fault : SpecError) → gens.Build e ≡ gens.Spec fault → ⊥
no_build e fault is = cc

-- a text that is refused as none of a specification spells none that has room
pub none_traced : (options : Options) (text : List ℕ) (e : GenError) → Refusal options text e → (fault : SpecError) × (e ≡ gens.Spec fault) → TraceRefusal options text e
none_traced options text (gens.Spec e) h is =
    unless_memory e.kind ((S : Spec) → SpellsSpec (reading options) text S → ⊥) ((S : Spec) → SpellsWithRoom options text S → ⊥) (λ none S k. none S k.0) h
none_traced options text (gens.Build e) h is = absurd (no_build e is.0 is.1)
none_traced options text gens.OutOfMemory h is = tt
