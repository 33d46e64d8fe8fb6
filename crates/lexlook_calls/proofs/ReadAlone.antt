-- Texts that are refused by what reading them finds.
use Rattle.std.proofs.Common.{◌≡◌, ℕ, List}
use Rattle.lexauto.specs.declared.error.BuildError.{BuildError}
use Rattle.lexre_bytes.specs.declared.refusals.SpecError.{SpecError}
use Rattle.lexkit.specs.Headline.{Refusal}
use Rattle.lexkit.specs.declared.errors.GenError.{GenError}
use Rattle.lexkit.specs.declared.errors.GenError.TheVariants as gens
use Rattle.lexkit.specs.declared.options.Options.{Options}
use Rattle.lexlook_calls.specs.Headers.{ReadingRefusal}

no_build : (e : BuildError) (fault : SpecError) → gens.Build e ≡ gens.Spec fault → ⊥
no_build e fault is = cc

no_memory : (fault : SpecError) → gens.OutOfMemory ≡ gens.Spec fault → ⊥
no_memory fault is = cc

-- a refusal that is one of the text is one of reading
pub read_alone : (options : Options) (text : List ℕ) (e : GenError) → Refusal options text e → (fault : SpecError) × (e ≡ gens.Spec fault) → ReadingRefusal options text e
read_alone options text (gens.Spec e) h is = h
read_alone options text (gens.Build e) h is = absurd (no_build e is.0 is.1)
read_alone options text gens.OutOfMemory h is = absurd (no_memory is.0 is.1)
