-- Pictures that were written, whole or not.
use Rattle.std.proofs.Common.{ℕ, List, Err, refl}
use Rattle.lex_io.specs.Sink.{Appended}
use Rattle.lex_semantics.specs.Spec.{Spec}
use Rattle.lexspec.specs.Files.{SpellsSpec}
use Rattle.lexauto_dfa.specs.declared.dfa.Dfa.{Dfa}
use Rattle.lexkit.specs.LeastAutomata.{IsLeastOf}
use Rattle.lexkit.specs.Headline.{reading}
use Rattle.lexkit.specs.declared.options.Options.{Options}
use Rattle.lexlook_specs.specs.declared.picture.error.PictureError.{PictureError}
use Rattle.lexlook_specs.specs.declared.picture.error.PictureError.TheVariants.{OutOfMemory, Write}
use Rattle.lexlook_calls.specs.Errors.{told_of}
use Rattle.lexlook_calls.specs.Looks.{IsPictureOf, Draws, picture_of}

module _ {K : Type 0} (wrote : K → List ℕ → K → Type 0) (options : Options) (text : List ℕ) (s t : K) (S : Spec) (spells : SpellsSpec (reading options) text S) (d : Dfa) (least : (subsets : ℕ) × IsLeastOf options.limits S subsets d) where
  is_picture : IsPictureOf options.limits S (picture_of d S)
  is_picture = record { automaton = d; subsets = least.0; least = least.1; drawn = refl }

  pub drawn_in_part : (e : PictureError) → Appended {T = Unit {0}} (λ xs. wrote s xs t) (picture_of d S) (Err e) → Draws wrote options text s t (Err (told_of e))
  drawn_in_part OutOfMemory w = record { spec = S; spells = spells; bytes = picture_of d S; is_picture = is_picture; written = w }
  drawn_in_part Write w = record { spec = S; spells = spells; bytes = picture_of d S; is_picture = is_picture; written = w }
