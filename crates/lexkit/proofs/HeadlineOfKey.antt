-- The worked examples of the headline.
use Rattle.std.proofs.Common.{◌≡◌, ℕ, ◌<◌, Bool, true, false, List, [], ◌∷◌, ◌++◌, Result, Ok, Err, refl, sym, ap, subst, ◌∙◌, arith}
use Rattle.std.specs.Prelude.{codes, cond}
use Rattle.std.proofs.lemmas.List.{append-nil}
use Rattle.lex_semantics.specs.Text.{IsText, BeginsWith}
use Rattle.lex_semantics.specs.ByteSets.{has, single, set_of}
use Rattle.lex_semantics.specs.Spec.{Spec}
use Rattle.lex_semantics.specs.Rules.{rules_of}
use Rattle.lex_semantics.specs.Acting.{Ending, Status, perform}
use Rattle.lex_semantics.specs.Run.{Run}
use Rattle.lex_semantics.specs.Subsets.{all_positions}
use Rattle.lex_semantics.specs.Demand.{Consistent}
use Rattle.lex_semantics.proofs.After.{turns_of}
use Rattle.lex_semantics.proofs.Once.{one_run}
use Rattle.lex_semantics.proofs.PlainRun.{run_is}
use Rattle.lexre_bytes.proofs.MemoryLaws.{unless_memory}
use Rattle.lexspec.specs.Refusals.SpecError.{SpecError}
use Rattle.lexspec.specs.Files.{SpellsSpec, ReadOptions}
use Rattle.lexspec.specs.SpecExamples.{key_file, key_spec}
use Rattle.lexspec.proofs.ComputedSpecs.{key_read}
use Rattle.lexscan_window.specs.declared.error.RunError.{RunError}
use Rattle.lexkit.specs.declared.errors.ScanError.TheVariants as scans
use Rattle.lexkit.specs.Headline.{reading}
use Rattle.lexkit.specs.HeadlineExamples.{as_they_stand, gave, wrote, KeyScan, HeadlineOfKey}

-- the run of the input
key_run : Run (rules_of key_spec) (codes "if x") (codes "K x") (Status 0)
unfolding has single set_of perform
key_run = run_is key_spec (codes "if x") 40 (codes "K x") (Status 0) refl

module _ (one : (how : ReadOptions) (file : List ℕ) (S T : Spec) → SpellsSpec how file S → SpellsSpec how file T → S ≡ T) where
  is_key : (S : Spec) → SpellsSpec (reading as_they_stand) key_file S → S ≡ key_spec
  is_key S spells = one (reading as_they_stand) key_file S key_spec spells key_read

  input_text : IsText (codes "if x")
  input_text = (omega arith, (omega arith, (omega arith, (omega arith, tt))))

  same_status : (m n : ℕ) → Status m ≡ Status n → m ≡ n
  same_status m n e = cc

  ends : (written : List ℕ) (faults status : ℕ) → KeyScan [] written true faults (Ok status) → (written ≡ codes "K x") × (status ≡ 0)
  ends written faults status (S, spells, within, scan) =
      let all : scan.given ≡ codes "if x" = sym (append-nil scan.given) ∙ sym scan.source in
      let own : Run (rules_of S) scan.given scan.out (Status status) = (scan.ran.turns, scan.ran.place, (turns_of _ _ _ _ _ (scan.ran.scanned scan.given (scan.ran.text, refl)))) in
      let runs : Run (rules_of key_spec) (codes "if x") scan.out (Status status) = subst (λ x. Run (rules_of key_spec) x scan.out (Status status)) all (subst (λ T. Run (rules_of T) scan.given scan.out (Status status)) (is_key S spells) own) in
      let same = one_run (rules_of key_spec) (codes "if x") scan.out (codes "K x") (Status status) (Status 0) runs key_run in
      (scan.sink ∙ same.0, same_status status 0 same.1)

  -- the input is consistent with what of it was given
  consistent : (given left : List ℕ) (at_end : Bool) → codes "if x" ≡ given ++ left → (at_end ≡ true → left ≡ []) → Consistent given at_end (codes "if x")
  consistent given left true is none = (input_text, is ∙ ap (λ l. given ++ l) (none refl) ∙ append-nil given)
  consistent given left false is none = (input_text, (left, is))

  stops : (left written : List ℕ) (at_end : Bool) (faults : ℕ) (e : RunError) → (at_end ≡ true → left ≡ []) → KeyScan left written at_end faults (Err (scans.Run e)) → BeginsWith (codes "K x") written
  stops left written at_end faults e none (S, spells, within, scan) =
      let run : Run (rules_of S) (codes "if x") (codes "K x") (Status 0) = subst (λ T. Run (rules_of T) (codes "if x") (codes "K x") (Status 0)) (sym (is_key S spells)) key_run in
      let given : Consistent scan.given at_end (codes "if x") = consistent scan.given left at_end scan.source none in
      subst (BeginsWith (codes "K x")) (sym scan.sink) (scan.ran.refused_turn.front (codes "if x") given (codes "K x") (Status 0) run)

  pub headline_of_key : HeadlineOfKey
  headline_of_key = record {
    ends = ends;
    stops = stops;
    reads = λ left written at_end faults e (refusal, left_so, written_so). unless_memory e.kind _ ⊥ (λ none. none key_spec key_read) refusal;
    fits = λ left written at_end faults ((S, spells, many), left_so, written_so). few S spells many;
  }
    where
      few : (S : Spec) → SpellsSpec (reading as_they_stand) key_file S → as_they_stand.limits.positions < all_positions S.rules → ⊥
      few S spells many = (let few : as_they_stand.limits.positions < all_positions key_spec.rules = subst (λ (T : Spec). as_they_stand.limits.positions < all_positions T.rules) (is_key S spells) many in omega (arith, few))
