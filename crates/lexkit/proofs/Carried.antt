-- What is told of a machine's rules is told of those of its specification.
use Rattle.std.proofs.Common.{Some, ◌≡◌, ℕ, suc, ◌+◌, ◌-◌, ◌<◌, ◌≤◌, Bool, true, false, cond, List, ◌++◌, length, refl, arith, Result, Ok, Err}
use Rattle.std.specs.Prelude.{nat_lt}
use Rattle.std.proofs.lemmas.Bool.{ltb-true}
use Rattle.lex_semantics.specs.Spec.{Spec}
use Rattle.lex_semantics.specs.Rules.{Rules, rules_of}
use Rattle.lex_semantics.specs.Sound.{IsSound}
use Rattle.lex_semantics.specs.Machine.{Machine, rules_of_machine}
use Rattle.lex_semantics.specs.MachineLaws.{MachineLaws}
use Rattle.lex_semantics.specs.TableFor.{TableFor}
use Rattle.lex_semantics.specs.Acting.{Ending, Status, StackFault}
use Rattle.lex_semantics.specs.Demand.{answers}
use Rattle.lex_semantics.specs.ScanLaws.{SameScan}
use Rattle.lex_semantics.proofs.Both.{same_over}
use Rattle.lexscan_window.specs.declared.error.RunError.{RunError}
use Rattle.lexscan.specs.TurnInvariants.{RunCompleted}
use Rattle.lexscan.specs.Runs.{RunStopped, Ran}
use Rattle.lexauto.specs.declared.subsets.Limits.{Limits}
use Rattle.lexkit.specs.Headline.{IsWithin, ScansBy, max_reads}
use Rattle.lexkit.specs.declared.errors.ScanError.TheVariants.{Run}

-- the reads of a scan, by whether its end was answered
pub few_reads : (given : List ℕ) (m e e' f f' : ℕ) → length given + (e' - e) + (f' - f) ≤ m → length given + cond (nat_lt e e') 1 0 + (f' - f) ≤ m
few_reads given m e e' f f' few = by_end (nat_lt e e') refl
  where
    by_end : (b : Bool) → nat_lt e e' ≡ b → length given + cond b 1 0 + (f' - f) ≤ m
    by_end true q = let less : e < e' = ltb-true e e' q in omega (arith, few, less)
    by_end false q = omega (arith, few)

-- a run by rules that make the same turns
module _ (R Q : Rules) (same : SameScan R Q) where
  pub completed_to : (given out : List ℕ) (at_end : Bool) (d : Ending) → RunCompleted R given out at_end d → RunCompleted Q given out at_end d
  completed_to given out at_end d h = record {
    text = h.text;
    turns = h.turns;
    place = h.place;
    scanned = λ x k. ((same x k.0).after h.turns (record { written = out; place = h.place; ended = Some d }) (answers given at_end)).0 (h.scanned x k);
  }

  pub stopped_to : (given out : List ℕ) (at_end : Bool) (most : ℕ) (e : RunError) → RunStopped R given out at_end most e → RunStopped Q given out at_end most e
  stopped_to given out at_end most e h = record {
    turns = h.turns;
    had = h.had;
    refused_turn = record {
      text = h.refused_turn.text;
      before = h.refused_turn.before;
      going = h.refused_turn.going;
      after = λ x k. ((same x k.0).after h.turns h.refused_turn.before h.had).0 (h.refused_turn.after x k);
      few = h.refused_turn.few;
      kept = h.refused_turn.kept;
      whole = h.refused_turn.whole;
      front = λ x k w d r. h.refused_turn.front x k w d (((same x k.0).run w d).1 r);
      within = λ x k t asked after. h.refused_turn.within x k t asked (((same x k.0).after (suc h.turns) t asked).1 after);
      more = λ is t asked after. h.refused_turn.more is t asked (((same given h.refused_turn.text).after (suc h.turns) t asked).1 after);
    };
    too_many = h.too_many;
    fault = λ is. completed_to given out at_end StackFault (h.fault is);
  }

  pub ran_to : (given out : List ℕ) (at_end : Bool) (most : ℕ) (result : Result ℕ RunError) → Ran R given out at_end most result → Ran Q given out at_end most result
  ran_to given out at_end most (Ok status) h = completed_to given out at_end (Status status) h
  ran_to given out at_end most (Err e) h = stopped_to given out at_end most e h

module _ (M : Machine) (laws : MachineLaws M) (S : Spec) (sound : IsSound S) (table : TableFor M S) where
  pub same_scan : SameScan (rules_of_machine M) (rules_of S)
  same_scan x text = same_over M laws S sound table x text

-- The scan by a machine that is the table's was one by the specification: it came to its end, or it was stopped.
module _ {A B : Type 0} (gave : A → List ℕ → A → Type 0) (wrote : B → List ℕ → B → Type 0) (s s' : A) (t t' : B) (e e' f f' : ℕ) (limits : Limits) (S : Spec) (sound : IsSound S) (within : IsWithin limits S)
    (M : Machine) (laws : MachineLaws M) (table : TableFor M S) (given out : List ℕ) (source : gave s given s') (sink : wrote t out t') (few : length given + (e' - e) + (f' - f) ≤ max_reads) where
  pub came_to : (status : ℕ) → RunCompleted (rules_of_machine M) given out (nat_lt e e') (Status status) → ScansBy gave wrote s s' t t' (nat_lt e e') (f' - f) limits S (Ok status)
  came_to status h = (
    within,
    record { given = given; out = out; source = source; sink = sink; ran = completed_to (rules_of_machine M) (rules_of S) (same_scan M laws S sound table) given out (nat_lt e e') (Status status) h; few_reads = few_reads given max_reads e e' f f' few },
  )

  pub stopped_at : (error : RunError) → RunStopped (rules_of_machine M) given out (nat_lt e e') max_reads error → ScansBy gave wrote s s' t t' (nat_lt e e') (f' - f) limits S (Err (Run error))
  stopped_at error h = (
    within,
    record { given = given; out = out; source = source; sink = sink; ran = stopped_to (rules_of_machine M) (rules_of S) (same_scan M laws S sound table) given out (nat_lt e e') max_reads error h; few_reads = few_reads given max_reads e e' f f' few },
  )
