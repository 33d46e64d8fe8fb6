use Rattle.std.proofs.Common.{◌≡◌, ℕ, Some, length}
use Rattle.std.specs.Prelude.{slice_get}
use Rattle.lexlook_specs.specs.Matches.{matches_in}
use Rattle.lexlook_specs.specs.Words.{IsWordOf}
use Rattle.lexlook_specs.specs.declared.words.finding.Word.{Word}
use Rattle.lexlook_specs.proofs.words.finding.find_words.Given as goal

abbrev pub invariant-loop-rule : goal.invariant-loop-rule
invariant-loop-rule l = record {
  len : length l.rules.items ≡ l.rule;
  each : (i : ℕ) (x : Word) → slice_get l.rules.items i ≡ Some x → IsWordOf (matches_in l.dfa.parts l.rejects) i x;
}
