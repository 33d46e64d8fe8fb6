use Rattle.std.proofs.Common.{◌≡◌, ℕ, Option, Some, length}
use Rattle.std.specs.Prelude.{slice_get}
use Rattle.lexlook_specs.specs.Matches.{matches_in}
use Rattle.lexlook_specs.specs.Words.{TellsDefault}
use Rattle.lexlook_specs.specs.declared.words.finding.ShownText.{ShownText}
use Rattle.lexlook_specs.proofs.words.copying.copied_texts.Given as goal

abbrev pub invariant-loop-condition : goal.invariant-loop-condition
invariant-loop-condition l = record {
  len : length l.texts.items ≡ l.condition;
  each : (c : ℕ) (o : Option ShownText) → slice_get l.texts.items c ≡ Some o → TellsDefault (matches_in l.dfa.parts l.rejects) c o;
}
