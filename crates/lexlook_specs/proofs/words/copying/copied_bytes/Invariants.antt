use Rattle.std.proofs.Common.{◌≡◌, ℕ, Option, Some, length}
use Rattle.std.specs.Prelude.{slice_get}
use Rattle.lexlook_specs.specs.Copied.{IsFirstCopied}
use Rattle.lexlook_specs.specs.Matches.{matches_in}
use Rattle.lexlook_specs.proofs.words.copying.copied_bytes.Given as goal

abbrev pub invariant-loop-condition : goal.invariant-loop-condition
invariant-loop-condition l = record {
  len : length l.bytes.items ≡ l.condition;
  each : (c : ℕ) (o : Option ℕ) → slice_get l.bytes.items c ≡ Some o → IsFirstCopied (matches_in l.dfa.parts l.rejects) c o;
}
