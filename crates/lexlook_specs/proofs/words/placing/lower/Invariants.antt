use Rattle.std.proofs.Common.{◌≡◌, ℕ, length, take}
use Rattle.lex_semantics.specs.Text.{Among}
use Rattle.lexauto_reports.specs.Searching.{place_of}
use Rattle.lexlook_specs.specs.Placing.{least_place}
use Rattle.lexlook_specs.proofs.words.placing.lower.Given as goal

abbrev pub invariant-loop-rule : goal.invariant-loop-rule
invariant-loop-rule l = record {
  len : length l.firsts ≡ length l.fn.firsts;
  kept : (i : ℕ) → (Among (take l.rule-index l.rules) i → ⊥) → place_of l.firsts i ≡ place_of l.fn.firsts i;
  lowered : (i : ℕ) → Among (take l.rule-index l.rules) i → place_of l.firsts i ≡ least_place (place_of l.fn.firsts i) l.place;
}
