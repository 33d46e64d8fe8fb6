use Rattle.std.proofs.Common.{◌≡◌, ℕ, ◌<◌, true}
use Rattle.lex_semantics.specs.Text.{flag}
use Rattle.lextab_packed.specs.Inverse.{Has}
use Rattle.lextab_packed.proofs.live.accepting_states.Given as goal

abbrev pub invariant-loop-state : goal.invariant-loop-state
invariant-loop-state l = record {
  known : (x : ℕ) → Has l.states.items x → flag l.accepting x ≡ true;
  all : (x : ℕ) → x < l.state → flag l.accepting x ≡ true → Has l.states.items x;
}
