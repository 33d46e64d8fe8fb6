-- The lists that are built of a specification make an automaton, and its table.
use Rattle.std.proofs.Common.{◌≡◌, ℕ, ◌*◌, ◌<◌, ◌≤◌, List, [], length, arith, sym, ap, ◌∙◌}
use Rattle.std.proofs.lemmas.Option.{slice_get_within}
use Rattle.lex_semantics.specs.Spec.{Spec}
use Rattle.lex_semantics.specs.Sound.{IsSound}
use Rattle.lex_semantics.specs.TableFor.{TableFor}
use Rattle.lex_semantics.specs.MachineLaws.{MachineLaws}
use Rattle.lexauto_dfa.specs.declared.dfa.Parts.{Parts}
use Rattle.lexauto_dfa.specs.Parts.{states}
use Rattle.lexauto_dfa.specs.Machines.{IsDeadOrReached}
use Rattle.lexauto_dfa.specs.Automata.{machine_in}
use Rattle.lexauto_dfa.specs.Invariant.{IsAutomaton}
use Rattle.lexauto_dfa.proofs.Machinery.{automaton_of_laws}
use Rattle.lexauto.specs.Keys.{Key, keys_in}
use Rattle.lexauto.specs.WordKeys.{Surveys}
use Rattle.lexauto.specs.Facts.{AcceptedBy, GoOnBy}
use Rattle.lexauto.proofs.Places.{keys_length}
use Rattle.lexauto.proofs.Tables.{table_of, reached_of, laws_of}
use Rattle.lexauto.proofs.Surveying.{starts_range, lines_range, next_range}

module _ (S : Spec) (sound : IsSound S) (p : Parts) (keys : List Key) (s : Surveys S keys p.next.items p.starts.items p.line_starts.items)
    (accepted : AcceptedBy S keys (keys_in p.accepts.items)) (on : GoOnBy S keys p.goes_on.items)
    (lists : length p.accepts.items ≡ length keys) (goes : length p.goes_on.items ≡ length keys) where
  pub table_is : TableFor (machine_in p S) S
  table_is = table_of S sound keys p.next.items p.starts.items p.line_starts.items s (keys_in p.accepts.items) p.goes_on.items accepted on

  pub reached_are : (q : ℕ) → q < states p → IsDeadOrReached (machine_in p S) S q
  reached_are q low = reached_of S sound keys p.next.items p.starts.items p.line_starts.items s (keys_in p.accepts.items) p.goes_on.items accepted on q (omega (arith, goes, low))

  pub laws_are : MachineLaws (machine_in p S)
  laws_are = laws_of S sound keys p.next.items p.starts.items p.line_starts.items s (keys_in p.accepts.items) p.goes_on.items accepted on (keys_length p.accepts.items ∙ lists) goes

  pub automaton_is : length keys ≤ 8192 → IsAutomaton p
  automaton_is few =
      let some = slice_get_within keys 0 [] (s.automaton.starts 0 [] s.dead) in
      automaton_of_laws p S s.starts_len laws_are reached_are (omega (arith, some, goes)) (omega (arith, few, goes))
      (s.lines_len ∙ sym s.starts_len) (s.automaton.len ∙ ap (λ (n : ℕ). 256 * n) (sym goes)) (lists ∙ sym goes)
      (λ k h. let r = starts_range S keys p.next.items p.starts.items p.line_starts.items s k h in omega (arith, r, goes))
      (λ k h. let r = lines_range S keys p.next.items p.starts.items p.line_starts.items s k h in omega (arith, r, goes))
      (λ k h. let r = next_range S keys p.next.items p.starts.items p.line_starts.items s k h in omega (arith, r, goes))
