-- The packed tables of a least automaton are canonical.
use Rattle.std.proofs.Common.{◌≡◌, ℕ, ◌-◌, true, false, List, [], ◌∷◌, ◌++◌, map, length, ◌↔◌, sym, ap, subst, refl, arith}
use Rattle.std.specs.List.{flat_map, range_with_len}
use Rattle.lex_semantics.specs.Text.{Among, Ascending, flag}
use Rattle.lex_semantics.specs.Spec.{Spec}
use Rattle.lex_semantics.specs.TableFor.{TableFor}
use Rattle.lexauto_dfa.specs.Automata.{bare, machine_in, machine_of}
use Rattle.lexauto_dfa.specs.Numbering.{InOrder}
use Rattle.lexauto_dfa.specs.Parts.{conditions, states, start, next}
use Rattle.lexauto_dfa.specs.declared.dfa.Dfa.{Dfa}
use Rattle.lexauto_dfa.specs.declared.dfa.Parts.{Parts}
use Rattle.lexauto_dfa.specs.Least.{IsLeast, IsNumbered}
use Rattle.lexauto_dfa.specs.LeastMachines as Machines
use Rattle.lexauto_reports.specs.BackWords.{IsWordTo, IsFirstWord, IsAfterBackWord}
use Rattle.lexauto_reports.specs.declared.backup.BackUp.{BackUp}
use Rattle.lextab_packed.specs.Machines.{table_machine}
use Rattle.lextab_packed.specs.Steps.{step_of}
use Rattle.lextab_packed.specs.Views.{table_of}
use Rattle.lextab_packed.specs.declared.tables.Tables.{Tables}
use Rattle.lextab.specs.Packing.{IsPacked}
use Rattle.lextab_file.specs.File.{file_of}
use Rattle.lexkit.specs.Canonical.{IsCanonicalFor}
use Rattle.lexkit.specs.Generated.{AreBackUps}

-- with the actions of a specification of so many conditions the states are the same
module _ (p : Parts) (S : Spec) (count : conditions p ≡ length S.conditions) where
  least_in : IsLeast p → Machines.IsLeastMachine (machine_in p S) (states p)
  least_in l = record {
    reached = λ s h other. (let (c, line_start, w, low, text, e) = l.reached s h other in (c, line_start, w, omega (arith, low, count), text, e));
    apart = l.apart;
  }

  numbered_in : IsNumbered p → Machines.IsNumberedMachine (machine_in p S) (states p)
  numbered_in n = subst (λ k. InOrder 0 (flat_map (λ c. start p c false ∷ start p c true ∷ []) (range_with_len 0 k)
      ++ flat_map (λ s. map (next p s) (range_with_len 0 256)) (range_with_len 0 (states p))) (states p - 1)) count n

  leads_in : (s : ℕ) (w : List ℕ) → IsWordTo (bare p) s w → IsWordTo (machine_in p S) s w
  leads_in s w (c, line_start, low, text, two, e) = (c, line_start, omega (arith, low, count), text, two, e)

  leads_out : (s : ℕ) (w : List ℕ) → IsWordTo (machine_in p S) s w → IsWordTo (bare p) s w
  leads_out s w (c, line_start, low, text, two, e) = (c, line_start, omega (arith, low, count), text, two, e)

  first_in : (s : ℕ) (w : List ℕ) → IsFirstWord (bare p) s w → IsFirstWord (machine_in p S) s w
  first_in s w (leads, first) = (leads_in s w leads, λ v l. first v (leads_out s v l))

module _ (S : Spec) (d : Dfa) (t : Tables) (count : conditions d.parts ≡ length S.conditions) where
  pub canonical_of : TableFor (machine_of d S) S → IsLeast d.parts → IsNumbered d.parts → table_machine t ≡ machine_of d S
      → IsPacked (states d.parts) (next d.parts) (table_of t.parts) → IsCanonicalFor S (table_of t.parts) (λ s. flag t.goes_on.items s) (file_of (table_of t.parts))
  canonical_of table least numbered machine packed = record {
    table_for = subst (λ M. TableFor M S) (sym machine) table;
    least = subst (λ n. Machines.IsLeastMachine (table_machine t) n) (sym packed.rows) (subst (λ M. Machines.IsLeastMachine M (states d.parts)) (sym machine) (least_in d.parts S count least));
    numbered = subst (λ n. Machines.IsNumberedMachine (table_machine t) n) (sym packed.rows) (subst (λ M. Machines.IsNumberedMachine M (states d.parts)) (sym machine) (numbered_in d.parts S count numbered));
    packed = subst (λ n. IsPacked n (step_of (table_of t.parts)) (table_of t.parts)) (sym packed.rows)
        (subst (λ go. IsPacked (states d.parts) go (table_of t.parts)) (ap (λ M. M.next) (sym machine)) packed);
    file = (t.lawful, refl);
  }

pub back_ups_of : (S : Spec) (d : Dfa) (t : Tables) (entries : List BackUp) → conditions d.parts ≡ length S.conditions → table_machine t ≡ machine_of d S
    → Ascending (map (λ e. e.state) entries) → ((s : ℕ) → Among (map (λ e. e.state) entries) s ↔ IsAfterBackWord (machine_of d S) S s)
    → ((e : BackUp) → Among entries e → IsFirstWord (bare d.parts) e.state e.word.items) → AreBackUps (table_machine t) S entries
back_ups_of S d t entries count machine ascending states words = subst (λ M. AreBackUps M S entries) (sym machine) (record {
  ascending = ascending;
  states = states;
  words = λ e a. first_in d.parts S count e.state e.word.items (words e a);
})
