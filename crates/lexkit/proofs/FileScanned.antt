-- A scan by the file of made tables is a scan by their specification.
use Rattle.std.proofs.Common.{◌≡◌, ℕ, ◌<◌, Bool, true, false, List, length, Result, refl, sym, ◌∙◌, arith}
use Rattle.std.proofs.lemmas.List.{ext_get_or}
use Rattle.lex_semantics.specs.Text.{flag}
use Rattle.lex_semantics.specs.Spec.{Spec}
use Rattle.lex_semantics.specs.Sound.{IsSound}
use Rattle.lex_semantics.specs.Rules.{rules_of}
use Rattle.lex_semantics.specs.Machine.{Machine, rules_of_machine}
use Rattle.lex_semantics.specs.MachineLaws.{MachineLaws}
use Rattle.lex_semantics.specs.TableFor.{TableFor}
use Rattle.lexscan_window.specs.declared.error.RunError.{RunError}
use Rattle.lextab_packed.specs.Table.{Table}
use Rattle.lextab_packed.specs.Steps.{machine_of_table}
use Rattle.lextab_packed.specs.Invariant.{GoesOn}
use Rattle.lexscan.specs.Runs.{Ran}
use Rattle.lexkit.specs.Headline.{max_reads}
use Rattle.lexkit.proofs.Carried as Same

-- the same condition makes the same flag
same_flag : (a b : Bool) → (a ≡ true → b ≡ true) → (b ≡ true → a ≡ true) → a ≡ b
same_flag true b h k = sym (h refl)
same_flag false true h k = k refl
same_flag false false h k = refl

-- the states that go on are determined by the table
pub one_list_of_flags : (t : Table) (xs ys : List Bool) → GoesOn t xs → GoesOn t ys → xs ≡ ys
one_list_of_flags t xs ys a b = ext_get_or false xs ys (a.len ∙ sym b.len) (λ i h. (
    let low : i < length t.rows = (let e = a.len in omega (arith, h, e)) in
    same_flag (flag xs i) (flag ys i) (λ e. (b.leads i low).1 ((a.leads i low).0 e)) (λ e. (a.leads i low).1 ((b.leads i low).0 e))))

pub same_machine : (t u : Table) (xs ys : List Bool) → t ≡ u → xs ≡ ys → machine_of_table t (λ s. flag xs s) ≡ machine_of_table u (λ s. flag ys s)
same_machine t u xs ys e h = rw (e, h) refl

pub ran : (M : Machine) → MachineLaws M → (S : Spec) → IsSound S → TableFor M S → (given out : List ℕ) (at_end : Bool) (answer : Result ℕ RunError)
    → Ran (rules_of_machine M) given out at_end max_reads answer → Ran (rules_of S) given out at_end max_reads answer
ran M laws S sound table given out at_end answer h = Same.ran_to (rules_of_machine M) (rules_of S) (Same.same_scan M laws S sound table) given out at_end max_reads answer h
