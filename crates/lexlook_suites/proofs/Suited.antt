-- The suite of a specification, by its rules.
use Rattle.std.proofs.Common.{◌≡◌, ◌∙◌, ◌<◌, ◌++◌, ◌∷◌, ℕ, zero, suc, List, [], length, get_or, map, sym, ap, subst, arith}
use Rattle.lex_semantics.specs.Acting.{Status}
use Rattle.lex_semantics.specs.Machine.{Machine}
use Rattle.lex_semantics.specs.Rules.{Rules, rules_of}
use Rattle.lex_semantics.specs.Run.{Run}
use Rattle.lex_semantics.specs.Sound.{IsSound}
use Rattle.lex_semantics.specs.Spec.{Spec}
use Rattle.lex_semantics.specs.TableFor.{TableFor}
use Rattle.lex_semantics.specs.Text.{IsText}
use Rattle.lex_semantics.proofs.After.{turns_of}
use Rattle.lex_semantics.proofs.Both.{same_run}
use Rattle.lex_semantics.proofs.Once.{one_run, run_by}
use Rattle.lex_semantics.specs.Demand.{ExtendsGiven}
use Rattle.lex_io.specs.Source.{Gives}
use Rattle.std.proofs.Common.{Bool, true, false, Some, refl}
use Rattle.std.specs.Prelude.{nat_lt}
use Rattle.std.proofs.lemmas.Bool.{ltb-true}
use Rattle.lexauto_dfa.specs.Parts.{conditions, next, start}
use Rattle.lexauto_dfa.specs.declared.dfa.Parts.{Parts}
use Rattle.lextab_packed.specs.FlatViews.{tables_of}
use Rattle.lextab_packed.specs.Machines.{laws_of, table_machine}
use Rattle.lextab_packed.specs.declared.flat.Flat.{Flat}
use Rattle.lexscan.proofs.Tables.{table_tokens}
use Rattle.lexscan.specs.Tokens.{Tokenised}
use Rattle.lexscan.specs.TurnInvariants.{RunCompleted}
use Rattle.lexscan.specs.declared.token.Token.{Token}
use Rattle.lexscan_window.specs.declared.error.RunError.TheVariants as runs
use Rattle.lex_semantics.specs.Acting.{Ending}
use Rattle.lexlook_suites.specs.Gathers.{Adds, Faults, HasAllEdges, IsFirst, rules_by}
use Rattle.lexlook_suites.specs.Inputs.{GoesOverAll, IsInputOf}
use Rattle.lexlook_suites.specs.Told.{Stops}
use Rattle.lexlook_suites.specs.Trees.{IsTree}
use Rattle.lexlook_suites.specs.declared.gathering.Gathered.{Gathered}
use Rattle.lexlook_suites.specs.declared.inputs.Input.{Input}
use Rattle.lexlook_suites.specs.declared.trees.Step.{Step}
use Rattle.lexlook_suites.proofs.Collected.{all_edges_stay, goes_over_all}
use Rattle.std.proofs.Common.{Option}

-- what is made of an element that was read
pub at_map : {A : Type 0} (f : A → List ℕ) (xs : List A) (i : ℕ) (x : A) → i < length xs → x ≡ get_or xs i x → f x ≡ get_or (map f xs) i []
at_map f [] i x low is = absurd (omega (arith, low))
at_map f (y ∷ ys) zero x low is = ap f is
at_map f (y ∷ ys) (suc i) x low is = at_map f ys i x (omega (arith, low)) is

-- ---- the scan of a text

goes : (x given rest : List ℕ) (ends ends' : ℕ) (b : Bool) → nat_lt ends ends' ≡ b → Gives (Some x) (Some rest) ends ends' given → ExtendsGiven given b x
goes x given rest ends ends' true e h = h.whole (ltb-true ends ends' e)
goes x given rest ends ends' false e h = (rest, h.taken)

-- a scan to the end over a text in memory is the run over all of it
pub whole_run : (R : Rules) (x given out rest : List ℕ) (ends ends' : ℕ) (ending : Ending) → IsText x → Gives (Some x) (Some rest) ends ends' given → RunCompleted R given out (nat_lt ends ends') ending → Run R x out ending
whole_run R x given out rest ends ends' ending text gave ran = (ran.turns, ran.place, (turns_of _ _ _ _ _ (ran.scanned x (text, goes x given rest ends ends' (nat_lt ends ends') refl gave))))

-- the run ends as the tokens do
pub run_ends : (R : Rules) (x out : List ℕ) (us : List Token) (d e : Ending) → Tokenised R x us d → Run R x out e → Run R x out d
run_ends R x out us d e tokens ran =
    subst (Run R x out) (sym (one_run R x tokens.last.written out d e (run_by R x tokens.last.written d tokens.turns tokens.last tokens.reached refl tokens.ends) ran).1) ran

-- all tokens, where none were listed before
pub listed : (R : Rules) (x y : List ℕ) (old new us : List Token) (d : Ending) → old ≡ [] → x ≡ y → new ≡ old ++ us → Tokenised R x us d → Tokenised R y new d
listed R x y old new us d empty same is tokens =
    let all : us ≡ new = sym (is ∙ ap (λ (l : List Token). l ++ us) empty) in
    subst (λ (l : List ℕ). Tokenised R l new d) same (subst (λ (l : List Token). Tokenised R x l d) all tokens)

-- ---- the rules of the specification

module _ (S : Spec) (sound : IsSound S) (K : Machine) (table : TableFor K S) (f : Flat) (is : table_machine (tables_of f) ≡ K) where
  table_is : TableFor (table_machine (tables_of f)) S
  table_is = subst (λ (M : Machine). TableFor M S) (sym is) table

  pub input_of : (i : Input) → IsInputOf (rules_by f) i → IsInputOf (rules_of S) i
  input_of i h = record {
    is_text = h.is_text;
    scanned = table_tokens (table_machine (tables_of f)) S (laws_of (tables_of f)) sound table_is i.text.items i.tokens.items (Status i.status) h.is_text h.scanned;
    ran = (same_run (table_machine (tables_of f)) (laws_of (tables_of f)) S sound table_is i.text.items h.is_text i.output.items (Status i.status)).0 h.ran;
  }

  pub stops_of : (v : List ℕ) → Faults (rules_by f) v → Stops S v runs.Stack
  stops_of v h = record {
    stack = λ same. (table_machine (tables_of f), table_is, h.0, h.1);
    not_write = λ same. cc;
  }

-- ---- all that is gathered

pub all_gathered : (R : Rules) (p : Parts) (g h : Gathered) (way : List ℕ) (a b : ℕ) (steps : List Step) (places : List (Option ℕ)) → a ≡ start p 0 true → b ≡ a → IsTree p a steps places (length steps)
    → (IsFirst p way b → HasAllEdges R p g steps 0) → way ≡ [] → 0 < conditions p → ((c : ℕ) → next p 0 c ≡ 0) → Adds R p g h → GoesOverAll p (Faults R) h.inputs.items
all_gathered R p g h way a b steps places at same tree has no_way some dead adds =
    let first : IsFirst p way b = record { no_way = no_way; first = same ∙ at; condition = some } in
    goes_over_all R p h steps places adds.gathered (subst (λ (s : ℕ). IsTree p s steps places (length steps)) at tree) dead
    (all_edges_stay R p g h adds a steps 0 tree.each (has first))
