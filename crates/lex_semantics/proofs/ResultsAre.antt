-- What an action does is what its result says.
use Rattle.std.proofs.Common.{suc, arith, ◌≡◌, ℕ, Bool, true, false, List, [], ◌∷◌, ◌++◌, length, take, nat_lt, if◌then◌else◌, Option, Some, None, refl, ◌∙◌, ap}
use Rattle.std.proofs.lemmas.Bool.{cond-true, lt-ltb}
use Rattle.lex_semantics.specs.Limits.{max_stack}
use Rattle.lex_semantics.specs.Spec.{Statement, Echo, Print, Begin, More, Less, Reject, End, Push, Pop}
use Rattle.lex_semantics.specs.Rules.{Rules, statements_of}
use Rattle.lex_semantics.specs.Candidates.{Candidate}
use Rattle.lex_semantics.specs.Acting.{StackFault, Acting, act, perform}
use Rattle.lex_semantics.specs.ActionResults.{ActionResult, Over, popped, act_result, settle, perform_results}

full_is : (b : Bool) (f : Acting → Option Acting) (a : Acting) (o : Option Acting) (r : ActionResult) → o ≡ settle r f → (if b then o else Some (record a { ended = Some StackFault })) ≡ settle (if b then r else Over a StackFault) f
full_is true f a o r e = e
full_is false f a o r e = refl

popped_is : (f : Acting → Option Acting) (ss : List Statement) (a : Acting) → ((b : Acting) → b.ended ≡ None → act f ss b ≡ settle (act_result ss b) f) → a.ended ≡ None → (cs : List ℕ) → a.stack ≡ cs
    → act f (Pop ∷ ss) a ≡ settle (popped cs a (λ d ds. act_result ss (record a { condition = d; stack = ds }))) f
popped_is f ss a each on [] e = rw e refl
popped_is f ss a each on (c ∷ cs) e = rw e (cond-true (nat_lt 0 (suc (length cs))) _ _ (lt-ltb 0 (suc (length cs)) (omega arith)) ∙ each (record a { condition = c; stack = cs }) on)

act_is : (f : Acting → Option Acting) (ss : List Statement) (a : Acting) → a.ended ≡ None → act f ss a ≡ settle (act_result ss a) f
act_is f [] a on = ap (λ e. Some (record a { ended = e })) on
act_is f (Echo ∷ ss) a on = act_is f ss _ on
act_is f (Print s ∷ ss) a on = act_is f ss _ on
act_is f (Begin d ∷ ss) a on = act_is f ss _ on
act_is f (More ∷ ss) a on = act_is f ss _ on
act_is f (Less n ∷ ss) a on = act_is f ss _ on
act_is f (Reject ∷ ss) a on = refl
act_is f (End s ∷ ss) a on = refl
act_is f (Push d ∷ ss) a on = full_is (nat_lt (length a.stack) max_stack) f a _ _ (act_is f ss (record a { condition = d; stack = a.condition ∷ a.stack }) on)
act_is f (Pop ∷ ss) a on = popped_is f ss a (act_is f ss) on a.stack refl

-- What the matches do is what their results say.
pub results_are : (R : Rules) (kept y : List ℕ) (ms : List Candidate) (written : List ℕ) (condition : ℕ) (stack : List ℕ)
    → perform R kept y ms written condition stack ≡ perform_results R kept y ms written condition stack
unfolding perform perform_results
results_are R kept y [] written condition stack = refl
results_are R kept y (m ∷ ms) written condition stack =
    let a : Acting = record { text = kept ++ take m.keep y; written = written; condition = condition; stack = stack; more = false; ended = None } in
    act_is (λ b. perform R kept y ms b.written b.condition b.stack) (statements_of R m.rule) a refl
    ∙ ap (λ f. settle (act_result (statements_of R m.rule) a) f) (λ i b. results_are R kept y ms b.written b.condition b.stack i)
