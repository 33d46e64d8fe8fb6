-- Which of the matches at a place is carried out, where no action ends the scan or uses the stack of conditions.
use Rattle.std.proofs.Common.{◌≡◌, ℕ, false, List, [], ◌∷◌, ◌++◌, take, inl, inr, Option, Some, None, refl, sym, ◌∙◌, ap, subst, arith}
use Rattle.lex_semantics.specs.Text.{Among}
use Rattle.lex_semantics.specs.Spec.{Statement, Reject, End, Push, Pop}
use Rattle.lex_semantics.specs.Rules.{Rules, statements_of}
use Rattle.lex_semantics.specs.Candidates.{Candidate, Before, InOrder}
use Rattle.lex_semantics.specs.Acting.{Acting}
use Rattle.lex_semantics.specs.ActionResults.{ActionResult, Done, Again, Over, act_result, settle, perform_results}
use Rattle.lexlook_tables.proofs.Deeds.{IsSteady}
use Rattle.lexlook_tables.proofs.Does.{Does, does, stays_on}

-- where an action begins
abbrev pub begin : List ℕ → List ℕ → ℕ → List ℕ → Acting
begin text out c cs = record { text = text; written = out; condition = c; stack = cs; more = false; ended = None }

-- One of the matches was carried out, and each before it was rejected.
pub record Settles (R : Rules) (kept y : List ℕ) (ms : List Candidate) (c : ℕ) (cs : List ℕ) (o : Acting) : Type 0 where
  pub taken : Candidate
  pub among : Among ms taken
  pub before : (n : Candidate) → Among ms n → Before n taken → Among (statements_of R n.rule) Reject
  pub out : List ℕ
  pub done : act_result (statements_of R taken.rule) (begin (kept ++ take taken.keep y) out c cs) ≡ Done o
  pub going : o.ended ≡ None

not_both : (m n : Candidate) → Before m n → Before n m → ⊥
not_both m n (inl a) (inl b) = omega (arith, a, b)
not_both m n (inl a) (inr b) = omega (arith, a, b.0)
not_both m n (inr a) (inl b) = omega (arith, b, a.0)
not_both m n (inr a) (inr b) = omega (arith, a.1, b.1)

module _ (R : Rules) (steady : (i : ℕ) → IsSteady (statements_of R i)) (kept y : List ℕ) where
  some_matched : (a b : Acting) → Some a ≡ Some b → a ≡ b
  some_matched a b e = cc

  abbrev pub next : List Candidate → Acting → Option Acting
  next ms a = perform_results R kept y ms a.written a.condition a.stack

  pub settles : (ms : List Candidate) → InOrder ms → (out : List ℕ) (c : ℕ) (cs : List ℕ) (o : Acting) → perform_results R kept y ms out c cs ≡ Some o → Settles R kept y ms c cs o
  unfolding perform_results
  settles [] order out c cs o e = absurd cc
  settles (m ∷ ms) order out c cs o e = from (act_result (statements_of R m.rule) (begin (kept ++ take m.keep y) out c cs)) refl e (λ b. settles ms order.1 b.written b.condition b.stack o)
    where
      a : Acting
      a = begin (kept ++ take m.keep y) out c cs

      ss : List Statement
      ss = statements_of R m.rule

      plain : ((status : ℕ) → Among ss (End status) → ⊥) × ((d : ℕ) → Among ss (Push d) → ⊥) × (Among ss Pop → ⊥)
      plain = ((steady m.rule).no_end, (steady m.rule).no_push, (steady m.rule).no_pop)

      known : Does 0 ss a (act_result ss a)
      known = does 0 ss a plain

      from : (r : ActionResult) → act_result ss a ≡ r → settle r (next ms) ≡ Some o → ((b : Acting) → next ms b ≡ Some o → Settles R kept y ms b.condition b.stack o) → Settles R kept y (m ∷ ms) c cs o
      from (Done b) is f rest = record {
        taken = m;
        among = inl refl;
        before = first;
        out = out;
        done = is ∙ ap (λ d. Done (record b { ended = d })) (stays_on ss a b plain is) ∙ ap (λ (z : Acting). Done z) (some_matched (record b { ended = None }) o f);
        going = sym (ap (λ (z : Acting). z.ended) (some_matched (record b { ended = None }) o f));
      }
        where
          first : (n : Candidate) → Among (m ∷ ms) n → Before n m → Among (statements_of R n.rule) Reject
          first n (inl e) b = absurd (not_both n m b (subst (λ z. Before m z) (sym e) (subst (λ z. Before z m) e b)))
          first n (inr at) b = absurd (not_both n m b (order.0 n at))
      from (Again b) is f rest =
          let k : Does 0 ss a (Again b) = subst (Does 0 ss a) is known in
          let condition : b.condition ≡ c = k.1 ((steady m.rule).rejects k.2) in
          let later = rest b f in
          record {
            taken = later.taken;
            among = inr later.among;
            before = before k.2 later.taken later.before;
            out = later.out;
            done = subst (λ d. act_result (statements_of R later.taken.rule) (begin (kept ++ take later.taken.keep y) later.out d cs) ≡ Done o) condition
                (subst (λ s. act_result (statements_of R later.taken.rule) (begin (kept ++ take later.taken.keep y) later.out b.condition s) ≡ Done o) k.0 later.done);
            going = later.going;
          }
        where
          before : Among ss Reject → (t : Candidate) → ((n : Candidate) → Among ms n → Before n t → Among (statements_of R n.rule) Reject) → (n : Candidate) → Among (m ∷ ms) n → Before n t → Among (statements_of R n.rule) Reject
          before rejected t h n (inl e) b = subst (λ (z : Candidate). Among (statements_of R z.rule) Reject) (sym e) rejected
          before rejected t h n (inr at) b = h n at b
      from (Over b d) is f rest = absurd (subst (Does 0 ss a) is known)
