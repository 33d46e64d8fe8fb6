-- There is at most one list of matches at a place, one outcome of a turn, and one run.
use Rattle.std.proofs.Common.{zero-add, ◌≡◌, ℕ, zero, suc, ◌+◌, ◌-◌, ◌≤◌, Bool, List, [], ◌∷◌, ◌++◌, drop, ◌⊎◌, inl, inr, ◌↔◌, Option, Some, None, refl, sym, ◌∙◌, ap, subst, arith}
use Rattle.lex_semantics.specs.Text.{Among, part}
use Rattle.lex_semantics.specs.Rules.{Rules}
use Rattle.lex_semantics.specs.Candidates.{Candidate, Before, InOrder, Candidates}
use Rattle.lex_semantics.specs.Acting.{Ending, Acting}
use Rattle.lex_semantics.specs.Acting.{perform}
use Rattle.lex_semantics.specs.Run.{Place, State, Turn, MatchTurn, NextFrom, Turns, Run, next_place}

not_both : (m n : Candidate) → Before m n → Before n m → ⊥
not_both m n h k = omega arith

pub same_heads : (m n : Candidate) (ms ns : List Candidate) → InOrder (m ∷ ms) → InOrder (n ∷ ns) → Among (n ∷ ns) m → Among (m ∷ ms) n → m ≡ n
same_heads m n ms ns p q (inl e) k = e
same_heads m n ms ns p q (inr h) (inl e) = sym e
same_heads m n ms ns p q (inr h) (inr k) = absurd (not_both m n (p.0 n k) (q.0 m h))

-- what is in a list and is not its head is in its tail
in_tail : (m n q : Candidate) (ms ns : List Candidate) → m ≡ n → InOrder (m ∷ ms) → Among ms q → Among (n ∷ ns) q → Among ns q
in_tail m n q ms ns e p h (inl d) = let b : Before m q = p.0 q h in let same : q ≡ m = d ∙ sym e in absurd (not_both m m (subst (λ z. Before m z) same b) (subst (λ z. Before m z) same b))
in_tail m n q ms ns e p h (inr k) = k

pub same_order : (ms ns : List Candidate) → InOrder ms → InOrder ns → ((m : Candidate) → Among ms m ↔ Among ns m) → ms ≡ ns
same_order [] [] p q h = refl
same_order [] (n ∷ ns) p q h = absurd ((h n).1 (inl refl))
same_order (m ∷ ms) [] p q h = absurd ((h m).0 (inl refl))
same_order (m ∷ ms) (n ∷ ns) p q h =
    let e : m ≡ n = same_heads m n ms ns p q ((h m).0 (inl refl)) ((h n).1 (inl refl)) in
    let rest : ms ≡ ns = same_order ms ns p.1 q.1 (λ r. (
      λ a. in_tail m n r ms ns e p a ((h r).0 (inr a)),
      λ a. in_tail n m r ns ms (sym e) q a ((h r).1 (inr a)),
    )) in
    cc

-- there is at most one list of matches
pub one_candidates : (R : Rules) (c : ℕ) (line_start : Bool) (y : List ℕ) (ms ns : List Candidate) →
    Candidates R c line_start y ms → Candidates R c line_start y ns → ms ≡ ns
one_candidates R c line_start y ms ns p q = same_order ms ns p.in_order q.in_order (λ m. (λ a. (q.members m).1 ((p.members m).0 a), λ a. (p.members m).1 ((q.members m).0 a)))

pub some_inj : {A : Type 0} (a b : A) → Some a ≡ Some b → a ≡ b
some_inj a b e = cc

one_match : (R : Rules) (x : List ℕ) (p : Place) (s t : State) → MatchTurn R x p s → MatchTurn R x p t → s ≡ t
one_match R x p s t h k =
    let same : h.matches ≡ k.matches = one_candidates R _ _ _ _ _ h.all k.all in
    let both : Some h.outcome ≡ Some k.outcome = sym h.performed ∙ ap (λ ms. perform R (part x p.start p.at) (drop p.at x) ms [] p.condition p.stack) same ∙ k.performed in
    let outcome : h.outcome ≡ k.outcome = some_inj _ _ both in
    h.leaves ∙ ap (λ (o : Acting). record { written = o.written; place = next_place p o; ended = o.ended }) outcome ∙ sym k.leaves

-- a turn has at most one outcome
pub one_turn : (R : Rules) (x : List ℕ) (p : Place) (s t : State) → Turn R x p s → Turn R x p t → s ≡ t
one_turn R x p s t (inl h) (inl k) = one_match R x p s t h k
one_turn R x p s t (inl h) (inr k) = absurd (omega (arith, h.before_end, k.at_end))
one_turn R x p s t (inr h) (inl k) = absurd (omega (arith, k.before_end, h.at_end))
one_turn R x p s t (inr h) (inr k) = h.leaves ∙ sym k.leaves

one_next_from : (R : Rules) (x : List ℕ) (s a b : State) (e : Option Ending) → NextFrom R x s e a → NextFrom R x s e b → a ≡ b
one_next_from R x s a b (Some e) h k = h ∙ sym k
one_next_from R x s a b None h k =
    let same : h.0 ≡ k.0 = one_turn R x s.place h.0 k.0 h.1 k.1 in
    h.2 ∙ ap (λ (t : State). record { written = s.written ++ t.written; place = t.place; ended = t.ended }) same ∙ sym k.2

pub one_next : (R : Rules) (x : List ℕ) (s a b : State) → NextFrom R x s s.ended a → NextFrom R x s s.ended b → a ≡ b
one_next R x s a b = one_next_from R x s a b s.ended

-- after n turns there is at most one state
pub one_state : (R : Rules) (x : List ℕ) (n : ℕ) (s t : State) → Turns R x n s → Turns R x n t → s ≡ t
one_state R x zero s t h k = h ∙ sym k
one_state R x (suc n) s t h k =
    let same : h.0 ≡ k.0 = one_state R x n h.0 k.0 h.1 k.1 in
    one_next R x k.0 s t (subst (λ (z : State). NextFrom R x z z.ended s) same h.2) k.2

-- a scan that has ended stays as it is
pub stays : (R : Rules) (x : List ℕ) (n m : ℕ) (s : State) (e : Ending) → s.ended ≡ Some e → Turns R x n s → Turns R x (m + n) s
stays R x n zero s e h k = rw zero-add k
stays R x n (suc m) s e h k =
    let more : suc m + n ≡ suc (m + n) = omega arith in
    let still : NextFrom R x s s.ended s = subst (λ z. NextFrom R x s z s) (sym h) refl in
    subst (λ i. Turns R x i s) (sym more) (s, stays R x n m s e h k, still)

-- two ends of a scan are one
pub same_end : (R : Rules) (x : List ℕ) (n m : ℕ) (s t : State) (d e : Ending) → n ≤ m → s.ended ≡ Some d → t.ended ≡ Some e → Turns R x n s → Turns R x m t → s ≡ t
same_end R x n m s t d e le p q h k =
    let sum : m - n + n ≡ m = omega arith in
    one_state R x m s t (subst (λ i. Turns R x i s) sum (stays R x n (m - n) s d p h)) k

abbrev run_end : List ℕ → Place → Ending → State
run_end v p d = record { written = v; place = p; ended = Some d }

either_same : (R : Rules) (x : List ℕ) (n m : ℕ) (s t : State) (d e : Ending) → (n ≤ m) ⊎ (m ≤ n) → s.ended ≡ Some d → t.ended ≡ Some e → Turns R x n s → Turns R x m t → s ≡ t
either_same R x n m s t d e (inl le) p q h k = same_end R x n m s t d e le p q h k
either_same R x n m s t d e (inr le) p q h k = sym (same_end R x m n t s e d le q p k h)

-- After turns that end the scan it has run.
pub run_by : (R : Rules) (x w : List ℕ) (d : Ending) (n : ℕ) (s : State) → Turns R x n s → s.written ≡ w → s.ended ≡ Some d → Run R x w d
run_by R x w d n s h writes ends = (n, s.place, subst (Turns R x n) (λ i. record { written = writes i; place = s.place; ended = ends i }) h)

-- An input has at most one run.
pub one_run : (R : Rules) (x : List ℕ) (v w : List ℕ) (d e : Ending) → Run R x v d → Run R x w e → (v ≡ w) × (d ≡ e)
one_run R x v w d e (n, p, h) (m, q, k) =
    let total : (n ≤ m) ⊎ (m ≤ n) = grind arith in
    let same = either_same R x n m (run_end v p d) (run_end w q e) d e total refl refl h k in
    let ends : Some d ≡ Some e = ap (λ (s : State). s.ended) same in
    (ap (λ (s : State). s.written) same, some_inj d e ends)
