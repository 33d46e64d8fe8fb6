-- What is written only grows, so what was written before a refusal is a front of what the run writes.
use Rattle.std.proofs.Common.{zero-add, ◌≡◌, ℕ, zero, suc, ◌+◌, ◌-◌, ◌≤◌, List, [], ◌++◌, ◌⊎◌, inl, inr, Option, Some, None, refl, sym, ◌∙◌, ap, subst, arith}
use Rattle.std.proofs.lemmas.List.{append-nil, append_assoc}
use Rattle.lex_semantics.specs.Text.{BeginsWith}
use Rattle.lex_semantics.specs.Rules.{Rules}
use Rattle.lex_semantics.specs.Acting.{Ending}
use Rattle.lex_semantics.specs.Run.{State, Turn, NextFrom, Turns, Run}
use Rattle.lex_semantics.proofs.Once.{one_state, stays}

begins_trans : (u v w : List ℕ) → BeginsWith w v → BeginsWith v u → BeginsWith w u
begins_trans u v w h k = (k.0 ++ h.0, h.1 ∙ ap (λ z. z ++ h.0) k.1 ∙ append_assoc u k.0 h.0)

next_grows : (R : Rules) (x : List ℕ) (s t : State) (e : Option Ending) → NextFrom R x s e t → BeginsWith t.written s.written
next_grows R x s t (Some e) h = ([], ap (λ (z : State). z.written) h ∙ sym (append-nil s.written))
next_grows R x s t None h = (h.0.written, ap (λ (z : State). z.written) h.2)

more_turns : (R : Rules) (x : List ℕ) (n m : ℕ) (s t : State) → Turns R x n s → Turns R x (m + n) t → BeginsWith t.written s.written
more_turns R x n zero s t h k = let same : t ≡ s = one_state R x n t s (subst (λ i. Turns R x i t) (zero-add n) k) h in ([], ap (λ (z : State). z.written) same ∙ sym (append-nil s.written))
more_turns R x n (suc m) s t h k =
    let e : suc m + n ≡ suc (m + n) = omega arith in
    let r : Turns R x (suc (m + n)) t = subst (λ i. Turns R x i t) e k in
    begins_trans s.written r.0.written t.written (next_grows R x r.0 t r.0.ended r.2) (more_turns R x n m s r.0 h r.1)

-- What n turns write is a front of what the run writes.
pub run_begins : (R : Rules) (x : List ℕ) (n : ℕ) (s : State) (w : List ℕ) (d : Ending) → Turns R x n s → Run R x w d → BeginsWith w s.written
run_begins R x n s w d h (m, p, k) = from (grind arith)
  where
    last : State
    last = record { written = w; place = p; ended = Some d }

    from : (n ≤ m) ⊎ (m ≤ n) → BeginsWith w s.written
    from (inl le) =
        let sum : m ≡ m - n + n = omega arith in
        more_turns R x n (m - n) s last h (subst (λ i. Turns R x i last) sum k)
    from (inr le) =
        let sum : n - m + m ≡ n = omega arith in
        let same : s ≡ last = one_state R x n s last h (subst (λ i. Turns R x i last) sum (stays R x m (n - m) last d refl k)) in
        ([], ap (λ (z : State). z.written) (sym same) ∙ sym (append-nil s.written))

-- So is what they write and a front of what the next turn writes.
pub part_begins : (R : Rules) (x : List ℕ) (n : ℕ) (s t : State) (v w : List ℕ) (d : Ending) → Turns R x n s → s.ended ≡ None → Turn R x s.place t → BeginsWith t.written v → Run R x w d →
    BeginsWith w (s.written ++ v)
part_begins R x n s t v w d h going turn part run =
    let u : State = record { written = s.written ++ t.written; place = t.place; ended = t.ended } in
    let more : Turns R x (suc n) u = (s, h, subst (λ z. NextFrom R x s z u) (sym going) (t, turn, refl)) in
    let all = run_begins R x (suc n) u w d more run in
    (part.0 ++ all.0, all.1 ∙ ap (λ z. (s.written ++ z) ++ all.0) part.1 ∙ ap (λ z. z ++ all.0) (sym (append_assoc s.written v part.0)) ∙ append_assoc (s.written ++ v) part.0 all.0)
