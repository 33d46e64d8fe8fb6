-- A scan over an input, and the same turns over that input behind others.
use Rattle.std.proofs.Common.{zero-add, ◌≡◌, ℕ, zero, suc, ◌+◌, ◌-◌, ◌<◌, Bool, true, false, List, [], ◌∷◌, ◌++◌, length, take, drop, inl, inr, Option, Some, None, refl, sym, ◌∙◌, ap, subst, arith}
use Rattle.std.specs.Prelude.{nat_eq}
use Rattle.std.proofs.Math.Seq.{drop-append-add}
use Rattle.std.proofs.lemmas.List.{length-append, append_assoc}
use Rattle.lex_semantics.specs.Text.{part, byte_at, at_line_start}
use Rattle.lex_semantics.specs.Rules.{Rules}
use Rattle.lex_semantics.specs.Candidates.{Candidates}
use Rattle.lex_semantics.specs.Acting.{Ending, Acting}
use Rattle.lex_semantics.specs.Acting.{perform}
use Rattle.lex_semantics.specs.Run.{Place, State, Turn, NextFrom, Turns, next_place, next_start}
use Rattle.lex_semantics.proofs.Once.{one_state}
use Rattle.lexlook_tables.proofs.Bytes.{byte_at_past}

module _ (R : Rules) (x y : List ℕ) (k : ℕ) (size : length x ≡ suc k) (newline : byte_at x k ≡ 10) where
  abbrev n : ℕ
  n = length x

  abbrev pub shift : Place → Place
  shift p = record { start = n + p.start; at = n + p.at; condition = p.condition; stack = p.stack }

  -- as far as a turn leads, behind what was written before
  abbrev pub behind : List ℕ → State → State
  behind v s = record { written = v ++ s.written; place = shift s.place; ended = s.ended }

  last_byte : (v : List ℕ) (i : ℕ) → i < length v → byte_at (v ++ y) i ≡ byte_at v i
  last_byte [] i lt = absurd (omega (arith, lt))
  last_byte (b ∷ v) zero lt = refl
  last_byte (b ∷ v) (suc i) lt = last_byte v i (omega (arith, lt))

  line_at : (p : ℕ) → at_line_start (x ++ y) (n + p) ≡ at_line_start y p
  line_at zero = (let e : n + 0 ≡ suc k = omega (arith, size) in ap (at_line_start (x ++ y)) e ∙ ap (λ b. nat_eq b 10) (last_byte x k (omega (arith, size)) ∙ newline))
  line_at (suc p) = (let e : n + suc p ≡ suc (n + p) = omega arith in ap (at_line_start (x ++ y)) e ∙ ap (λ b. nat_eq b 10) (byte_at_past x y p))

  part_at : (i j : ℕ) → part (x ++ y) (n + i) (n + j) ≡ part y i j
  part_at i j = (let e : (n + j) - (n + i) ≡ j - i = omega arith in ap (λ z. take z (drop (n + i) (x ++ y))) e ∙ ap (take (j - i)) (drop-append-add x y i))

  next_at : (p : Place) (o : Acting) → next_place (shift p) o ≡ shift (next_place p o)
  next_at p o = (let e : (n + p.start) + length o.text ≡ n + (p.start + length o.text) = omega arith in
      ap (λ z. record { start = next_start o.ended o.more (n + p.start) z; at = z; condition = o.condition; stack = o.stack }) e
      ∙ ap (λ z. record { start = z; at = n + (p.start + length o.text); condition = o.condition; stack = o.stack }) (starts o.ended o.more))
    where
      starts : (e : Option Ending) (more : Bool) → next_start e more (n + p.start) (n + (p.start + length o.text)) ≡ n + next_start e more p.start (p.start + length o.text)
      starts (Some d) more = refl
      starts None true = refl
      starts None false = refl

  turn_behind : (p : Place) (t : State) → Turn R y p t → Turn R (x ++ y) (shift p) (record { written = t.written; place = shift t.place; ended = t.ended })
  turn_behind p t (inl m) = inl (record {
    before_end = (let e = length-append x y in omega (arith, e, m.before_end));
    matches = m.matches;
    all = subst (λ line. Candidates R p.condition line (drop (n + p.at) (x ++ y)) m.matches) (sym (line_at p.at)) (subst (λ w. Candidates R p.condition (at_line_start y p.at) w m.matches) (sym (drop-append-add x y p.at)) m.all);
    outcome = m.outcome;
    performed = ap (λ w. perform R w (drop (n + p.at) (x ++ y)) m.matches [] p.condition p.stack) (part_at p.start p.at) ∙ ap (λ w. perform R (part y p.start p.at) w m.matches [] p.condition p.stack) (drop-append-add x y p.at) ∙ m.performed;
    leaves = ap (λ (z : State). record { written = z.written; place = shift z.place; ended = z.ended }) m.leaves ∙ ap (λ q. record { written = m.outcome.written; place = q; ended = m.outcome.ended }) (sym (next_at p m.outcome));
  })
  turn_behind p t (inr m) = inr (record {
    at_end = (let e = length-append x y in let f = m.at_end in omega (arith, e, f));
    leaves = ap (λ (z : State). record { written = z.written; place = shift z.place; ended = z.ended }) m.leaves;
  })

  next_behind : (v : List ℕ) (s t : State) (e : Option Ending) → NextFrom R y s e t → NextFrom R (x ++ y) (behind v s) e (behind v t)
  next_behind v s t (Some d) is = ap (behind v) is
  next_behind v s t None h = (
    record { written = h.0.written; place = shift h.0.place; ended = h.0.ended },
    turn_behind s.place h.0 h.1,
    ap (behind v) h.2 ∙ ap (λ w. record { written = w; place = shift h.0.place; ended = h.0.ended }) (sym (append_assoc v s.written h.0.written)),
  )

  -- m turns more, from where the second piece begins
  pub turns_behind : (v : List ℕ) (first : State) (before : ℕ) → Turns R (x ++ y) before (behind v first) → first ≡ record { written = []; place = record { start = 0; at = 0; condition = 0; stack = [] }; ended = None } →
      (m : ℕ) (t : State) → Turns R y m t → Turns R (x ++ y) (m + before) (behind v t)
  turns_behind v first before reached is zero t e = subst (λ i. Turns R (x ++ y) i (behind v t)) (sym (zero-add before)) (subst (λ z. Turns R (x ++ y) before (behind v z)) (is ∙ sym e) reached)
  turns_behind v first before reached is (suc m) t h =
      let more : suc m + before ≡ suc (m + before) = omega arith in
      subst (λ i. Turns R (x ++ y) i (behind v t)) (sym more) (behind v h.0, turns_behind v first before reached is m h.0 h.1, next_behind v h.0 t h.0.ended h.2)

  -- m turns more, from where the first turn of the second piece leads
  pub turns_after : (v : List ℕ) (first : State) (before : ℕ) → Turns R (x ++ y) before (behind v first) → Turns R y 1 first → (m : ℕ) (t : State) → Turns R y (suc m) t → Turns R (x ++ y) (m + before) (behind v t)
  turns_after v first before reached one zero t h = subst (λ i. Turns R (x ++ y) i (behind v t)) (sym (zero-add before)) (subst (λ z. Turns R (x ++ y) before (behind v z)) (one_state R y 1 first t one h) reached)
  turns_after v first before reached one (suc m) t h =
      let more : suc m + before ≡ suc (m + before) = omega arith in
      subst (λ i. Turns R (x ++ y) i (behind v t)) (sym more) (behind v h.0, turns_after v first before reached one m h.0 h.1, next_behind v h.0 t h.0.ended h.2)
