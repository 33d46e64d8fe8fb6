-- A match is determined by the bytes that it asks for.
use Rattle.std.proofs.Common.{◌≡◌, ℕ, ◌+◌, ◌-◌, ◌≤◌, ◌<◌, Bool, false, List, [], ◌∷◌, ◌++◌, length, take, ◌⊎◌, inl, inr, Option, None, refl, sym, ◌∙◌, ap, subst, arith}
use Rattle.std.proofs.lemmas.List.{take-append-le, length-append, length-take-le}
use Rattle.lex_semantics.specs.Text.{Among, IsText}
use Rattle.lex_semantics.specs.Rules.{Rules, Full, statements_of}
use Rattle.lex_semantics.specs.Laws.{Laws}
use Rattle.lex_semantics.specs.Candidates.{Candidate, IsCandidate, Candidates}
use Rattle.lex_semantics.specs.Acting.{Acting}
use Rattle.lex_semantics.specs.ActionResults.{ActionResult, Done, Again, Over, act_result, settle, perform_results}
use Rattle.lex_semantics.proofs.Texts.{is_text_take, take_past}

-- Where no longer word can fit, no match is longer.
no_longer : (R : Rules) (l : Laws R) (c : ℕ) (line_start : Bool) (v rest : List ℕ) (m : Candidate) → IsText rest → 1 ≤ length v → (R.live c line_start v → ⊥) →
    IsCandidate R c line_start (v ++ rest) m → (m.len ≤ length v) ⊎ (length v < m.len) → m.len ≤ length v
no_longer R l c line_start v rest m is_text some dead h (inl le) = le
no_longer R l c line_start v rest m is_text some dead h (inr lt) = from h.1
  where
    n : ℕ
    n = m.len - length v

    whole : take m.len (v ++ rest) ≡ v ++ take (m.len - length v) rest
    whole = let sum : m.len ≡ length v + (m.len - length v) = omega arith in ap (λ i. take i (v ++ rest)) sum ∙ take_past v rest (m.len - length v)

    fits : m.len - length v ≤ length rest
    fits = let h' : m.len ≤ length (v ++ rest) = h.0 in let e : length (v ++ rest) ≡ length v + length rest = length-append v rest in omega arith

    from : Full R c line_start (take m.len (v ++ rest)) m.rule m.keep → m.len ≤ length v
    from (inl f) = absurd (dead (l.live_from_full c line_start v (take (m.len - length v) rest) m.rule m.keep (is_text_take (m.len - length v) rest is_text) (rw (length-take-le (m.len - length v) rest fits) (omega arith)) (subst (λ w. R.full c line_start w m.rule m.keep) whole f.1)))
    from (inr f) = let e : length (take m.len (v ++ rest)) ≡ m.len = length-take-le m.len (v ++ rest) h.0 in omega (arith, f.1, e)

module _ (R : Rules) (l : Laws R) (c : ℕ) (line_start : Bool) (v rest : List ℕ) (is_text : IsText rest) (some : 1 ≤ length v) (dead : R.live c line_start v → ⊥) where
  short : (m : Candidate) → IsCandidate R c line_start (v ++ rest) m → m.len ≤ length v
  short m h = no_longer R l c line_start v rest m is_text some dead h (grind arith)

  longer : (m : Candidate) → IsCandidate R c line_start v m → IsCandidate R c line_start (v ++ rest) m
  longer m h = (
    let a : m.len ≤ length v = h.0 in let e : length (v ++ rest) ≡ length v + length rest = length-append v rest in omega arith,
    subst (λ w. Full R c line_start w m.rule m.keep) (sym (take-append-le m.len v rest h.0)) h.1,
  )

  shorter : (m : Candidate) → IsCandidate R c line_start (v ++ rest) m → IsCandidate R c line_start v m
  shorter m h = (
    short m h,
    subst (λ w. Full R c line_start w m.rule m.keep) (take-append-le m.len v rest (short m h)) h.1,
  )

  -- The matches at a place are those among the bytes that a match asks for.
  pub more_input : (ms : List Candidate) → Candidates R c line_start v ms → Candidates R c line_start (v ++ rest) ms
  more_input ms h = record { in_order = h.in_order; members = λ m. (λ a. longer m ((h.members m).0 a), λ k. (h.members m).1 (shorter m k)) }

  pub less_input : (ms : List Candidate) → Candidates R c line_start (v ++ rest) ms → Candidates R c line_start v ms
  less_input ms h = record { in_order = h.in_order; members = λ m. (λ a. shorter m ((h.members m).0 a), λ k. (h.members m).1 (longer m k)) }

-- a match's text is inside
pub keep_inside : (R : Rules) (l : Laws R) (c : ℕ) (line_start : Bool) (v : List ℕ) (m : Candidate) → IsCandidate R c line_start v m → m.keep ≤ length v
keep_inside R l c line_start v m h = from h.1
  where
    e : length (take m.len v) ≡ m.len
    e = length-take-le m.len v h.0

    from : Full R c line_start (take m.len v) m.rule m.keep → m.keep ≤ length v
    from (inl f) = omega (arith, l.inside c line_start (take m.len v) m.rule m.keep f.1, e, h.0)
    from (inr f) = omega (arith, f.1, f.2, e, h.0)

pub settle_same : (w : ActionResult) (f g : Acting → Option Acting) → ((a : Acting) → f a ≡ g a) → settle w f ≡ settle w g
settle_same (Done a) f g h = refl
settle_same (Again a) f g h = h a
settle_same (Over a e) f g h = refl

-- Carrying out matches reads their texts alone.
pub same_performed : (R : Rules) (kept v w : List ℕ) (ms : List Candidate) (out : List ℕ) (c : ℕ) (cs : List ℕ) → ((m : Candidate) → Among ms m → take m.keep v ≡ take m.keep w) →
    perform_results R kept v ms out c cs ≡ perform_results R kept w ms out c cs
unfolding perform_results
same_performed R kept v w [] out c cs h = refl
same_performed R kept v w (m ∷ ms) out c cs h =
    let next : (y : List ℕ) → Acting → Option Acting = λ y a. perform_results R kept y ms a.written a.condition a.stack in
    let begin : List ℕ → Acting = λ t. record { text = kept ++ t; written = out; condition = c; stack = cs; more = false; ended = None } in
    ap (λ t. settle (act_result (statements_of R m.rule) (begin t)) (next v)) (h m (inl refl))
    ∙ settle_same (act_result (statements_of R m.rule) (begin (take m.keep w))) (next v) (next w) (λ a. same_performed R kept v w ms a.written a.condition a.stack (λ n k. h n (inr k)))
