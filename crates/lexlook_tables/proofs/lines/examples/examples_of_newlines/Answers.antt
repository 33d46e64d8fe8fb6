use Rattle.std.proofs.Common.{◌≡◌, ℕ, ◌⊎◌, Bool, true, false, List, [], ◌∷◌, inl, inr, refl, sym, ap, subst, arith}
use Rattle.std.specs.Prelude.{nat_eq, if◌then◌else◌}
use Rattle.lex_semantics.specs.Text.{IsText, Among}
use Rattle.lex_semantics.specs.Spec.{Whole}
use Rattle.lex_semantics.specs.Machine.{Machine, walk}
use Rattle.lexlook_tables.specs.Lines.{Discards, AllDiscard, DiscardsLine}
use Rattle.lexlook_tables.specs.NewlineExamples.{newline_runs, longer_runs}
use Rattle.lexlook_tables.proofs.lines.examples.examples_of_newlines.Goals as goal

-- the dead state, and those after newlines and after a byte that is discarded
abbrev Blank : ℕ → Type 0
Blank s = (s ≡ 0) ⊎ ((s ≡ 2) ⊎ (s ≡ 4))

abbrev choice : Bool → ℕ → ℕ → ℕ
choice c s t = if c then s else t

either : (c : Bool) (s t : ℕ) → Blank s → Blank t → Blank (choice c s t)
either true s t p q = p
either false s t p q = q

-- where each byte leads from these states to one of them, all is discarded
module _ (M : Machine) (none : M.accepts 0 ≡ []) (after : M.accepts 2 ≡ 0 ∷ []) (beyond : M.accepts 4 ≡ 0 ∷ []) (discards : Discards M 0) (step : (s b : ℕ) → Blank s → Blank (M.next s b)) where
  first : (i : ℕ) → Among (0 ∷ []) i → Discards M i
  first i (inl e) = subst (Discards M) (sym e) discards
  first i (inr at) = absurd at

  here : (s i : ℕ) → Blank s → Among (M.accepts s) i → Discards M i
  here s i (inl e) at = absurd (subst (λ l. Among l i) none (subst (λ z. Among (M.accepts z) i) e at))
  here s i (inr (inl e)) at = first i (subst (λ l. Among l i) after (subst (λ z. Among (M.accepts z) i) e at))
  here s i (inr (inr e)) at = first i (subst (λ l. Among l i) beyond (subst (λ z. Among (M.accepts z) i) e at))

  each : (u : List ℕ) (s i : ℕ) → Blank s → Among (M.accepts (walk M s u)) i → Discards M i
  each [] s i p at = here s i p at
  each (b ∷ u) s i p at = each u (M.next s b) i (step s b p) at

  all : AllDiscard M 2
  all u i text at = each u 2 i (inr (inl refl)) at

-- from a state to which bytes lead so
by_byte : (M : Machine) (s k b p q : ℕ) → s ≡ k → M.next k b ≡ choice (nat_eq b 10) p q → Blank p → Blank q → Blank (M.next s b)
by_byte M s k b p q e is at_p at_q = subst Blank (sym (ap (λ z. M.next z b) e)) (subst Blank (sym is) (either (nat_eq b 10) p q at_p at_q))

zero_blank : Blank 0
zero_blank = inl refl

two_blank : Blank 2
two_blank = inr (inl refl)

four_blank : Blank 4
four_blank = inr (inr refl)

step_newlines : (s b : ℕ) → Blank s → Blank ((newline_runs Whole []).next s b)
step_newlines s b (inl e) = by_byte (newline_runs Whole []) s 0 b 0 0 e refl zero_blank zero_blank
step_newlines s b (inr (inl e)) = by_byte (newline_runs Whole []) s 2 b 2 0 e refl two_blank zero_blank
step_newlines s b (inr (inr e)) = by_byte (newline_runs Whole []) s 4 b 0 0 e refl zero_blank zero_blank

step_longer : (s b : ℕ) → Blank s → Blank ((longer_runs 4 4).next s b)
step_longer s b (inl e) = by_byte (longer_runs 4 4) s 0 b 0 0 e refl zero_blank zero_blank
step_longer s b (inr (inl e)) = by_byte (longer_runs 4 4) s 2 b 2 4 e refl two_blank four_blank
step_longer s b (inr (inr e)) = by_byte (longer_runs 4 4) s 4 b 0 0 e refl zero_blank zero_blank

-- the dead state accepts nothing, now or later
dead : (u : List ℕ) (i : ℕ) → Among ((newline_runs Whole []).accepts (walk (newline_runs Whole []) 0 u)) i → ⊥
dead [] i at = at
dead (b ∷ u) i at = dead u i (subst (λ z. Among ((newline_runs Whole []).accepts (walk (newline_runs Whole []) z u)) i) (same (nat_eq b 10)) at)
  where
    same : (c : Bool) → choice c 0 0 ≡ 0
    same true = refl
    same false = refl

again_by : (c : Bool) (u : List ℕ) (i : ℕ) → Among ((newline_runs Whole []).accepts (walk (newline_runs Whole []) (choice c 2 0) u)) i → choice c 2 0 ≡ choice c 2 3
again_by true u i at = refl
again_by false u i at = absurd (dead u i at)

discarded : DiscardsLine (newline_runs Whole []) 0 2
discarded = record {
  initial = refl;
  taken = (0, inl refl);
  discards = all (newline_runs Whole []) refl refl refl (refl, refl) step_newlines;
  again = λ b small u i text at. again_by (nat_eq b 10) u i at;
}

-- a byte that is not a newline
text_a : IsText (97 ∷ [])
text_a = (omega arith, tt)

copied_beyond : DiscardsLine (longer_runs 3 3) 0 2 → ⊥
copied_beyond d = no (d.discards (97 ∷ []) 1 text_a (inl refl)).1
  where
    no : (longer_runs 3 3).statements 1 ≡ [] → ⊥
    no e = cc

pub returns : goal.returns
returns c = record {
  discarded = discarded;
  in_another = λ d. (let e = d.initial in omega (arith, e));
  copied = λ d. (let e = (d.discards [] 0 tt (inl refl)).1 in cc);
  before_more = λ d. (let e = (d.discards [] 0 tt (inl refl)).0 in cc);
  goes_on = record {
    initial = refl;
    taken = (0, inl refl);
    discards = all (longer_runs 4 4) refl refl refl (refl, refl) step_longer;
    again = λ b small u i text at. refl;
  };
  copied_beyond = copied_beyond;
  elsewhere = λ d. (let e : 4 ≡ 3 = d.again 97 (omega arith) [] 0 tt (inl refl) in omega (arith, e));
  at_line = λ d. (let e : 4 ≡ 3 = d.again 97 (omega arith) [] 0 tt (inl refl) in omega (arith, e));
  not_taken = λ d. d.taken.1;
  told = (refl, 1 ∷ 10 ∷ 0 ∷ [], (copied_beyond, (10 ∷ [], (omega arith, tt), omega arith, inl refl, refl)), refl);
  not_told = λ i k h. h.2.0 discarded;
}
