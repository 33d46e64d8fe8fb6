-- The pairs in which matches start.
use Rattle.std.proofs.Common.{◌≡◌, ℕ, ◌+◌, ◌<◌, Bool, true, false, List, [], ◌∷◌, ◌++◌, length, inl, inr, refl, sym, ◌∙◌, ap, subst, arith}
use Rattle.std.proofs.lemmas.Bool.{cases_lt}
use Rattle.std.proofs.lemmas.List.{length-append}
use Rattle.std.proofs.lemmas.Option.{slice_get_within}
use Rattle.lex_semantics.specs.Machine.{Machine}
use Rattle.lexlook_tables.specs.declared.same.pairs.From.TheVariants.{Start}
use Rattle.lexlook_tables.specs.declared.same.pairs.Pair.{Pair}
use Rattle.lexauto_reports.specs.BackWords.{Precedes}
use Rattle.lexlook_tables.specs.Searching.{HasAt, IsStart, AreStarts, start_key}
use Rattle.lexlook_tables.proofs.Lists.{before_last, at_last, last_or_before}

module _ (order : List ℕ) (M N : Machine) (m n : ℕ) (ps : List Pair) (k : ℕ) (p q : Pair) (h : AreStarts order M N m n ps k) (p_in : (p.left < m) × (p.right < n)) (q_in : (q.left < m) × (q.right < n))
    (p_from : p.from ≡ Start k false) (q_from : q.from ≡ Start k true) (p_is : IsStart order M N k false p) (q_is : IsStart order M N k true q) where
  abbrev pub all : List Pair
  all = (ps ++ p ∷ []) ++ q ∷ []

  -- a pair is one of those before, or one of the two
  data Which (i : ℕ) (x : Pair) : Type 0 where
    Old : HasAt ps i x → Which i x
    New : i ≡ length ps → x ≡ p → Which i x
    Newer : i ≡ length ps + 1 → x ≡ q → Which i x

  which : (i : ℕ) (x : Pair) → HasAt all i x → Which i x
  which i x at = elim (last_or_before (ps ++ p ∷ []) q i x at) [
    | inl a ↦ elim (last_or_before ps p i x a) [ inl b ↦ Old b | inr b ↦ New b.0 b.1 ]
    | inr a ↦ Newer (a.0 ∙ length-append ps (p ∷ [])) a.1
  ]

  pub two_more : AreStarts order M N m n all (k + 1)
  two_more = record { each = each; within = within; all = found; ascending = ascending }
    where
      each_of : (i : ℕ) (x : Pair) → Which i x → (c : ℕ) × (line : Bool) × (x.from ≡ Start c line) × (c < k + 1) × IsStart order M N c line x
      each_of i x (Old b) = (let e = h.each i x b in (e.0, e.1, e.2, (let l = e.3 in omega (arith, l)), e.4))
      each_of i x (New a b) = (k, false, ap (λ (z : Pair). z.from) b ∙ p_from, omega arith, subst (λ z. IsStart order M N k false z) (sym b) p_is)
      each_of i x (Newer a b) = (k, true, ap (λ (z : Pair). z.from) b ∙ q_from, omega arith, subst (λ z. IsStart order M N k true z) (sym b) q_is)

      each : (i : ℕ) (x : Pair) → HasAt all i x → (c : ℕ) × (line : Bool) × (x.from ≡ Start c line) × (c < k + 1) × IsStart order M N c line x
      each i x at = each_of i x (which i x at)

      within_of : (i : ℕ) (x : Pair) → Which i x → (x.left < m) × (x.right < n)
      within_of i x (Old b) = h.within i x b
      within_of i x (New a b) = subst (λ (z : Pair). (z.left < m) × (z.right < n)) (sym b) p_in
      within_of i x (Newer a b) = subst (λ (z : Pair). (z.left < m) × (z.right < n)) (sym b) q_in

      within : (i : ℕ) (x : Pair) → HasAt all i x → (x.left < m) × (x.right < n)
      within i x at = within_of i x (which i x at)

      last : (c : ℕ) (line : Bool) → c ≡ k → (i : ℕ) × (x : Pair) × HasAt all i x × IsStart order M N c line x × (x.from ≡ Start c line)
      last c false e = (length ps, p, before_last (ps ++ p ∷ []) q (length ps) p (at_last ps p), subst (λ z. IsStart order M N z false p) (sym e) p_is, p_from ∙ ap (λ z. Start z false) (sym e))
      last c true e = (length (ps ++ p ∷ []), q, at_last (ps ++ p ∷ []) q, subst (λ z. IsStart order M N z true q) (sym e) q_is, q_from ∙ ap (λ z. Start z true) (sym e))

      found : (c : ℕ) (line : Bool) → c < k + 1 → (i : ℕ) × (x : Pair) × HasAt all i x × IsStart order M N c line x × (x.from ≡ Start c line)
      found c line less = elim (cases_lt c k) [
        | inl lt ↦ (let f = h.all c line lt in (f.0, f.1, before_last (ps ++ p ∷ []) q f.0 f.1 (before_last ps p f.0 f.1 f.2), f.3, f.4))
        | inr ge ↦ last c line (omega (arith, less, ge))
      ]

      -- a start of an earlier condition is before one of this
      earlier : (i : ℕ) (x : Pair) (line : Bool) → HasAt ps i x → Precedes (start_key x.from) (start_key (Start k line))
      earlier i x line b = (let e = h.each i x b in subst (λ f. Precedes (start_key f) (start_key (Start k line))) (sym e.2) (inr (refl, inl e.3)))

      new_of : (y : Pair) (line : Bool) → y.from ≡ Start k line → (i : ℕ) (x : Pair) → HasAt ps i x → Precedes (start_key x.from) (start_key y.from)
      new_of y line from i x b = subst (λ f. Precedes (start_key x.from) (start_key f)) (sym from) (earlier i x line b)

      ascending_of : (i j : ℕ) (x y : Pair) → Which i x → Which j y → i < j → Precedes (start_key x.from) (start_key y.from)
      ascending_of i j x y (Old a) (Old b) less = h.ascending i j x y a b less
      ascending_of i j x y (Old a) (New b e) less = new_of y false (ap (λ (z : Pair). z.from) e ∙ p_from) i x a
      ascending_of i j x y (Old a) (Newer b e) less = new_of y true (ap (λ (z : Pair). z.from) e ∙ q_from) i x a
      ascending_of i j x y (New a e) (Old b) less = absurd (omega (arith, a, less, slice_get_within ps j y b))
      ascending_of i j x y (New a e) (New b f) less = absurd (omega (arith, a, b, less))
      ascending_of i j x y (New a e) (Newer b f) less = subst (λ g. Precedes (start_key g) (start_key y.from)) (sym (ap (λ (z : Pair). z.from) e ∙ p_from))
          (subst (λ g. Precedes (start_key (Start k false)) (start_key g)) (sym (ap (λ (z : Pair). z.from) f ∙ q_from)) (inr (refl, inr (refl, inl (omega arith)))))
      ascending_of i j x y (Newer a e) (Old b) less = absurd (omega (arith, a, less, slice_get_within ps j y b))
      ascending_of i j x y (Newer a e) (New b f) less = absurd (omega (arith, a, b, less))
      ascending_of i j x y (Newer a e) (Newer b f) less = absurd (omega (arith, a, b, less))

      ascending : (i j : ℕ) (x y : Pair) → HasAt all i x → HasAt all j y → i < j → Precedes (start_key x.from) (start_key y.from)
      ascending i j x y a b less = ascending_of i j x y (which i x a) (which j y b) less
