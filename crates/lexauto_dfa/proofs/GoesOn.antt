-- One block more is cut.
use Rattle.std.proofs.Common.{◌≡◌, ◌≢◌, ◌↔◌, ℕ, ◌+◌, ◌<◌, ◌≤◌, ◌⊎◌, Bool, true, false, cond, List, refl, sym, subst, ◌∙◌, inl, inr, arith}
use Rattle.std.specs.Prelude.{slice_index}
use Rattle.lexauto_dfa.specs.declared.least.blocks.Blocks.{Blocks}
use Rattle.lexauto_dfa.specs.Arranged.{Arranged, IsCut, IsTouched, IsMarked, states, count, block_of}
use Rattle.lexauto_dfa.specs.Sources.{Has}
use Rattle.lexauto_dfa.specs.Splits.{Cuts}
use Rattle.lexauto_dfa.specs.Going.{Going}
use Rattle.lexauto_dfa.specs.Marked.{Marks}
use Rattle.lexauto_dfa.proofs.Swapped.{same_or_not}

-- a block with a marked state is touched
pub marked_touches : (b : Blocks) → Arranged b → (x : ℕ) → x < states b → IsMarked b x → IsTouched b (block_of b x)
marked_touches b a x h m = let f = a.after x h in omega (arith, f, m)

touched_or_not : (b : Blocks) (c : ℕ) → IsTouched b c ⊎ (IsTouched b c → ⊥)
touched_or_not b c = elim (less (slice_index b.first.items c) (slice_index b.middle.items c)) [ inl h ↦ inl h | inr g ↦ inr (λ h. omega (arith, g, h)) ]
  where
    less : (i j : ℕ) → (i < j) ⊎ (j ≤ i)
    less i j = grind arith

-- two truth values that are true together
pub both_true : (a b : Bool) → (a ≡ true → b ≡ true) → (b ≡ true → a ≡ true) → a ≡ b
both_true true b f g = sym (f refl)
both_true false true f g = g refl
both_true false false f g = refl

-- at first
pub begins : (b : Blocks) (waiting : List ℕ) (m : ℕ → Bool) → Arranged b → ((x : ℕ) → x < states b → IsMarked b x ↔ (m x ≡ true)) → Going b waiting b waiting m
begins b waiting m a is = record {
  finer = λ x y h k e. e;
  done = λ x y h k e n. both_true (m x) (m y)
      (λ t. absurd (n (marked_touches b a x h ((is x h).1 t))))
      (λ t. absurd (n (subst (λ (c : ℕ). IsTouched b c) (sym e) (marked_touches b a y k ((is y k).1 t)))));
  rest = λ x h t. is x h;
  no_finer = λ x y h k e q. e;
  waits = λ x h w. w;
  one_waits = λ x y h k e n. absurd (n e);
}

module _ (old now next : Blocks) (waited waiting waiting2 : List ℕ) (m : ℕ → Bool) (c : ℕ) (did : Bool)
    (a : Arranged now) (same : states now ≡ states old) (low : c < count now) (cut : IsCut now c next did)
    (more : (d : ℕ) → Has waiting d → Has waiting2 d) (new : did ≡ true → Has waiting2 (count now)) (g : Going old waited now waiting m) where
  in_now : (x : ℕ) → x < states old → x < states now
  in_now x h = omega (arith, same, h)

  finer_now : (x y : ℕ) → x < states old → y < states old → block_of next x ≡ block_of next y → block_of now x ≡ block_of now y
  finer_now x y h k e = elim (same_or_not (block_of now x) c) [
    | inl p ↦ elim (same_or_not (block_of now y) c) [
      | inl q ↦ p ∙ sym q
      | inr q ↦ absurd (clash x y h k p q e)
    ]
    | inr p ↦ elim (same_or_not (block_of now y) c) [
      | inl q ↦ absurd (clash y x k h q p (sym e))
      | inr q ↦ sym (cut.kept x (in_now x h) p) ∙ e ∙ cut.kept y (in_now y k) q
    ]
  ]
    where
      clash : (x y : ℕ) → x < states old → y < states old → block_of now x ≡ c → block_of now y ≢ c → block_of next x ≡ block_of next y → ⊥
      clash x y h k p q e = let stays = cut.kept y (in_now y k) q in let l = a.numbered y (in_now y k) in
          elim (cut.either x (in_now x h) p) [
            | inl u ↦ q (sym stays ∙ sym e ∙ u)
            | inr u ↦ (let v = u.1 in omega (arith, v, e, stays, l))
          ]

  same_marks : (x y : ℕ) → x < states old → y < states old → block_of now x ≡ c → block_of now y ≡ c → IsTouched now c
      → IsMarked now x ↔ IsMarked now y → m x ≡ m y
  same_marks x y h k p q t i =
      let f = g.rest x h (subst (λ (d : ℕ). IsTouched now d) (sym p) t) in
      let e = g.rest y k (subst (λ (d : ℕ). IsTouched now d) (sym q) t) in
      both_true (m x) (m y) (λ w. e.0 (i.0 (f.1 w))) (λ w. f.0 (i.1 (e.1 w)))

  marks_same : (x y : ℕ) → x < states old → y < states old → block_of now x ≡ c → block_of now y ≡ c → m x ≡ m y → IsMarked now x ↔ IsMarked now y
  marks_same x y h k p q e = elim (touched_or_not now c) [
    | inl t ↦ (let f = g.rest x h (subst (λ (d : ℕ). IsTouched now d) (sym p) t) in
        let s = g.rest y k (subst (λ (d : ℕ). IsTouched now d) (sym q) t) in
        (λ w. s.1 (sym e ∙ f.0 w), λ w. f.1 (e ∙ s.0 w)))
    | inr n ↦ (
      λ w. absurd (n (subst (λ (d : ℕ). IsTouched now d) p (marked_touches now a x (in_now x h) w))),
      λ w. absurd (n (subst (λ (d : ℕ). IsTouched now d) q (marked_touches now a y (in_now y k) w))),
    )
  ]

  waits_now : (x : ℕ) → x < states old → Has waiting (block_of now x) → Has waiting2 (block_of next x)
  waits_now x h w = elim (same_or_not (block_of now x) c) [
    | inl p ↦ elim (cut.either x (in_now x h) p) [
      | inl u ↦ subst (λ (d : ℕ). Has waiting2 d) (p ∙ sym u) (more (block_of now x) w)
      | inr u ↦ subst (λ (d : ℕ). Has waiting2 d) (sym u.1) (new u.0)
    ]
    | inr n ↦ subst (λ (d : ℕ). Has waiting2 d) (sym (cut.kept x (in_now x h) n)) (more (block_of now x) w)
  ]

  one_of : (x y : ℕ) → x < states old → y < states old → block_of now x ≡ block_of now y → block_of next x ≢ block_of next y
      → Has waiting2 (block_of next x) ⊎ Has waiting2 (block_of next y)
  one_of x y h k e n = elim (same_or_not (block_of now x) c) [
    | inl p ↦ elim (cut.either x (in_now x h) p) [
      | inr u ↦ inl (subst (λ (d : ℕ). Has waiting2 d) (sym u.1) (new u.0))
      | inl u ↦ elim (cut.either y (in_now y k) (sym e ∙ p)) [
        | inr v ↦ inr (subst (λ (d : ℕ). Has waiting2 d) (sym v.1) (new v.0))
        | inl v ↦ absurd (n (u ∙ sym v))
      ]
    ]
    | inr p ↦ absurd (n (cut.kept x (in_now x h) p ∙ e ∙ sym (cut.kept y (in_now y k) (λ q. p (e ∙ q)))))
  ]

  next_low : (x : ℕ) → x < states old → block_of next x < count next
  next_low x h = let l = a.numbered x (in_now x h) in elim (same_or_not (block_of now x) c) [
    | inl p ↦ elim (cut.either x (in_now x h) p) [
      | inl u ↦ grown_low did cut.grown (omega (arith, low, u))
      | inr u ↦ (let e : count next ≡ count now + 1 = grown_by did u.0 cut.grown in omega (arith, e, u.1))
    ]
    | inr n ↦ grown_low did cut.grown (let q = cut.kept x (in_now x h) n in omega (arith, q, l))
  ]
    where
      grown_low : (did : Bool) → count next ≡ cond did (count now + 1) (count now) → block_of next x < count now → block_of next x < count next
      grown_low true e h = omega (arith, e, h)
      grown_low false e h = omega (arith, e, h)

      grown_by : (did : Bool) → did ≡ true → count next ≡ cond did (count now + 1) (count now) → count next ≡ count now + 1
      grown_by true t e = e
      grown_by false t e = absurd cc

  pub goes_on : Going old waited next waiting2 m
  goes_on = record {
    finer = λ x y h k e. g.finer x y h k (finer_now x y h k e);
    done = λ x y h k e n. let b = finer_now x y h k e in elim (same_or_not (block_of now x) c) [
      | inl p ↦ elim (touched_or_not now c) [
        | inl t ↦ same_marks x y h k p (sym b ∙ p) t (cut.apart x y (in_now x h) (in_now y k) p (sym b ∙ p) e)
        | inr u ↦ g.done x y h k b (λ t. u (subst (λ (d : ℕ). IsTouched now d) p t))
      ]
      | inr q ↦ g.done x y h k b (λ t. n (subst (λ (d : ℕ). IsTouched next d) (sym (cut.kept x (in_now x h) q)) (cut.remains (block_of now x) (a.numbered x (in_now x h)) q t)))
    ];
    rest = λ x h t.
        let r = cut.touched (block_of next x) (next_low x h) t in
        let other : block_of now x ≢ c = (λ p. elim (cut.either x (in_now x h) p) [ inl u ↦ r.1 u | inr u ↦ (let l = r.0 in let v = u.1 in omega (arith, l, v)) ]) in
        let stays = cut.kept x (in_now x h) other in
        let i = cut.marks x (in_now x h) other in
        let f = g.rest x h (subst (λ (d : ℕ). IsTouched now d) stays r.2) in
        (λ w. f.0 (i.0 w), λ w. i.1 (f.1 w));
    no_finer = λ x y h k e q. let b = g.no_finer x y h k e q in elim (same_or_not (block_of now x) c) [
      | inl p ↦ cut.together x y (in_now x h) (in_now y k) p (sym b ∙ p) (marks_same x y h k p (sym b ∙ p) q)
      | inr p ↦ cut.kept x (in_now x h) p ∙ b ∙ sym (cut.kept y (in_now y k) (λ q. p (b ∙ q)))
    ];
    waits = λ x h w. waits_now x h (g.waits x h w);
    one_waits = λ x y h k e n. elim (same_or_not (block_of now x) (block_of now y)) [
      | inl b ↦ one_of x y h k b n
      | inr d ↦ elim (g.one_waits x y h k e d) [ inl w ↦ inl (waits_now x h w) | inr w ↦ inr (waits_now y k w) ]
    ];
  }

-- in the end
pub ends : (old now : Blocks) (waited waiting : List ℕ) (m : ℕ → Bool) → Arranged now → states now ≡ states old → ((c : ℕ) → c < count now → IsTouched now c → ⊥) → Going old waited now waiting m
    → Cuts (states old) (block_of old) (block_of now) m (Has waited) (Has waiting)
ends old now waited waiting m a same none g = record {
  finer = λ x y h k e. (g.finer x y h k e, g.done x y h k e (none (block_of now x) (a.numbered x (omega (arith, same, h)))));
  no_finer = g.no_finer;
  waits = g.waits;
  one_waits = g.one_waits;
}

-- whether one number is less than another
decided : (i j : ℕ) → (b : Bool) × ((i < j) ↔ (b ≡ true))
decided i j = elim (less i j) [
  | inl h ↦ (true, (λ _. refl, λ _. h))
  | inr g ↦ (false, (λ h. absurd (omega (arith, g, h)), λ e. absurd cc))
]
  where
    less : (i j : ℕ) → (i < j) ⊎ (j ≤ i)
    less i j = grind arith

-- which states are marked
pub mark_of : Blocks → ℕ → Bool
mark_of b x = (decided (slice_index b.place.items x) (slice_index b.middle.items (block_of b x))).0

pub mark_is : (b : Blocks) (x : ℕ) → IsMarked b x ↔ (mark_of b x ≡ true)
unfolding mark_of
mark_is b x = (decided (slice_index b.place.items x) (slice_index b.middle.items (block_of b x))).1

-- where nothing was marked, states of one block are marked alike just if they meet P alike
module _ (old new : Blocks) (P : ℕ → Type 0) (a : Arranged old) (none : (c : ℕ) → c < count old → IsTouched old c → ⊥) (f : Marks old P new)
    (m : ℕ → Bool) (tells : (x : ℕ) → x < states old → (m x ≡ true) ↔ P x) where
  meets : (x : ℕ) → x < states old → mark_of new x ≡ true → m x ≡ true
  meets x h k = elim (f.only x h ((mark_is new x).1 k)) [
    | inl w ↦ absurd (none (block_of old x) (a.numbered x h) (marked_touches old a x h w))
    | inr p ↦ (tells x h).1 p
  ]

  marks_too : (x y : ℕ) → x < states old → y < states old → block_of old x ≡ block_of old y → m x ≡ m y → mark_of new x ≡ true → mark_of new y ≡ true
  marks_too x y h k e q w = elim (f.marked y k ((tells y k).0 (sym q ∙ meets x h w))) [
    | inl n ↦ (mark_is new y).0 n
    | inr alone ↦ subst (λ (z : ℕ). mark_of new z ≡ true) (alone x h e) w
  ]

  meets_too : (x y : ℕ) → x < states old → y < states old → block_of old x ≡ block_of old y → mark_of new x ≡ mark_of new y → m x ≡ true → m y ≡ true
  meets_too x y h k e q w = elim (f.marked x h ((tells x h).0 w)) [
    | inl n ↦ meets y k (sym q ∙ (mark_is new x).0 n)
    | inr alone ↦ subst (λ (z : ℕ). m z ≡ true) (sym (alone y k (sym e))) w
  ]

  pub cuts_by : (block : ℕ → ℕ) (before after : ℕ → Type 0) → Cuts (states old) (block_of old) block (mark_of new) before after → Cuts (states old) (block_of old) block m before after
  cuts_by block before after c = record {
    finer = λ x y h k e. let r = c.finer x y h k e in
        (r.0, both_true (m x) (m y) (λ w. meets_too x y h k r.0 r.1 w) (λ w. meets_too y x k h (sym r.0) (sym r.1) w));
    no_finer = λ x y h k e q. c.no_finer x y h k e
        (both_true (mark_of new x) (mark_of new y) (λ w. marks_too x y h k e q w) (λ w. marks_too y x k h (sym e) (sym q) w));
    waits = c.waits;
    one_waits = c.one_waits;
  }
