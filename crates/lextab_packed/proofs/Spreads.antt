-- States that become live.
use Rattle.std.proofs.Common.{◌≡◌, ◌≢◌, ℕ, zero, suc, ◌+◌, ◌<◌, ◌⊎◌, Bool, true, false, List, [], ◌∷◌, ◌++◌, length, set, replicate, get_or, refl, ap, sym, subst, ◌∙◌, inl, inr, arith, get_or-set_other, get_or-set_same, length-set, length-append}
use Rattle.std.proofs.lemmas.List.{get_or_append_left, get_or-append-add}
use Rattle.std.specs.Prelude.{slice_index}
use Rattle.lex_semantics.specs.Text.{flag}
use Rattle.lextab_packed.specs.Inverse.{Has}
use Rattle.lextab_packed.specs.Spreading.{unset, Spreads}

pub same_or_not : (x y : ℕ) → (x ≡ y) ⊎ (x ≢ y)
same_or_not x y = grind arith

pub has_more : (xs : List ℕ) (d c : ℕ) → Has xs c → Has (xs ++ d ∷ []) c
has_more xs d c (i, h, e) = (i, (let l = length-append xs (d ∷ []) in omega (arith, l, h)), get_or_append_left xs (d ∷ []) 0 i h ∙ e)

pub has_last : (xs : List ℕ) (d : ℕ) → Has (xs ++ d ∷ []) d
has_last xs d = (length xs, (let l = length-append xs (d ∷ []) in omega (arith, l)), ap (λ (i : ℕ). get_or (xs ++ d ∷ []) i 0) (let e : length xs ≡ length xs + 0 = omega arith in e) ∙ get_or-append-add xs (d ∷ []) 0 0)

pub has_less : (xs : List ℕ) (d c : ℕ) → Has (xs ++ d ∷ []) c → Has xs c ⊎ (c ≡ d)
has_less xs d c (i, h, e) = elim (split i (length xs) (let l = length-append xs (d ∷ []) in let g : i < length xs + 1 = omega (arith, l, h) in g)) [
  | inl g ↦ inl (i, g, sym (get_or_append_left xs (d ∷ []) 0 i g) ∙ e)
  | inr q ↦ inr (sym e ∙ ap (λ (j : ℕ). get_or (xs ++ d ∷ []) j 0) (let k : i ≡ length xs + 0 = omega (arith, q) in k) ∙ get_or-append-add xs (d ∷ []) 0 0)
]
  where
    split : (i n : ℕ) → i < n + 1 → (i < n) ⊎ (i ≡ n)
    split i n h = grind arith

pub unset_less : (flags : List Bool) (i : ℕ) → i < length flags → flag flags i ≡ false → unset (set flags i true) + 1 ≡ unset flags
unset_less [] i h e = absurd (omega (arith, h))
unset_less (true ∷ flags) zero h e = absurd cc
unset_less (false ∷ flags) zero h e = omega arith
unset_less (true ∷ flags) (suc i) h e = unset_less flags i (omega (arith, h)) e
unset_less (false ∷ flags) (suc i) h e = let k = unset_less flags i (omega (arith, h)) e in omega (arith, k)

-- a flag of a list where one was set
pub flag_set : (live : List Bool) (s x : ℕ) → s < length live → flag (set live s true) x ≡ true → (flag live x ≡ true) ⊎ (x ≡ s)
flag_set live s x h t = elim (same_or_not x s) [ inl e ↦ inr e | inr n ↦ inl (sym (get_or-set_other live s x true false n) ∙ t) ]

pub flag_kept : (live : List Bool) (s x : ℕ) → s < length live → flag live x ≡ true → flag (set live s true) x ≡ true
flag_kept live s x h t = elim (same_or_not x s) [
  | inl e ↦ ap (λ (i : ℕ). flag (set live s true) i) e ∙ get_or-set_same live s true false h
  | inr n ↦ get_or-set_other live s x true false n ∙ t
]

-- a state that is live already
pub stays : (acc live : List Bool) (waiting : List ℕ) (s : ℕ) → flag live s ≡ true → Spreads (λ x. x ≡ s) acc live waiting live waiting
stays acc live waiting s t = record {
  one_each = refl;
  set = λ x e. ap (λ (i : ℕ). flag live i) e ∙ t;
  keeps = λ x h. h;
  only = λ x h. inl h;
  waits = λ x h. inl h;
  still_waits = λ x h. h;
  waiting_live = λ x h. inl h;
  fewer = omega arith;
}

module _ (acc live : List Bool) (waiting : List ℕ) (s : ℕ) (h : s < length live) (f : flag live s ≡ false) where
  at_s : flag (set live s true) s ≡ true
  at_s = get_or-set_same live s true false h

  -- a state that waits from now on
  pub waits_now : Spreads (λ x. x ≡ s) acc live waiting (set live s true) (waiting ++ s ∷ [])
  waits_now = record {
    one_each = length-set live s true;
    set = λ x e. ap (λ (i : ℕ). flag (set live s true) i) e ∙ at_s;
    keeps = λ x t. flag_kept live s x h t;
    only = λ x t. flag_set live s x h t;
    waits = λ x t. elim (flag_set live s x h t) [ inl k ↦ inl k | inr e ↦ inr (inr (subst (λ (c : ℕ). Has (waiting ++ s ∷ []) c) (sym e) (has_last waiting s))) ];
    still_waits = λ x k. has_more waiting s x k;
    waiting_live = λ x k. elim (has_less waiting s x k) [ inl m ↦ inl m | inr e ↦ inr (ap (λ (i : ℕ). flag (set live s true) i) e ∙ at_s) ];
    fewer = let u = unset_less live s h f in let l = length-append waiting (s ∷ []) in omega (arith, u, l);
  }

  -- a state that accepts, and so has waited
  pub has_waited : flag acc s ≡ true → Spreads (λ x. x ≡ s) acc live waiting (set live s true) waiting
  has_waited a = record {
    one_each = length-set live s true;
    set = λ x e. ap (λ (i : ℕ). flag (set live s true) i) e ∙ at_s;
    keeps = λ x t. flag_kept live s x h t;
    only = λ x t. flag_set live s x h t;
    waits = λ x t. elim (flag_set live s x h t) [ inl k ↦ inl k | inr e ↦ inr (inl (ap (λ (i : ℕ). flag acc i) e ∙ a)) ];
    still_waits = λ x k. k;
    waiting_live = λ x k. inl k;
    fewer = let u = unset_less live s h f in omega (arith, u);
  }

-- no state
pub spreads_none : (P : ℕ → Type 0) (acc live : List Bool) (waiting : List ℕ) → ((x : ℕ) → P x → ⊥) → Spreads P acc live waiting live waiting
spreads_none P acc live waiting none = record {
  one_each = refl;
  set = λ x p. absurd (none x p);
  keeps = λ x h. h;
  only = λ x h. inl h;
  waits = λ x h. inl h;
  still_waits = λ x h. h;
  waiting_live = λ x h. inl h;
  fewer = omega arith;
}

-- one after the other
pub spreads_then : (P Q R : ℕ → Type 0) (acc l m n : List Bool) (u v w : List ℕ) → Spreads P acc l u m v → Spreads Q acc m v n w
    → ((x : ℕ) → R x → P x ⊎ Q x) → ((x : ℕ) → P x → R x) → ((x : ℕ) → Q x → R x) → Spreads R acc l u n w
spreads_then P Q R acc l m n u v w f g split left right = record {
  one_each = g.one_each ∙ f.one_each;
  set = λ x r. elim (split x r) [ inl p ↦ g.keeps x (f.set x p) | inr q ↦ g.set x q ];
  keeps = λ x h. g.keeps x (f.keeps x h);
  only = λ x h. elim (g.only x h) [
    | inl k ↦ elim (f.only x k) [ inl o ↦ inl o | inr p ↦ inr (left x p) ]
    | inr q ↦ inr (right x q)
  ];
  waits = λ x h. elim (g.waits x h) [
    | inl k ↦ elim (f.waits x k) [ inl o ↦ inl o | inr (inl a) ↦ inr (inl a) | inr (inr w) ↦ inr (inr (g.still_waits x w)) ]
    | inr k ↦ inr k
  ];
  still_waits = λ x h. g.still_waits x (f.still_waits x h);
  waiting_live = λ x h. elim (g.waiting_live x h) [
    | inl k ↦ elim (f.waiting_live x k) [ inl o ↦ inl o | inr t ↦ inr (g.keeps x t) ]
    | inr t ↦ inr t
  ];
  fewer = let a = f.fewer in let b = g.fewer in omega (arith, a, b);
}

-- the same states
pub spreads_as : (P R : ℕ → Type 0) (acc l m : List Bool) (u v : List ℕ) → Spreads P acc l u m v → ((x : ℕ) → P x → R x) → ((x : ℕ) → R x → P x) → Spreads R acc l u m v
spreads_as P R acc l m u v f to from = record {
  one_each = f.one_each;
  set = λ x r. f.set x (from x r);
  keeps = f.keeps;
  only = λ x h. elim (f.only x h) [ inl o ↦ inl o | inr p ↦ inr (to x p) ];
  waits = f.waits;
  still_waits = f.still_waits;
  waiting_live = f.waiting_live;
  fewer = f.fewer;
}

-- a flag that is set is one of the list
pub flag_inside : (flags : List Bool) (x : ℕ) → flag flags x ≡ true → x < length flags
flag_inside [] x e = absurd cc
flag_inside (b ∷ flags) zero e = omega arith
flag_inside (b ∷ flags) (suc x) e = let h = flag_inside flags x e in omega (arith, h)

pub has_none : (xs : List ℕ) (x : ℕ) → xs ≡ [] → Has xs x → ⊥
has_none [] x e (i, h, q) = omega (arith, h)
has_none (y ∷ xs) x e h = absurd cc

-- numbers of a list stay small where a small one is set
pub small_set : (xs : List ℕ) (j v n : ℕ) → v < n → ((i : ℕ) → slice_index xs i < n) → (i : ℕ) → slice_index (set xs j v) i < n
small_set [] j v n h small i = small i
small_set (x ∷ xs) zero v n h small zero = h
small_set (x ∷ xs) zero v n h small (suc i) = small (suc i)
small_set (x ∷ xs) (suc j) v n h small zero = small zero
small_set (x ∷ xs) (suc j) v n h small (suc i) = small_set xs j v n h (λ k. small (suc k)) i

pub small_zeros : (k n i : ℕ) → 0 < n → slice_index (replicate k 0) i < n
small_zeros zero n i h = h
small_zeros (suc k) n zero h = h
small_zeros (suc k) n (suc i) h = small_zeros k n i h
