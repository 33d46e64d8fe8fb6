-- One byte more of a pair that is widened.
use Rattle.std.proofs.Common.{◌≡◌, ℕ, zero, suc, ◌+◌, ◌*◌, ◌≤◌, ◌<◌, Bool, true, false, List, [], ◌∷◌, ◌++◌, length, ◌⊎◌, inl, inr, refl, sym, ◌∙◌, ap, subst, get_or, arith}
use Rattle.std.proofs.Math.ListN.{set}
use Rattle.std.proofs.lemmas.Bool.{cases_lt, cases_eq}
use Rattle.std.proofs.lemmas.Option.{slice_get_within}
use Rattle.std.proofs.lemmas.Grind.{get_or-set_at}
use Rattle.std.proofs.lemmas.List.{length-set, get_or-set_other, length-append}
use Rattle.lex_semantics.specs.Machine.{Machine}
use Rattle.lexlook_tables.specs.Same.{deeds_at, deeds_in, key}
use Rattle.lexlook_tables.specs.declared.same.pairs.From.{From}
use Rattle.lexlook_tables.specs.declared.same.pairs.From.TheVariants.{Start, Byte}
use Rattle.lexlook_tables.specs.declared.same.pairs.Pair.{Pair}
use Rattle.lexlook_tables.specs.declared.same.pairs.Sight.{Sight}
use Rattle.lexlook_tables.specs.declared.same.pairs.Sight.TheVariants.{Unseen, Single, Longer}
use Rattle.lexlook_tables.specs.Searching.{HasAt, KeyAt, IsKey, AreKeyed, IsNext, IsFrom, IsSeen, IsFound, Searched, unseen, was_seen, sight_of, is_first}
use Rattle.lexauto_reports.specs.BackWords.{Precedes}
use Rattle.lexauto_reports.proofs.Orders as Words
use Rattle.lexlook_tables.proofs.Asked.{single_too}
use Rattle.lexlook_tables.proofs.Lists.{before_last, at_last, last_or_before, one_at, some_at}

-- the place of a pair of states is inside
pub place_inside : (m n l r : ℕ) → l < m → r < n → l * n + r < m * n
place_inside (suc m) n zero r lm rn = omega (arith, rn)
place_inside (suc m) n (suc l) r lm rn = (let k = place_inside m n l r (omega (arith, lm)) rn in omega (arith, k))
place_inside zero n l r lm rn = absurd (omega (arith, lm))

-- the place of a pair of states tells both
pub place_same : (n l r s t : ℕ) → r < n → t < n → l * n + r ≡ s * n + t → (l ≡ s) × (r ≡ t)
place_same n zero r zero t rn tn e = (refl, omega (arith, e))
place_same n zero r (suc s) t rn tn e = absurd (omega (arith, e, rn))
place_same n (suc l) r zero t rn tn e = absurd (omega (arith, e, tn))
place_same n (suc l) r (suc s) t rn tn e = (let h = place_same n l r s t rn tn (omega (arith, e)) in (ap suc h.0, h.1))

-- each sight leaves fewer
pub unseen_less : (single : Bool) (seen : List Sight) (k : ℕ) → k < length seen → was_seen single (get_or seen k Unseen) ≡ false → suc (unseen (set seen k (sight_of single))) ≤ unseen seen
unseen_less single [] k lt e = absurd (omega (arith, lt))
unseen_less true (Unseen ∷ seen) zero lt e = omega arith
unseen_less false (Unseen ∷ seen) zero lt e = omega arith
unseen_less true (Single ∷ seen) zero lt e = absurd cc
unseen_less false (Single ∷ seen) zero lt e = omega arith
unseen_less single (Longer ∷ seen) zero lt e = absurd cc
unseen_less single (Unseen ∷ seen) (suc k) lt e = (let h = unseen_less single seen k (omega (arith, lt)) e in omega (arith, h))
unseen_less single (Single ∷ seen) (suc k) lt e = (let h = unseen_less single seen k (omega (arith, lt)) e in omega (arith, h))
unseen_less single (Longer ∷ seen) (suc k) lt e = (let h = unseen_less single seen k (omega (arith, lt)) e in omega (arith, h))

-- what is seen now was seen
pub sees : (single : Bool) → was_seen single (sight_of single) ≡ true
sees true = refl
sees false = refl

-- what was seen stays so where more is seen
stays : (single any : Bool) (v : Sight) → was_seen single v ≡ false → was_seen any v ≡ true → was_seen any (sight_of single) ≡ true
stays false any v new was = refl
stays true any Unseen new was = absurd cc
stays true any Single new was = absurd cc
stays true any Longer new was = absurd cc

module _ (order : List ℕ) (M N : Machine) (m n : ℕ) (ps : List Pair) (seen : List Sight) (place b : ℕ) (p x : Pair) (h : Searched order M N m n ps seen place b) (at : HasAt ps place p) (next : IsNext M N p b x) where
  -- the byte at hand, or one before it
  byte_is : (i c : ℕ) → (i < place) ⊎ ((i ≡ place) × (c < b + 1)) → ((i < place) ⊎ ((i ≡ place) × (c < b))) ⊎ ((i ≡ place) × (c ≡ b))
  byte_is i c (inl less) = inl (inl less)
  byte_is i c (inr here) = elim (cases_lt c b) [ inl less ↦ inl (inr (here.0, less)) | inr more ↦ (let k = here.1 in inr (here.0, omega (arith, more, k))) ]

  -- the key of the pair that is widened
  pub here : (t : List ℕ) × KeyAt h.keys place t
  here = some_at h.keys place (omega (arith, slice_get_within ps place p at, h.sized))

  -- where the pair was seen before
  pub seen_before : (x.left < m) → (x.right < n) → IsSeen seen n (is_first p) x.left x.right → Searched order M N m n ps seen place (b + 1)
  seen_before in_m in_n was = record {
    linked = h.linked;
    within = h.within;
    few = h.few;
    rising = h.rising;
    near = h.near;
    keys = h.keys;
    sized = h.sized;
    keyed = h.keyed;
    ascending = h.ascending;
    ahead = λ t j u at_t at_u. Words.before_trans u (t ++ b ∷ []) (t ++ (b + 1) ∷ []) (h.ahead t j u at_t at_u) (Words.before_last t b (b + 1) (omega arith));
    starts = h.starts;
    size = h.size;
    known = h.known;
    agree = h.agree;
    closed = λ i q c has below which. elim (byte_is i c which) [
      | inl old ↦ h.closed i q c has below old
      | inr here ↦ now i q c has here.0 here.1
    ];
  }
    where
      now : (i : ℕ) (q : Pair) (c : ℕ) → HasAt ps i q → i ≡ place → c ≡ b → IsFound M N n ps h.keys seen i q c
      now i q c has is_place is_byte =
          let f = h.known (is_first p) x.left x.right in_m in_n was in
          let same : p ≡ q = one_at ps place p q at (subst (λ k. HasAt ps k q) is_place has) in
          subst (λ z. IsFound M N n ps h.keys seen i z c) same (subst (λ k. IsFound M N n ps h.keys seen i p k) (sym is_byte) (subst (λ k. IsFound M N n ps h.keys seen k p b) (sym is_place) (record {
            place = f.0;
            pair = f.1;
            at = f.2;
            left = f.3 ∙ next.left;
            right = f.4 ∙ next.right;
            far = h.near f.0 p f.1 at f.2;
            some = f.5;
            was_seen = subst (λ k. IsSeen seen n (is_first p) k f.1.right) (sym f.3) (subst (λ k. IsSeen seen n (is_first p) x.left k) (sym f.4) was);
            first = λ t u at_t at_u. inr (h.ahead t f.0 u at_t at_u);
          })))

  -- where it is a new one
  module _ (in_m : x.left < m) (in_n : x.right < n) (from : x.from ≡ Byte place b) (small : b < 256) (same : deeds_in order (is_first p) M x.left ≡ deeds_at (is_first p) N x.right) (inside : x.left * n + x.right < length seen)
      (new : was_seen (is_first p) (get_or seen (x.left * n + x.right) Unseen) ≡ false) where
    abbrev pub k : ℕ
    k = x.left * n + x.right

    abbrev pub seen' : List Sight
    seen' = set seen k (sight_of (is_first p))

    abbrev pub ps' : List Pair
    ps' = ps ++ x ∷ []

    abbrev pub keys' : List (List ℕ)
    keys' = h.keys ++ (here.0 ++ b ∷ []) ∷ []

    placed : place < length ps
    placed = slice_get_within ps place p at

    elsewhere : (i : ℕ) → (k ≡ i → ⊥) → get_or seen' i Unseen ≡ get_or seen i Unseen
    elsewhere i other = get_or-set_other seen k i (sight_of (is_first p)) Unseen (λ e. other (sym e))

    there : (i : ℕ) → k ≡ i → get_or seen' i Unseen ≡ sight_of (is_first p)
    there i is = get_or-set_at seen k i (sight_of (is_first p)) Unseen (sym is) inside

    stays_seen : (single : Bool) (s t : ℕ) → IsSeen seen n single s t → IsSeen seen' n single s t
    stays_seen single s t was = elim (cases_eq k (s * n + t)) [
      | inl is ↦ ap (was_seen single) (there (s * n + t) is) ∙ stays (is_first p) single (get_or seen k Unseen) new (ap (λ i. was_seen single (get_or seen i Unseen)) is ∙ was)
      | inr other ↦ ap (was_seen single) (elsewhere (s * n + t) other) ∙ was
    ]

    seen_then : (single : Bool) (s t : ℕ) → t < n → IsSeen seen' n single s t → IsSeen seen n single s t ⊎ ((x.left ≡ s) × (x.right ≡ t) × (was_seen single (sight_of (is_first p)) ≡ true))
    seen_then single s t lt was = elim (cases_eq k (s * n + t)) [
      | inl is ↦ (let e = place_same n x.left x.right s t in_n lt is in inr (e.0, e.1, ap (was_seen single) (sym (there (s * n + t) is)) ∙ was))
      | inr other ↦ inl (ap (was_seen single) (sym (elsewhere (s * n + t) other)) ∙ was)
    ]

    -- a key of a pair before this one
    old_key : (i : ℕ) (u : List ℕ) → i < length ps → KeyAt keys' i u → KeyAt h.keys i u
    old_key i u lt has = elim (last_or_before h.keys (here.0 ++ b ∷ []) i u has) [ inl old ↦ old | inr new ↦ absurd (let e = new.0 in omega (arith, e, lt, h.sized)) ]

    new_key : (i : ℕ) (u : List ℕ) → i ≡ length ps → KeyAt keys' i u → u ≡ here.0 ++ b ∷ []
    new_key i u e has = elim (last_or_before h.keys (here.0 ++ b ∷ []) i u has) [ inl old ↦ absurd (let l = slice_get_within h.keys i u old in omega (arith, e, l, h.sized)) | inr new ↦ new.1 ]

    keyed_before : (u : List ℕ) (f : From) → IsKey h.keys u f → IsKey keys' u f
    keyed_before u (Start c line) w = w
    keyed_before u (Byte j c) w = (w.0, before_last h.keys (here.0 ++ b ∷ []) j w.0 w.1, w.2)

    keyed : AreKeyed keys' ps'
    keyed i q u has is = elim (last_or_before ps x i q has) [
      | inl old ↦ keyed_before u q.from (h.keyed i q u old (old_key i u (slice_get_within ps i q old) is))
      | inr new ↦ subst (λ (z : Pair). IsKey keys' u z.from) (sym new.1) (subst (IsKey keys' u) (sym from) (here.0, before_last h.keys (here.0 ++ b ∷ []) place here.0 here.1, new_key i u new.0 is))
    ]

    ascending : (i j : ℕ) (u v : List ℕ) → KeyAt keys' i u → KeyAt keys' j v → i < j → Precedes u v
    ascending i j u v is are less = elim (last_or_before h.keys (here.0 ++ b ∷ []) j v are) [
      | inl old ↦ (let l = slice_get_within h.keys j v old in h.ascending i j u v (old_key i u (omega (arith, l, less, h.sized)) is) old less)
      | inr new ↦ (let e = new.0 in subst (Precedes u) (sym new.1) (h.ahead here.0 i u here.1 (old_key i u (omega (arith, e, less, h.sized)) is)))
    ]

    ahead : (t : List ℕ) (j : ℕ) (u : List ℕ) → KeyAt keys' place t → KeyAt keys' j u → Precedes u (t ++ (b + 1) ∷ [])
    ahead t j u at_t at_u =
        let same : here.0 ≡ t = one_at h.keys place here.0 t here.1 (old_key place t placed at_t) in
        let next_byte : Precedes (here.0 ++ b ∷ []) (t ++ (b + 1) ∷ []) = subst (λ z. Precedes (z ++ b ∷ []) (t ++ (b + 1) ∷ [])) (sym same) (Words.before_last t b (b + 1) (omega arith)) in
        elim (last_or_before h.keys (here.0 ++ b ∷ []) j u at_u) [
          | inl old ↦ Words.before_trans u (here.0 ++ b ∷ []) (t ++ (b + 1) ∷ []) (h.ahead here.0 j u here.1 old) next_byte
          | inr new ↦ subst (λ z. Precedes z (t ++ (b + 1) ∷ [])) (sym new.1) next_byte
        ]

    found_before : (i : ℕ) (q : Pair) (c : ℕ) → i < length ps → IsFound M N n ps h.keys seen i q c → IsFound M N n ps' keys' seen' i q c
    found_before i q c lt f = record {
      place = f.place;
      pair = f.pair;
      at = before_last ps x f.place f.pair f.at;
      left = f.left;
      right = f.right;
      far = f.far;
      some = f.some;
      was_seen = stays_seen (is_first q) f.pair.left f.pair.right f.was_seen;
      first = λ t u at_t at_u. f.first t u (old_key i t lt at_t) (old_key f.place u (slice_get_within ps f.place f.pair f.at) at_u);
    }

    from_before : (i : ℕ) (q : Pair) (f : From) → IsFrom order M N ps i q f → IsFrom order M N ps' i q f
    from_before i q (Start c line) w = w
    from_before i q (Byte j c) w = (w.0, w.1, w.2, before_last ps x j w.2 w.3, w.4)

    linked : (i : ℕ) (q : Pair) → HasAt ps' i q → IsFrom order M N ps' i q q.from
    linked i q has = elim (last_or_before ps x i q has) [
      | inl old ↦ from_before i q q.from (h.linked i q old)
      | inr new ↦ subst (λ (z : Pair). IsFrom order M N ps' i z z.from) (sym new.1) (subst (IsFrom order M N ps' i x) (sym from) (small, (let e = new.0 in omega (arith, e, placed)), p, before_last ps x place p at, next))
    ]

    within : (i : ℕ) (q : Pair) → HasAt ps' i q → (q.left < m) × (q.right < n)
    within i q has = elim (last_or_before ps x i q has) [
      | inl old ↦ h.within i q old
      | inr new ↦ subst (λ (z : Pair). (z.left < m) × (z.right < n)) (sym new.1) (in_m, in_n)
    ]

    few : (i : ℕ) (q : Pair) → HasAt ps' i q → q.far ≤ i
    few i q has = elim (last_or_before ps x i q has) [
      | inl old ↦ h.few i q old
      | inr new ↦ (let e = new.0 in let f : q.far ≡ x.far = ap (λ (z : Pair). z.far) new.1 in omega (arith, e, f, next.far, h.few place p at, placed))
    ]

    rising : (i j : ℕ) (q r : Pair) → HasAt ps' i q → HasAt ps' j r → i ≤ j → q.far ≤ r.far
    rising i j q r has_q has_r le = elim (last_or_before ps x i q has_q) [
      | inl old_q ↦ elim (last_or_before ps x j r has_r) [
        | inl old_r ↦ h.rising i j q r old_q old_r le
        | inr new_r ↦ (let f : r.far ≡ x.far = ap (λ (z : Pair). z.far) new_r.1 in omega (arith, f, next.far, h.near i p q at old_q))
      ]
      | inr new_q ↦ elim (last_or_before ps x j r has_r) [
        | inl old_r ↦ absurd (let e = new_q.0 in omega (arith, e, le, slice_get_within ps j r old_r))
        | inr new_r ↦ (let f : q.far ≡ x.far = ap (λ (z : Pair). z.far) new_q.1 in let g : r.far ≡ x.far = ap (λ (z : Pair). z.far) new_r.1 in omega (arith, f, g))
      ]
    ]

    old_place : (q : Pair) → HasAt ps' place q → HasAt ps place q
    old_place q has = elim (last_or_before ps x place q has) [ inl old ↦ old | inr new ↦ absurd (let e = new.0 in omega (arith, e, placed)) ]

    near : (j : ℕ) (q r : Pair) → HasAt ps' place q → HasAt ps' j r → r.far ≤ suc q.far
    near j q r has_q has_r = elim (last_or_before ps x j r has_r) [
      | inl old_r ↦ h.near j q r (old_place q has_q) old_r
      | inr new_r ↦ (let f : r.far ≡ x.far = ap (λ (z : Pair). z.far) new_r.1 in let g : p.far ≡ q.far = ap (λ (z : Pair). z.far) (one_at ps place p q at (old_place q has_q)) in omega (arith, f, g, next.far))
    ]

    known : (single : Bool) (s t : ℕ) → s < m → t < n → IsSeen seen' n single s t → (i : ℕ) × (q : Pair) × HasAt ps' i q × (q.left ≡ s) × (q.right ≡ t) × (1 ≤ q.far)
    known single s t sm tn was = elim (seen_then single s t tn was) [
      | inl old ↦ (let f = h.known single s t sm tn old in (f.0, f.1, before_last ps x f.0 f.1 f.2, f.3, f.4, f.5))
      | inr new ↦ (length ps, x, at_last ps x, new.0, new.1, omega (arith, next.far))
    ]

    -- what is done alike of a longer text is done alike of a single byte
    now_agree : (first single : Bool) → was_seen single (sight_of first) ≡ true → deeds_in order first M x.left ≡ deeds_at first N x.right → deeds_in order single M x.left ≡ deeds_at single N x.right
    now_agree true true e alike = alike
    now_agree true false e alike = absurd cc
    now_agree false true e alike = single_too order M N x.left x.right alike
    now_agree false false e alike = alike

    agrees : (single : Bool) (s t : ℕ) → s < m → t < n → IsSeen seen' n single s t → deeds_in order single M s ≡ deeds_at single N t
    agrees single s t sm tn was = elim (seen_then single s t tn was) [
      | inl old ↦ h.agree single s t sm tn old
      | inr new ↦ ap (deeds_in order single M) (sym new.0) ∙ now_agree (is_first p) single new.2 same ∙ ap (deeds_at single N) new.1
    ]

    found_new : IsFound M N n ps' keys' seen' place p b
    found_new = record {
      place = length ps;
      pair = x;
      at = at_last ps x;
      left = next.left;
      right = next.right;
      far = omega (arith, next.far);
      some = omega (arith, next.far);
      was_seen = ap (was_seen (is_first p)) (there k refl) ∙ sees (is_first p);
      first = λ t u at_t at_u. inl (new_key (length ps) u refl at_u ∙ ap (λ z. z ++ b ∷ []) (one_at h.keys place here.0 t here.1 (old_key place t placed at_t)));
    }

    closed : (i : ℕ) (q : Pair) (c : ℕ) → HasAt ps' i q → c < 256 → (i < place) ⊎ ((i ≡ place) × (c < b + 1)) → IsFound M N n ps' keys' seen' i q c
    closed i q c has below which = elim (last_or_before ps x i q has) [
      | inl old ↦ elim (byte_is i c which) [
        | inl past ↦ found_before i q c (slice_get_within ps i q old) (h.closed i q c old below past)
        | inr this ↦ subst (λ z. IsFound M N n ps' keys' seen' i z c) (one_at ps place p q at (subst (λ z. HasAt ps z q) this.0 old)) (subst (λ z. IsFound M N n ps' keys' seen' i p z) (sym this.1) (subst (λ z. IsFound M N n ps' keys' seen' z p b) (sym this.0) found_new))
      ]
      | inr new ↦ absurd (past_it i new.0 which)
    ]
      where
        past_it : (i : ℕ) → i ≡ length ps → (i < place) ⊎ ((i ≡ place) × (c < b + 1)) → ⊥
        past_it i e (inl less) = omega (arith, e, less, placed)
        past_it i e (inr here) = (let f = here.0 in omega (arith, e, f, placed))

    pub seen_now : Searched order M N m n ps' seen' place (b + 1)
    seen_now = record {
      linked = linked;
      within = within;
      few = few;
      rising = rising;
      near = near;
      keys = keys';
      sized = length-append h.keys ((here.0 ++ b ∷ []) ∷ []) ∙ ap (λ z. z + 1) h.sized ∙ sym (length-append ps (x ∷ []));
      keyed = keyed;
      ascending = ascending;
      ahead = ahead;
      starts = λ c line lt. (let f = h.starts c line lt in (f.0, f.1, before_last ps x f.0 f.1 f.2, f.3, before_last h.keys (here.0 ++ b ∷ []) f.0 (key c line []) f.4));
      size = length-set seen k (sight_of (is_first p)) ∙ h.size;
      known = known;
      agree = agrees;
      closed = closed;
    }
