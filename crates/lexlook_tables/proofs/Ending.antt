-- What a search has found where it begins, goes on and ends.
use Rattle.std.proofs.Common.{◌≡◌, ℕ, zero, suc, ◌+◌, ◌*◌, ◌≤◌, ◌<◌, Bool, true, false, List, [], ◌∷◌, ◌++◌, length, take, ◌⊎◌, inl, inr, refl, sym, ◌∙◌, ap, subst, get_or, map, arith}
use Rattle.std.specs.Prelude.{nat_eq}
use Rattle.std.proofs.lemmas.Bool.{cases_lt, eq-eqb, ne_eqb}
use Rattle.std.proofs.lemmas.Option.{slice_get_within}
use Rattle.std.proofs.lemmas.List.{take_more, take_all, length-append, length-map}
use Rattle.lex_semantics.specs.Text.{IsText}
use Rattle.lex_semantics.specs.Machine.{Machine, walk, state_after}
use Rattle.lex_semantics.proofs.MachineLaws.{walk-append}
use Rattle.lexlook_tables.specs.Same.{deeds_at, deeds_in, is_single, number_in, Agree, AlwaysAgree, Differs, key}
use Rattle.lexlook_tables.specs.declared.same.differing.Difference.{Difference}
use Rattle.lexlook_tables.specs.declared.same.pairs.Pair.{Pair}
use Rattle.lexlook_tables.specs.declared.same.pairs.Sight.{Sight}
use Rattle.lexlook_tables.specs.declared.same.pairs.Sight.TheVariants.{Unseen}
use Rattle.lexlook_tables.specs.Searching.{HasAt, KeyAt, IsKey, start_key, IsFrom, IsSeen, was_seen, AreStarts, Searched, DifferAt, IsTextOf}
use Rattle.lexauto_reports.specs.BackWords.{Precedes, NotAfter, Smaller}
use Rattle.lexauto_reports.proofs.Orders as Words
use Rattle.lexlook_tables.proofs.Orders as Order
use Rattle.lexlook_tables.proofs.Lists.{one_at, in_map, from_map, some_at}

byte_at : (w : List ℕ) (k : ℕ) → IsText w → k < length w → get_or w k 0 < 256
byte_at [] k text lt = absurd (omega (arith, lt))
byte_at (b ∷ w) zero text lt = text.0
byte_at (b ∷ w) (suc k) text lt = byte_at w k text.1 (omega (arith, lt))

-- one byte more of a text
one_byte : (M : Machine) (s : ℕ) (w : List ℕ) (k : ℕ) → k < length w → walk M s (take (k + 1) w) ≡ M.next (walk M s (take k w)) (get_or w k 0)
one_byte M s w k lt = ap (walk M s) (take_more w k 0 lt) ∙ walk-append M s (take k w) (get_or w k 0 ∷ [])

-- a text is a single byte where what is before its last byte leads to a start
single_at : (far k : ℕ) → far ≤ k → (1 ≤ k → 1 ≤ far) → nat_eq far 0 ≡ nat_eq (suc k) 1
single_at far zero le some = eq-eqb far 0 (omega (arith, le)) ∙ sym (eq-eqb (suc zero) 1 (omega arith))
single_at far (suc k) le some = (let more = some (omega arith) in ne_eqb far 0 (λ e. omega (arith, e, more)) ∙ sym (ne_eqb (suc (suc k)) 1 (λ e. omega (arith, e))))

-- before any pair is widened
pub searched_none : (order : List ℕ) (M N : Machine) (m n k : ℕ) (ps : List Pair) (seen : List Sight) → AreStarts order M N m n ps k → k ≡ M.conditions → length seen ≡ m * n → ((i : ℕ) → get_or seen i Unseen ≡ Unseen) → Searched order M N m n ps seen 0 0
searched_none order M N m n k ps seen h conditions size none = record {
  linked = λ i p at. (let e = h.each i p at in let l = e.3 in subst (IsFrom order M N ps i p) (sym e.2) (omega (arith, l, conditions), e.4));
  within = h.within;
  few = λ i p at. (let e = h.each i p at in omega (arith, e.4.far));
  rising = λ i j p q at_p at_q le. (let e = h.each i p at_p in omega (arith, e.4.far));
  near = λ j p q at_p at_q. (let e = h.each j q at_q in omega (arith, e.4.far));
  keys = keys;
  sized = length-map ps key_of;
  keyed = λ i p u at is. keyed i p u at is;
  ascending = λ i j u v is are less. (let a = from_map key_of ps i u is in let b = from_map key_of ps j v are in
      subst (λ z. Precedes z v) (sym a.2) (subst (Precedes (key_of a.0)) (sym b.2) (h.ascending i j a.0 b.0 a.1 b.1 less)));
  ahead = λ t j u at_t at_u. inl (let l = two 0 t at_t in let r = two j u at_u in let more = length-append t (0 ∷ []) in omega (arith, l, r, more));
  starts = λ c line lt. (let f = h.all c line (omega (arith, lt, conditions)) in (f.0, f.1, f.2, f.3, subst (λ z. KeyAt keys f.0 (start_key z)) f.4 (in_map key_of ps f.0 f.1 f.2)));
  size = size;
  known = λ single s t sm tn was. absurd (never single s t was);
  agree = λ single s t sm tn was. absurd (never single s t was);
  closed = λ i p c at below which. absurd (nowhere i c which);
}
  where
    key_of : Pair → List ℕ
    key_of p = start_key p.from

    keys : List (List ℕ)
    keys = map key_of ps

    key_is : (i : ℕ) (p : Pair) (u : List ℕ) → HasAt ps i p → KeyAt keys i u → u ≡ start_key p.from
    key_is i p u at is = (let a = from_map key_of ps i u is in a.2 ∙ ap key_of (one_at ps i a.0 p a.1 at))

    keyed : (i : ℕ) (p : Pair) (u : List ℕ) → HasAt ps i p → KeyAt keys i u → IsKey keys u p.from
    keyed i p u at is = (let e = h.each i p at in subst (IsKey keys u) (sym e.2) (key_is i p u at is ∙ ap start_key e.2))

    two : (i : ℕ) (u : List ℕ) → KeyAt keys i u → length u ≡ 2
    two i u is = (let a = from_map key_of ps i u is in let e = h.each i a.0 a.1 in ap length (a.2 ∙ ap start_key e.2))

    never : (single : Bool) (s t : ℕ) → IsSeen seen n single s t → ⊥
    never single s t was = no (sym (ap (was_seen single) (none (s * n + t))) ∙ was)
      where
        no : false ≡ true → ⊥
        no e = cc

    nowhere : (i c : ℕ) → (i < 0) ⊎ ((i ≡ 0) × (c < 0)) → ⊥
    nowhere i c (inl less) = omega (arith, less)
    nowhere i c (inr here) = (let l = here.1 in omega (arith, l))

module _ (order : List ℕ) (M N : Machine) (m n : ℕ) (ps : List Pair) (seen : List Sight) (place b : ℕ) (h : Searched order M N m n ps seen place b) where
  -- where each byte was tried
  pub searched_next : b ≡ 256 → Searched order M N m n ps seen (place + 1) 0
  searched_next each = record {
    linked = h.linked;
    within = h.within;
    few = h.few;
    rising = h.rising;
    near = λ j p q at_p at_q. near j p q at_p at_q;
    keys = h.keys;
    sized = h.sized;
    keyed = h.keyed;
    ascending = h.ascending;
    ahead = ahead;
    starts = h.starts;
    size = h.size;
    known = h.known;
    agree = h.agree;
    closed = λ i p c at below which. h.closed i p c at below (before i c below which);
  }
    where
      ahead : (t : List ℕ) (j : ℕ) (u : List ℕ) → KeyAt h.keys (place + 1) t → KeyAt h.keys j u → Precedes u (t ++ 0 ∷ [])
      ahead t j u at_t at_u =
          let s = some_at h.keys place (let l = slice_get_within h.keys (place + 1) t at_t in omega (arith, l)) in
          Words.before_trans u (s.0 ++ b ∷ []) (t ++ 0 ∷ []) (h.ahead s.0 j u s.1 at_u) (Words.before_longer s.0 t b 0 (h.ascending place (place + 1) s.0 t s.1 at_t (omega arith)))

      before : (i c : ℕ) → c < 256 → (i < place + 1) ⊎ ((i ≡ place + 1) × (c < 0)) → (i < place) ⊎ ((i ≡ place) × (c < b))
      before i c below (inl less) = elim (cases_lt i place) [ inl l ↦ inl l | inr g ↦ inr (omega (arith, less, g), omega (arith, below, each)) ]
      before i c below (inr here) = absurd (let l = here.1 in omega (arith, l))

      near : (j : ℕ) (p q : Pair) → HasAt ps (place + 1) p → HasAt ps j q → q.far ≤ suc p.far
      near j p q at_p at_q =
          let o = some_at ps place (let l = slice_get_within ps (place + 1) p at_p in omega (arith, l)) in
          let a = h.near j o.0 q o.1 at_q in
          let r = h.rising place (place + 1) o.0 p o.1 at_p (omega arith) in
          omega (arith, a, r)

  -- the pair to which a text leads that is no longer than some number, where all pairs that shorter ones lead to were widened
  module _ (far : ℕ) (past : (i : ℕ) (q : Pair) → HasAt ps i q → q.far < far → i < place) (c : ℕ) (line : Bool) (w : List ℕ) (below : c < M.conditions) (text : IsText w) where
    abbrev Reached : ℕ → Type 0
    Reached k = (i : ℕ) × (q : Pair) × HasAt ps i q × (q.left ≡ state_after M c line (take k w)) × (q.right ≡ state_after N (number_in order c) line (take k w)) × (q.far ≤ k) × (1 ≤ k → (1 ≤ q.far) × IsSeen seen n (nat_eq k 1) q.left q.right) × (u : List ℕ) × KeyAt h.keys i u × NotAfter u (key c line (take k w))

    reached : (k : ℕ) → k ≤ length w → k ≤ far → Reached k
    reached zero in_w in_far = (let f = h.starts c line below in (f.0, f.1, f.2, f.3.left, f.3.right, (let z = f.3.far in omega (arith, z)), λ some. absurd (omega (arith, some)), key c line [], f.4, inl refl))
    reached (suc k) in_w in_far =
        let r = reached k (omega (arith, in_w)) (omega (arith, in_far)) in
        let near = r.5 in
        let f = h.closed r.0 r.1 (get_or w k 0) r.2 (byte_at w k text (omega (arith, in_w))) (inl (past r.0 r.1 r.2 (omega (arith, near, in_far)))) in
        let more : k + 1 ≡ suc k = omega arith in
        let v = some_at h.keys f.place (omega (arith, slice_get_within ps f.place f.pair f.at, h.sized)) in (
          f.place,
          f.pair,
          f.at,
          f.left ∙ ap (λ s. M.next s (get_or w k 0)) r.3 ∙ sym (one_byte M (M.start c line) w k (omega (arith, in_w))) ∙ ap (λ i. state_after M c line (take i w)) more,
          f.right ∙ ap (λ s. N.next s (get_or w k 0)) r.4 ∙ sym (one_byte N (N.start (number_in order c) line) w k (omega (arith, in_w))) ∙ ap (λ i. state_after N (number_in order c) line (take i w)) more,
          (let g = f.far in omega (arith, g, near)),
          λ some. (f.some, subst (λ z. IsSeen seen n z f.pair.left f.pair.right) (single_at r.1.far k near (λ some. (r.6 some).0)) f.was_seen),
          v.0,
          v.1,
          Words.not_after_trans v.0 (r.7 ++ get_or w k 0 ∷ []) (key c line (take (suc k) w)) (f.first r.7 v.0 r.8 v.1)
              (subst (NotAfter (r.7 ++ get_or w k 0 ∷ [])) (ap (key c line) (sym (take_more w k 0 (omega (arith, in_w))) ∙ ap (λ i. take i w) more)) (Words.not_after_longer r.7 (key c line (take k w)) (get_or w k 0) r.9)),
        )

    pub agrees : 1 ≤ length w → length w ≤ far → Agree order M N c line w
    agrees some in_far =
        let r = reached (length w) (omega arith) in_far in
        let whole : take (length w) w ≡ w = take_all (length w) w (omega arith) in
        let inside = h.within r.0 r.1 r.2 in
        ap (deeds_in order (is_single w) M) (sym (r.3 ∙ ap (state_after M c line) whole)) ∙ h.agree (is_single w) r.1.left r.1.right inside.0 inside.1 (r.6 some).1 ∙ ap (deeds_at (is_single w) N) (r.4 ∙ ap (state_after N (number_in order c) line) whole)

  -- at its end
  pub are_same : length ps ≤ place → AlwaysAgree order M N
  are_same done c line w below text some = agrees (length w) (λ i q at less. (let l = slice_get_within ps i q at in omega (arith, l, done))) c line w below text some (omega arith)

  -- where a byte leads to states that do not do the same
  pub differs : (p : Pair) (d : Difference) → HasAt ps place p → DifferAt order M N ps place b → IsTextOf order M N p b d
      → ((t : List ℕ) → KeyAt h.keys place t → key d.condition d.line_start d.text.items ≡ t ++ b ∷ []) → Differs order M N d
  differs p d at differ told keyed = record {
    condition = told.condition;
    text = told.text;
    some = omega (arith, told.size);
    differ = λ same. differ p at (subst (λ z. deeds_in order z M (M.next p.left b) ≡ deeds_at z N (N.next p.right b)) (sym (single_at p.far p.far (omega arith) (λ some. some) ∙ ap (λ z. nat_eq z 1) (sym told.size)))
        (ap (deeds_in order (is_single d.text.items) M) (sym told.left) ∙ same ∙ ap (deeds_at (is_single d.text.items) N) told.right));
    shortest = λ c line w below text some less. agrees p.far past c line w below text some (omega (arith, less, told.size));
    first = λ c line w below text same less. first c line w below text (same ∙ told.size) less;
  }
    where
      past : (i : ℕ) (q : Pair) → HasAt ps i q → q.far < p.far → i < place
      past i q has less = elim (cases_lt i place) [ inl l ↦ l | inr g ↦ absurd (let r = h.rising place i p q at has (omega (arith, g)) in omega (arith, r, less)) ]

      this : (t : List ℕ) × KeyAt h.keys place t
      this = some_at h.keys place (omega (arith, slice_get_within ps place p at, h.sized))

      -- a pair whose key is not after that of this one is this one or one before it
      not_behind : (i : ℕ) (u : List ℕ) → KeyAt h.keys i u → NotAfter u this.0 → i ≤ place
      not_behind i u is nt = elim (cases_lt place i) [ inl less ↦ absurd (Order.before_irreflexive u (Order.before_not_after u this.0 u nt (h.ascending place i this.0 u this.1 is less))) | inr le ↦ le ]

      in_front : (i : ℕ) (u : List ℕ) → KeyAt h.keys i u → Precedes u this.0 → i < place
      in_front i u is less = elim (cases_lt i place) [
        | inl lt ↦ lt
        | inr ge ↦ absurd (let le = not_behind i u is (inr less) in let e : i ≡ place = omega (arith, ge, le) in
            Order.before_irreflexive this.0 (subst (λ z. Precedes z this.0) (one_at h.keys place u this.0 (subst (λ z. KeyAt h.keys z u) e is) this.1) less))
      ]

      -- a byte after a text that leads to a pair leads to a pair that was looked at
      looked_at : (i c : ℕ) (u t : List ℕ) → KeyAt h.keys i u → NotAfter u t → length t ≡ length this.0 → Smaller t this.0 ⊎ ((t ≡ this.0) × (c < b)) → (i < place) ⊎ ((i ≡ place) × (c < b))
      looked_at i c u t is nt long (inl less) = inl (in_front i u is (Order.before_not_after u t this.0 nt (inr (long, less))))
      looked_at i c u t is nt long (inr same) = (let le = not_behind i u is (subst (NotAfter u) same.0 nt) in elim (cases_lt i place) [ inl lt ↦ inl lt | inr ge ↦ inr (omega (arith, ge, le), same.1) ])

      first : (c : ℕ) (line : Bool) (w : List ℕ) → c < M.conditions → IsText w → length w ≡ suc p.far → Smaller (key c line w) (key d.condition d.line_start d.text.items) → Agree order M N c line w
      first c line w below text long less =
          let k : ℕ = p.far in
          let in_w : k < length w = omega (arith, long) in
          let last : ℕ = get_or w k 0 in
          let r = reached k past c line w below text k (omega (arith, in_w)) (omega arith) in
          let whole : take k w ++ last ∷ [] ≡ w = sym (take_more w k 0 in_w) ∙ take_all (k + 1) w (omega (arith, long)) in
          let told_key = keyed this.0 this.1 in
          let lengths : length (key c line (take k w)) ≡ length this.0 =
          omega (arith, ap length told_key, length-append this.0 (b ∷ []), ap length whole, length-append (take k w) (last ∷ []), long, told.size) in
          let split : Smaller (key c line (take k w)) this.0 ⊎ ((key c line (take k w) ≡ this.0) × (last < b)) =
          Order.smaller_split (key c line (take k w)) this.0 last b lengths (subst (λ z. Smaller (key c line z) (this.0 ++ b ∷ [])) (sym whole) (subst (Smaller (key c line w)) told_key less)) in
          let f = h.closed r.0 r.1 last r.2 (byte_at w k text in_w) (looked_at r.0 last r.7 (key c line (take k w)) r.8 r.9 lengths split) in
          let inside = h.within f.place f.pair f.at in
          let left : f.pair.left ≡ state_after M c line w = f.left ∙ ap (λ s. M.next s last) r.3 ∙ sym (one_byte M (M.start c line) w k in_w) ∙ ap (state_after M c line) (take_all (k + 1) w (omega (arith, long))) in
          let right : f.pair.right ≡ state_after N (number_in order c) line w = f.right ∙ ap (λ s. N.next s last) r.4 ∙ sym (one_byte N (N.start (number_in order c) line) w k in_w) ∙ ap (state_after N (number_in order c) line) (take_all (k + 1) w (omega (arith, long))) in
          let was : IsSeen seen n (is_single w) f.pair.left f.pair.right = subst (λ z. IsSeen seen n z f.pair.left f.pair.right) (single_at r.1.far k r.5 (λ some. (r.6 some).0) ∙ ap (λ z. nat_eq z 1) (sym long)) f.was_seen in
          ap (deeds_in order (is_single w) M) (sym left) ∙ h.agree (is_single w) f.pair.left f.pair.right inside.0 inside.1 was ∙ ap (deeds_at (is_single w) N) right
