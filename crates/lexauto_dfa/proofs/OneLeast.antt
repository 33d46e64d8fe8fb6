-- There is one least automaton with its numbers in order.
use Rattle.std.proofs.Common.{◌≡◌, ℕ, zero, suc, ◌+◌, ◌-◌, ◌*◌, ◌/◌, ◌%◌, ◌<◌, ◌≤◌, ◌⊎◌, List, [], ◌∷◌, ◌++◌, length, get_or, refl, ap, sym, subst, ◌∙◌, inl, inr, arith, length-append}
use Rattle.std.proofs.lemmas.List.{get_or_append_left, get_or-append-add}
use Rattle.std.specs.Prelude.{slice_index}
use Rattle.lexauto_dfa.specs.LeastTables.{Automaton, next, after, IsText, IsWhole, SameFuture, IsLeast, IsNumbered, OneTable}
use Rattle.lexauto_dfa.specs.Numbering.{InOrder}
use Rattle.lexauto_dfa.proofs.Swapped.{same_or_not}

less : (i n : ℕ) → (i < n) ⊎ (n ≤ i)
less i n = grind arith

-- the first call of a number
record FirstCall (xs : List ℕ) (s : ℕ) : Type 0 where
  at : ℕ
  low : at < length xs
  is : slice_index xs at ≡ s
  first : (q : ℕ) → q < at → slice_index xs q < s

later : (x : ℕ) (xs : List ℕ) (s a : ℕ) → x < s → ((q : ℕ) → q < a → slice_index xs q < s) → (q : ℕ) → q < suc a → slice_index (x ∷ xs) q < s
later x xs s a h f zero g = h
later x xs s a h f (suc q) g = f q (omega (arith, g))

first_call : (n : ℕ) (xs : List ℕ) (m s : ℕ) → InOrder n xs m → n < s → s ≤ m → FirstCall xs s
first_call n [] m s e h k = absurd (let f : m ≡ n = e in omega (arith, f, h, k))
first_call n (x ∷ xs) m s (inl (p, r)) h k =
    let f = first_call n xs m s r h k in
    record { at = suc f.at; low = (let l = f.low in omega (arith, l)); is = f.is; first = later x xs s f.at (omega (arith, p, h)) f.first }
first_call n (x ∷ xs) m s (inr (p, r)) h k = elim (same_or_not s (suc n)) [
  | inl e ↦ record { at = 0; low = omega arith; is = p ∙ sym e; first = λ q g. absurd (omega (arith, g)) }
  | inr e ↦ (let f = first_call (suc n) xs m s r (omega (arith, h, e)) k in
      record { at = suc f.at; low = (let l = f.low in omega (arith, l)); is = f.is; first = later x xs s f.at (omega (arith, p, h, e)) f.first })
]

calls : Automaton → List ℕ
calls A = A.starts ++ A.table

-- where a call of the table stands
call_at : (A : Automaton) (s b : ℕ) → slice_index (calls A) (length A.starts + (s * 256 + b)) ≡ next A s b
unfolding calls
call_at A s b = get_or-append-add A.starts A.table (s * 256 + b) 0

start_at : (A : Automaton) (i : ℕ) → i < length A.starts → slice_index (calls A) i ≡ slice_index A.starts i
unfolding calls
start_at A i h = get_or_append_left A.starts A.table 0 i h

calls_length : (A : Automaton) → IsWhole A → length (calls A) ≡ length A.starts + 256 * A.states
unfolding calls
calls_length A w = length-append A.starts A.table ∙ ap (λ (n : ℕ). length A.starts + n) w.rows

calls_low : (A : Automaton) → IsWhole A → (p : ℕ) → p < length (calls A) → slice_index (calls A) p < A.states
calls_low A w p h = elim (less p (length A.starts)) [
  | inl k ↦ subst (λ (x : ℕ). x < A.states) (sym (start_at A p k)) (w.starts_known p k)
  | inr k ↦ (let j = p - length A.starts in
      let n = calls_length A w in
      let e : length A.starts + (j / 256 * 256 + j % 256) ≡ p = omega (arith, k) in
      let row = w.rows in
      subst (λ (x : ℕ). x < A.states) (sym (call_at A (j / 256) (j % 256)) ∙ ap (λ (i : ℕ). slice_index (calls A) i) e) (w.targets_known (j / 256 * 256 + j % 256) (omega (arith, h, k, n, row))))
]

module _ (A : Automaton) (w : IsWhole A) (l : IsLeast A) (o : IsNumbered A) where
  first : (s : ℕ) → 0 < s → s < A.states → FirstCall (calls A) s
  unfolding calls
  first s h k = first_call 0 (A.starts ++ A.table) (A.states - 1) s o h (omega (arith, k))

  -- states below the first call's are closed, up to the row in which it stands
  stays : (s p : ℕ) → ((q : ℕ) → q < p → slice_index (calls A) q < s) → length A.starts + 256 * s ≤ p → (v : List ℕ) (u : ℕ) → u < s → IsText v → after A u v < s
  stays s p f h [] u k a = k
  stays s p f h (b ∷ v) u k (c, a) =
      stays s p f h v (next A u b) (subst (λ (x : ℕ). x < s) (call_at A u b) (f (length A.starts + (u * 256 + b)) (omega (arith, h, k, c)))) a

  -- a number is first called by a start or in a row before its own
  early : (s : ℕ) (h : 0 < s) (k : s < A.states) (p : ℕ) → ((q : ℕ) → q < p → slice_index (calls A) q < s) → p < length A.starts + 256 * s
  early s h k p f = elim (less p (length A.starts + 256 * s)) [
    | inl g ↦ g
    | inr g ↦ absurd (let (i, v, low, bytes, there) = l.reached s k (omega (arith, h)) in
        let start : slice_index A.starts i < s = subst (λ (x : ℕ). x < s) (start_at A i low) (f i (omega (arith, g, low))) in
        let end = stays s p f g v (slice_index A.starts i) start bytes in omega (arith, end, there))
  ]

module _ (A B : Automaton) (wa : IsWhole A) (wb : IsWhole B) (la : IsLeast A) (lb : IsLeast B) (oa : IsNumbered A) (ob : IsNumbered B)
    (len : length A.starts ≡ length B.starts) (same : (i : ℕ) → i < length A.starts → SameFuture A (slice_index A.starts i) B (slice_index B.starts i)) where
  pub one_right : (s t u : ℕ) → t < B.states → u < B.states → SameFuture A s B t → SameFuture A s B u → t ≡ u
  one_right s t u h k f g = elim (same_or_not t u) [
    | inl e ↦ e
    | inr n ↦ absurd (let (v, bytes, differ) = lb.apart t u h k n in differ (sym (f v bytes) ∙ g v bytes))
  ]

  one_left : (s t u : ℕ) → s < A.states → t < A.states → SameFuture A s B u → SameFuture A t B u → s ≡ t
  one_left s t u h k f g = elim (same_or_not s t) [
    | inl e ↦ e
    | inr n ↦ absurd (let (v, bytes, differ) = la.apart s t h k n in differ (f v bytes ∙ sym (g v bytes)))
  ]

  -- calls at one place have one future, where the row's states have
  abbrev Agree : ℕ → Type 0
  Agree s = (s < B.states) × SameFuture A s B s

  at_call : (s p : ℕ) → ((r : ℕ) → r < s → Agree r) → p < length A.starts + 256 * s → (p < length (calls B)) × SameFuture A (slice_index (calls A) p) B (slice_index (calls B) p)
  at_call s p below h = elim (less p (length A.starts)) [
    | inl k ↦ (
      (let n = calls_length B wb in omega (arith, n, len, k)),
      subst (λ (x : ℕ). SameFuture A x B (slice_index (calls B) p)) (sym (start_at A p k)) (subst (λ (y : ℕ). SameFuture A (slice_index A.starts p) B y) (sym (start_at B p (omega (arith, k, len)))) (same p k)),
    )
    | inr k ↦ (let j = p - length A.starts in
        let r = j / 256 in
        let b = j % 256 in
        let byte : b < 256 = omega arith in
        let both = below r (omega (arith, h, k)) in
        let both_low = both.0 in
        let ea : length A.starts + (r * 256 + b) ≡ p = omega (arith, k) in
        let eb : length B.starts + (r * 256 + b) ≡ p = omega (arith, k, len) in
        let ca : slice_index (calls A) p ≡ next A r b = ap (λ (i : ℕ). slice_index (calls A) i) (sym ea) ∙ call_at A r b in
        let cb : slice_index (calls B) p ≡ next B r b = ap (λ (i : ℕ). slice_index (calls B) i) (sym eb) ∙ call_at B r b in
        let step : SameFuture A (next A r b) B (next B r b) = (λ v a. both.1 (b ∷ v) (byte, a)) in (
          (let n = calls_length B wb in omega (arith, n, eb, both_low, byte)),
          subst (λ (x : ℕ). SameFuture A x B (slice_index (calls B) p)) (sym ca) (subst (λ (y : ℕ). SameFuture A (next A r b) B y) (sym cb) step),
        ))
  ]

  agree : (m s : ℕ) → s < m → s < A.states → Agree s
  agree zero s h k = absurd (omega (arith, h))
  agree (suc m) s h k = elim (less 0 s) [
    | inr z ↦ (let e : 0 ≡ s = omega (arith, z) in subst Agree e (wb.some, λ v a. la.dead v a ∙ sym (lb.dead v a)))
    | inl some ↦ (
        let below : (r : ℕ) → r < s → Agree r = (λ r g. agree m r (omega (arith, g, h)) (omega (arith, g, k))) in
        let f = first A wa la oa s some k in
        let p = f.at in
        let place = early A wa la oa s some k p f.first in
        let c = at_call s p below place in
        let t = slice_index (calls B) p in
        let low : t < B.states = calls_low B wb p c.0 in
        let future : SameFuture A s B t = subst (λ (x : ℕ). SameFuture A x B t) f.is c.1 in
        elim (same_or_not t s) [
          | inl e ↦ subst (λ (x : ℕ). (x < B.states) × SameFuture A s B x) e (low, future)
          | inr n ↦ elim (less t s) [
            | inl g ↦ absurd (n (sym (one_left s t t k (omega (arith, g, k)) future (below t g).1)))
            | inr g ↦ absurd (
                let sb : s < B.states = omega (arith, g, low) in
                let fb = first B wb lb ob s some sb in
                elim (less fb.at p) [
                  | inl q ↦ (let cq = at_call s fb.at below (omega (arith, q, place)) in
                      let u = slice_index (calls A) fb.at in
                      let ul : u < s = f.first fb.at q in
                      let fu : SameFuture A u B s = subst (λ (x : ℕ). SameFuture A u B x) fb.is cq.1 in
                      let e = one_right u s u sb (below u ul).0 fu (below u ul).1 in omega (arith, e, ul))
                  | inr q ↦ elim (same_or_not p fb.at) [
                    | inl e ↦ n (ap (λ (i : ℕ). slice_index (calls B) i) e ∙ fb.is)
                    | inr ne ↦ (let x = fb.first p (omega (arith, q, ne)) in omega (arith, x, g))
                  ]
                ])
          ]
        ])
  ]

  pub all_agree : (s : ℕ) → s < A.states → (s < B.states) × SameFuture A s B s
  all_agree s h = agree (suc s) s (omega arith) h

pub ext : {X : Type 0} (d : X) (xs ys : List X) → length xs ≡ length ys → ((i : ℕ) → i < length xs → get_or xs i d ≡ get_or ys i d) → xs ≡ ys
ext d [] [] h f = refl
ext d [] (y ∷ ys) h f = absurd (omega (arith, h))
ext d (x ∷ xs) [] h f = absurd (omega (arith, h))
ext d (x ∷ xs) (y ∷ ys) h f =
    let head : x ≡ y = f 0 (omega arith) in
    let rest : xs ≡ ys = ext d xs ys (omega (arith, h)) (λ i k. f (suc i) (omega (arith, k))) in
    rw (head, rest) refl

pub one_table : OneTable
one_table A B wa wb la lb oa ob len same = (states, starts, table, lists)
  where
    to : (s : ℕ) → s < A.states → (s < B.states) × SameFuture A s B s
    to = all_agree A B wa wb la lb oa ob len same

    back : (s : ℕ) → s < B.states → (s < A.states) × SameFuture B s A s
    back = all_agree B A wb wa lb la ob oa (sym len) (λ i h v a. sym (same i (omega (arith, h, len)) v a))

    states : A.states ≡ B.states
    states = elim (less A.states B.states) [
      | inl h ↦ absurd (let x = (back A.states h).0 in omega (arith, x))
      | inr h ↦ elim (less B.states A.states) [
        | inl g ↦ absurd (let x = (to B.states g).0 in omega (arith, x))
        | inr g ↦ omega (arith, h, g)
      ]
    ]

    -- states with one future have one number
    one : (x y : ℕ) → x < A.states → y < B.states → SameFuture A x B y → x ≡ y
    one x y h k f = let own = to x h in one_right A B wa wb la lb oa ob len same x x y own.0 k own.1 f

    starts : A.starts ≡ B.starts
    starts = ext 0 A.starts B.starts len (λ i h. one (slice_index A.starts i) (slice_index B.starts i) (wa.starts_known i h) (wb.starts_known i (omega (arith, h, len))) (same i h))

    row : (j : ℕ) → j < length A.table → slice_index A.table j ≡ slice_index B.table j
    row j h =
        let s = j / 256 in
        let b = j % 256 in
        let byte : b < 256 = omega arith in
        let e : s * 256 + b ≡ j = omega arith in
        let ra = wa.rows in
        let rb = wb.rows in
        let low : s < A.states = omega (arith, h, ra) in
        let own = to s low in
        let f : SameFuture A (next A s b) B (next B s b) = (λ v a. own.1 (b ∷ v) (byte, a)) in
        let g = one (next A s b) (next B s b) (wa.targets_known (s * 256 + b) (omega (arith, h, e))) (wb.targets_known (s * 256 + b) (let q = states in omega (arith, h, e, ra, rb, q))) f in
        ap (λ (i : ℕ). slice_index A.table i) (sym e) ∙ g ∙ ap (λ (i : ℕ). slice_index B.table i) e

    table : A.table ≡ B.table
    table = ext 0 A.table B.table (let ra = wa.rows in let rb = wb.rows in let q = states in omega (arith, ra, rb, q)) row

    lists : A.lists ≡ B.lists
    lists = ext [] A.lists B.lists (wa.all ∙ states ∙ sym wb.all) (λ i h. (to i (let l = wa.all in omega (arith, h, l))).1 [] tt)
