-- The edges of states, byte by byte.
use Rattle.std.proofs.Common.{◌≡◌, ◌∙◌, ℕ, zero, suc, ◌+◌, ◌-◌, ◌<◌, ◌≤◌, Bool, true, false, ◌&&◌, ◌||◌, List, [], ◌∷◌, ◌++◌, map, flat_map, refl, sym, ap, subst, inl, inr, append-nil, append_assoc, arith}
use Rattle.std.specs.Prelude.{◌==◌, ◌≢◌, if◌then◌else◌}
use Rattle.std.specs.List.{range_with_len}
use Rattle.std.proofs.lemmas.Bool.{cases_lt}
use Rattle.std.proofs.lemmas.Bool.{eq-eqb, ne_eqb}
use Rattle.lexauto_dfa.specs.Parts.{next}
use Rattle.lexauto_dfa.specs.declared.dfa.Parts.{Parts}
use Rattle.lexlook_specs.specs.Classes.{all_bytes}
use Rattle.lexlook_specs.specs.Pictures.{leads_below}
use Rattle.lexlook_suites.specs.Edges.{marked_edge, goes_below, goes_to, marked_by, rule_at}
use Rattle.lexlook_suites.specs.declared.edges.Edge.{Edge}
use Rattle.lexlook_suites.specs.declared.edges.Part.{Part}
use Rattle.lexlook_suites.specs.declared.marks.Marks.{Marks}

or_true : (a b : Bool) → b ≡ true → (a || b) ≡ true
or_true true b e = refl
or_true false b e = e

or_left : (a b : Bool) → a ≡ true → (a || b) ≡ true
or_left true b e = refl
or_left false b e = absurd cc

or_none : (a b : Bool) → a ≡ false → b ≡ false → (a || b) ≡ false
or_none true b e f = absurd cc
or_none false b e f = f

-- a byte that leads there, also among more bytes
pub leads_later : (go : ℕ → ℕ) (t n k : ℕ) → k < n → (go k == t) ≡ true → leads_below go t n ≡ true
leads_later go t zero k low e = absurd (omega (arith, low))
leads_later go t (suc n) k low e = elim (cases_lt k n) [
  | inl lt ↦ or_true (go n == t) (leads_below go t n) (leads_later go t n k lt e)
  | inr le ↦ (let same : k ≡ n = omega (arith, low, le) in or_left (go n == t) (leads_below go t n) (subst (λ (j : ℕ). (go j == t) ≡ true) same e))
]

pub leads_more : (go : ℕ → ℕ) (t k n : ℕ) → (go k == t) ≡ false → leads_below go t k ≡ false → n ≡ k + 1 → leads_below go t n ≡ false
leads_more go t k n e f is = let s : suc k ≡ n = omega (arith, is) in subst (λ (j : ℕ). leads_below go t j ≡ false) s (or_none (go k == t) (leads_below go t k) e f)

pub goes_later : (marked : ℕ → Bool) (go : ℕ → ℕ) (t n k : ℕ) → k < n → (marked k && (go k == t)) ≡ true → goes_below marked go t n ≡ true
goes_later marked go t zero k low e = absurd (omega (arith, low))
goes_later marked go t (suc n) k low e = elim (cases_lt k n) [
  | inl lt ↦ or_true (marked n && (go n == t)) (goes_below marked go t n) (goes_later marked go t n k lt e)
  | inr le ↦ (let same : k ≡ n = omega (arith, low, le) in or_left (marked n && (go n == t)) (goes_below marked go t n) (subst (λ (j : ℕ). (marked j && (go j == t)) ≡ true) same e))
]

pub goes_more : (marked : ℕ → Bool) (go : ℕ → ℕ) (t k n : ℕ) → (marked k && (go k == t)) ≡ false → goes_below marked go t k ≡ false → n ≡ k + 1 → goes_below marked go t n ≡ false
goes_more marked go t k n e f is = let s : suc k ≡ n = omega (arith, is) in subst (λ (j : ℕ). goes_below marked go t j ≡ false) s (or_none (marked k && (go k == t)) (goes_below marked go t k) e f)

-- ---- parts of consecutive numbers

range_more : (a n : ℕ) → range_with_len a (suc n) ≡ range_with_len a n ++ (a + n) ∷ []
range_more a zero = let e : a ≡ a + 0 = omega arith in ap (λ (k : ℕ). k ∷ []) e
range_more a (suc n) =
    let e : a + 1 + n ≡ a + suc n = omega arith in
    ap (λ l. a ∷ l) (range_more (a + 1) n) ∙ ap (λ (k : ℕ). a ∷ (range_with_len (a + 1) n ++ k ∷ [])) e

flat_map_push : {A : Type 0} (f : ℕ → List A) (xs : List ℕ) (x : ℕ) → flat_map f (xs ++ x ∷ []) ≡ flat_map f xs ++ f x
flat_map_push f [] x = append-nil (f x)
flat_map_push f (y ∷ ys) x = ap (λ l. f y ++ l) (flat_map_push f ys x) ∙ sym (append_assoc (f y) (flat_map f ys) (f x))

-- the parts of the numbers from a on up to k, and one part more
pub parts_more : {A : Type 0} (f : ℕ → List A) (a k : ℕ) (old now next : List A) → a ≤ k → now ≡ old ++ flat_map f (range_with_len a (k - a)) → next ≡ now ++ f k → next ≡ old ++ flat_map f (range_with_len a (k + 1 - a))
parts_more f a k old now next le is more =
    let e : k + 1 - a ≡ suc (k - a) = omega (arith, le) in
    let d : a + (k - a) ≡ k = omega (arith, le) in
    more ∙ ap (λ l. l ++ f k) is ∙ append_assoc old (flat_map f (range_with_len a (k - a))) (f k)
    ∙ ap (λ (j : ℕ). old ++ (flat_map f (range_with_len a (k - a)) ++ f j)) (sym d)
    ∙ ap (λ l. old ++ l) (sym (flat_map_push f (range_with_len a (k - a)) (a + (k - a))) ∙ ap (flat_map f) (sym (range_more a (k - a))))
    ∙ ap (λ (j : ℕ). old ++ flat_map f (range_with_len a j)) (sym e)

map_push_one : {A B : Type 0} (f : A → B) (xs : List A) (x : A) → map f (xs ++ x ∷ []) ≡ map f xs ++ f x ∷ []
map_push_one f [] x = refl
map_push_one f (y ∷ ys) x = ap (λ l. f y ∷ l) (map_push_one f ys x)

pub map_more : {A : Type 0} (f : ℕ → A) (a k : ℕ) (now next : List A) → a ≤ k → now ≡ map f (range_with_len a (k - a)) → next ≡ now ++ f k ∷ [] → next ≡ map f (range_with_len a (k + 1 - a))
map_more f a k now next le is more =
    let e : k + 1 - a ≡ suc (k - a) = omega (arith, le) in
    let d : a + (k - a) ≡ k = omega (arith, le) in
    more ∙ ap (λ l. l ++ f k ∷ []) is ∙ ap (λ (j : ℕ). map f (range_with_len a (k - a)) ++ f j ∷ []) (sym d)
    ∙ sym (map_push_one f (range_with_len a (k - a)) (a + (k - a))) ∙ ap (map f) (sym (range_more a (k - a)))
    ∙ ap (λ (j : ℕ). map f (range_with_len a j)) (sym e)

-- ---- the bytes

both : (a b : Bool) → a ≡ true → b ≡ true → (a && b) ≡ true
both true b e f = f
both false b e f = absurd cc

pub goes_found : (marked : ℕ → Bool) (go : ℕ → ℕ) (t k : ℕ) → k < 256 → marked k ≡ true → go k ≡ t → goes_to marked go t ≡ true
unfolding goes_to
goes_found marked go t k low m e = goes_later marked go t 256 k low (both (marked k) (go k == t) m (eq-eqb (go k) t e))

pub goes_none : (marked : ℕ → Bool) (go : ℕ → ℕ) (t n : ℕ) → n ≡ 256 → goes_below marked go t n ≡ false → goes_to marked go t ≡ false
unfolding goes_to
goes_none marked go t n e h = subst (λ (j : ℕ). goes_below marked go t j ≡ false) e h

pub bytes_all : {A : Type 0} (f : ℕ → List A) (old now : List A) (n : ℕ) → n ≡ 256 → now ≡ old ++ flat_map f (range_with_len 0 (n - 0)) → now ≡ old ++ flat_map f all_bytes
unfolding all_bytes
bytes_all f old now n e h = h ∙ ap (λ (k : ℕ). old ++ flat_map f (range_with_len 0 (k - 0))) e

-- ---- the edge at a byte

chosen : {A : Type 0} (b : Bool) (x y : A) → b ≡ true → (if b then x else y) ≡ x
chosen true x y e = refl
chosen false x y e = absurd cc

pub other : {A : Type 0} (b : Bool) (x y : A) → b ≡ false → (if b then x else y) ≡ y
other true x y e = absurd cc
other false x y e = refl

module _ (p : Parts) (m : Marks) (n s b t : ℕ) (is : t ≡ next p s b) where
  none_at : (old : List Edge) → ((next p s b == 0) || leads_below (next p s) (next p s b) b) ≡ true → old ≡ old ++ marked_edge p m n s b
  none_at old e = sym (append-nil old) ∙ ap (λ l. old ++ l) (sym (chosen _ _ _ e))

  pub no_edge_dead : (old : List Edge) → t ≡ 0 → old ≡ old ++ marked_edge p m n s b
  no_edge_dead old dead = none_at old (or_left (next p s b == 0) (leads_below (next p s) (next p s b) b) (eq-eqb (next p s b) 0 (sym is ∙ dead)))

  pub no_edge_again : (old : List Edge) → leads_below (next p s) t b ≡ true → old ≡ old ++ marked_edge p m n s b
  no_edge_again old again = none_at old (or_true (next p s b == 0) (leads_below (next p s) (next p s b) b) (subst (λ (k : ℕ). leads_below (next p s) k b ≡ true) is again))

  edge_of : ℕ → ℕ → Bool → List Edge
  edge_of k r w = record { state = s; byte = b; target = k; part = record { rule = r; walked = w } } ∷ []

  pub one_edge : (r : ℕ) (w : Bool) (old now : List Edge) → t ≢ 0 → leads_below (next p s) t b ≡ false → r ≡ rule_at p n t → w ≡ goes_to (marked_by m s) (next p s) t
      → now ≡ old ++ record { state = s; byte = b; target = t; part = record { rule = r; walked = w } } ∷ [] → now ≡ old ++ marked_edge p m n s b
  unfolding edge_of
  one_edge r w old now live first rule walked pushed =
      pushed ∙ ap (λ l. old ++ l) (
      ap (λ (x : ℕ). edge_of t x w) rule ∙ ap (λ (x : Bool). edge_of t (rule_at p n t) x) walked
      ∙ ap (λ (k : ℕ). edge_of k (rule_at p n k) (goes_to (marked_by m s) (next p s) k)) is
      ∙ sym (other _ _ _ (or_none (next p s b == 0) (leads_below (next p s) (next p s b) b) (ne_eqb (next p s b) 0 (λ e. live (is ∙ e))) (subst (λ (k : ℕ). leads_below (next p s) k b ≡ false) is first))))

part_of : ℕ → Bool → Part
part_of r w = record { rule = r; walked = w }

pub one_part : (r q : ℕ) (w v : Bool) (old now : List Part) → r ≡ q → w ≡ v → now ≡ old ++ record { rule = r; walked = w } ∷ [] → now ≡ old ++ record { rule = q; walked = v } ∷ []
unfolding part_of
one_part r q w v old now e f pushed = pushed ∙ ap (λ (x : ℕ). old ++ part_of x w ∷ []) e ∙ ap (λ (x : Bool). old ++ part_of q x ∷ []) f
