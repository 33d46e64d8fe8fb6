-- The set of a class, element by element.
use Rattle.std.proofs.Common.{◌≡◌, ℕ, zero, suc, ◌<◌, ◌≤◌, ◌^◌, Bool, true, false, not, ◌&&◌, ◌||◌, ◌==◌, if◌then◌else◌, List, [], ◌∷◌, length, drop, length-drop, Option, Some, None, refl, sym, ap, ◌∙◌, subst, nat_le, arith}
use Rattle.std.specs.Prelude.{codes, is_none, unwrap_or}
use Rattle.lex_semantics.specs.ByteSets.{ByteSet, has, set_of, empty_set, union, complement, range_set, same_bytes, classes, named_set}
use Rattle.lex_semantics.specs.Reading.{◌>>=◌, begins}
use Rattle.lexre_bytes.specs.Lexical.{span, after_word, folded, class_name_at, enclosed_by, bracketed_at, element_at, range_at, elements_at, class_at, class_set, escape_at}
use Rattle.lexre_bytes.specs.Elements.{Element, named, unsupported, is_range}
use Rattle.lexre_bytes.specs.ClassSets.{member_at, members_at, class_set_at, union_set}
use Rattle.std.specs.Map.{lookup}
use Rattle.std.specs.Option.{option_map, option_or}
use Rattle.lexre_bytes.specs.Brackets.{named_at, unsupported_at}
use Rattle.lexre_bytes.proofs.BracketForms.{bracketed_form}
use Rattle.lexre_bytes.proofs.IntervalLaws.{begun, not_begun}
use Rattle.lexre_bytes.proofs.QuoteLaws.{differs}
use Rattle.lexre_bytes.proofs.SetLaws.{empty_is, has-set_of, set_of-lt, same_set_of, is_set_of}
use Rattle.lexre_bytes.proofs.ShorterLaws.{element_takes}
use Rattle.lex_semantics.specs.Escapes.{byte_with}
use Rattle.std.specs.List.{list_any}

abbrev Found : Type 0
Found = Option (ByteSet × List ℕ)

abbrev One : Type 0
One = Option (Element × List ℕ)

abbrev Many : Type 0
Many = Option (List Element × List ℕ)

-- what was found, with the bytes of a set
abbrev pub onto : ByteSet → Option (ByteSet × List ℕ) → Option (ByteSet × List ℕ)
onto s o = o >>= λ (more, rest). Some (union s more, rest)

-- Unions.

or_together : (x y z : Bool) → (x || (y || z)) ≡ ((x || y) || z)
or_together true y z = refl
or_together false y z = refl

or_false : (x : Bool) → x ≡ (x || false)
or_false true = refl
or_false false = refl

union_together : (a b c : ByteSet) → union a (union b c) ≡ union (union a b) c
unfolding union
union_together a b c = same_set_of _ _ (λ i h.
    ap (λ x. has a i || x) (has-set_of (λ j. has b j || has c j) i h) ∙ or_together (has a i) (has b i) (has c i)
    ∙ sym (ap (λ x. x || has c i) (has-set_of (λ j. has a j || has b j) i h)))

union_nothing : (a : ByteSet) → a < 2 ^ 256 → union a empty_set ≡ a
unfolding union empty_set
union_nothing a h = sym (is_set_of a (λ b. has a b || has (set_of (λ c. false)) b) h
    (λ b k. or_false (has a b) ∙ ap (λ x. has a b || x) (sym (has-set_of (λ c. false) b k))))

pub union-lt : (new a b : ByteSet) → new ≡ union a b → new < 2 ^ 256
unfolding union
union-lt new a b e = rw e (set_of-lt (λ c. has a c || has b c))

onto_onto : (a b : ByteSet) (o : Found) → onto a (onto b o) ≡ onto (union a b) o
onto_onto a b None = refl
onto_onto a b (Some x) = ap (λ s. Some (s, x.1)) (union_together a b x.0)

-- One element and the others.

abbrev with_first : Element → Many → Many
with_first e q = q >>= λ (es, after). Some (e ∷ es, after)

abbrev united : Many → Found
united q = q >>= λ (es, rest). union_set es >>= λ s. Some (s, rest)

first_and_others : (e : Element) (o : Option ByteSet) (rest : List ℕ) (q : Many) → e ≡ o
    → united (with_first e q) ≡ (o >>= λ s. onto s (united q))
unfolding union_set
first_and_others e None rest None h = refl
first_and_others e (Some s) rest None h = refl
first_and_others e None rest (Some x) h = rw h refl
first_and_others e (Some s) rest (Some x) h = rw h (go (union_set x.0))
  where
    go : (u : Option ByteSet) → ◌≡◌ {A = Found} ((u >>= λ r. Some (union s r)) >>= λ s. Some (s, x.1)) (onto s (u >>= λ s. Some (s, x.1)))
    go None = refl
    go (Some r) = refl

abbrev element_then : ℕ → One → Many
element_then n f = f >>= λ (e, rest). elements_at n false rest >>= λ (es, after). Some (e ∷ es, after)

abbrev set_then : ℕ → One → Found
set_then n f = (f >>= λ (e, rest). e >>= λ s. Some (s, rest)) >>= λ (s, rest). onto s (members_at n false rest)

united_then : (n : ℕ) (f : One) → united (element_then n f) ≡ set_then n f
united_then n None = refl
united_then n (Some x) = go x.0 refl
  where
    go : (o : Option ByteSet) → x.0 ≡ o → united (element_then n (Some x)) ≡ ((o >>= λ s. Some (s, x.1)) >>= λ (s, rest). onto s (members_at n false rest))
    go None e = first_and_others x.0 None x.1 (elements_at n false x.1) e
    go (Some s) e = first_and_others x.0 (Some s) x.1 (elements_at n false x.1) e

one_more : (n : ℕ) (first : Bool) (t : List ℕ) → (begins (codes "]") t && not first) ≡ false → members_at (suc n) first t ≡ set_then n (element_at t)
unfolding elements_at
one_more n first t h = rw h (united_then n (element_at t))

closing : (n : ℕ) (t : List ℕ) → begins (codes "]") t ≡ true → members_at (suc n) false t ≡ Some (empty_set, drop 1 t)
unfolding elements_at union_set
closing n t h = rw h refl

-- The number that bounds the elements tells nothing once there is room.

nothing_there : ◌≡◌ {A = One} (element_at []) None
unfolding element_at bracketed_at class_name_at enclosed_by after_word
nothing_there = refl

none_of_nothing : (m : ℕ) (first : Bool) → ◌≡◌ {A = Many} (elements_at m first []) None
unfolding elements_at
none_of_nothing zero first = refl
none_of_nothing (suc m) first = rw nothing_there refl

same_then : (n m : ℕ) (f : One) → ((e : Element) (rest : List ℕ) → f ≡ Some (e, rest) → elements_at n false rest ≡ elements_at m false rest) → element_then n f ≡ element_then m f
same_then n m None h = refl
same_then n m (Some x) h = ap (with_first x.0) (h x.0 x.1 refl)

enough : (n m : ℕ) (first : Bool) (t : List ℕ) → length t ≤ n → length t ≤ m → elements_at n first t ≡ elements_at m first t
unfolding elements_at
enough zero m first [] h k = sym (none_of_nothing m first)
enough zero m first (c ∷ t) h k = absurd (omega arith)
enough (suc n) zero first [] h k = none_of_nothing (suc n) first
enough (suc n) zero first (c ∷ t) h k = absurd (omega arith)
enough (suc n) (suc m) first t h k = go (begins (codes "]") t && not first) (λ rest less. enough n m false rest (omega arith) (omega arith))
  where
    go : (b : Bool) → ((rest : List ℕ) → length rest < length t → elements_at n false rest ≡ elements_at m false rest)
        → ◌≡◌ {A = Many} (if b then Some ([], drop 1 t) else element_then n (element_at t)) (if b then Some ([], drop 1 t) else element_then m (element_at t))
    go true same = refl
    go false same = same_then n m (element_at t) (λ e rest f. same rest (element_takes t rest e f))

members_enough : (n m : ℕ) (first : Bool) (t : List ℕ) → length t ≤ n → length t ≤ m → members_at n first t ≡ members_at m first t
members_enough n m first t h k = ap united (enough n m first t h k)

-- The set of an element has bytes alone.

abbrev IsOfBytes : Option ByteSet → Type 0
IsOfBytes o = (s : ByteSet) → o ≡ Some s → s < 2 ^ 256

either : (b : Bool) (p : ℕ → Bool) (o : Option ByteSet) → IsOfBytes o → IsOfBytes (if b then Some (set_of p) else o)
either true p o h s e = let same : set_of p ≡ s = cc in subst (λ v. v < 2 ^ 256) same (set_of-lt p)
either false p o h s e = h s e

no_set : IsOfBytes None
no_set s e = cc

named_set-lt : (n : List ℕ) → IsOfBytes (named_set n)
unfolding named_set
named_set-lt n = go (lookup (same_bytes n) classes)
  where
    go : (o : Option (ℕ → Bool)) → IsOfBytes (option_map set_of o)
    go None s e = cc
    go (Some p) s e = let same : set_of p ≡ s = cc in subst (λ v. v < 2 ^ 256) same (set_of-lt p)

span-lt : (lo hi : ℕ) → IsOfBytes (span lo hi)
unfolding span range_set
span-lt lo hi = either (nat_le lo hi) (λ b. nat_le lo b && nat_le b hi) None no_set

-- the set of an element that is read, if it has one, is of bytes
abbrev ReadsBytes : One → Type 0
ReadsBytes None = Unit {0}
ReadsBytes (Some x) = IsOfBytes x.0

bracketed_bytes : (t : List ℕ) → ReadsBytes (bracketed_at t)
bracketed_bytes t = let P : One → Type 0 = λ f. ReadsBytes f in subst P (sym (bracketed_form t)) (go (named_at t) (unsupported_at t))
  where
    go : (a : Option (List ℕ × List ℕ)) (b : Option (List ℕ)) → ReadsBytes (elim a [
      | Some found ↦ Some (named found.0, found.1)
      | None ↦ elim b [
        | Some rest ↦ Some (unsupported, rest)
        | None ↦ None
      ]
    ])
    go (Some x) b = named_set-lt x.0
    go None (Some u) = no_set
    go None None = tt

range_bytes : (lo : ℕ) (t : List ℕ) → ReadsBytes (range_at lo t)
unfolding range_at
range_bytes lo t = go (bracketed_at t) (byte_with escape_at t)
  where
    go : (a : One) (b : Option (ℕ × List ℕ)) → ReadsBytes (option_or (a >>= λ (e, rest). Some (None, rest)) (b >>= λ (hi, rest). Some (span lo hi, rest)))
    go (Some x) b = no_set
    go None (Some y) = span-lt lo y.0
    go None None = tt

element_bytes : (t : List ℕ) → ReadsBytes (element_at t)
unfolding element_at
element_bytes t = go (bracketed_at t) (byte_with escape_at t) (bracketed_bytes t)
  where
    low : (b : Bool) (lo : ℕ) (r : List ℕ) → ReadsBytes (if b then range_at lo (drop 1 r) else Some (span lo lo, r))
    low true lo r = range_bytes lo (drop 1 r)
    low false lo r = span-lt lo lo

    go : (a : One) (b : Option (ℕ × List ℕ)) → ReadsBytes a → ReadsBytes (option_or a (b >>= λ (lo, rest). if is_range rest then range_at lo (drop 1 rest) else Some (span lo lo, rest)))
    go (Some x) b h = h
    go None (Some y) h = low (is_range y.1) y.0 y.1
    go None None h = tt

pub member-lt : (t rest : List ℕ) (s : ByteSet) → ◌≡◌ {A = Found} (member_at t) (Some (s, rest)) → s < 2 ^ 256
member-lt t rest s h = go (element_at t) (element_bytes t) h
  where
    inner : (r : List ℕ) (o : Option ByteSet) → IsOfBytes o → ◌≡◌ {A = Found} (o >>= λ u. Some (u, r)) (Some (s, rest)) → s < 2 ^ 256
    inner r None k e = cc
    inner r (Some u) k e = let same : u ≡ s = ap (λ (f : Found). elim f [ Some y ↦ y.0 | None ↦ u ]) e in subst (λ v. v < 2 ^ 256) same (k u refl)

    go : (f : One) → ReadsBytes f → ◌≡◌ {A = Found} (f >>= λ (e, r). e >>= λ u. Some (u, r)) (Some (s, rest)) → s < 2 ^ 256
    go None k e = cc
    go (Some x) k e = inner x.1 x.0 k e

-- The steps of the reader.

from_member : (t rest : List ℕ) (s : ByteSet) → ◌≡◌ {A = Found} (member_at t) (Some (s, rest)) → length rest < length t
from_member t rest s h = go (element_at t) refl h
  where
    inner : (x : Element × List ℕ) (o : Option ByteSet) → ◌≡◌ {A = One} (element_at t) (Some x) → ◌≡◌ {A = Found} (o >>= λ u. Some (u, x.1)) (Some (s, rest)) → length rest < length t
    inner x None e k = cc
    inner x (Some u) e k =
        let same : x.1 ≡ rest = ap (λ (f : Found). elim f [ Some y ↦ y.1 | None ↦ x.1 ]) k in
        let less : length x.1 < length t = element_takes t x.1 x.0 e in
        omega (arith, ap length same, less)

    go : (f : One) → ◌≡◌ {A = One} (element_at t) f → ◌≡◌ {A = Found} (f >>= λ (e, r). e >>= λ u. Some (u, r)) (Some (s, rest)) → length rest < length t
    go None e k = cc
    go (Some x) e k = inner x x.0 e k

pub member_takes : (t rest : List ℕ) (s : ByteSet) → ◌≡◌ {A = Found} (member_at t) (Some (s, rest)) → length rest < length t
member_takes t rest s h = from_member t rest s h

not_at_first : (b : Bool) → (b && not true) ≡ false
not_at_first true = refl
not_at_first false = refl

stepped : (n : ℕ) (t rest : List ℕ) (s : ByteSet) → ◌≡◌ {A = Found} (member_at t) (Some (s, rest)) → length t ≤ n → set_then n (element_at t) ≡ onto s (members_at (suc (length rest)) false rest)
stepped n t rest s h k =
    ap (λ f. f >>= λ (s, rest). onto s (members_at n false rest)) h
    ∙ ap (onto s) (let less : length rest < length t = from_member t rest s h in members_enough n (suc (length rest)) false rest (omega arith) (omega arith))

pub first_step : (t rest : List ℕ) (s : ByteSet) → ◌≡◌ {A = Found} (member_at t) (Some (s, rest))
    → members_at (suc (length t)) true t ≡ onto s (members_at (suc (length rest)) false rest)
first_step t rest s h = one_more (length t) true t (not_at_first (begins (codes "]") t)) ∙ stepped (length t) t rest s h (omega arith)

pub first_refused : (t : List ℕ) → ◌≡◌ {A = Found} (member_at t) None → ◌≡◌ {A = Found} (members_at (suc (length t)) true t) None
first_refused t h = one_more (length t) true t (not_at_first (begins (codes "]") t)) ∙ ap (λ f. f >>= λ (s, rest). onto s (members_at (length t) false rest)) h

open_test : (b : Bool) → b ≡ false → (b && not false) ≡ false
open_test true h = h
open_test false h = refl

pub next_step : (acc new : ByteSet) (t rest : List ℕ) (s : ByteSet) (w : Found) → w ≡ onto acc (members_at (suc (length t)) false t) → begins (codes "]") t ≡ false
    → ◌≡◌ {A = Found} (member_at t) (Some (s, rest)) → new ≡ union acc s → w ≡ onto new (members_at (suc (length rest)) false rest)
next_step acc new t rest s w e h k l =
    e ∙ ap (onto acc) (one_more (length t) false t (open_test _ h) ∙ stepped (length t) t rest s k (omega arith)) ∙ onto_onto acc s (members_at (suc (length rest)) false rest)
    ∙ ap (λ v. onto v (members_at (suc (length rest)) false rest)) (sym l)

pub next_refused : (acc : ByteSet) (t : List ℕ) (w : Found) → w ≡ onto acc (members_at (suc (length t)) false t) → begins (codes "]") t ≡ false
    → ◌≡◌ {A = Found} (member_at t) None → w ≡ None
next_refused acc t w e h k =
    e ∙ ap (onto acc) (one_more (length t) false t (open_test _ h) ∙ ap (λ f. f >>= λ (s, rest). onto s (members_at (length t) false rest)) k)

pub finished : (acc : ByteSet) (t : List ℕ) (w : Found) → w ≡ onto acc (members_at (suc (length t)) false t) → begins (codes "]") t ≡ true → acc < 2 ^ 256
    → ◌≡◌ {A = Found} w (Some (acc, drop 1 t))
finished acc t w e h k = e ∙ ap (onto acc) (closing (length t) t h) ∙ ap (λ s. Some (s, drop 1 t)) (union_nothing acc k)

-- Negation.

abbrev kept : Bool → Bool → Option (ByteSet × List ℕ) → Option (ByteSet × List ℕ)
kept fold negated o = o >>= λ (s, rest).
    (if not negated then Some (folded fold s)
    else if complement (folded fold s) == 0 then None
    else Some (complement (folded fold s))) >>= λ s. Some (s, rest)

-- the union of the sets of all elements is the set of the bytes that are in one of them
union_is : (es : List Element) → ◌≡◌ {A = Option ByteSet} (union_set es) (if list_any is_none es then None else Some (set_of (λ b. list_any (λ e. has (unwrap_or e 0) b) es)))
unfolding union_set empty_set union
union_is [] = refl
union_is (None ∷ es) = refl
union_is (Some s ∷ es) = go (list_any is_none es) (union_set es) (union_is es)
  where
    p : ℕ → Bool
    p b = list_any (λ e. has (unwrap_or e 0) b) es

    go : (n : Bool) (o : Option ByteSet) → o ≡ (if n then None else Some (set_of p))
        → ◌≡◌ {A = Option ByteSet} (o >>= λ rest. Some (set_of (λ b. has s b || has rest b))) (if n then None else Some (set_of (λ b. has s b || p b)))
    go true o e = rw e refl
    go false o e = rw e (ap Some (same_set_of _ _ (λ b h. ap (λ x. has s b || x) (has-set_of p b h))))

set_of_many : (fold negated : Bool) (q : Many) → (q >>= λ (es, rest). class_set fold negated es >>= λ s. Some (s, rest)) ≡ kept fold negated (united q)
unfolding class_set
set_of_many fold negated None = refl
set_of_many fold negated (Some x) = rw (union_is x.0) (go negated (list_any is_none x.0) (set_of (λ b. list_any (λ e. has (unwrap_or e 0) b) x.0)))
  where
    go : (b n : Bool) (u : ByteSet) → ◌≡◌ {A = Found} ((let f = folded fold u in let s = if b then complement f else f in if n || (b && s == 0) then None else Some s) >>= λ s. Some (s, x.1))
        (kept fold b ((if n then None else Some u) >>= λ s. Some (s, x.1)))
    go b true u = refl
    go true false u = refl
    go false false u = refl

abbrev marked : Bool → Many → Option (Bool × List Element × List ℕ)
marked negated q = q >>= λ (es, rest). Some (negated, es, rest)

of_marked : (fold negated : Bool) (q : Many) → (marked negated q >>= λ (negated, es, rest). class_set fold negated es >>= λ s. Some (s, rest)) ≡ kept fold negated (united q)
of_marked fold negated None = refl
of_marked fold negated (Some x) = set_of_many fold negated (Some x)

plain_class : (fold : Bool) (t : List ℕ) → after_word (codes "^") t ≡ None → class_set_at fold t ≡ kept fold false (members_at (suc (length t)) true t)
unfolding class_at
plain_class fold t h =
    rw (not_begun (codes "^") t h) (of_marked fold false (elements_at (length t) true t))
    ∙ ap (kept fold false) (members_enough (length t) (suc (length t)) true t (omega arith) (omega arith))

negated_class : (fold : Bool) (t u : List ℕ) → after_word (codes "^") t ≡ Some u → class_set_at fold t ≡ kept fold true (members_at (suc (length u)) true u)
unfolding class_at
negated_class fold t u h =
    let p = begun (codes "^") t u h in
    let k : length u ≤ length t = omega (arith, ap length p.1, length-drop 1 t) in
    rw (p.0, p.1) (of_marked fold true (elements_at (length t) true u))
    ∙ ap (kept fold true) (members_enough (length t) (suc (length u)) true u k (omega arith))

pub plain_refused : (fold : Bool) (t i : List ℕ) → t ≡ i → after_word (codes "^") i ≡ None → ◌≡◌ {A = Found} (members_at (suc (length i)) true i) None
    → ◌≡◌ {A = Found} (class_set_at fold t) None
plain_refused fold t i same h e = ap (class_set_at fold) same ∙ plain_class fold i h ∙ ap (kept fold false) e

pub plain_found : (fold : Bool) (t i rest : List ℕ) (s f : ByteSet) → t ≡ i → after_word (codes "^") i ≡ None
    → ◌≡◌ {A = Found} (members_at (suc (length i)) true i) (Some (s, rest)) → f ≡ folded fold s → ◌≡◌ {A = Found} (class_set_at fold t) (Some (f, rest))
plain_found fold t i rest s f same h e l = ap (class_set_at fold) same ∙ plain_class fold i h ∙ ap (kept fold false) e ∙ ap (λ v. Some (v, rest)) (sym l)

pub negated_refused : (fold : Bool) (t i u : List ℕ) → t ≡ i → after_word (codes "^") i ≡ Some u → ◌≡◌ {A = Found} (members_at (suc (length u)) true u) None
    → ◌≡◌ {A = Found} (class_set_at fold t) None
negated_refused fold t i u same h e = ap (class_set_at fold) same ∙ negated_class fold i u h ∙ ap (kept fold true) e

abbrev left_over : ByteSet → List ℕ → Found
left_over k rest = (if k == 0 then None else Some k) >>= λ s. Some (s, rest)

negated_from : (fold : Bool) (t i u rest : List ℕ) (s f k : ByteSet) → t ≡ i → after_word (codes "^") i ≡ Some u
    → ◌≡◌ {A = Found} (members_at (suc (length u)) true u) (Some (s, rest)) → f ≡ folded fold s → k ≡ complement f → class_set_at fold t ≡ left_over k rest
negated_from fold t i u rest s f k same h e l m =
    let all : complement (folded fold s) ≡ k = ap complement (sym l) ∙ sym m in
    ap (class_set_at fold) same ∙ negated_class fold i u h ∙ ap (kept fold true) e ∙ ap (λ v. left_over v rest) all

pub negated_empty : (fold : Bool) (t i u rest : List ℕ) (s f k : ByteSet) → t ≡ i → after_word (codes "^") i ≡ Some u
    → ◌≡◌ {A = Found} (members_at (suc (length u)) true u) (Some (s, rest)) → f ≡ folded fold s → k ≡ complement f → k ≡ empty_set
    → ◌≡◌ {A = Found} (class_set_at fold t) None
negated_empty fold t i u rest s f k same h e l m none =
    let zero_set : k ≡ 0 = none ∙ sym empty_is in
    negated_from fold t i u rest s f k same h e l m ∙ ap (λ v. left_over v rest) zero_set

pub negated_found : (fold : Bool) (t i u rest : List ℕ) (s f k : ByteSet) → t ≡ i → after_word (codes "^") i ≡ Some u
    → ◌≡◌ {A = Found} (members_at (suc (length u)) true u) (Some (s, rest)) → f ≡ folded fold s → k ≡ complement f → (k ≡ empty_set → ⊥)
    → ◌≡◌ {A = Found} (class_set_at fold t) (Some (k, rest))
negated_found fold t i u rest s f k same h e l m some =
    negated_from fold t i u rest s f k same h e l m ∙ rw (differs k 0 (λ z. some (z ∙ empty_is))) refl
