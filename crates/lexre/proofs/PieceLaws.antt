-- A cutting by the kinds and places of its pieces is one by the texts from each piece on, and the other way round.
use Rattle.std.proofs.Common.{◌≡◌, ℕ, zero, suc, ◌+◌, ◌-◌, ◌<◌, ◌≤◌, Bool, true, false, nat_lt, if◌then◌else◌, List, [], ◌∷◌, ◌++◌, length, map, drop, Option, Some, None, refl, sym, ap, ◌∙◌, subst, arith, inl, inr, ne_eqb, lt-ltb, length-drop, ◌||◌}
use Rattle.std.proofs.lemmas.Bool.{cases_eq, and_parts}
use Rattle.std.specs.Prelude.{codes, cond, fold, filter, find, option_map}
use Rattle.std.specs.List.{list_any}
use Rattle.lex_semantics.specs.Reading.{◌>>=◌, IsReadAs, begins, is_white}
use Rattle.lexre_bytes.specs.Lexical.{class_at, elements_at, escape_at}
use Rattle.lexre_bytes.specs.Elements.{Element}
use Rattle.lexre_bytes.specs.Quotes.{after_quotes}
use Rattle.lexre_bytes.specs.Passing.{rest_of_class}
use Rattle.lexre_bytes.proofs.PassingLaws.{quotes_shorter, rest_of}
use Rattle.lexre_bytes.proofs.QuoteLaws.{escape_shorter}
use Rattle.lexre.specs.Cutting.{deeper, ends_pattern, piece_at, IsCutting}
use Rattle.lexre.specs.Pieces.{Piece, opens, closes, slash, dollar, other, kind_of, kind_at, IsEnd, IsPieces, slashes, is_dollar, ends_with_dollar, first_of, has_two, IsCutSo}
use Rattle.lexre.proofs.FrontLaws.{IsUpTo, elements_within}

-- What follows a piece is shorter.

abbrev IsBelow : ℕ → Option (List ℕ) → Type 0
IsBelow n None = Unit {0}
IsBelow n (Some rest) = length rest < n

class_below : (t : List ℕ) → IsBelow (suc (length t)) (rest_of_class (class_at t))
unfolding class_at
class_below t = go (begins (codes "^") t) (if begins (codes "^") t then drop 1 t else t) (shorter (begins (codes "^") t))
  where
    shorter : (b : Bool) → length (if b then drop 1 t else t) ≤ length t
    shorter true = omega (arith, length-drop 1 t)
    shorter false = omega arith

    read : (b : Bool) (u : List ℕ) (o : Option (List Element × List ℕ)) → length u ≤ length t → IsUpTo (length u) o
        → IsBelow (suc (length t)) (rest_of_class (o >>= λ (es, rest). Some (b, es, rest)))
    read b u None h k = tt
    read b u (Some x) h k = omega arith

    go : (b : Bool) (u : List ℕ) → length u ≤ length t → IsBelow (suc (length t)) (rest_of_class (elements_at (length t) true u >>= λ (es, rest). Some (b, es, rest)))
    go b u h = read b u (elements_at (length t) true u) h (elements_within (length t) true u)

quotes_below : (t : List ℕ) → IsBelow (suc (length t)) (after_quotes t)
quotes_below t = go (after_quotes t) refl
  where
    go : (o : Option (List ℕ)) → after_quotes t ≡ o → IsBelow (suc (length t)) o
    go None e = tt
    go (Some rest) e = omega (arith, quotes_shorter t rest e)

escape_below : (t : List ℕ) → IsBelow (suc (length t)) (rest_of (escape_at t))
escape_below t = go (escape_at t) refl
  where
    go : (o : Option (ℕ × List ℕ)) → ◌≡◌ {A = Option (ℕ × List ℕ)} (escape_at t) o → IsBelow (suc (length t)) (rest_of o)
    go None e = tt
    go (Some x) e = omega (arith, escape_shorter t x.1 x.0 e)

abbrev IsFront : List ℕ → Option (List ℕ × List ℕ) → Type 0
IsFront t None = Unit {0}
IsFront t (Some x) = (x.0 ≡ t) × (length x.1 < length t)

front : (t : List ℕ) → IsFront t (piece_at t)
unfolding piece_at after_quotes
front [] = tt
front (c ∷ t) = go (ends_pattern (c ∷ t)) (begins (codes "\"") (c ∷ t)) (begins (codes "[") (c ∷ t)) (begins (codes "\\") (c ∷ t))
  where
    from : (o : Option (List ℕ)) → IsBelow (suc (length t)) o → IsFront (c ∷ t) (option_map (λ rest. (c ∷ t, rest)) o)
    from None h = tt
    from (Some rest) h = (refl, h)

    go : (w q b e : Bool) → IsFront (c ∷ t) (option_map (λ rest. (c ∷ t, rest)) (
        if w then None
        else if q then after_quotes t
        else if b then rest_of_class (class_at t)
        else if e then rest_of (escape_at t)
        else Some t))
    go true q b e = tt
    go false true b e = from (after_quotes t) (quotes_below t)
    go false false true e = from (rest_of_class (class_at t)) (class_below t)
    go false false false true = from (rest_of (escape_at t)) (escape_below t)
    go false false false false = (refl, omega arith)

pub front_of : (t u rest : List ℕ) → ◌≡◌ {A = Option (List ℕ × List ℕ)} (piece_at t) (Some (u, rest)) → (u ≡ t) × (length rest < length t)
front_of t u rest e = subst (IsFront t) e (front t)

-- The end.

pub end_of : (t : List ℕ) → IsEnd t → ends_pattern t ≡ true
end_of [] h = refl
end_of (c ∷ t) h = rw h refl

pub ends_of : (t : List ℕ) → ends_pattern t ≡ true → IsEnd t
ends_of [] h = tt
ends_of (c ∷ t) h = (and_parts (is_white c) true h).0

-- The pieces.

abbrev place : ℕ → List ℕ → ℕ
place n u = n - length u

abbrev marked : ℕ → List ℕ → Piece × ℕ
marked n u = (kind_of u, place n u)

abbrev Tails : ℕ → ℕ → List ℕ → List (List ℕ) → Type 0
Tails n end t us = IsReadAs piece_at (λ rest. (ends_pattern rest ≡ true) × (end + length rest ≡ n)) t us

pub kind_is : (t rest : List ℕ) (p : Piece) → ◌≡◌ {A = Option (Piece × List ℕ)} (kind_at t) (Some (p, rest))
    → (p ≡ kind_of t) × (◌≡◌ {A = Option (List ℕ × List ℕ)} (piece_at t) (Some (t, rest)))
unfolding kind_at
kind_is t rest p e = go (piece_at t) refl e
  where
    same : (x y : Piece × List ℕ) → ◌≡◌ {A = Option (Piece × List ℕ)} (Some x) (Some y) → x ≡ y
    same x y f = cc

    none : (x : Piece × List ℕ) → ◌≡◌ {A = Option (Piece × List ℕ)} None (Some x) → ⊥
    none x f = cc

    go : (o : Option (List ℕ × List ℕ)) → ◌≡◌ {A = Option (List ℕ × List ℕ)} (piece_at t) o → ◌≡◌ {A = Option (Piece × List ℕ)} (o >>= λ (u, rest). Some (kind_of t, rest)) (Some (p, rest))
        → (p ≡ kind_of t) × (◌≡◌ {A = Option (List ℕ × List ℕ)} (piece_at t) (Some (t, rest)))
    go None f g = absurd (none (p, rest) g)
    go (Some (u, r)) f g =
        let is = same (kind_of t, r) (p, rest) g in
        let first : kind_of t ≡ p = ap (λ (z : Piece × List ℕ). z.0) is in
        let second : r ≡ rest = ap (λ (z : Piece × List ℕ). z.1) is in
        (sym first, f ∙ ap (λ (z : List ℕ). Some (z, r)) (front_of t u r f).0 ∙ ap (λ (z : List ℕ). Some (t, z)) second)

tails_of : (n at : ℕ) (t : List ℕ) (ps : List (Piece × ℕ)) (end : ℕ) → IsPieces at t ps end → at + length t ≡ n
    → (us : List (List ℕ)) × Tails n end t us × (ps ≡ map (marked n) us)
tails_of n at t [] end (done, e) whole = ([], (end_of t done, rw e whole), refl)
tails_of n at t ((p, k) ∷ ps) end (rest, found, stands, cut) whole =
    let is = kind_is t rest p found in
    let less = (front_of t t rest is.1).1 in
    let more = tails_of n (at + (length t - length rest)) rest ps end cut (omega arith) in
    let e : k ≡ n - length t = stands ∙ omega arith in
    (t ∷ more.0, (rest, is.1, more.1), ap (λ (z : Piece). (z, k) ∷ ps) is.0 ∙ ap (λ (z : ℕ). (kind_of t, z) ∷ ps) e ∙ ap (λ (z : List (Piece × ℕ)). marked n t ∷ z) more.2)

pieces_of : (n at : ℕ) (t : List ℕ) (us : List (List ℕ)) (end : ℕ) → Tails n end t us → at + length t ≡ n → IsPieces at t (map (marked n) us) end
unfolding kind_at
pieces_of n at t [] end (done, e) whole = (ends_of t done, omega arith)
pieces_of n at t (u ∷ us) end (rest, found, cut) whole =
    let is = front_of t u rest found in
    let kind : ◌≡◌ {A = Option (Piece × List ℕ)} (kind_at t) (Some (kind_of u, rest)) =
    ap (λ (o : Option (List ℕ × List ℕ)). o >>= λ (u, rest). Some (kind_of t, rest)) found ∙ ap (λ (z : List ℕ). Some (kind_of z, rest)) (sym is.0) in
    let at_place : n - length u ≡ at = ap (λ (z : List ℕ). n - length z) is.0 ∙ omega arith in
    (rest, kind, at_place, pieces_of n (at + (length t - length rest)) rest us end cut (omega (arith, is.1)))

-- What a piece is.

abbrev pub is_opening : Piece → Bool
is_opening opens = true
is_opening _ = false

abbrev pub is_closing : Piece → Bool
is_closing closes = true
is_closing _ = false

abbrev pub is_slash : Piece → Bool
is_slash slash = true
is_slash _ = false

pub record Looks (u : List ℕ) (p : Piece) : Type 0 where
  pub opening : begins (codes "(") u ≡ is_opening p
  pub closing : begins (codes ")") u ≡ is_closing p
  pub slashed : begins (codes "/") u ≡ is_slash p
  pub dollared : begins (codes "$") u ≡ is_dollar p

pub looks : (u : List ℕ) → Looks u (kind_of u)
looks [] = record { opening = refl; closing = refl; slashed = refl; dollared = refl }
looks (c ∷ t) =
    elim (cases_eq c 40) [
      | inl e ↦ subst (λ z. Looks (z ∷ t) (kind_of (z ∷ t))) (sym e) (record { opening = refl; closing = refl; slashed = refl; dollared = refl })
      | inr a ↦ elim (cases_eq c 41) [
        | inl e ↦ subst (λ z. Looks (z ∷ t) (kind_of (z ∷ t))) (sym e) (record { opening = refl; closing = refl; slashed = refl; dollared = refl })
        | inr b ↦ elim (cases_eq c 47) [
          | inl e ↦ subst (λ z. Looks (z ∷ t) (kind_of (z ∷ t))) (sym e) (record { opening = refl; closing = refl; slashed = refl; dollared = refl })
          | inr d ↦ elim (cases_eq c 36) [
            | inl e ↦ subst (λ z. Looks (z ∷ t) (kind_of (z ∷ t))) (sym e) (record { opening = refl; closing = refl; slashed = refl; dollared = refl })
            | inr f ↦
                rw (ne_eqb c 40 a, ne_eqb c 41 b, ne_eqb c 47 d, ne_eqb c 36 f) (record {
                  opening = rw (ne_eqb 40 c (λ z. a (sym z))) refl;
                  closing = rw (ne_eqb 41 c (λ z. b (sym z))) refl;
                  slashed = rw (ne_eqb 47 c (λ z. d (sym z))) refl;
                  dollared = rw (ne_eqb 36 c (λ z. f (sym z))) refl;
                })
          ]
        ]
      ]
    ]

-- The slashes.

abbrev depth_from : ℕ → List (List ℕ) → ℕ
depth_from n us = fold deeper n us

abbrev is_slashed : List ℕ → Bool
is_slashed u = begins (codes "/") u

abbrev Outside : ℕ → List (List ℕ) → Type 0
Outside n us = (before after : List (List ℕ)) (p : List ℕ) → us ≡ before ++ p ∷ after → is_slashed p ≡ true → depth_from n before ≡ 0

-- the places of the slashes
abbrev slashed_places : ℕ → List (List ℕ) → List ℕ
slashed_places m us = map (place m) (filter is_slashed us)

step_by : (u : List ℕ) (p : Piece) (n at : ℕ) (ps : List (Piece × ℕ)) → Looks u p → is_slash p ≡ false → slashes n ((p, at) ∷ ps) ≡ slashes (deeper n u) ps
unfolding slashes
step_by u opens n at ps h e = rw h.opening refl
step_by u closes n at ps h e = rw (h.opening, h.closing) refl
step_by u slash n at ps h e = cc
step_by u dollar zero at ps h e = rw (h.opening, h.closing) refl
step_by u dollar (suc n) at ps h e = rw (h.opening, h.closing) refl
step_by u other zero at ps h e = rw (h.opening, h.closing) refl
step_by u other (suc n) at ps h e = rw (h.opening, h.closing) refl

slash_by : (u : List ℕ) (p : Piece) → Looks u p → is_slash p ≡ true → (p ≡ slash) × ((n : ℕ) → deeper n u ≡ n)
slash_by u slash h e = (refl, λ n. rw (h.opening, h.closing) refl)
slash_by u opens h e = cc
slash_by u closes h e = cc
slash_by u dollar h e = cc
slash_by u other h e = cc

inner : (n : ℕ) (u : List ℕ) (us : List (List ℕ)) → Outside n (u ∷ us) → Outside (deeper n u) us
inner n u us h before after p e s = h (u ∷ before) after p (ap (λ z. u ∷ z) e) s

outside_slashes : (m n : ℕ) (us : List (List ℕ)) → Outside n us → slashes n (map (marked m) us) ≡ Some (slashed_places m us)
unfolding slashes
outside_slashes m n [] h = refl
outside_slashes m n (u ∷ us) h = go (outside_slashes m (deeper n u) us (inner n u us h)) (is_slashed u) refl
  where
    go : slashes (deeper n u) (map (marked m) us) ≡ Some (slashed_places m us) → (b : Bool) → is_slashed u ≡ b → slashes n (marked m u ∷ map (marked m) us) ≡ Some (map (place m) (cond (is_slashed u) (u ∷ filter is_slashed us) (filter is_slashed us)))
    go rest false e =
        let no : is_slash (kind_of u) ≡ false = sym (looks u).slashed ∙ e in
        step_by u (kind_of u) n (place m u) (map (marked m) us) (looks u) no ∙ rest ∙ rw e refl
    go rest true e =
        let is = slash_by u (kind_of u) (looks u) (sym (looks u).slashed ∙ e) in
        let none : n ≡ 0 = h [] us u refl e in
        let tail : slashes 0 (map (marked m) us) ≡ Some (slashed_places m us) = ap (λ k. slashes k (map (marked m) us)) (sym none ∙ sym (is.1 n)) ∙ rest in
        ap (λ k. slashes k (marked m u ∷ map (marked m) us)) none ∙ ap (λ (p : Piece). slashes 0 ((p, place m u) ∷ map (marked m) us)) is.0 ∙ rw (tail, e) refl

some_places : (x y : List ℕ) → Some x ≡ Some y → x ≡ y
some_places x y e = cc

no_places : (x : List ℕ) → ◌≡◌ {A = Option (List ℕ)} None (Some x) → ⊥
no_places x e = cc

heads : (u v : List ℕ) (us vs : List (List ℕ)) → u ∷ us ≡ v ∷ vs → (u ≡ v) × (us ≡ vs)
heads u v us vs e = (cc, cc)

no_true : false ≡ true → ⊥
no_true e = cc

slashes_outside : (m n : ℕ) (us : List (List ℕ)) (places : List ℕ) → slashes n (map (marked m) us) ≡ Some places → Outside n us
unfolding slashes
slashes_outside m n [] places e = none
  where
    none : Outside n []
    none [] after p f s = cc
    none (b ∷ before) after p f s = cc
slashes_outside m n (u ∷ us) places e = go (λ k more. slashes_outside m k us more) (is_slashed u) refl
  where
    shut : (k : ℕ) → is_slash (kind_of u) ≡ true → slashes k (marked m u ∷ map (marked m) us) ≡ Some places → (k ≡ 0) × (more : List ℕ) × (slashes k (map (marked m) us) ≡ Some more)
    shut k slashed f = from k (ap (λ (p : Piece). slashes k ((p, place m u) ∷ map (marked m) us)) (sym (slash_by u (kind_of u) (looks u) slashed).0) ∙ f)
      where
        found : (o : Option (List ℕ)) → slashes 0 (map (marked m) us) ≡ o → (o >>= λ more. Some (place m u ∷ more)) ≡ Some places → (more : List ℕ) × (slashes 0 (map (marked m) us) ≡ Some more)
        found None g i = absurd (no_places places i)
        found (Some more) g i = (more, g)

        from : (k : ℕ) → slashes k ((slash, place m u) ∷ map (marked m) us) ≡ Some places → (k ≡ 0) × (more : List ℕ) × (slashes k (map (marked m) us) ≡ Some more)
        from zero g = let rest = found (slashes 0 (map (marked m) us)) refl g in (refl, rest.0, rest.1)
        from (suc k) g = absurd (no_places places g)

    go : ((k : ℕ) (more : List ℕ) → slashes k (map (marked m) us) ≡ Some more → Outside k us) → (b : Bool) → is_slashed u ≡ b → Outside n (u ∷ us)
    go rec false s [] after p f t = absurd (no_true (sym s ∙ ap is_slashed (heads u p us after f).0 ∙ t))
    go rec false s (b ∷ before) after p f t =
        let no : is_slash (kind_of u) ≡ false = sym (looks u).slashed ∙ s in
        let tail = sym (step_by u (kind_of u) n (place m u) (map (marked m) us) (looks u) no) ∙ e in
        let both = heads u b us (before ++ p ∷ after) f in
        ap (λ z. depth_from (deeper n z) before) (sym both.0) ∙ rec (deeper n u) places tail before after p both.1 t
    go rec true s [] after p f t = (shut n (sym (looks u).slashed ∙ s) e).0
    go rec true s (b ∷ before) after p f t =
        let slashed : is_slash (kind_of u) ≡ true = sym (looks u).slashed ∙ s in
        let made = shut n slashed e in
        let same = (slash_by u (kind_of u) (looks u) slashed).1 n in
        let both = heads u b us (before ++ p ∷ after) f in
        ap (λ z. depth_from (deeper n z) before) (sym both.0) ∙ ap (λ k. depth_from k before) same ∙ rec n made.1 made.2 before after p both.1 t

-- What is told of them.

first_place : (m : ℕ) (us : List (List ℕ)) → first_of (slashed_places m us) ≡ option_map (place m) (find is_slashed us)
first_place m [] = refl
first_place m (u ∷ us) = go (first_place m us) (is_slashed u)
  where
    go : first_of (slashed_places m us) ≡ option_map (place m) (find is_slashed us) → (b : Bool) → first_of (map (place m) (cond b (u ∷ filter is_slashed us) (filter is_slashed us))) ≡ option_map (place m) (cond b (Some u) (find is_slashed us))
    go rest true = refl
    go rest false = rest

two_places : (m : ℕ) (us : List (List ℕ)) → has_two (map (place m) us) ≡ nat_lt 1 (length us)
two_places m [] = refl
two_places m (u ∷ []) = refl
two_places m (u ∷ v ∷ us) = sym (lt-ltb 1 (length (u ∷ v ∷ us)) (omega arith))

last_dollar : (m : ℕ) (us : List (List ℕ)) → ends_with_dollar (map (marked m) us) ≡ list_any (begins (codes "$")) (drop (length us - 1) us)
unfolding ends_with_dollar
last_dollar m [] = refl
last_dollar m (u ∷ []) = go (begins (codes "$") u) (looks u).dollared
  where
    go : (b : Bool) → b ≡ is_dollar (kind_of u) → is_dollar (kind_of u) ≡ (b || false)
    go true e = sym e
    go false e = sym e
last_dollar m (u ∷ v ∷ us) =
    let e : length (u ∷ v ∷ us) - 1 ≡ suc (length (v ∷ us) - 1) = omega arith in
    last_dollar m (v ∷ us) ∙ ap (λ k. list_any (begins (codes "$")) (drop k (u ∷ v ∷ us))) (sym e)

-- Both are the same.

pub cutting_of : (text : List ℕ) (end : ℕ) (first : Option ℕ) (two special : Bool) → IsCutSo text end first two special → IsCutting text end first two special
cutting_of text end first two special h =
    let n = length text in
    let t = tails_of n 0 text h.pieces end h.cut (omega arith) in
    let found : slashes 0 (map (marked n) t.0) ≡ Some h.places = ap (slashes 0) (sym t.2) ∙ h.outside in
    let outside : Outside 0 t.0 = slashes_outside n 0 t.0 h.places found in
    let places : h.places ≡ slashed_places n t.0 = some_places h.places (slashed_places n t.0) (sym found ∙ outside_slashes n 0 t.0 outside) in
    record {
      pieces = t.0;
      cut = t.1;
      outside = outside;
      first = h.first ∙ ap first_of places ∙ first_place n t.0;
      second = h.second ∙ ap has_two places ∙ two_places n (filter is_slashed t.0);
      last = h.last ∙ ap ends_with_dollar t.2 ∙ last_dollar n t.0;
    }

pub cut_so : (text : List ℕ) (end : ℕ) (first : Option ℕ) (two special : Bool) → IsCutting text end first two special → IsCutSo text end first two special
cut_so text end first two special h =
    let n = length text in
    record {
      pieces = map (marked n) h.pieces;
      cut = pieces_of n 0 text h.pieces end h.cut (omega arith);
      places = slashed_places n h.pieces;
      outside = outside_slashes n 0 h.pieces h.outside;
      first = h.first ∙ sym (first_place n h.pieces);
      second = h.second ∙ sym (two_places n (filter is_slashed h.pieces));
      last = h.last ∙ sym (last_dollar n h.pieces);
    }
