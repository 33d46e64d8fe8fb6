-- The reader of a rule's pattern, against whole texts.
use Rattle.std.proofs.Common.{◌≡◌, ℕ, zero, suc, ◌+◌, ◌-◌, ◌≤◌, Bool, true, false, List, [], ◌∷◌, length, Option, Some, None, refl, sym, ap, ◌∙◌, subst, arith}
use Rattle.lex_semantics.specs.Reading.{◌>>=◌}
use Rattle.lexre.specs.Cutting.{piece_at, IsCutting}
use Rattle.lexre.specs.Pieces.{Piece, opens, closes, slash, dollar, other, kind_at, slashes, ends_with_dollar, is_dollar, first_of, has_two, IsEnd, IsPieces, IsCutSo}
use Rattle.lexre.proofs.PieceLaws.{cutting_of, cut_so, end_of}
use Rattle.lexre.specs.CuttingSoFar.{Ending, ending, first_with, two_with, special_with}
use Rattle.lexre.specs.declared.cutting.CuttingSoFar.{CuttingSoFar}

-- One piece.

last_piece : (p : Piece) (at : ℕ) (special : Bool) (ps : List (Piece × ℕ)) → special ≡ is_dollar p → ends_with_dollar ((p, at) ∷ ps) ≡ special_with special ps
unfolding ends_with_dollar
last_piece p at special [] e = sym e
last_piece p at special (q ∷ ps) e = refl

-- a piece that is no slash
pub past_piece : (n m : ℕ) (first : Option ℕ) (two special was : Bool) (p : Piece) (at : ℕ) (ps : List (Piece × ℕ))
    → slashes n ((p, at) ∷ ps) ≡ slashes m ps → special ≡ is_dollar p
    → ◌≡◌ {A = Ending} (ending (record { depth = n; slash = first; two = two; dollar = was }) ((p, at) ∷ ps)) (ending (record { depth = m; slash = first; two = two; dollar = special }) ps)
unfolding ending
past_piece n m first two special was p at ps same last =
    let tail : ends_with_dollar ((p, at) ∷ ps) ≡ special_with special ps = last_piece p at special ps last in
    rw (same, tail) refl

pub past_opens : (n at : ℕ) (ps : List (Piece × ℕ)) → slashes n ((opens, at) ∷ ps) ≡ slashes (n + 1) ps
unfolding slashes
past_opens n at ps = let e : suc n ≡ n + 1 = omega arith in ap (λ k. slashes k ps) e

pub past_closes : (n m at : ℕ) (ps : List (Piece × ℕ)) → m ≡ n - 1 → slashes n ((closes, at) ∷ ps) ≡ slashes m ps
unfolding slashes
past_closes n m at ps e = ap (λ k. slashes k ps) (sym e)

pub past_dollar : (n at : ℕ) (ps : List (Piece × ℕ)) → slashes n ((dollar, at) ∷ ps) ≡ slashes n ps
unfolding slashes
past_dollar zero at ps = refl
past_dollar (suc n) at ps = refl

pub past_other : (n at : ℕ) (ps : List (Piece × ℕ)) → slashes n ((other, at) ∷ ps) ≡ slashes n ps
unfolding slashes
past_other zero at ps = refl
past_other (suc n) at ps = refl

-- the first slash, and one that follows another
made_first : (two last : Bool) (at : ℕ) (o : Option (List ℕ))
    → ◌≡◌ {A = Ending} ((o >>= λ places. Some (at ∷ places)) >>= λ places. Some (first_with None places, two_with two None places, last))
    (o >>= λ places. Some (first_with (Some at) places, two_with two (Some at) places, last))
made_first two last at None = refl
made_first true last at (Some []) = refl
made_first false last at (Some []) = refl
made_first true last at (Some (q ∷ qs)) = refl
made_first false last at (Some (q ∷ qs)) = refl

made_second : (two last : Bool) (at f : ℕ) (o : Option (List ℕ))
    → ◌≡◌ {A = Ending} ((o >>= λ places. Some (at ∷ places)) >>= λ places. Some (first_with (Some f) places, two_with two (Some f) places, last))
    (o >>= λ places. Some (first_with (Some f) places, two_with true (Some f) places, last))
made_second two last at f None = refl
made_second two last at f (Some []) = refl
made_second two last at f (Some (q ∷ qs)) = refl

slash_outside : (first : Option ℕ) (two was : Bool) (at : ℕ) (ps : List (Piece × ℕ))
    → ◌≡◌ {A = Ending} (ending (record { depth = 0; slash = first; two = two; dollar = was }) ((slash, at) ∷ ps))
    ((slashes 0 ps >>= λ places. Some (at ∷ places)) >>= λ places. Some (first_with first places, two_with two first places, special_with false ps))
unfolding ending slashes
slash_outside first two was at ps = let tail : ends_with_dollar ((slash, at) ∷ ps) ≡ special_with false ps = last_piece slash at false ps refl in rw tail refl

pub past_first : (n : ℕ) (first : Option ℕ) (two was : Bool) (at : ℕ) (ps : List (Piece × ℕ)) → n ≤ 0 → first ≡ None
    → ◌≡◌ {A = Ending} (ending (record { depth = n; slash = first; two = two; dollar = was }) ((slash, at) ∷ ps)) (ending (record { depth = n; slash = Some at; two = two; dollar = false }) ps)
unfolding ending
past_first (suc n) first two was at ps outside none = absurd (omega arith)
past_first zero (Some f) two was at ps outside none = let e : Some f ≡ None = none in cc
past_first zero None two was at ps outside none = slash_outside None two was at ps ∙ made_first two (special_with false ps) at (slashes 0 ps)

pub past_second : (n : ℕ) (first : Option ℕ) (f : ℕ) (two was : Bool) (at : ℕ) (ps : List (Piece × ℕ)) → n ≤ 0 → first ≡ Some f
    → ◌≡◌ {A = Ending} (ending (record { depth = n; slash = first; two = two; dollar = was }) ((slash, at) ∷ ps)) (ending (record { depth = n; slash = first; two = true; dollar = false }) ps)
unfolding ending
past_second (suc n) first f two was at ps outside some = absurd (omega arith)
past_second zero None f two was at ps outside some = let e : None ≡ Some f = some in cc
past_second zero (Some g) f two was at ps outside some = slash_outside (Some g) two was at ps ∙ made_second two (special_with false ps) at g (slashes 0 ps)

-- What the rest makes together with what was read.

-- the rest, which stands at a place, goes on to this cutting
abbrev pub Goes : CuttingSoFar → ℕ → List ℕ → ℕ → Option ℕ → Bool → Bool → Type 0
Goes p at rest end first two special =
    (ps : List (Piece × ℕ)) × IsPieces at rest ps end × (◌≡◌ {A = Ending} (ending p ps) (Some (first, two, special)))

-- it goes on to just the cuttings of the whole text
pub record Agree (p : CuttingSoFar) (at : ℕ) (rest text : List ℕ) : Type 0 where
  pub on : (end : ℕ) (first : Option ℕ) (two special : Bool) → Goes p at rest end first two special → IsCutSo text end first two special
  pub back : (end : ℕ) (first : Option ℕ) (two special : Bool) → IsCutSo text end first two special → Goes p at rest end first two special

abbrev Triple : Type 0
Triple = Option ℕ × Bool × Bool

some_triple : (x y : Triple) → ◌≡◌ {A = Ending} (Some x) (Some y) → x ≡ y
some_triple x y e = cc

last_first : (ps : List (Piece × ℕ)) → special_with false ps ≡ ends_with_dollar ps
unfolding ends_with_dollar
last_first [] = refl
last_first (p ∷ ps) = refl

abbrev pub fresh : CuttingSoFar
fresh = record { depth = 0; slash = None; two = false; dollar = false }

first_on : (text : List ℕ) (ps : List (Piece × ℕ)) (end : ℕ) (first : Option ℕ) (two special : Bool) → IsPieces 0 text ps end → (o : Option (List ℕ)) → slashes 0 ps ≡ o
    → ◌≡◌ {A = Ending} (o >>= λ places. Some (first_of places, has_two places, special_with false ps)) (Some (first, two, special)) → IsCutSo text end first two special
first_on text ps end first two special cut None outside made = let e : ◌≡◌ {A = Ending} None (Some (first, two, special)) = made in cc
first_on text ps end first two special cut (Some places) outside made =
    let same = some_triple (first_of places, has_two places, special_with false ps) (first, two, special) made in
    record {
      pieces = ps;
      cut = cut;
      places = places;
      outside = outside;
      first = ap (λ (x : Triple). x.0) (sym same);
      second = ap (λ (x : Triple). x.1) (sym same);
      last = ap (λ (x : Triple). x.2) (sym same) ∙ last_first ps;
    }

first_back : (text : List ℕ) (end : ℕ) (first : Option ℕ) (two special : Bool) → IsCutSo text end first two special → Goes fresh 0 text end first two special
unfolding ending
first_back text end first two special h =
    let last : special_with false h.pieces ≡ special = last_first h.pieces ∙ sym h.last in
    (h.pieces, h.cut, rw (h.outside, last, h.first, h.second) refl)

pub agree_first : (text : List ℕ) → Agree fresh 0 text text
unfolding ending
agree_first text = record {
  on = λ end first two special goes. first_on text goes.0 end first two special goes.1 (slashes 0 goes.0) refl goes.2;
  back = λ end first two special h. first_back text end first two special h;
}

pub no_piece : (t : List ℕ) → IsEnd t → ◌≡◌ {A = Option (Piece × List ℕ)} (kind_at t) None
unfolding kind_at piece_at
no_piece t h = rw (end_of t h) refl

pair_is : (p q : Piece) (x y : List ℕ) → ◌≡◌ {A = Option (Piece × List ℕ)} (Some (p, x)) (Some (q, y)) → (p ≡ q) × (x ≡ y)
pair_is p q x y e =
    let same : ◌≡◌ {A = Piece × List ℕ} (p, x) (q, y) = some_pair (p, x) (q, y) e in
    (ap (λ (z : Piece × List ℕ). z.0) same, ap (λ (z : Piece × List ℕ). z.1) same)
  where
    some_pair : (a b : Piece × List ℕ) → ◌≡◌ {A = Option (Piece × List ℕ)} (Some a) (Some b) → a ≡ b
    some_pair a b f = cc

none_some : (x : Piece × List ℕ) → ◌≡◌ {A = Option (Piece × List ℕ)} None (Some x) → ⊥
none_some x e = cc

goes_on : (p p' : CuttingSoFar) (at at' : ℕ) (rest after : List ℕ) (q : Piece) (end : ℕ) (first : Option ℕ) (two special : Bool)
    → ◌≡◌ {A = Option (Piece × List ℕ)} (kind_at rest) (Some (q, after)) → at' ≡ at + (length rest - length after)
    → ((ps : List (Piece × ℕ)) → ◌≡◌ {A = Ending} (ending p ((q, at) ∷ ps)) (ending p' ps))
    → Goes p' at' after end first two special → Goes p at rest end first two special
goes_on p p' at at' rest after q end first two special here place step (ps, cut, made) =
    let P : ℕ → Type 0 = λ k. IsPieces k after ps end in
    ((q, at) ∷ ps, (after, here, refl, subst P place cut), step ps ∙ made)

goes_back : (p p' : CuttingSoFar) (at at' : ℕ) (rest after : List ℕ) (q : Piece) (end : ℕ) (first : Option ℕ) (two special : Bool)
    → ◌≡◌ {A = Option (Piece × List ℕ)} (kind_at rest) (Some (q, after)) → at' ≡ at + (length rest - length after)
    → ((ps : List (Piece × ℕ)) → ◌≡◌ {A = Ending} (ending p ((q, at) ∷ ps)) (ending p' ps))
    → Goes p at rest end first two special → Goes p' at' after end first two special
goes_back p p' at at' rest after q end first two special here place step ([], done, made) = absurd (none_some (q, after) (sym (no_piece rest done.0) ∙ here))
goes_back p p' at at' rest after q end first two special here place step ((r, k) ∷ ps, (left, there, stands, cut), made) =
    let is = pair_is r q left after (sym there ∙ here) in
    let P : List ℕ → Type 0 = λ x. IsPieces (at + (length rest - length x)) x ps end in
    let Q : ℕ → Type 0 = λ x. IsPieces x after ps end in
    let R : Piece → Type 0 = λ x. ◌≡◌ {A = Ending} (ending p ((x, k) ∷ ps)) (Some (first, two, special)) in
    let S : ℕ → Type 0 = λ x. ◌≡◌ {A = Ending} (ending p ((q, x) ∷ ps)) (Some (first, two, special)) in
    (ps, subst Q (sym place) (subst P is.1 cut), sym (step ps) ∙ subst S stands (subst R is.0 made))

pub agree_step : (p p' : CuttingSoFar) (at at' : ℕ) (rest after text : List ℕ) (q : Piece)
    → ◌≡◌ {A = Option (Piece × List ℕ)} (kind_at rest) (Some (q, after)) → at' ≡ at + (length rest - length after)
    → ((ps : List (Piece × ℕ)) → ◌≡◌ {A = Ending} (ending p ((q, at) ∷ ps)) (ending p' ps))
    → Agree p at rest text → Agree p' at' after text
agree_step p p' at at' rest after text q here place step agree = record {
  on = λ end first two special goes. agree.on end first two special (goes_on p p' at at' rest after q end first two special here place step goes);
  back = λ end first two special h. goes_back p p' at at' rest after q end first two special here place step (agree.back end first two special h);
}

ended : (n : ℕ) (first : Option ℕ) (two last : Bool)
    → ◌≡◌ {A = Ending} (ending (record { depth = n; slash = first; two = two; dollar = last }) []) (Some (first, two, last))
unfolding ending slashes
ended zero None true last = refl
ended zero None false last = refl
ended zero (Some f) two last = refl
ended (suc n) None true last = refl
ended (suc n) None false last = refl
ended (suc n) (Some f) two last = refl

pub found_at : (p : CuttingSoFar) (at : ℕ) (rest text : List ℕ) → Agree p at rest text → IsEnd rest → IsCutting text at p.slash p.two p.dollar
found_at p at rest text agree end =
    cutting_of text at p.slash p.two p.dollar (agree.on at p.slash p.two p.dollar ([], (end, refl), ended p.depth p.slash p.two p.dollar))

-- what is refused has no cutting
abbrev pub HasNone : List ℕ → Type 0
HasNone text = (end : ℕ) (first : Option ℕ) (two special : Bool) → IsCutting text end first two special → ⊥

pub refused_piece : (p : CuttingSoFar) (at : ℕ) (rest text : List ℕ) → Agree p at rest text → ◌≡◌ {A = Option (Piece × List ℕ)} (kind_at rest) None → (IsEnd rest → ⊥) → HasNone text
refused_piece p at rest text agree none goes end first two special h = go (agree.back end first two special (cut_so text end first two special h))
  where
    go : Goes p at rest end first two special → ⊥
    go ([], done, made) = goes done.0
    go (q ∷ ps, (left, there, stands, cut), made) = none_some (q.0, left) (sym none ∙ there)

pub refused_slash : (p : CuttingSoFar) (at : ℕ) (rest after text : List ℕ) (q : Piece) → Agree p at rest text → ◌≡◌ {A = Option (Piece × List ℕ)} (kind_at rest) (Some (q, after))
    → ((ps : List (Piece × ℕ)) → ◌≡◌ {A = Ending} (ending p ((q, at) ∷ ps)) None) → HasNone text
refused_slash p at rest after text q agree here step end first two special h = go (agree.back end first two special (cut_so text end first two special h))
  where
    nothing : (x : Triple) → ◌≡◌ {A = Ending} None (Some x) → ⊥
    nothing x e = cc

    go : Goes p at rest end first two special → ⊥
    go ([], done, made) = none_some (q, after) (sym (no_piece rest done.0) ∙ here)
    go ((r, k) ∷ ps, (left, there, stands, cut), made) =
        let is = pair_is r q left after (sym there ∙ here) in
        let R : Piece → Type 0 = λ x. ◌≡◌ {A = Ending} (ending p ((x, k) ∷ ps)) (Some (first, two, special)) in
        let S : ℕ → Type 0 = λ x. ◌≡◌ {A = Ending} (ending p ((q, x) ∷ ps)) (Some (first, two, special)) in
        nothing (first, two, special) (sym (step ps) ∙ subst S stands (subst R is.0 made))

-- A text has at most one cutting.

same_pieces : (ps qs : List (Piece × ℕ)) (at : ℕ) (text : List ℕ) (end end' : ℕ) → IsPieces at text ps end → IsPieces at text qs end' → (ps ≡ qs) × (end ≡ end')
same_pieces [] [] at text end end' h k = (refl, h.1 ∙ sym k.1)
same_pieces [] (q ∷ qs) at text end end' h (left, there, stands, cut) = absurd (none_some (q.0, left) (sym (no_piece text h.0) ∙ there))
same_pieces (q ∷ qs) [] at text end end' (left, there, stands, cut) h = absurd (none_some (q.0, left) (sym (no_piece text h.0) ∙ there))
same_pieces ((p, i) ∷ ps) ((q, j) ∷ qs) at text end end' (left, there, stands, cut) (left', there', stands', cut') =
    let is = pair_is q p left' left (sym there' ∙ there) in
    let P : List ℕ → Type 0 = λ x. IsPieces (at + (length text - length x)) x qs end' in
    let rest = same_pieces ps qs (at + (length text - length left)) left end end' cut (subst P is.1 cut') in
    let place : i ≡ j = stands ∙ sym stands' in
    (ap (λ (x : Piece). (x, i) ∷ ps) (sym is.0) ∙ ap (λ (x : ℕ). (q, x) ∷ ps) place ∙ ap (λ (x : List (Piece × ℕ)). (q, j) ∷ x) rest.0, rest.1)

some_places : (x y : List ℕ) → Some x ≡ Some y → x ≡ y
some_places x y e = cc

pub one_cutting : (text : List ℕ) (end end' : ℕ) (first first' : Option ℕ) (two two' special special' : Bool)
    → IsCutting text end first two special → IsCutting text end' first' two' special' → (end ≡ end') × (first ≡ first') × (two ≡ two') × (special ≡ special')
one_cutting text end end' first first' two two' special special' a b =
    let h = cut_so text end first two special a in
    let k = cut_so text end' first' two' special' b in
    let same = same_pieces h.pieces k.pieces 0 text end end' h.cut k.cut in
    let places : h.places ≡ k.places = some_places h.places k.places (sym h.outside ∙ ap (slashes 0) same.0 ∙ k.outside) in
    (same.1, h.first ∙ ap first_of places ∙ sym k.first, h.second ∙ ap has_two places ∙ sym k.second, h.last ∙ ap ends_with_dollar same.0 ∙ sym k.last)
