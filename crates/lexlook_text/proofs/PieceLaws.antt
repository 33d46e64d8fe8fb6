-- The pieces of a pattern, one behind the other, and lines by their numbers.
use Rattle.std.proofs.Common.{◌≡◌, ℕ, zero, suc, ◌+◌, ◌-◌, Bool, true, false, List, [], ◌∷◌, ◌++◌, length, map, take, drop, Some, None, get_or, ◌<◌, ◌≤◌, refl, sym, ap, arith, subst, if◌then◌else◌, ◌∙◌}
use Rattle.std.specs.Prelude.{slice_get}
use Rattle.std.specs.Str.{IsUtf8, is_utf8}
use Rattle.std.proofs.lemmas.Str.{IsUtf8-from_is_utf8}
use Rattle.lex_semantics.specs.Reading.{is_white}
use Rattle.lexlook_text.specs.LineViews.{line_of}
use Rattle.lexlook_text.specs.PieceViews.{piece_of}
use Rattle.lexlook_text.specs.Pieces.{behind_pattern, behind_piece, from_slash, pieces_from, stops_at_slash}
use Rattle.lexlook_text.specs.declared.definitions.Line.{Line}
use Rattle.lexlook_text.specs.declared.pieces.Piece.{Piece}

-- behind the first k bytes the next piece begins
skipped : (n k : ℕ) (t : List ℕ) → pieces_from n k t ≡ pieces_from (n + k) 0 (drop k t)
skipped n zero t = let same : n ≡ n + 0 = omega arith in ap (λ m. pieces_from m 0 t) same
skipped n (suc k) [] = refl
skipped n (suc k) (c ∷ t) = let same : suc n + k ≡ n + suc k = omega arith in skipped (suc n) k t ∙ ap (λ m. pieces_from m 0 (drop k t)) same

else_of : (b : Bool) (x y : List (ℕ × List ℕ)) → b ≡ false → (if b then x else y) ≡ y
else_of true x y e = absurd cc
else_of false x y e = refl

first_of : (n c more : ℕ) (t : List ℕ) → is_white c ≡ false → more ≡ length t - length (behind_piece (c ∷ t))
    → pieces_from n 0 (c ∷ t) ≡ (n, take (more + 1) (c ∷ t)) ∷ pieces_from (n + (more + 1)) 0 (drop (more + 1) (c ∷ t))
first_of n c more t black size =
    let real : ℕ = length t - length (behind_piece (c ∷ t)) in
    let long : suc real ≡ more + 1 = omega (arith, size) in
    let place : suc n + real ≡ n + (more + 1) = omega (arith, size) in
    else_of (is_white c) [] ((n, take (suc real) (c ∷ t)) ∷ pieces_from (suc n) real t) black
    ∙ ap (λ ps. (n, take (suc real) (c ∷ t)) ∷ ps) (skipped (suc n) real t)
    ∙ ap (λ k. (n, take k (c ∷ t)) ∷ pieces_from (suc n + real) 0 (drop k (c ∷ t))) long
    ∙ ap (λ q. (n, take (more + 1) (c ∷ t)) ∷ pieces_from q 0 (drop (more + 1) (c ∷ t))) place

-- the piece that begins a text, and those behind it
pub next_piece : (n c more : ℕ) (t rest : List ℕ) → rest ≡ c ∷ t → is_white c ≡ false → more ≡ length t - length (behind_piece rest)
    → pieces_from n 0 rest ≡ (n, take (more + 1) rest) ∷ pieces_from (n + (more + 1)) 0 (drop (more + 1) rest)
next_piece n c more t rest is black size =
    subst (λ r. more ≡ length t - length (behind_piece r) → pieces_from n 0 r ≡ (n, take (more + 1) r) ∷ pieces_from (n + (more + 1)) 0 (drop (more + 1) r))
    (sym is) (λ e. first_of n c more t black e) size

-- a piece more was found
pub adds_piece : (found found' : List Piece) (p : Piece) (now more : List (ℕ × List ℕ)) → found' ≡ found ++ p ∷ [] → now ≡ piece_of p ∷ more
    → map piece_of found' ++ more ≡ map piece_of found ++ now
adds_piece found found' p now more is first = ap (λ l. map piece_of l ++ more) is ∙ go found ∙ ap (λ l. map piece_of found ++ l) (sym first)
  where
    go : (qs : List Piece) → map piece_of (qs ++ p ∷ []) ++ more ≡ map piece_of qs ++ (piece_of p ∷ more)
    go [] = refl
    go (q ∷ qs) = ap (λ l. piece_of q ∷ l) (go qs)

-- a line by its number: there is none behind the last, and else it is the one there
pub no_line : (ls : List Line) (i : ℕ) → length ls ≤ i → slice_get (map line_of ls) i ≡ None
no_line [] i h = refl
no_line (l ∷ ls) zero h = absurd (omega (arith, h))
no_line (l ∷ ls) (suc i) h = no_line ls i (omega (arith, h))

pub line_there : (ls : List Line) (i : ℕ) (d : Line) → i < length ls → slice_get (map line_of ls) i ≡ Some (line_of (get_or ls i d))
line_there [] i d h = absurd (omega (arith, h))
line_there (l ∷ ls) zero d h = refl
line_there (l ∷ ls) (suc i) d h = line_there ls i d (omega (arith, h))

-- what is no UTF-8 fails the test
pub no_utf8 : (bs : List ℕ) → (IsUtf8 bs → ⊥) → false ≡ is_utf8 bs
no_utf8 bs off = go (is_utf8 bs) refl
  where
    go : (b : Bool) → is_utf8 bs ≡ b → false ≡ b
    go true e = absurd (off (IsUtf8-from_is_utf8 bs e))
    go false e = refl

-- behind the first k bytes the pattern goes on
skipped_in_pattern : (k : ℕ) (t : List ℕ) → behind_pattern k t ≡ behind_pattern 0 (drop k t)
skipped_in_pattern zero t = refl
skipped_in_pattern (suc k) [] = refl
skipped_in_pattern (suc k) (c ∷ t) = skipped_in_pattern k t

other_of : (b : Bool) (x y : List ℕ) → b ≡ false → (if b then x else y) ≡ y
other_of true x y e = absurd cc
other_of false x y e = refl

goes_on : (c more : ℕ) (t : List ℕ) → is_white c ≡ false → more ≡ length t - length (behind_piece (c ∷ t))
    → behind_pattern 0 (c ∷ t) ≡ behind_pattern 0 (drop (more + 1) (c ∷ t))
goes_on c more t black size =
    let real : ℕ = length t - length (behind_piece (c ∷ t)) in
    let long : suc real ≡ more + 1 = omega (arith, size) in
    other_of (is_white c) (c ∷ t) (behind_pattern real t) black
    ∙ skipped_in_pattern real t
    ∙ ap (λ k. behind_pattern 0 (drop k (c ∷ t))) long

-- what follows the pattern follows it behind its first piece too
pub next_in_pattern : (c more : ℕ) (t rest : List ℕ) → rest ≡ c ∷ t → is_white c ≡ false → more ≡ length t - length (behind_piece rest)
    → behind_pattern 0 rest ≡ behind_pattern 0 (drop (more + 1) rest)
next_in_pattern c more t rest is black size =
    subst (λ r. more ≡ length t - length (behind_piece r) → behind_pattern 0 r ≡ behind_pattern 0 (drop (more + 1) r))
    (sym is) (λ e. goes_on c more t black e) size

-- behind the first k bytes the slash is looked for on
skipped_to_slash : (k : ℕ) (t : List ℕ) → from_slash k t ≡ from_slash 0 (drop k t)
skipped_to_slash zero t = refl
skipped_to_slash (suc k) [] = refl
skipped_to_slash (suc k) (c ∷ t) = skipped_to_slash k t

goes_on_to_slash : (c more : ℕ) (t : List ℕ) → stops_at_slash c ≡ false → more ≡ length t - length (behind_piece (c ∷ t))
    → from_slash 0 (c ∷ t) ≡ from_slash 0 (drop (more + 1) (c ∷ t))
goes_on_to_slash c more t black size =
    let real : ℕ = length t - length (behind_piece (c ∷ t)) in
    let long : suc real ≡ more + 1 = omega (arith, size) in
    other_of (stops_at_slash c) (c ∷ t) (from_slash real t) black
    ∙ skipped_to_slash real t
    ∙ ap (λ k. from_slash 0 (drop k (c ∷ t))) long

-- the first slash is behind the first piece that is none
pub next_to_slash : (c more : ℕ) (t rest : List ℕ) → rest ≡ c ∷ t → stops_at_slash c ≡ false → more ≡ length t - length (behind_piece rest)
    → from_slash 0 rest ≡ from_slash 0 (drop (more + 1) rest)
next_to_slash c more t rest is black size =
    subst (λ r. more ≡ length t - length (behind_piece r) → from_slash 0 r ≡ from_slash 0 (drop (more + 1) r))
    (sym is) (λ e. goes_on_to_slash c more t black e) size
