-- The text of branches spells their tree.
use Rattle.std.proofs.Common.{◌≡◌, ◌↔◌, ℕ, zero, suc, ◌+◌, ◌≤◌, Bool, true, false, if◌then◌else◌, length, List, [], ◌∷◌, ◌++◌, Option, Some, refl, sym, ap, ◌∙◌, subst, append_assoc, append-nil, arith}
use Rattle.std.specs.FinMap.{get}
use Rattle.std.specs.Prelude.{IfOk, OnOk, Result, Ok, Err, Vec, codes}
use Rattle.std.specs.declared.alloc.Global.{Global}
use Rattle.std.specs.List.{AllByRecursion}
use Rattle.lex_semantics.specs.Reading.{IsReadAs}
use Rattle.lex_semantics.specs.Shapes.{nodes}
use Rattle.lex_semantics.specs.Tree.{Tree, Cat, Alt, In}
use Rattle.lexre.specs.Grammar.{IsPattern, IsSeries, alone, choice, first, group, next, only}
use Rattle.lexre.specs.Limits.{max_nodes, max_open}
use Rattle.lexre_bytes.specs.Lexical.{symbol_at}
use Rattle.lexre_bytes.specs.Symbols.{Symbol, item, opening, closing, bar, grouped}
use Rattle.lexlook_letters.specs.Encoding.{InOneOf, IsEncodingOf}
use Rattle.lexlook_letters.specs.declared.ranges.CodeRange.{CodeRange}
use Rattle.lexlook_letters.specs.declared.spelling.LettersError.{LettersError}
use Rattle.lexlook_letters.specs.Sequences.{FollowsOne, IsSoundRange, IsSoundSequence, byte_ranges}
use Rattle.lexlook_letters.specs.Text.{Branches, none, last, through, SpellsAlways, SpellsEncodings, branches_at, branches_text, choices, class_text, class_tree, no_branch, is_one, letters_text, letters_tree, parts, range_text, ranges_text, same_range, with_ranges}
use Rattle.lexlook_letters.specs.declared.sequence.ByteRange.{ByteRange}
use Rattle.lexlook_letters.specs.declared.sequence.Sequence.{Sequence}
use Rattle.lexlook_letters.specs.declared.sequence.Sequence.TheVariants.{One, Two, Three, Four}
use Rattle.lexlook_letters.proofs.Digits.{bar_symbol, class_symbol, closing_symbol, opening_symbol, ranges_then}
use Rattle.lexlook_letters.proofs.Groups.{some_branch}

-- Sound branches.

-- each range has a byte, something follows each range that branches go on from, and as many of these are inside each
-- other at most
abbrev pub IsSoundWithin : ℕ → Branches → Type 0
IsSoundWithin d none = Unit {0}
IsSoundWithin d (last r rs bs) = IsSoundRange r × AllByRecursion IsSoundRange rs × IsSoundWithin d bs
IsSoundWithin zero (through r inner bs) = ⊥
IsSoundWithin (suc d) (through r inner bs) = IsSoundRange r × (no_branch inner ≡ false) × IsSoundWithin d inner × IsSoundWithin (suc d) bs

deeper : (d : ℕ) (bs : Branches) → IsSoundWithin d bs → IsSoundWithin (suc d) bs
deeper d none h = tt
deeper d (last r rs bs) (h, k, l) = (h, k, deeper d bs l)
deeper zero (through r inner bs) h = absurd h
deeper (suc d) (through r inner bs) (h, k, l, m) = (h, k, deeper d inner l, deeper (suc d) bs m)

either_sound : (b : Bool) (d : ℕ) (r q : ByteRange) (x y inner bs : Branches) → IsSoundRange r → no_branch x ≡ false → no_branch y ≡ false → IsSoundWithin d x → IsSoundWithin d y
    → IsSoundWithin (suc d) (through q inner bs) → IsSoundWithin (suc d) (if b then through r x bs else through r y (through q inner bs))
either_sound true d r q x y inner bs sound xs ys h k l = (sound, xs, h, l.3)
either_sound false d r q x y inner bs sound xs ys h k l = (sound, ys, k, l)

with_sound : (rs : List ByteRange) (d : ℕ) (bs : Branches) → AllByRecursion IsSoundRange rs → length rs ≤ d + 1 → IsSoundWithin d bs → IsSoundWithin d (with_ranges rs bs)
with_sound [] d bs sound few h = h
with_sound (r ∷ []) d none sound few h = (sound.0, tt, tt)
with_sound (r ∷ []) d (last q qs bs) sound few h = (sound.0, (h.0, h.1), h.2)
with_sound (r ∷ []) d (through q inner bs) sound few h = (sound.0, tt, h)
with_sound (r ∷ s ∷ rs) zero bs sound few h = absurd (omega (arith, few))
with_sound (r ∷ s ∷ rs) (suc d) none sound few h = (sound.0, some_branch s rs none, with_sound (s ∷ rs) d none sound.1 (omega (arith, few)) tt, tt)
with_sound (r ∷ s ∷ rs) (suc d) (last q qs bs) sound few h = (sound.0, some_branch s rs none, with_sound (s ∷ rs) d none sound.1 (omega (arith, few)) tt, h)
with_sound (r ∷ s ∷ rs) (suc d) (through q inner bs) sound few h =
    either_sound (same_range r q) d r q (with_ranges (s ∷ rs) inner) (with_ranges (s ∷ rs) none) inner bs sound.0 (some_branch s rs inner) (some_branch s rs none)
    (with_sound (s ∷ rs) d inner sound.1 (omega (arith, few)) h.2) (with_sound (s ∷ rs) d none sound.1 (omega (arith, few)) tt) h

few_ranges : (s : Sequence) → length (byte_ranges s) ≤ 65
few_ranges (One a) = omega arith
few_ranges (Two a b) = omega arith
few_ranges (Three a b c) = omega arith
few_ranges (Four a b c d) = omega arith

pub sound_branches : (ss : List Sequence) → AllByRecursion IsSoundSequence ss → IsSoundWithin 64 (branches_at 0 ss)
sound_branches [] h = tt
sound_branches (s ∷ ss) h = with_sound (byte_ranges s) 64 (branches_at 0 ss) h.0 (few_ranges s) (sound_branches ss h.1)

-- Symbols.

-- the branches, as they are read
abbrev branches_symbols : Branches → List Symbol
branches_symbols none = []
branches_symbols (last r rs bs) = item (class_tree r rs) ∷ (if no_branch bs then [] else bar ∷ branches_symbols bs)
branches_symbols (through r inner bs) =
    item (class_tree r []) ∷ ((if is_one inner then branches_symbols inner else opening ∷ branches_symbols inner ++ closing ∷ [])
    ++ (if no_branch bs then [] else bar ∷ branches_symbols bs))

-- by whether what follows a range is one branch, and whether others follow that
abbrev tail_by : Bool → List Symbol → List Symbol
tail_by one ss = if one then ss else opening ∷ ss ++ closing ∷ []

abbrev more_by : Bool → List Symbol → List Symbol
more_by empty ss = if empty then [] else bar ∷ ss

abbrev tail_text : Bool → List ℕ → List ℕ
tail_text one x = if one then x else codes "(" ++ (x ++ codes ")")

abbrev more_text : Bool → List ℕ → List ℕ
more_text empty x = if empty then [] else codes "|" ++ x

abbrev tails_by : Bool → Branches → List Tree
tails_by one bs = if one then parts bs else grouped Alt (choices bs) ∷ []

abbrev Reads : List ℕ → List Symbol → Type 0
Reads text ss = IsReadAs (symbol_at false) (λ rest. rest ≡ []) text ss

-- a text is read as these symbols, whatever follows
abbrev ReadsOn : List ℕ → List Symbol → Type 0
ReadsOn x xs = (t : List ℕ) (ss : List Symbol) → Reads t ss → Reads (x ++ t) (xs ++ ss)

ranges_are : (rs : List ByteRange) (t : List ℕ) → (ranges_text rs ++ codes "]") ++ t ≡ ranges_then rs t
ranges_are [] t = refl
ranges_are (r ∷ rs) t =
    ap (λ x. x ++ t) (append_assoc (range_text r) (ranges_text rs) (codes "]")) ∙ append_assoc (range_text r) (ranges_text rs ++ codes "]") t
    ∙ ap (λ x. range_text r ++ x) (ranges_are rs t)

class_read : (r : ByteRange) (rs : List ByteRange) → IsSoundRange r → AllByRecursion IsSoundRange rs → ReadsOn (class_text (r ∷ rs)) (item (class_tree r rs) ∷ [])
class_read r rs sound more t ss h =
    let is : class_text (r ∷ rs) ++ t ≡ codes "[" ++ (range_text r ++ ranges_then rs t) = ap (λ x. codes "[" ++ x) (ranges_are (r ∷ rs) t) in
    subst (λ x. Reads x (item (class_tree r rs) ∷ ss)) (sym is) (t, class_symbol r rs t sound more, h)

both_read : (x y : List ℕ) (xs ys : List Symbol) → ReadsOn x xs → ReadsOn y ys → ReadsOn (x ++ y) (xs ++ ys)
both_read x y xs ys h k t ss l =
    let P : List ℕ → Type 0 = λ z. Reads z (xs ++ (ys ++ ss)) in
    let Q : List Symbol → Type 0 = λ z. Reads ((x ++ y) ++ t) z in
    subst Q (sym (append_assoc xs ys ss)) (subst P (sym (append_assoc x y t)) (h (y ++ t) (ys ++ ss) (k t ss l)))

tail_read : (one : Bool) (x : List ℕ) (xs : List Symbol) → ReadsOn x xs → ReadsOn (tail_text one x) (tail_by one xs)
tail_read true x xs h t ss k = h t ss k
tail_read false x xs h t ss k =
    let inside = both_read x (codes ")") xs (closing ∷ []) h (λ u us l. (u, closing_symbol u, l)) t ss k in
    ((x ++ codes ")") ++ t, opening_symbol ((x ++ codes ")") ++ t), inside)

more_read : (empty : Bool) (x : List ℕ) (xs : List Symbol) → ReadsOn x xs → ReadsOn (more_text empty x) (more_by empty xs)
more_read true x xs h t ss k = k
more_read false x xs h t ss k = (x ++ t, bar_symbol (x ++ t), h t ss k)

branches_read : (bs : Branches) (d : ℕ) → IsSoundWithin d bs → ReadsOn (branches_text bs) (branches_symbols bs)
branches_read none d sound t ss h = h
branches_read (last r rs bs) d (h, k, l) t ss reads =
    both_read (class_text (r ∷ rs)) (more_text (no_branch bs) (branches_text bs)) (item (class_tree r rs) ∷ []) (more_by (no_branch bs) (branches_symbols bs))
    (class_read r rs h k) (more_read (no_branch bs) (branches_text bs) (branches_symbols bs) (branches_read bs d l)) t ss reads
branches_read (through r inner bs) zero h t ss reads = absurd h
branches_read (through r inner bs) (suc d) (h, k, l, m) t ss reads =
    let tail = tail_read (is_one inner) (branches_text inner) (branches_symbols inner) (branches_read inner d l) in
    let more = more_read (no_branch bs) (branches_text bs) (branches_symbols bs) (branches_read bs (suc d) m) in
    both_read (class_text (r ∷ [])) (tail_text (is_one inner) (branches_text inner) ++ more_text (no_branch bs) (branches_text bs)) (item (class_tree r []) ∷ [])
    (tail_by (is_one inner) (branches_symbols inner) ++ more_by (no_branch bs) (branches_symbols bs)) (class_read r [] h tt)
    (both_read (tail_text (is_one inner) (branches_text inner)) (more_text (no_branch bs) (branches_text bs)) (tail_by (is_one inner) (branches_symbols inner))
    (more_by (no_branch bs) (branches_symbols bs)) tail more) t ss reads

-- The grammar.

module _ (posix : Bool) (defined : List ℕ → Option (List ℕ)) where
  abbrev Series : ℕ → List Symbol → List Tree → Type 0
  Series d ss ts = IsSeries posix (symbol_at false) defined d ss ts 0 (Some 0)

  abbrev Pattern : ℕ → List Symbol → List Tree → Type 0
  Pattern d ss ts = IsPattern posix (symbol_at false) defined d ss ts

  one_class : (d : ℕ) (t : Tree) → Series d (item t ∷ []) (t ∷ [])
  one_class d t = first d (item t ∷ []) t (alone d t)

  class_more : (d : ℕ) (ss : List Symbol) (ts : List Tree) (t : Tree) → Series d ss ts → Series d (ss ++ item t ∷ []) (ts ++ t ∷ [])
  class_more d ss ts t h = next d ss ts 0 (Some 0) (item t ∷ []) t h (alone d t)

  -- the parts of one branch behind a series
  abbrev GoesOn : ℕ → List Symbol → List Tree → Type 0
  GoesOn d more us = (ss : List Symbol) (ts : List Tree) → Series d ss ts → Series d (ss ++ more) (ts ++ us)

  tail : (d : ℕ) (inner : Branches) (b : Bool) → is_one inner ≡ b → (is_one inner ≡ true → GoesOn (suc d) (branches_symbols inner) (parts inner))
      → Pattern d (branches_symbols inner) (choices inner) → GoesOn (suc d) (tail_by b (branches_symbols inner)) (tails_by b inner)
  tail d inner true e chain pattern ss ts h = chain e ss ts h
  tail d inner false e chain pattern ss ts h =
      next (suc d) ss ts 0 (Some 0) (opening ∷ branches_symbols inner ++ closing ∷ []) (grouped Alt (choices inner)) h
      (group d (branches_symbols inner) (choices inner) pattern)

  joined_on : (d : ℕ) (ss xs ys : List Symbol) (ts us vs : List Tree) → Series d ((ss ++ xs) ++ ys) ((ts ++ us) ++ vs) → Series d (ss ++ (xs ++ ys)) (ts ++ (us ++ vs))
  joined_on d ss xs ys ts us vs h =
      let P : List Symbol → Type 0 = λ x. Series d x (ts ++ (us ++ vs)) in
      let Q : List Tree → Type 0 = λ x. Series d ((ss ++ xs) ++ ys) x in
      subst P (append_assoc ss xs ys) (subst Q (append_assoc ts us vs) h)

  behind : (d : ℕ) (ss xs ys : List Symbol) (ts us vs : List Tree) → Pattern d ((ss ++ xs) ++ ys) ((ts ++ us) ++ vs) → Pattern d (ss ++ (xs ++ ys)) (ts ++ (us ++ vs))
  behind d ss xs ys ts us vs h =
      let P : List Symbol → Type 0 = λ x. Pattern d x (ts ++ (us ++ vs)) in
      let Q : List Tree → Type 0 = λ x. Pattern d ((ss ++ xs) ++ ys) x in
      subst P (append_assoc ss xs ys) (subst Q (append_assoc ts us vs) h)

  mutual
    -- one branch behind a series
    chain : (bs : Branches) (d : ℕ) → IsSoundWithin d bs → is_one bs ≡ true → GoesOn d (branches_symbols bs) (parts bs)
    chain none d sound one ss ts h = cc
    chain (last r rs bs) d sound one ss ts h = rw one (class_more d ss ts (class_tree r rs) h)
    chain (through r inner bs) zero sound one ss ts h = absurd sound
    chain (through r inner bs) (suc d) sound one ss ts h =
        let goes = tail d inner (is_one inner) refl (λ e. chain inner (suc d) (deeper d inner sound.2) e) (pattern inner d sound.2 sound.1) in
        let c : Tree = class_tree r [] in
        let t : List Symbol = tail_by (is_one inner) (branches_symbols inner) in
        rw (one, append-nil t)
        (joined_on (suc d) ss (item c ∷ []) t ts (c ∷ []) (tails_by (is_one inner) inner)
        (goes (ss ++ item c ∷ []) (ts ++ c ∷ []) (class_more (suc d) ss ts c h)))

    -- all branches
    pattern : (bs : Branches) (d : ℕ) → IsSoundWithin d bs → no_branch bs ≡ false → Pattern d (branches_symbols bs) (choices bs)
    pattern none d sound some = cc
    pattern (last r rs bs) d sound some =
        let c : Tree = class_tree r rs in
        onto bs d sound.2 (item c ∷ []) (c ∷ []) (only d (item c ∷ []) (c ∷ []) 0 (Some 0) (one_class d c))
    pattern (through r inner bs) zero sound some = absurd sound
    pattern (through r inner bs) (suc d) sound some =
        let goes = tail d inner (is_one inner) refl (λ e. chain inner (suc d) (deeper d inner sound.2) e) (pattern inner d sound.2 sound.1) in
        let c : Tree = class_tree r [] in
        let t : List Symbol = tail_by (is_one inner) (branches_symbols inner) in
        let us : List Tree = tails_by (is_one inner) inner in
        onto bs (suc d) sound.3 (item c ∷ t) (grouped Cat (c ∷ us) ∷ [])
        (only (suc d) (item c ∷ t) (c ∷ us) 0 (Some 0) (goes (item c ∷ []) (c ∷ []) (one_class (suc d) c)))

    -- branches behind others
    onto : (bs : Branches) (d : ℕ) → IsSoundWithin d bs → (ss : List Symbol) (ts : List Tree) → Pattern d ss ts
        → Pattern d (ss ++ more_by (no_branch bs) (branches_symbols bs)) (ts ++ choices bs)
    onto none d sound ss ts h = rw (append-nil ss, append-nil ts) h
    onto (last r rs bs) d sound ss ts h =
        let c : Tree = class_tree r rs in
        behind d ss (bar ∷ item c ∷ []) (more_by (no_branch bs) (branches_symbols bs)) ts (c ∷ []) (choices bs)
        (onto bs d sound.2 (ss ++ bar ∷ item c ∷ []) (ts ++ c ∷ []) (choice d ss ts (item c ∷ []) (c ∷ []) 0 (Some 0) h (one_class d c)))
    onto (through r inner bs) zero sound ss ts h = absurd sound
    onto (through r inner bs) (suc d) sound ss ts h =
        let goes = tail d inner (is_one inner) refl (λ e. chain inner (suc d) (deeper d inner sound.2) e) (pattern inner d sound.2 sound.1) in
        let c : Tree = class_tree r [] in
        let t : List Symbol = tail_by (is_one inner) (branches_symbols inner) in
        let us : List Tree = tails_by (is_one inner) inner in
        behind (suc d) ss (bar ∷ item c ∷ t) (more_by (no_branch bs) (branches_symbols bs)) ts (grouped Cat (c ∷ us) ∷ []) (choices bs)
        (onto bs (suc d) sound.3 (ss ++ bar ∷ item c ∷ t) (ts ++ grouped Cat (c ∷ us) ∷ [])
        (choice (suc d) ss ts (item c ∷ t) (c ∷ us) 0 (Some 0) h (goes (item c ∷ []) (c ∷ []) (one_class (suc d) c))))

-- the text of some sequences with few nodes spells their tree
pub spelled : (ss : List Sequence) (text : List ℕ) → AllByRecursion IsSoundSequence ss → no_branch (branches_at 0 ss) ≡ false → nodes (letters_tree ss) ≤ max_nodes
    → text ≡ letters_text ss → SpellsAlways text (letters_tree ss)
spelled ss text sound some few is how definitions plain =
    let bs : Branches = branches_at 0 ss in
    let within = sound_branches ss sound in
    let reads : Reads (branches_text bs ++ []) (branches_symbols bs ++ []) = branches_read bs 64 within [] [] refl in
    let symbols : List Symbol = branches_symbols bs in
    let P : List ℕ → Type 0 = λ x. Reads x (symbols ++ []) in
    let Q : List Symbol → Type 0 = λ x. Reads text x in
    rw plain (
      (
        symbols,
        choices bs,
        subst Q (append-nil symbols) (subst P (append-nil (branches_text bs) ∙ sym is) reads),
        pattern how.posix (get definitions) bs max_open within some,
        refl,
      ),
      few,
    )

-- what is spelled, with the words of its tree
pub spells_encodings : (r : Result (Vec ℕ Global) LettersError) (ss slice : List Sequence) (ranges : List CodeRange) → slice ≡ ss
    → IfOk r (λ text. SpellsAlways text.items (letters_tree slice)) → OnOk r ((w : List ℕ) → In (letters_tree slice) w ↔ FollowsOne slice w)
    → ((w : List ℕ) → FollowsOne ss w ↔ IsEncodingOf (InOneOf ranges) w) → IfOk r (λ text. SpellsEncodings text.items ranges)
spells_encodings (Ok text) ss slice ranges e spells words encodes = (letters_tree slice, spells, λ w. (to w, from w))
  where
    to : (w : List ℕ) → In (letters_tree slice) w → IsEncodingOf (InOneOf ranges) w
    to w h = (encodes w).0 (subst (λ (x : List Sequence). FollowsOne x w) e ((words w).0 h))

    from : (w : List ℕ) → IsEncodingOf (InOneOf ranges) w → In (letters_tree slice) w
    from w h = (words w).1 (subst (λ (x : List Sequence). FollowsOne x w) (sym e) ((encodes w).1 h))
spells_encodings (Err error) ss slice ranges e spells words encodes = tt

pub no_encoding : (ss slice : List Sequence) (ranges : List CodeRange) → slice ≡ ss → slice ≡ []
    → ((w : List ℕ) → FollowsOne ss w ↔ IsEncodingOf (InOneOf ranges) w) → (w : List ℕ) → IsEncodingOf (InOneOf ranges) w → ⊥
no_encoding ss slice ranges e nothing encodes w h = subst (λ (x : List Sequence). FollowsOne x w) (sym e ∙ nothing) ((encodes w).1 h)
