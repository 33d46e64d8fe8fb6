-- What is known of symbols: a sign makes one node more, and a sound tree of a sound tree.
use Rattle.std.proofs.Common.{◌≡◌, ℕ, Bool, true, false, ◌&&◌, ◌==◌, nat_le, if◌then◌else◌, List, [], ◌∷◌, Option, Some, None, refl, subst, arith}
use Rattle.std.specs.Prelude.{codes, find, zip, ⊤}
use Rattle.std.specs.Option.{option_or, unwrap_or}
use Rattle.lex_semantics.specs.Active.{contains}
use Rattle.lex_semantics.specs.ByteSets.{single, complement}
use Rattle.lex_semantics.specs.Reading.{◌>>=◌}
use Rattle.lex_semantics.specs.Tree.{Set, Star, Repeat}
use Rattle.lex_semantics.specs.Escapes.{byte_with}
use Rattle.lexre_bytes.specs.Lexical.{after_word, bounded, braces_at, class_at, class_set, folded, interval_at, escape_at, name_at, number_at, quoted_bytes, symbol_at}
use Rattle.lexre_bytes.specs.Limits.{max_times}
use Rattle.lexre_bytes.specs.Symbols.{item, opening, closing, bar, sign}
use Rattle.lexre_bytes.specs.Symbols as symbols
use Rattle.lexre.specs.Counting.{AddsOne}
use Rattle.lexre.specs.Fronts.{class_front, quoted_front}
use Rattle.lexre.specs.Soundness.{IsSoundSymbol, LeadsToSound}
use Rattle.lexre.specs.SymbolViews.{Front, symbol_of}
use Rattle.lexre.specs.declared.symbols.Sign.TheVariants.{AnyTimes, OnceOrMore, AtMostOnce}
use Rattle.lexre.specs.declared.symbols.Symbol.{Symbol}

-- The code's symbols.

pub symbol_adds : (s : Symbol) → AddsOne (symbol_of s)
symbol_adds (Symbol.Item pattern) = tt
symbol_adds (Symbol.Name letters) = tt
symbol_adds Symbol.Opening = tt
symbol_adds Symbol.Closing = tt
symbol_adds Symbol.Bar = tt
symbol_adds (Symbol.Sign AnyTimes) = λ t. refl
symbol_adds (Symbol.Sign OnceOrMore) = λ t. refl
symbol_adds (Symbol.Sign AtMostOnce) = λ t. refl
symbol_adds (Symbol.Interval least most) = λ t. refl

pub sound_symbol : (s : Symbol) → IsSoundSymbol s → LeadsToSound (symbol_of s)
sound_symbol (Symbol.Item pattern) h = h
sound_symbol (Symbol.Name letters) h = tt
sound_symbol Symbol.Opening h = tt
sound_symbol Symbol.Closing h = tt
sound_symbol Symbol.Bar h = tt
sound_symbol (Symbol.Sign AnyTimes) h = λ t sound. sound
sound_symbol (Symbol.Sign OnceOrMore) h = λ t sound. (sound, tt)
sound_symbol (Symbol.Sign AtMostOnce) h = λ t sound. (sound, (omega arith, omega arith))
sound_symbol (Symbol.Interval least most) h = λ t sound. (sound, h)

-- What begins a text.

abbrev Adds : Front → Type 0
Adds None = ⊤
Adds (Some x) = AddsOne x.0

adds_then : {A : Type 0} (o : Option A) (f : A → Front) → ((x : A) → Adds (f x)) → Adds (o >>= f)
adds_then None f h = tt
adds_then (Some x) f h = h x

adds_or : (o p : Front) → Adds o → Adds p → Adds (option_or o p)
adds_or None p h k = k
adds_or (Some x) p h k = h

bounded_adds : (m : ℕ) (most : Option ℕ) (rest : List ℕ) → Adds (bounded m most rest)
unfolding bounded
bounded_adds m most rest = (let n = unwrap_or most max_times in go (nat_le m n && nat_le 1 n && nat_le n max_times))
  where
    go : (b : Bool) → Adds (if b then Some (sign true (λ t. Repeat t m most), rest) else None)
    go true = λ t. refl
    go false = tt

interval_adds : (t : List ℕ) → Adds (interval_at t)
unfolding interval_at
interval_adds t = adds_then (number_at t) _ (λ x. adds_or _ _
    (adds_then (after_word (codes "}") x.1) _ (λ rest. bounded_adds x.0 (Some x.0) rest))
    (adds_then (after_word (codes ",") x.1) _ (λ u. adds_or _ _
    (adds_then (after_word (codes "}") u) _ (λ rest. bounded_adds x.0 None rest))
    (adds_then (number_at u) _ (λ y. adds_then (after_word (codes "}") y.1) _ (λ rest. bounded_adds x.0 (Some y.0) rest))))))

braces_adds : (t : List ℕ) → Adds (braces_at t)
unfolding braces_at
braces_adds t = adds_or _ _ (interval_adds t) (adds_then (name_at t) _ (λ x. adds_then (after_word (codes "}") x.1) _ (λ after. tt)))

abbrev AllAdd : List (ℕ × symbols.Symbol) → Type 0
AllAdd [] = ⊤
AllAdd (row ∷ rows) = AddsOne row.1 × AllAdd rows

row_adds : (c : ℕ) (t : List ℕ) (rows : List (ℕ × symbols.Symbol)) → AllAdd rows → Adds (find (λ row. c == row.0) rows >>= λ row. Some (row.1, t))
row_adds c t [] h = tt
row_adds c t (row ∷ rows) h = go (c == row.0) (row_adds c t rows h.1)
  where
    go : (b : Bool) → Adds (find (λ row. c == row.0) rows >>= λ row. Some (row.1, t)) → Adds ((if b then Some row else find (λ row. c == row.0) rows) >>= λ row. Some (row.1, t))
    go true later = h.0
    go false later = later

front_adds : (fold : Bool) (c : ℕ) (t : List ℕ) → Adds (symbol_at fold (c ∷ t))
unfolding symbol_at
front_adds fold c t =
    adds_or _ _ (row_adds c t signs (tt, (tt, (tt, ((λ t. refl), ((λ t. refl), ((λ t. refl), (tt, tt))))))))
    (go (contains (codes "\"") c) (contains (codes "[") c) (contains (codes "{") c) (contains (codes "/ \t") c))
  where
    signs : List (ℕ × symbols.Symbol)
    signs = zip (codes "()|*+?.") (opening ∷ closing ∷ bar ∷ sign false Star ∷ sign false (λ t. Repeat t 1 None) ∷ sign false (λ t. Repeat t 0 (Some 1)) ∷ item (Set (complement (single 10))) ∷ [])

    go : (p1 p2 p3 p4 : Bool) → Adds (if p1 then quoted_front fold t
        else if p2 then class_front fold t
        else if p3 then braces_at t
        else if p4 then None
        else byte_with escape_at (c ∷ t) >>= λ (b, rest). Some (item (Set (folded fold (single b))), rest))
    go true p2 p3 p4 = adds_then (quoted_bytes t) _ (λ x. tt)
    go false true p3 p4 = adds_then (class_at t) _ (λ x. adds_then (class_set fold x.0 x.1) _ (λ s. tt))
    go false false true p4 = braces_adds t
    go false false false true = tt
    go false false false false = adds_then (byte_with escape_at (c ∷ t)) _ (λ x. tt)

none_begins : (fold : Bool) (rest : List ℕ) (s : symbols.Symbol) → ◌≡◌ {A = Front} (symbol_at fold []) (Some (s, rest)) → ⊥
unfolding symbol_at
none_begins fold rest s e = cc

-- each sign that a text has makes one node more
pub signs_add : (fold : Bool) (text rest : List ℕ) (s : symbols.Symbol) → ◌≡◌ {A = Front} (symbol_at fold text) (Some (s, rest)) → AddsOne s
signs_add fold [] rest s e = absurd (none_begins fold rest s e)
signs_add fold (c ∷ t) rest s e = let P : Front → Type 0 = λ f. Adds f in subst P e (front_adds fold c t)
