-- What begins a text is at least a byte.
use Rattle.std.proofs.Common.{◌≡◌, ℕ, zero, suc, ◌<◌, ◌≤◌, Bool, true, false, not, ◌&&◌, ◌||◌, ◌==◌, nat_le, if◌then◌else◌, List, [], ◌∷◌, length, drop, length-drop, Option, Some, None, refl, ap, subst, arith}
use Rattle.std.specs.Prelude.{codes, find, zip, take, option_map}
use Rattle.std.specs.List.{list_any}
use Rattle.std.specs.Option.{option_or}
use Rattle.lex_semantics.specs.Active.{contains}
use Rattle.lex_semantics.specs.ByteSets.{single, complement, is_alnum, is_digit}
use Rattle.lex_semantics.specs.Tree.{Set, Star, Repeat}
use Rattle.lex_semantics.specs.Reading.{◌>>=◌, begins, is_empty, starts_name, take_up_to, value}
use Rattle.lexre_bytes.specs.Lexical.{after_word, braces_at, class_at, class_set, elements_at, element_at, escape_at, folded, symbol_at, quoted_bytes}
use Rattle.lexre_bytes.specs.BraceSteps.{bounded, interval, interval_at, braces_from}
use Rattle.lexre_bytes.proofs.BraceForms.{braces_is}
use Rattle.lexre_bytes.specs.Elements.{Element}
use Rattle.lexre.specs.Fronts.{class_front, escape_front, quoted_front, name_front}
use Rattle.lexre_bytes.specs.Quotes.{after_quotes}
use Rattle.lexre_bytes.specs.Symbols.{Symbol, item, name, opening, closing, bar, sign}
use Rattle.lexre_bytes.proofs.PassingLaws.{quotes_shorter}
use Rattle.lexre_bytes.proofs.QuoteLaws.{take_up_to_within, escape_shorter}
use Rattle.lexre_bytes.proofs.ShorterLaws.{element_takes}

abbrev Front : Type 0
Front = Option (Symbol × List ℕ)

-- what follows is at most so long
abbrev pub IsUpTo : {A : Type 0} → ℕ → Option (A × List ℕ) → Type 0
IsUpTo n None = Unit {0}
IsUpTo n (Some x) = length x.1 ≤ n

after_bind : {A : Type 0} (n : ℕ) (o : Option (A × List ℕ)) (f : A × List ℕ → Front) → IsUpTo n o → ((x : A × List ℕ) → length x.1 ≤ n → IsUpTo n (f x)) → IsUpTo n (o >>= f)
after_bind n None f h k = tt
after_bind n (Some x) f h k = k x h

-- Quotes.

after_is : (t : List ℕ) (x : List ℕ × List ℕ) → ◌≡◌ {A = Option (List ℕ × List ℕ)} (quoted_bytes t) (Some x) → after_quotes t ≡ Some x.1
unfolding after_quotes
after_is t x e = ap (λ (o : Option (List ℕ × List ℕ)). option_map (λ x. x.1) o) e

quoted_within : (t : List ℕ) → IsUpTo (length t) (quoted_bytes t)
quoted_within t = go (quoted_bytes t) refl
  where
    go : (o : Option (List ℕ × List ℕ)) → ◌≡◌ {A = Option (List ℕ × List ℕ)} (quoted_bytes t) o → IsUpTo (length t) o
    go None e = tt
    go (Some x) e = omega (arith, quotes_shorter t x.1 (after_is t x e))

quoted_front_within : (fold : Bool) (t : List ℕ) → IsUpTo (length t) (quoted_front fold t)
quoted_front_within fold t = after_bind (length t) (quoted_bytes t) _ (quoted_within t) (λ x h. h)

-- Classes.

pub elements_within : (n : ℕ) (first : Bool) (t : List ℕ) → IsUpTo (length t) (elements_at n first t)
unfolding elements_at
elements_within zero first t = tt
elements_within (suc n) first t = go (begins (codes "]") t && not first) (element_at t) (λ e rest f. element_takes t rest e f) (λ rest. elements_within n false rest)
  where
    more : (e : Element) (m : ℕ) (o : Option (List Element × List ℕ)) → m ≤ length t → IsUpTo m o → IsUpTo (length t) (o >>= λ (es, after). Some (e ∷ es, after))
    more e m None k h = tt
    more e m (Some x) k h = omega arith

    go : (b : Bool) (o : Option (Element × List ℕ)) → ((e : Element) (rest : List ℕ) → ◌≡◌ {A = Option (Element × List ℕ)} o (Some (e, rest)) → length rest < length t)
        → ((rest : List ℕ) → IsUpTo (length rest) (elements_at n false rest))
        → IsUpTo {A = List Element} (length t) (if b then Some ([], drop 1 t) else (o >>= λ (e, rest). elements_at n false rest >>= λ (es, after). Some (e ∷ es, after)))
    go true o less rec = omega (arith, length-drop 1 t)
    go false None less rec = tt
    go false (Some x) less rec = more x.0 (length x.1) (elements_at n false x.1) (let h : length x.1 < length t = less x.0 x.1 refl in omega arith) (rec x.1)

class_front_within : (fold : Bool) (t : List ℕ) → IsUpTo (length t) (class_front fold t)
unfolding class_at
class_front_within fold t = go (begins (codes "^") t)
  where
    kept : (negated : Bool) (o : Option (List Element × List ℕ)) → IsUpTo (length t) o
        → IsUpTo (length t) ((o >>= λ (es, rest). Some (negated, es, rest)) >>= λ (negated, es, rest). class_set fold negated es >>= λ s. Some (item (Set s), rest))
    kept negated None h = tt
    kept negated (Some x) h = set (class_set fold negated x.0)
      where
        set : (o : Option ℕ) → IsUpTo (length t) (o >>= λ s. Some (item (Set s), x.1))
        set None = tt
        set (Some s) = h

    wider : (m : ℕ) (o : Option (List Element × List ℕ)) → m ≤ length t → IsUpTo m o → IsUpTo (length t) o
    wider m None k h = tt
    wider m (Some x) k h = omega arith

    go : (b : Bool) → IsUpTo (length t) ((elements_at (length t) true (if b then drop 1 t else t) >>= λ (es, rest). Some (b, es, rest)) >>= λ (negated, es, rest). class_set fold negated es >>= λ s. Some (item (Set s), rest))
    go true = kept true (elements_at (length t) true (drop 1 t)) (wider (length (drop 1 t)) _ (omega (arith, length-drop 1 t)) (elements_within (length t) true (drop 1 t)))
    go false = kept false (elements_at (length t) true t) (elements_within (length t) true t)

-- Escapes.

escape_front_within : (fold : Bool) (t : List ℕ) → IsUpTo (length t) (escape_front fold t)
escape_front_within fold t = go (escape_at t) (λ b rest e. escape_shorter t rest b e)
  where
    go : (o : Option (ℕ × List ℕ)) → ((b : ℕ) (rest : List ℕ) → ◌≡◌ {A = Option (ℕ × List ℕ)} o (Some (b, rest)) → length rest < length t)
        → IsUpTo (length t) (o >>= λ (b, rest). Some (item (Set (folded fold (single b))), rest))
    go None h = tt
    go (Some x) h = let k : length x.1 < length t = h x.0 x.1 refl in omega arith

-- Braces.

word_within : (w t : List ℕ) (m : ℕ) (f : List ℕ → Symbol) → length t ≤ m → IsUpTo m (after_word w t >>= λ after. Some (f after, after))
unfolding after_word
word_within w t m f k = go (begins w t)
  where
    go : (b : Bool) → IsUpTo m ((if b then Some (drop (length w) t) else None) >>= λ after. Some (f after, after))
    go true = omega (arith, length-drop (length w) t)
    go false = tt

bounded_within : (m n k : ℕ) (rest : List ℕ) → length rest ≤ k → IsUpTo k (bounded m n rest)
unfolding bounded
bounded_within m n k rest h = go (nat_le m n && nat_le 1 n && nat_le n 255)
  where
    go : (b : Bool) → IsUpTo k (if b then Some (interval m (Some n), rest) else None)
    go true = h
    go false = tt

name_within : (t : List ℕ) → IsUpTo (length t) (name_front t)
unfolding name_front
name_within t =
    let run = take_up_to (length t) (λ c. is_alnum c || c == 95 || c == 45) t in
    word_within (codes "}") run.1 (length t) (λ after. name run.0) (take_up_to_within (length t) (λ c. is_alnum c || c == 95 || c == 45) t)

interval_within : (t : List ℕ) → IsUpTo (length t) (interval_at t)
unfolding interval_at
interval_within t =
    go (begins (codes "}") run.1) (begins (codes ",}") run.1) (begins (codes ",") run.1) (nat_le (value 10 run.0) 255) (not (is_empty run'.0) && begins (codes "}") run'.1)
  where
    run : List ℕ × List ℕ
    run = take_up_to (length t) is_digit t

    run' : List ℕ × List ℕ
    run' = take_up_to (length (drop 1 run.1)) is_digit (drop 1 run.1)

    short : length run.1 ≤ length t
    short = take_up_to_within (length t) is_digit t

    short' : length run'.1 ≤ length (drop 1 run.1)
    short' = take_up_to_within (length (drop 1 run.1)) is_digit (drop 1 run.1)

    go : (a b c d e : Bool) → IsUpTo (length t) (if a then bounded (value 10 run.0) (value 10 run.0) (drop 1 run.1)
        else if b then (if d then Some (interval (value 10 run.0) None, drop 2 run.1) else None)
        else if c then (if e then bounded (value 10 run.0) (value 10 run'.0) (drop 1 run'.1) else None)
        else None)
    go true b c d e = bounded_within _ _ (length t) (drop 1 run.1) (omega (arith, length-drop 1 run.1, short))
    go false true c true e = omega (arith, length-drop 2 run.1, short)
    go false true c false e = tt
    go false false true d true = bounded_within _ _ (length t) (drop 1 run'.1) (omega (arith, length-drop 1 run'.1, short', length-drop 1 run.1, short))
    go false false true d false = tt
    go false false false d e = tt

braces_within : (t : List ℕ) → IsUpTo (length t) (braces_at t)
unfolding braces_from name_front
braces_within t = rw (braces_is t) (go (list_any is_digit (take 1 t)) (list_any starts_name (take 1 t)))
  where
    go : (a b : Bool) → IsUpTo (length t) (if a then interval_at t else if b then name_front t else None)
    go true b = interval_within t
    go false true = name_within t
    go false false = tt

-- Symbols.

symbol_within : (fold : Bool) (c : ℕ) (t : List ℕ) → IsUpTo (length t) (symbol_at fold (c ∷ t))
unfolding symbol_at
symbol_within fold c t =
    go (find (λ (row : ℕ × Symbol). c == row.0) signs) (contains (codes "\"") c) (contains (codes "[") c) (contains (codes "{") c) (contains (codes "/ \t") c)
  where
    signs : List (ℕ × Symbol)
    signs = zip (codes "()|*+?.") (opening ∷ closing ∷ bar ∷ sign false Star ∷ sign false (λ t. Repeat t 1 None) ∷ sign false (λ t. Repeat t 0 (Some 1)) ∷ item (Set (complement (single 10))) ∷ [])

    byte : (p q : Bool) → IsUpTo {A = Symbol} (length t) ((if p then None else if q then escape_at t else Some (c, t)) >>= λ (b, rest). Some (item (Set (folded fold (single b))), rest))
    byte true q = tt
    byte false true = escape_front_within fold t
    byte false false = omega arith

    go : (o : Option (ℕ × Symbol)) (p1 p2 p3 p4 : Bool) → IsUpTo {A = Symbol} (length t) (option_or (o >>= λ row. Some (row.1, t))
        (if p1 then quoted_front fold t
        else if p2 then class_front fold t
        else if p3 then braces_at t
        else if p4 then None
        else (if c == 10 then None else if c == 92 then escape_at t else Some (c, t)) >>= λ (b, rest). Some (item (Set (folded fold (single b))), rest)))
    go (Some row) p1 p2 p3 p4 = omega arith
    go None true p2 p3 p4 = quoted_front_within fold t
    go None false true p3 p4 = class_front_within fold t
    go None false false true p4 = braces_within t
    go None false false false true = tt
    go None false false false false = byte (c == 10) (c == 92)

nothing_front : (fold : Bool) (s : Symbol) (rest : List ℕ) → ◌≡◌ {A = Front} (symbol_at fold []) (Some (s, rest)) → ⊥
unfolding symbol_at
nothing_front fold s rest e = cc

-- a symbol takes at least a byte
pub symbol_takes : (fold : Bool) (t rest : List ℕ) (s : Symbol) → ◌≡◌ {A = Front} (symbol_at fold t) (Some (s, rest)) → length rest < length t
symbol_takes fold [] rest s e = absurd (nothing_front fold s rest e)
symbol_takes fold (c ∷ t) rest s e =
    let P : Front → Type 0 = λ f. IsUpTo (length t) f in
    let h : length rest ≤ length t = subst P e (symbol_within fold c t) in
    omega arith
