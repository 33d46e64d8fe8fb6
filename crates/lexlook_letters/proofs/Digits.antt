-- Bytes as they are escaped, and classes of ranges of them, as the reader of patterns reads them.
use Rattle.std.proofs.Common.{◌≡◌, ℕ, suc, ◌+◌, ◌*◌, ◌/◌, ◌%◌, ◌^◌, ◌<◌, ◌≤◌, Bool, true, false, ◌==◌, if◌then◌else◌, List, [], ◌∷◌, ◌++◌, length, Option, Some, None, refl, ap, ◌∙◌, arith}
use Rattle.std.proofs.lemmas.Bool.{agree_below_at, eqb-true, le-leb}
use Rattle.std.specs.Prelude.{codes}
use Rattle.std.specs.List.{AllByRecursion}
use Rattle.lex_semantics.specs.ByteSets.{ByteSet, is_digit, is_xdigit, range_set, union, within}
use Rattle.lex_semantics.specs.Escapes.{hexadecimal_at}
use Rattle.lex_semantics.specs.Reading.{◌>>=◌, begins, digit_of, take_up_to}
use Rattle.lex_semantics.specs.Tree.{Set}
use Rattle.lexre_bytes.specs.ClassSets.{class_set_at, member_at, members_at}
use Rattle.lexre_bytes.specs.Lexical.{after_word, bracketed_at, class_at, class_name_at, class_set, element_at, enclosed_by, escape_at, range_at, span, symbol_at}
use Rattle.lexre_bytes.specs.Symbols.{Symbol, item, opening, closing, bar}
use Rattle.lexre_bytes.proofs.ClassLaws.{first_step, finished, next_step, onto, plain_found, union-lt}
use Rattle.lexre_bytes.proofs.SetLaws.{set_of-lt}
use Rattle.lexlook_letters.specs.Sequences.{IsSoundRange}
use Rattle.lexlook_letters.specs.Text.{byte_escape, bytes_in, class_tree, hex_digit, range_text}
use Rattle.lexlook_letters.specs.declared.sequence.ByteRange.{ByteRange}

abbrev Byte : Type 0
Byte = Option (ℕ × List ℕ)

abbrev Found : Type 0
Found = Option (ByteSet × List ℕ)

abbrev Element : Type 0
Element = Option (Option ByteSet × List ℕ)

abbrev Front : Type 0
Front = Option (Symbol × List ℕ)

-- Digits.

are_digits : (n : ℕ) → n < 16 → is_xdigit (hex_digit n) ≡ true
unfolding is_xdigit is_digit
are_digits n h = agree_below_at (λ n. is_xdigit (hex_digit n)) (λ n. true) 16 n refl h

have_values : (n : ℕ) → n < 16 → digit_of (hex_digit n) ≡ n
unfolding is_digit
have_values n h = eqb-true _ _ (agree_below_at (λ n. digit_of (hex_digit n) == n) (λ n. true) 16 n refl h)

from_digits : (c d b : ℕ) (t : List ℕ) → is_xdigit c ≡ true → is_xdigit d ≡ true → digit_of c * 16 + digit_of d ≡ b
    → ◌≡◌ {A = Byte} (hexadecimal_at (c ∷ d ∷ t)) (Some (b, t))
unfolding hexadecimal_at take_up_to
from_digits c d b t x y e =
    let v : (0 * 16 + digit_of c) * 16 + digit_of d ≡ b = omega (arith, e) in
    rw (x, y) (ap (λ n. Some (n, t)) v)

two_digits : (b : ℕ) (t : List ℕ) → b < 0x100 → ◌≡◌ {A = Byte} (hexadecimal_at (hex_digit (b / 16) ∷ hex_digit (b % 16) ∷ t)) (Some (b, t))
two_digits b t h =
    let high = have_values (b / 16) (omega arith) in
    let low = have_values (b % 16) (omega arith) in
    from_digits _ _ b t (are_digits (b / 16) (omega arith)) (are_digits (b % 16) (omega arith)) (rw (high, low) (omega arith))

escape_is : (b : ℕ) (t : List ℕ) → b < 0x100 → ◌≡◌ {A = Byte} (escape_at (120 ∷ hex_digit (b / 16) ∷ hex_digit (b % 16) ∷ t)) (Some (b, t))
unfolding escape_at after_word
escape_is b t h = rw (two_digits b t h) refl

-- Elements of classes.

one_byte : (b : ℕ) (t : List ℕ) → b < 0x100 → begins (codes "-") t ≡ false → ◌≡◌ {A = Element} (element_at (byte_escape b ++ t)) (Some (span b b, t))
unfolding element_at bracketed_at class_name_at enclosed_by after_word
one_byte b t h plain = rw (escape_is b t h, plain) refl

two_bytes : (lo hi : ℕ) (t : List ℕ) → lo < 0x100 → hi < 0x100
    → ◌≡◌ {A = Element} (element_at (byte_escape lo ++ codes "-" ++ byte_escape hi ++ t)) (Some (span lo hi, t))
unfolding element_at range_at bracketed_at class_name_at enclosed_by after_word
two_bytes lo hi t h k = rw (escape_is lo (codes "-" ++ byte_escape hi ++ t) h) (rw (escape_is hi t k) refl)

span_is : (lo hi : ℕ) → lo ≤ hi → ◌≡◌ {A = Option ByteSet} (span lo hi) (Some (range_set lo hi))
unfolding span range_set
span_is lo hi h = rw (le-leb lo hi h) refl

-- the text of a range, by whether it has one byte
abbrev range_text_by : Bool → ℕ → ℕ → List ℕ
range_text_by one lo hi = if one then byte_escape lo else byte_escape lo ++ (codes "-" ++ byte_escape hi)

element_is : (lo hi : ℕ) (t : List ℕ) (one : Bool) → (lo == hi) ≡ one → lo < 0x100 → hi < 0x100 → begins (codes "-") t ≡ false
    → ◌≡◌ {A = Element} (element_at (range_text_by one lo hi ++ t)) (Some (span lo hi, t))
element_is lo hi t true e h k plain = one_byte lo t h plain ∙ ap (λ x. Some (span lo x, t)) (eqb-true lo hi e)
element_is lo hi t false e h k plain = two_bytes lo hi t h k

member_is : (r : ByteRange) (t : List ℕ) → IsSoundRange r → begins (codes "-") t ≡ false
    → ◌≡◌ {A = Found} (member_at (range_text r ++ t)) (Some (range_set r.first r.last, t))
member_is r t (h, k) plain =
    let l : r.first < 0x100 = omega arith in
    rw (element_is r.first r.last t (r.first == r.last) refl l k plain, span_is r.first r.last h) refl

-- Classes.

-- ranges, the end of the class, and what follows
abbrev pub ranges_then : List ByteRange → List ℕ → List ℕ
ranges_then [] t = codes "]" ++ t
ranges_then (r ∷ rs) t = range_text r ++ ranges_then rs t

-- a range begins with a backslash
begins_by : (one : Bool) (lo hi : ℕ) (t : List ℕ)
    → (begins (codes "-") (range_text_by one lo hi ++ t) ≡ false) × (begins (codes "]") (range_text_by one lo hi ++ t) ≡ false)
begins_by true lo hi t = (refl, refl)
begins_by false lo hi t = (refl, refl)

no_dash : (rs : List ByteRange) (t : List ℕ) → begins (codes "-") (ranges_then rs t) ≡ false
no_dash [] t = refl
no_dash (r ∷ rs) t = (begins_by (r.first == r.last) r.first r.last (ranges_then rs t)).0

no_caret : (one : Bool) (lo hi : ℕ) (t : List ℕ) → ◌≡◌ {A = Option (List ℕ)} (after_word (codes "^") (range_text_by one lo hi ++ t)) None
unfolding after_word
no_caret true lo hi t = refl
no_caret false lo hi t = refl

range_set-lt : (lo hi : ℕ) → range_set lo hi < 2 ^ 256
unfolding range_set
range_set-lt lo hi = set_of-lt (within lo hi)

goes_on : (rs : List ByteRange) (t : List ℕ) (set : ByteSet) (w : Found) → w ≡ onto set (members_at (suc (length (ranges_then rs t))) false (ranges_then rs t))
    → set < 2 ^ 256 → AllByRecursion IsSoundRange rs → ◌≡◌ {A = Found} w (Some (bytes_in set rs, t))
goes_on [] t set w e small sound = finished set (codes "]" ++ t) w e refl small
goes_on (r ∷ rs) t set w e small sound =
    let s : ByteSet = range_set r.first r.last in
    let rest : List ℕ = ranges_then rs t in
    let bracket = (begins_by (r.first == r.last) r.first r.last rest).1 in
    goes_on rs t (union set s) w (next_step set (union set s) (range_text r ++ rest) rest s w e bracket (member_is r rest sound.0 (no_dash rs t)) refl)
    (union-lt (union set s) set s refl) sound.1

class_is : (r : ByteRange) (rs : List ByteRange) (t : List ℕ) → IsSoundRange r → AllByRecursion IsSoundRange rs
    → ◌≡◌ {A = Found} (class_set_at false (range_text r ++ ranges_then rs t)) (Some (bytes_in (range_set r.first r.last) rs, t))
class_is r rs t h sound =
    let s : ByteSet = range_set r.first r.last in
    let rest : List ℕ = ranges_then rs t in
    let i : List ℕ = range_text r ++ rest in
    let members : ◌≡◌ {A = Found} (members_at (suc (length i)) true i) (Some (bytes_in s rs, t)) =
    goes_on rs t s _ (first_step i rest s (member_is r rest h (no_dash rs t))) (range_set-lt r.first r.last) sound in
    plain_found false i i t (bytes_in s rs) (bytes_in s rs) refl (no_caret (r.first == r.last) r.first r.last rest) members refl

as_item : Found → Front
as_item o = o >>= λ (s, rest). Some (item (Set s), rest)

item_of : (o : Option (Bool × List (Option ByteSet) × List ℕ))
    → ◌≡◌ {A = Front} (o >>= λ (negated, es, rest). class_set false negated es >>= λ s. Some (item (Set s), rest))
    (as_item (o >>= λ (negated, es, rest). class_set false negated es >>= λ s. Some (s, rest)))
unfolding as_item
item_of None = refl
item_of (Some x) = go (class_set false x.0 x.1)
  where
    go : (o : Option ByteSet) → ◌≡◌ {A = Front} (o >>= λ s. Some (item (Set s), x.2)) ((o >>= λ s. Some (s, x.2)) >>= λ (s, rest). Some (item (Set s), rest))
    go None = refl
    go (Some s) = refl

-- a class is read as the set of its ranges
pub class_symbol : (r : ByteRange) (rs : List ByteRange) (t : List ℕ) → IsSoundRange r → AllByRecursion IsSoundRange rs
    → ◌≡◌ {A = Front} (symbol_at false (codes "[" ++ (range_text r ++ ranges_then rs t))) (Some (item (class_tree r rs), t))
unfolding symbol_at as_item
class_symbol r rs t h sound = item_of (class_at (range_text r ++ ranges_then rs t)) ∙ ap as_item (class_is r rs t h sound)

pub bar_symbol : (t : List ℕ) → ◌≡◌ {A = Front} (symbol_at false (codes "|" ++ t)) (Some (bar, t))
unfolding symbol_at
bar_symbol t = refl

pub opening_symbol : (t : List ℕ) → ◌≡◌ {A = Front} (symbol_at false (codes "(" ++ t)) (Some (opening, t))
unfolding symbol_at
opening_symbol t = refl

pub closing_symbol : (t : List ℕ) → ◌≡◌ {A = Front} (symbol_at false (codes ")" ++ t)) (Some (closing, t))
unfolding symbol_at
closing_symbol t = refl
