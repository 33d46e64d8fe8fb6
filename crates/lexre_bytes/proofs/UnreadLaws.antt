-- What is left of a text after all that can be taken from its front.
use Rattle.std.proofs.Common.{◌≡◌, ℕ, zero, suc, ◌<◌, ◌≤◌, true, false, if◌then◌else◌, List, [], ◌∷◌, length, drop, Option, Some, None, unwrap_or, refl, sym, ap, ◌∙◌, subst, arith, ◌⊎◌, inl, inr, ne_eqb}
use Rattle.std.proofs.lemmas.Bool.{cases_eq}
use Rattle.std.specs.Prelude.{codes, option_map}
use Rattle.std.specs.Option.{option_or}
use Rattle.lex_semantics.specs.Escapes.{byte_with}
use Rattle.lex_semantics.specs.Reading.{begins}
use Rattle.lexre_bytes.specs.Lexical.{escape_at, bracketed_at, class_name_at, enclosed_by, after_word}
use Rattle.lexre_bytes.specs.Elements.{Element, is_range}
use Rattle.lexre_bytes.specs.Unread.{Fault, left_by, unread, after_byte, after_part, fault_inside}
use Rattle.lexre_bytes.specs.declared.error.PatternErrorKind.TheVariants.{UnclosedQuote, UnclosedClass, BadEscape}
use Rattle.lexre_bytes.proofs.ShorterLaws.{IsShorter, bracketed_shorter, byte_shorter}

abbrev pub Takes : (List ℕ → Option (List ℕ)) → Type 0
Takes take_one = (t rest : List ℕ) → take_one t ≡ Some rest → length rest < length t

enough : (take_one : List ℕ → Option (List ℕ)) → Takes take_one → (n m : ℕ) (t : List ℕ) → length t ≤ n → length t ≤ m → left_by take_one n t ≡ left_by take_one m t
unfolding left_by
enough take_one shorter zero zero t h k = refl
enough take_one shorter zero (suc m) t h k = go (take_one t) refl
  where
    go : (o : Option (List ℕ)) → take_one t ≡ o → t ≡ unwrap_or (option_map (left_by take_one m) o) t
    go None e = refl
    go (Some rest) e = absurd (omega (arith, shorter t rest e))
enough take_one shorter (suc n) zero t h k = go (take_one t) refl
  where
    go : (o : Option (List ℕ)) → take_one t ≡ o → unwrap_or (option_map (left_by take_one n) o) t ≡ t
    go None e = refl
    go (Some rest) e = absurd (omega (arith, shorter t rest e))
enough take_one shorter (suc n) (suc m) t h k = go (λ rest i j. enough take_one shorter n m rest i j) (take_one t) refl
  where
    go : ((rest : List ℕ) → length rest ≤ n → length rest ≤ m → left_by take_one n rest ≡ left_by take_one m rest) → (o : Option (List ℕ)) → take_one t ≡ o
        → unwrap_or (option_map (left_by take_one n) o) t ≡ unwrap_or (option_map (left_by take_one m) o) t
    go more None e = refl
    go more (Some rest) e = more rest (omega (arith, shorter t rest e)) (omega (arith, shorter t rest e))

stuck : (take_one : List ℕ → Option (List ℕ)) (n : ℕ) (t : List ℕ) → take_one t ≡ None → left_by take_one n t ≡ t
unfolding left_by
stuck take_one zero t e = refl
stuck take_one (suc n) t e = rw (e, left_by) refl

pub unread_stuck : (take_one : List ℕ → Option (List ℕ)) (t : List ℕ) → take_one t ≡ None → unread take_one t ≡ t
unread_stuck take_one t e = stuck take_one (length t) t e

on : (take_one : List ℕ → Option (List ℕ)) → Takes take_one → (n : ℕ) (t rest : List ℕ) → length t ≤ n → take_one t ≡ Some rest → left_by take_one n t ≡ unread take_one rest
unfolding left_by
on take_one shorter zero t rest h e = absurd (omega (arith, shorter t rest e))
on take_one shorter (suc n) t rest h e = rw (e, left_by) (enough take_one shorter n (length rest) rest (omega (arith, shorter t rest e)) (omega arith))

pub unread_on : (take_one : List ℕ → Option (List ℕ)) → Takes take_one → (t rest : List ℕ) → take_one t ≡ Some rest → unread take_one t ≡ unread take_one rest
unread_on take_one shorter t rest e = on take_one shorter (length t) t rest (omega arith) e

within : (take_one : List ℕ → Option (List ℕ)) → Takes take_one → (n : ℕ) (t : List ℕ) → length (left_by take_one n t) ≤ length t
unfolding left_by
within take_one shorter zero t = omega arith
within take_one shorter (suc n) t = go (λ rest. within take_one shorter n rest) (take_one t) refl
  where
    go : ((rest : List ℕ) → length (left_by take_one n rest) ≤ length rest) → (o : Option (List ℕ)) → take_one t ≡ o → length (unwrap_or (option_map (left_by take_one n) o) t) ≤ length t
    go more None e = omega arith
    go more (Some rest) e = omega (arith, shorter t rest e, more rest)

pub unread_within : (take_one : List ℕ → Option (List ℕ)) → Takes take_one → (t : List ℕ) → length (unread take_one t) ≤ length t
unread_within take_one shorter t = within take_one shorter (length t) t

some_rest : (x y : List ℕ) → Some x ≡ Some y → x ≡ y
some_rest x y e = cc

rest_shorter : {A : Type 0} (n : ℕ) (o : Option (A × List ℕ)) (rest : List ℕ) → IsShorter n o → option_map (λ x. x.1) o ≡ Some rest → length rest < n
rest_shorter n None rest h e = let f : None ≡ Some rest = e in cc
rest_shorter n (Some x) rest h e = subst (λ r. length r < n) (some_rest x.1 rest e) h

pub byte_takes : Takes after_byte
byte_takes t rest e = rest_shorter (length t) (byte_with escape_at t) rest (byte_shorter t) e

pub part_takes : Takes after_part
part_takes t rest e = go (bracketed_at t) (bracketed_shorter t) e
  where
    go : (o : Option (Element × List ℕ)) → IsShorter (length t) o → option_or (option_map (λ x. x.1) o) (after_byte t) ≡ Some rest → length rest < length t
    go None h f = byte_takes t rest f
    go (Some x) h f = subst (λ r. length r < length t) (some_rest x.1 rest f) h

-- The parts of a class.

abbrev Found : Type 0
Found = Option (Element × List ℕ)

abbrev Byte : Type 0
Byte = Option (ℕ × List ℕ)

pub bracket_left : (t : List ℕ) (x : Element × List ℕ) → ◌≡◌ {A = Found} (bracketed_at t) (Some x) → unread after_part t ≡ unread after_part x.1
bracket_left t x e = unread_on after_part part_takes t x.1 (rw e refl)

pub byte_left : (t : List ℕ) (x : ℕ × List ℕ) → ◌≡◌ {A = Found} (bracketed_at t) None → ◌≡◌ {A = Byte} (byte_with escape_at t) (Some x) → unread after_part t ≡ unread after_part x.1
byte_left t x e f = unread_on after_part part_takes t x.1 (rw (e, f) refl)

pub none_left : (t : List ℕ) → ◌≡◌ {A = Found} (bracketed_at t) None → ◌≡◌ {A = Byte} (byte_with escape_at t) None → unread after_part t ≡ t
none_left t e f = unread_stuck after_part t (rw (e, f) refl)

-- a byte that opens no bracket and is no backslash is a part
pub sign_left : (c : ℕ) (t : List ℕ) → (c ≡ 45) ⊎ (c ≡ 94) → unread after_part (c ∷ t) ≡ unread after_part t
unfolding bracketed_at class_name_at enclosed_by after_word
sign_left c t (inl e) = unread_on after_part part_takes (c ∷ t) t (subst (λ b. after_part (b ∷ t) ≡ Some t) (sym e) refl)
sign_left c t (inr e) = unread_on after_part part_takes (c ∷ t) t (subst (λ b. after_part (b ∷ t) ≡ Some t) (sym e) refl)

pub negation_left : (text inside : List ℕ) → inside ≡ (if begins (codes "^") text then drop 1 text else text) → unread after_part text ≡ unread after_part inside
negation_left [] inside e = ap (unread after_part) (sym e)
negation_left (c ∷ t) inside e = elim (cases_eq c 94) [
  | inl f ↦
      let here : (if begins (codes "^") (c ∷ t) then t else c ∷ t) ≡ t = subst (λ b. (if begins (codes "^") (b ∷ t) then t else b ∷ t) ≡ t) (sym f) refl in
      sign_left c t (inr f) ∙ ap (unread after_part) (sym (e ∙ here))
  | inr f ↦
      let here : (if begins (codes "^") (c ∷ t) then t else c ∷ t) ≡ c ∷ t = rw (ne_eqb 94 c (λ z. f (sym z))) refl in
      ap (unread after_part) (sym (e ∙ here))
]

pub range_left : (t : List ℕ) (c : ℕ) (after : List ℕ) → is_range t ≡ true → t ≡ c ∷ after → unread after_part t ≡ unread after_part after
range_left t c after h e = elim (cases_eq c 45) [
  | inl f ↦ ap (unread after_part) e ∙ sign_left c after (inl f)
  | inr f ↦ let no : is_range (c ∷ after) ≡ false = rw (ne_eqb 45 c (λ z. f (sym z))) refl in absurd (no_true (sym no ∙ sym (ap is_range e) ∙ h))
]
  where
    no_true : false ≡ true → ⊥
    no_true f = cc

-- at the end of the text a class is not closed
pub open_told : (class text rest : List ℕ) → unread after_part text ≡ unread after_part rest → length rest ≡ 0 → ◌≡◌ {A = Fault} (UnclosedClass, class) (fault_inside UnclosedClass class (unread after_part text))
unfolding left_by
open_told class text [] e h = rw e refl
open_told class text (c ∷ rest) e h = absurd (omega arith)

-- Texts in quotes.

byte_on : (t rest : List ℕ) (b : ℕ) → ◌≡◌ {A = Byte} (byte_with escape_at t) (Some (b, rest)) → unread after_byte t ≡ unread after_byte rest
byte_on t rest b e = unread_on after_byte byte_takes t rest (rw e refl)

byte_stuck : (t : List ℕ) → ◌≡◌ {A = Byte} (byte_with escape_at t) None → unread after_byte t ≡ t
byte_stuck t e = unread_stuck after_byte t (rw e refl)

pub escape_left : (t after new : List ℕ) (c x : ℕ) → t ≡ c ∷ after → c ≡ 92 → ◌≡◌ {A = Byte} (escape_at after) (Some (x, new)) → unread after_byte t ≡ unread after_byte new
escape_left t after new c x e f found = ap (unread after_byte) (e ∙ ap (λ b. b ∷ after) f) ∙ byte_on (92 ∷ after) new x found

pub other_left : (t after : List ℕ) (c : ℕ) → t ≡ c ∷ after → (c ≡ 10 → ⊥) → (c ≡ 92 → ⊥) → unread after_byte t ≡ unread after_byte after
other_left t after c e newline backslash = ap (unread after_byte) e ∙ byte_on (c ∷ after) after c (rw (ne_eqb c 10 newline, ne_eqb c 92 backslash) refl)

pub escape_told : (quote start t after : List ℕ) (c : ℕ) → unread after_byte start ≡ unread after_byte t → t ≡ c ∷ after → c ≡ 92 → ◌≡◌ {A = Byte} (escape_at after) None
    → ◌≡◌ {A = Fault} (BadEscape, t) (fault_inside UnclosedQuote quote (unread after_byte start))
escape_told quote start t after c same e f none =
    let is : t ≡ 92 ∷ after = e ∙ ap (λ b. b ∷ after) f in
    let left : unread after_byte start ≡ 92 ∷ after = same ∙ ap (unread after_byte) is ∙ byte_stuck (92 ∷ after) none in
    rw (left, is) refl

pub newline_told : (quote start t after : List ℕ) (c : ℕ) → unread after_byte start ≡ unread after_byte t → t ≡ c ∷ after → c ≡ 10
    → ◌≡◌ {A = Fault} (UnclosedQuote, quote) (fault_inside UnclosedQuote quote (unread after_byte start))
newline_told quote start t after c same e f =
    let left : unread after_byte start ≡ 10 ∷ after = same ∙ ap (unread after_byte) (e ∙ ap (λ b. b ∷ after) f) ∙ byte_stuck (10 ∷ after) refl in
    rw left refl

pub nothing_told : (quote start t : List ℕ) → unread after_byte start ≡ unread after_byte t → length t ≡ 0 → ◌≡◌ {A = Fault} (UnclosedQuote, quote) (fault_inside UnclosedQuote quote (unread after_byte start))
nothing_told quote start [] same h = let left : unread after_byte start ≡ [] = same ∙ byte_stuck [] refl in rw left refl
nothing_told quote start (c ∷ t) same h = absurd (omega arith)
