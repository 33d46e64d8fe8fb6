-- What a token of an action is to the readers of words, digits, strings and signs.
use Rattle.std.proofs.Common.{◌≡◌, ℕ, suc, Bool, true, false, List, [], ◌∷◌, ◌++◌, take, drop, Option, Some, None, if◌then◌else◌, refl, sym, ap, ◌∙◌, subst}
use Rattle.std.specs.Prelude.{codes, ◌==◌, length}
use Rattle.std.specs.List.{list_any}
use Rattle.std.specs.Option.{option_or}
use Rattle.std.proofs.lemmas.Bool.{eq-eqb, eqb-true}
use Rattle.lex_semantics.specs.ByteSets.{is_alpha, is_digit}
use Rattle.lex_semantics.specs.Reading.{◌>>=◌, Reader, IsReadAs, take_up_to}
use Rattle.lex_semantics.specs.Active.{contains}
use Rattle.lexre_bytes.specs.Lexical.{run_at, name_at}
use Rattle.lexre_bytes.proofs.BraceForms.{digit_no_name}
use Rattle.lex_semantics.specs.Escapes.{byte_with, until_quote}
use Rattle.lexspec_actions.specs.Bytes.{after_spaces, expect, string_escape_at, literal_at}
use Rattle.lexspec_actions.specs.ByteSteps.{digits_at, first_is}
use Rattle.lexspec_actions.specs.Actions.{Token, word, digits, string, sign, token_at}
use Rattle.lexspec_actions.proofs.SameBytes.{next_is}

pub some_is : {X : Type 0} (x y : X) → Some x ≡ Some y → x ≡ y
some_is x y e = cc

pub no_some : {X P : Type 0} (x : X) → ◌≡◌ {A = Option X} None (Some x) → P
no_some {X} x e = absurd (no e)
  where
    no : ◌≡◌ {A = Option X} None (Some x) → ⊥
    no p = cc

-- what is read in two steps
pub bound : {A B : Type 0} (o : Option A) (f : A → Option B) (y : B) → (o >>= f) ≡ Some y → (x : A) × (o ≡ Some x) × (f x ≡ Some y)
bound None f y e = no_some y e
bound (Some x) f y e = (x, refl, e)

-- ---- items one after another

module _ {A : Type 0} (item_at : Reader A) where
  abbrev pub UpTo : List ℕ → List A → List ℕ → Type 0
  UpTo t xs r = IsReadAs item_at (λ u. u ≡ r) t xs

  pub joined : (Done : List ℕ → Type 0) (t m : List ℕ) (xs ys : List A) → UpTo t xs m → IsReadAs item_at Done m ys → IsReadAs item_at Done t (xs ++ ys)
  joined Done t m [] ys here cut = subst (λ z. IsReadAs item_at Done z ys) (sym here) cut
  joined Done t m (x ∷ xs) ys (rest, here, more) cut = (rest, here, joined Done rest m xs ys more cut)

  pub parted : (Done : List ℕ → Type 0) (t : List ℕ) (xs ys : List A) → IsReadAs item_at Done t (xs ++ ys) → (m : List ℕ) × UpTo t xs m × IsReadAs item_at Done m ys
  parted Done t [] ys cut = (t, refl, cut)
  parted Done t (x ∷ xs) ys (rest, here, cut) = let (m, more, left) = parted Done rest xs ys cut in (m, (rest, here, more), left)

  pub ended : (Done : List ℕ → Type 0) (t : List ℕ) (xs : List A) → IsReadAs item_at Done t xs → (r : List ℕ) × UpTo t xs r × Done r
  ended Done t [] done = (t, refl, done)
  ended Done t (x ∷ xs) (rest, here, cut) = let (r, more, done) = ended Done rest xs cut in (r, (rest, here, more), done)

  pub finished : (Done : List ℕ → Type 0) (t r : List ℕ) (xs : List A) → UpTo t xs r → Done r → IsReadAs item_at Done t xs
  finished Done t r [] here done = subst Done (sym here) done
  finished Done t r (x ∷ xs) (rest, here, cut) done = (rest, here, finished Done rest r xs cut done)

-- ---- a token

-- a token by what stands behind blanks and comments, and the string there
abbrev token_of : List ℕ → Option (List ℕ × List ℕ) → Option (Token × List ℕ)
token_of u q =
    option_or (name_at u >>= λ (name, rest). Some (word name, rest))
    (option_or (digits_at u >>= λ (number, rest). Some (digits number, rest))
    (option_or (q >>= λ (bytes, rest). Some (string bytes, rest))
    (if list_any (contains (codes "(),;{}")) (take 1 u) then Some (sign (take 1 u), drop 1 u) else None)))

token_is : (t : List ℕ) → token_at t ≡ token_of (after_spaces t) (literal_at t)
unfolding token_at
token_is t = refl

-- what the readers read of a token
abbrev pub Reads : List ℕ → Token → List ℕ → Type 0
Reads t (word w) r = name_at (after_spaces t) ≡ Some (w, r)
Reads t (digits n) r = digits_at (after_spaces t) ≡ Some (n, r)
Reads t (string bs) r = literal_at t ≡ Some (bs, r)
Reads t (sign w) r = expect w t ≡ Some r

pub token_reads : (t : List ℕ) (x : Token) (r : List ℕ) → token_at t ≡ Some (x, r) → Reads t x r
token_reads t x r h = from (name_at (after_spaces t)) (digits_at (after_spaces t)) (literal_at t) refl refl refl (sym (token_is t) ∙ h)
  where
    so : (y : Token) (rest : List ℕ) → ◌≡◌ {A = Option (Token × List ℕ)} (Some (y, rest)) (Some (x, r)) → Reads t y rest → Reads t x r
    so y rest e k = subst (λ (z : Token × List ℕ). Reads t z.0 z.1) (some_is {X = Token × List ℕ} (y, rest) (x, r) e) k

    signed : (u : List ℕ) → after_spaces t ≡ u → ◌≡◌ {A = Option (Token × List ℕ)} (if list_any (contains (codes "(),;{}")) (take 1 u) then Some (sign (take 1 u), drop 1 u) else None) (Some (x, r)) → Reads t x r
    signed [] here e = no_some {X = Token × List ℕ} (x, r) e
    signed (c ∷ u) here e = tested (list_any (contains (codes "(),;{}")) (c ∷ [])) e
      where
        tested : (b : Bool) → ◌≡◌ {A = Option (Token × List ℕ)} (if b then Some (sign (c ∷ []), u) else None) (Some (x, r)) → Reads t x r
        tested false e = no_some {X = Token × List ℕ} (x, r) e
        tested true e = so (sign (c ∷ [])) u e (next_is c t ∙ ap (first_is c) here ∙ rw (eq-eqb c c refl) refl)

    from : (n d q : Option (List ℕ × List ℕ)) → name_at (after_spaces t) ≡ n → digits_at (after_spaces t) ≡ d → literal_at t ≡ q
        → ◌≡◌ {A = Option (Token × List ℕ)} (token_of (after_spaces t) (literal_at t)) (Some (x, r)) → Reads t x r
    from (Some (w, rest)) d q en ed eq e = so (word w) rest (rw en at e) en
    from None (Some (n, rest)) q en ed eq e = so (digits n) rest (rw (en, ed) at e) ed
    from None None (Some (bs, rest)) en ed eq e = so (string bs) rest (rw (en, ed, eq) at e) eq
    from None None None en ed eq e = signed (after_spaces t) refl (rw (en, ed, eq) at e)

-- ---- and back

pub word_token : (t w r : List ℕ) → name_at (after_spaces t) ≡ Some (w, r) → token_at t ≡ Some (word w, r)
word_token t w r h = token_is t ∙ rw h refl

pub no_name : (u : List ℕ) (found : List ℕ × List ℕ) → digits_at u ≡ Some found → name_at u ≡ None
unfolding name_at run_at take_up_to
no_name [] found e = refl
no_name (c ∷ u) found e = from (is_digit c) refl
  where
    from : (b : Bool) → is_digit c ≡ b → name_at (c ∷ u) ≡ None
    from true f = rw (digit_no_name c (rw f refl)) refl
    from false f = no_some found (rw f at e)

pub digits_token : (t n r : List ℕ) → digits_at (after_spaces t) ≡ Some (n, r) → token_at t ≡ Some (digits n, r)
digits_token t n r h = token_is t ∙ rw (no_name (after_spaces t) (n, r) h, h) refl

-- a sign begins no name and no number
pub record IsSign (c : ℕ) : Type 0 where
  pub no_name : (u : List ℕ) → name_at (c ∷ u) ≡ None
  pub no_digits : (u : List ℕ) → digits_at (c ∷ u) ≡ None

pub begins_so : (c : ℕ) (t r : List ℕ) → expect (c ∷ []) t ≡ Some r → after_spaces t ≡ c ∷ r
begins_so c t r h = from (after_spaces t) (sym (next_is c t) ∙ h)
  where
    from : (u : List ℕ) → first_is c u ≡ Some r → u ≡ c ∷ r
    from [] e = no_some r e
    from (d ∷ u) e = tested (d == c) refl e
      where
        tested : (b : Bool) → (d == c) ≡ b → (if b then Some u else None) ≡ Some r → d ∷ u ≡ c ∷ r
        tested false f e = no_some r e
        tested true f e = ap (λ z. z ∷ u) (eqb-true d c f) ∙ ap (λ z. c ∷ z) (some_is u r e)

quote : IsSign 34
unfolding name_at is_alpha run_at take_up_to is_digit
quote = record { no_name = λ u. refl; no_digits = λ u. refl }

pub string_token : (t bs r : List ℕ) → literal_at t ≡ Some (bs, r) → token_at t ≡ Some (string bs, r)
unfolding literal_at
string_token t bs r h =
    let (inside, opens, rest) = bound (expect (codes "\"") t) _ (bs, r) h in
    token_is t ∙ rw (begins_so 34 t inside opens) (rw (quote.no_name inside, quote.no_digits inside, h) refl)

no_string : (t : List ℕ) (c : ℕ) (r : List ℕ) → after_spaces t ≡ c ∷ r → (c == 34) ≡ false → literal_at t ≡ None
unfolding literal_at
no_string t c r here other =
    ap (λ (o : Option (List ℕ)). o >>= λ inside. until_quote (byte_with string_escape_at) (suc (length inside)) inside)
    (next_is 34 t ∙ ap (first_is 34) here ∙ (let none : first_is 34 (c ∷ r) ≡ None = rw other refl in none))

sign_token : (c : ℕ) (t r : List ℕ) → IsSign c → list_any (contains (codes "(),;{}")) (c ∷ []) ≡ true → (c == 34) ≡ false → expect (c ∷ []) t ≡ Some r
    → token_at t ≡ Some (sign (c ∷ []), r)
sign_token c t r h listed other e =
    let here = begins_so c t r e in
    token_is t ∙ rw (here, no_string t c r here other) (rw (h.no_name r, h.no_digits r, listed) refl)

left : IsSign 40
unfolding name_at is_alpha run_at take_up_to is_digit
left = record { no_name = λ u. refl; no_digits = λ u. refl }

right : IsSign 41
unfolding name_at is_alpha run_at take_up_to is_digit
right = record { no_name = λ u. refl; no_digits = λ u. refl }

comma : IsSign 44
unfolding name_at is_alpha run_at take_up_to is_digit
comma = record { no_name = λ u. refl; no_digits = λ u. refl }

pub semicolon : IsSign 59
unfolding name_at is_alpha run_at take_up_to is_digit
semicolon = record { no_name = λ u. refl; no_digits = λ u. refl }

pub opening : IsSign 123
unfolding name_at is_alpha run_at take_up_to is_digit
opening = record { no_name = λ u. refl; no_digits = λ u. refl }

pub closing : IsSign 125
unfolding name_at is_alpha run_at take_up_to is_digit
closing = record { no_name = λ u. refl; no_digits = λ u. refl }

pub left_token : (t r : List ℕ) → expect (codes "(") t ≡ Some r → token_at t ≡ Some (sign (codes "("), r)
left_token t r h = sign_token 40 t r left refl refl h

pub right_token : (t r : List ℕ) → expect (codes ")") t ≡ Some r → token_at t ≡ Some (sign (codes ")"), r)
right_token t r h = sign_token 41 t r right refl refl h

pub comma_token : (t r : List ℕ) → expect (codes ",") t ≡ Some r → token_at t ≡ Some (sign (codes ","), r)
comma_token t r h = sign_token 44 t r comma refl refl h

pub semicolon_token : (t r : List ℕ) → expect (codes ";") t ≡ Some r → token_at t ≡ Some (sign (codes ";"), r)
semicolon_token t r h = sign_token 59 t r semicolon refl refl h

pub opening_token : (t r : List ℕ) → expect (codes "{") t ≡ Some r → token_at t ≡ Some (sign (codes "{"), r)
opening_token t r h = sign_token 123 t r opening refl refl h

pub closing_token : (t r : List ℕ) → expect (codes "}") t ≡ Some r → token_at t ≡ Some (sign (codes "}"), r)
closing_token t r h = sign_token 125 t r closing refl refl h
