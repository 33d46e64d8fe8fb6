-- Texts in quotes, and classes, passed over.
use Rattle.std.proofs.Common.{◌≡◌, ℕ, zero, suc, ◌<◌, ◌≤◌, ◌==◌, Bool, true, false, not, ◌&&◌, nat_lt, nat_eq, if◌then◌else◌, List, [], ◌∷◌, length, drop, Option, Some, None, refl, sym, ap, ◌∙◌, subst, arith, length-drop}
use Rattle.std.proofs.lemmas.Bool.{ne_eqb}
use Rattle.std.specs.Prelude.{codes, option_map}
use Rattle.std.specs.List.{ends_with}
use Rattle.lex_semantics.specs.Escapes.{until_quote, byte_with}
use Rattle.lex_semantics.specs.ByteSets.{is_alpha}
use Rattle.lex_semantics.specs.Reading.{◌>>=◌, take_up_to, take_run, is_empty, begins}
use Rattle.lexre_bytes.specs.Stops.{inside}
use Rattle.lexre_bytes.specs.Lexical.{after_word, escape_at, span, class_name_at, enclosed_by, bracketed_at, range_at, element_at, elements_at, class_at}
use Rattle.lexre_bytes.specs.Elements.{Element, named, unsupported, is_range}
use Rattle.lexre_bytes.specs.Quotes.{quoted_at, after_quotes}
use Rattle.lexre_bytes.specs.Brackets.{letters_at, named_at, enclosed_at, unsupported_at}
use Rattle.lexre_bytes.specs.Passing.{rest_of_class}
use Rattle.std.specs.Option.{option_or}
use Rattle.lexre_bytes.proofs.BracketForms.{bracketed_form}
use Rattle.lexre_bytes.proofs.QuoteLaws.{escape_shorter}

abbrev pub rest_of : {A : Type 0} → Option (A × List ℕ) → Option (List ℕ)
rest_of o = option_map (λ x. x.1) o

same_some : (x y : List ℕ) → Some x ≡ Some y → x ≡ y
same_some x y e = cc

-- What is read is shorter.

-- what follows is shorter than n, where something does
abbrev IsBelow : ℕ → Option (List ℕ) → Type 0
IsBelow n None = Unit {0}
IsBelow n (Some rest) = length rest < n

below : (n : ℕ) (o : Option (List ℕ)) (rest : List ℕ) → IsBelow n o → o ≡ Some rest → length rest < n
below n o rest h e = let P : Option (List ℕ) → Type 0 = IsBelow n in subst P e h

run_within : (n : ℕ) (p : ℕ → Bool) (t : List ℕ) → length (take_up_to n p t).1 ≤ length t
unfolding take_up_to
run_within zero p t = omega arith
run_within (suc n) p [] = omega arith
run_within (suc n) p (c ∷ t) = go (run_within n p t) (p c) refl
  where
    go : length (take_up_to n p t).1 ≤ length t → (b : Bool) → p c ≡ b → length (take_up_to (suc n) p (c ∷ t)).1 ≤ length (c ∷ t)
    go e true h = rw h (omega arith)
    go e false h = rw h (omega arith)

word_below : (n c : ℕ) (w t : List ℕ) → length t ≤ n → IsBelow n (after_word (c ∷ w) t)
unfolding after_word
word_below n c w [] within = tt
word_below n c w (d ∷ t) within = go (begins (c ∷ w) (d ∷ t)) (omega (arith, length-drop (length w) t))
  where
    go : (b : Bool) → length (drop (length w) t) < n → IsBelow n (if b then Some (drop (suc (length w)) (d ∷ t)) else None)
    go true h = h
    go false h = tt

letters_below : (n : ℕ) (t : List ℕ) → length t < n → IsBelow n (rest_of (letters_at t))
unfolding letters_at
letters_below n t within =
    let run = take_run is_alpha t in
    let h = run_within (length t) is_alpha t in
    go (is_empty run.0) run.0 (after_word (codes ":]") run.1) (word_below n 58 (93 ∷ []) run.1 (omega arith))
  where
    go : (b : Bool) (letters : List ℕ) (o : Option (List ℕ)) → IsBelow n o → IsBelow n (rest_of {A = List ℕ} (if b then None else o >>= λ after. Some (letters, after)))
    go true letters o h = tt
    go false letters None h = tt
    go false letters (Some r) h = h

named_below : (t : List ℕ) → IsBelow (length t) (rest_of (named_at t))
unfolding named_at
named_below t = go (after_word (codes "[:") t) (word_below (length t) 91 (58 ∷ []) t (omega arith))
  where
    go : (o : Option (List ℕ)) → IsBelow (length t) o → IsBelow (length t) (rest_of {A = List ℕ} (o >>= letters_at))
    go None h = tt
    go (Some r) h = letters_below (length t) r h

enclosed_below : (n c : ℕ) (t : List ℕ) → length t < n → IsBelow n (enclosed_at c t)
unfolding enclosed_at
enclosed_below n c t within =
    let run = take_run inside t in
    let h = run_within (length t) inside t in
    go (nat_lt 1 (length run.0) && ends_with nat_eq run.0 (c ∷ [])) (after_word (codes "]") run.1) (word_below n 93 [] run.1 (omega arith))
  where
    go : (b : Bool) (o : Option (List ℕ)) → IsBelow n o → IsBelow n (if b then o else None)
    go true o h = h
    go false o h = tt

after_letters : (n : ℕ) (o : Option (List ℕ × List ℕ)) → IsBelow n (rest_of o) → IsBelow n (o >>= λ (letters, after). Some after)
after_letters n None h = tt
after_letters n (Some x) h = h

unsupported_below : (t : List ℕ) → IsBelow (length t) (unsupported_at t)
unfolding unsupported_at
unsupported_below t =
    let n = length t in
    go (after_word (codes "[:^") t) (after_word (codes "[=") t) (after_word (codes "[.") t) (word_below n 91 (58 ∷ 94 ∷ []) t (omega arith))
    (word_below n 91 (61 ∷ []) t (omega arith)) (word_below n 91 (46 ∷ []) t (omega arith))
  where
    go : (a b d : Option (List ℕ)) → IsBelow (length t) a → IsBelow (length t) b → IsBelow (length t) d
        → IsBelow (length t) (elim a [
          | Some rest ↦ letters_at rest >>= λ (letters, after). Some after
          | None ↦ elim b [
            | Some rest ↦ enclosed_at 61 rest
            | None ↦ d >>= enclosed_at 46
          ]
        ])
    go (Some r) b d h k l = after_letters (length t) (letters_at r) (letters_below (length t) r h)
    go None (Some r) d h k l = enclosed_below (length t) 61 r k
    go None None (Some r) h k l = enclosed_below (length t) 46 r l
    go None None None h k l = tt

bracketed_below : (t : List ℕ) → IsBelow (length t) (rest_of (bracketed_at t))
bracketed_below t =
    let P : Option (Element × List ℕ) → Type 0 = λ o. IsBelow (length t) (rest_of o) in
    subst P (sym (bracketed_form t)) (go (named_at t) (unsupported_at t) (named_below t) (unsupported_below t))
  where
    go : (a : Option (List ℕ × List ℕ)) (b : Option (List ℕ)) → IsBelow (length t) (rest_of a) → IsBelow (length t) b
        → IsBelow (length t) (rest_of {A = Element} (elim a [
          | Some found ↦ Some (named found.0, found.1)
          | None ↦ elim b [
            | Some rest ↦ Some (unsupported, rest)
            | None ↦ None
          ]
        ]))
    go (Some x) b h k = h
    go None (Some r) h k = k
    go None None h k = tt

escape_below : (n : ℕ) (t : List ℕ) → length t ≤ n → (o : Option (ℕ × List ℕ)) → escape_at t ≡ o → IsBelow n (rest_of o)
escape_below n t within None e = tt
escape_below n t within (Some x) e = let h : length x.1 < length t = escape_shorter t x.1 x.0 e in omega arith

byte_below : (t : List ℕ) → IsBelow (length t) (rest_of (byte_with escape_at t))
byte_below [] = tt
byte_below (c ∷ t) = go (c == 10) (c == 92) (escape_below (suc (length t)) t (omega arith) (escape_at t) refl)
  where
    go : (a b : Bool) → IsBelow (suc (length t)) (rest_of (escape_at t)) → IsBelow (suc (length t)) (rest_of {A = ℕ} (if a then None else if b then escape_at t else Some (c, t)))
    go true b h = tt
    go false true h = h
    go false false h = omega arith

weaker : (n m : ℕ) (o : Option (List ℕ)) → IsBelow n o → n ≤ m → IsBelow m o
weaker n m None h le = tt
weaker n m (Some r) h le = omega arith

range_below : (lo : ℕ) (t : List ℕ) → IsBelow (length t) (rest_of (range_at lo t))
unfolding range_at
range_below lo t = go (bracketed_at t) (byte_with escape_at t) (bracketed_below t) (byte_below t)
  where
    go : (a : Option (Element × List ℕ)) (b : Option (ℕ × List ℕ)) → IsBelow (length t) (rest_of a) → IsBelow (length t) (rest_of b)
        → IsBelow (length t) (rest_of {A = Element} (option_or (a >>= λ (e, rest). Some (unsupported, rest)) (b >>= λ (hi, rest). Some (span lo hi, rest))))
    go (Some x) b h k = h
    go None (Some y) h k = k
    go None None h k = tt

element_below : (t : List ℕ) → IsBelow (length t) (rest_of (element_at t))
unfolding element_at
element_below t = go (bracketed_at t) (byte_with escape_at t) (bracketed_below t) (byte_below t)
  where
    ranged : (b : Bool) (lo : ℕ) (r : List ℕ) → length r < length t → IsBelow (length r) (rest_of (range_at lo (drop 1 r)))
        → IsBelow (length t) (rest_of {A = Element} (if b then range_at lo (drop 1 r) else Some (span lo lo, r)))
    ranged true lo r h k = weaker (length r) (length t) _ k (omega arith)
    ranged false lo r h k = h

    go : (a : Option (Element × List ℕ)) (b : Option (ℕ × List ℕ)) → IsBelow (length t) (rest_of a) → IsBelow (length t) (rest_of b)
        → IsBelow (length t) (rest_of {A = Element} (option_or a (b >>= λ (lo, rest). if is_range rest then range_at lo (drop 1 rest) else Some (span lo lo, rest))))
    go (Some x) b h k = h
    go None (Some y) h k =
        let shorter : length (drop 1 y.1) ≤ length y.1 = omega (arith, length-drop 1 y.1) in
        ranged (is_range y.1) y.0 y.1 k (weaker (length (drop 1 y.1)) (length y.1) _ (range_below y.0 (drop 1 y.1)) shorter)
    go None None h k = tt

pub element_shorter : (t rest : List ℕ) → rest_of (element_at t) ≡ Some rest → length rest < length t
element_shorter t rest e = below (length t) (rest_of (element_at t)) rest (element_below t) e

quoted_below : (n : ℕ) (t : List ℕ) → IsBelow (length t) (rest_of (quoted_at n t))
unfolding until_quote
quoted_below zero t = tt
quoted_below (suc n) [] = tt
quoted_below (suc n) (c ∷ t) = go (c == 34) (c == 10) (c == 92) (escape_below (suc (length t)) t (omega arith) (escape_at t) refl) (λ r. quoted_below n r)
  where
    more : (o : Option (ℕ × List ℕ)) → IsBelow (suc (length t)) (rest_of o) → ((r : List ℕ) → IsBelow (length r) (rest_of (quoted_at n r)))
        → IsBelow (suc (length t)) (rest_of {A = List ℕ} (o >>= λ (b, rest). quoted_at n rest >>= λ (bs, after). Some (b ∷ bs, after)))
    more None h k = tt
    more (Some x) h k = joined (quoted_at n x.1) (k x.1)
      where
        joined : (o : Option (List ℕ × List ℕ)) → IsBelow (length x.1) (rest_of o) → IsBelow (suc (length t)) (rest_of {A = List ℕ} (o >>= λ (bs, after). Some (x.0 ∷ bs, after)))
        joined None l = tt
        joined (Some y) l = omega arith

    go : (p q r : Bool) → IsBelow (suc (length t)) (rest_of (escape_at t)) → ((u : List ℕ) → IsBelow (length u) (rest_of (quoted_at n u)))
        → IsBelow (suc (length t)) (rest_of {A = List ℕ} (if p then Some ([], t)
        else (if q then None else if r then escape_at t else Some (c, t)) >>= λ (b, rest). quoted_at n rest >>= λ (bs, after). Some (b ∷ bs, after)))
    go true q r h k = omega arith
    go false true r h k = tt
    go false false true h k = more (escape_at t) h k
    go false false false h k = more (Some (c, t)) (omega arith) k

pub quotes_shorter : (t rest : List ℕ) → after_quotes t ≡ Some rest → length rest < length t
unfolding after_quotes
quotes_shorter t rest e = below (length t) (after_quotes t) rest (quoted_below (suc (length t)) t) e

-- Classes.

abbrev then_elements : ℕ → Option (Element × List ℕ) → Option (List Element × List ℕ)
then_elements n o = o >>= λ (e, rest). elements_at n false rest >>= λ (es, after). Some (e ∷ es, after)

elements_goes : (n : ℕ) (o : Option (Element × List ℕ)) (rest : List ℕ) → rest_of o ≡ Some rest → rest_of (then_elements n o) ≡ rest_of (elements_at n false rest)
elements_goes n None rest e = let f : None ≡ Some rest = e in cc
elements_goes n (Some x) rest e = more x.0 (elements_at n false x.1) ∙ ap (λ r. rest_of (elements_at n false r)) (same_some x.1 rest e)
  where
    more : (b : Element) (o : Option (List Element × List ℕ)) → rest_of {A = List Element} (o >>= λ (bs, after). Some (b ∷ bs, after)) ≡ rest_of o
    more b None = refl
    more b (Some x) = refl

elements_stuck : (n : ℕ) (o : Option (Element × List ℕ)) → rest_of o ≡ None → rest_of (then_elements n o) ≡ None
elements_stuck n None e = refl
elements_stuck n (Some x) e = let f : Some x.1 ≡ None = e in cc

begins_one : (c d : ℕ) (t : List ℕ) → begins (d ∷ []) (c ∷ t) ≡ (d == c)
begins_one c d t = go (d == c)
  where
    go : (b : Bool) → (b && true) ≡ b
    go true = refl
    go false = refl

elements_first : (n : ℕ) (t : List ℕ) → elements_at (suc n) true t ≡ then_elements n (element_at t)
unfolding elements_at
elements_first n t = go (begins (codes "]") t)
  where
    go : (b : Bool) → (if b && not true then Some ([], drop 1 t) else then_elements n (element_at t)) ≡ then_elements n (element_at t)
    go true = refl
    go false = refl

elements_other : (n c : ℕ) (t : List ℕ) → (c ≡ 93 → ⊥) → elements_at (suc n) false (c ∷ t) ≡ then_elements n (element_at (c ∷ t))
unfolding elements_at
elements_other n c t other = rw (begins_one c 93 t ∙ ne_eqb 93 c (λ e. other (sym e))) refl

elements_end : (n : ℕ) (t : List ℕ) → elements_at (suc n) false (93 ∷ t) ≡ Some ([], t)
unfolding elements_at
elements_end n t = refl

no_element : element_at [] ≡ None
unfolding element_at bracketed_at class_name_at enclosed_by after_word
no_element = refl

no_elements : (n : ℕ) → rest_of (elements_at n false []) ≡ None
unfolding elements_at
no_elements zero = refl
no_elements (suc n) = rw no_element refl

class_elements : (text inside : List ℕ) → inside ≡ (if begins (codes "^") text then drop 1 text else text) → rest_of_class (class_at text) ≡ rest_of (elements_at (length text) true inside)
unfolding class_at
class_elements text inside e = rw e (go (begins (codes "^") text) (elements_at (length text) true (if begins (codes "^") text then drop 1 text else text)))
  where
    go : (b : Bool) (o : Option (List Element × List ℕ)) → rest_of_class (o >>= λ (es, rest). Some (b, es, rest)) ≡ rest_of o
    go b None = refl
    go b (Some x) = refl

-- the class goes on with this rest
pub record ClassSo (text rest : List ℕ) : Type 0 where
  pub bound : ℕ
  pub enough : length rest ≤ bound
  pub same : rest_of (elements_at bound false rest) ≡ rest_of_class (class_at text)

class_start : (n : ℕ) (text inside : List ℕ) → n ≡ length text → length inside ≤ n → inside ≡ (if begins (codes "^") text then drop 1 text else text)
    → (rest : List ℕ) → rest_of (element_at inside) ≡ Some rest → length rest < length inside → ClassSo text rest
class_start zero text inside e short at rest element shorter = absurd (omega arith)
class_start (suc n) text inside e short at rest element shorter = record {
  bound = n;
  enough = omega arith;
  same = sym (elements_goes n _ rest element) ∙ ap rest_of (sym (elements_first n inside)) ∙ ap (λ k. rest_of (elements_at k true inside)) e ∙ sym (class_elements text inside at);
}

pub class_first : (text inside rest : List ℕ) → inside ≡ (if begins (codes "^") text then drop 1 text else text) → length inside ≤ length text
    → rest_of (element_at inside) ≡ Some rest → length rest < length inside → ClassSo text rest
class_first text inside rest at short element shorter = class_start (length text) text inside refl short at rest element shorter

none_start : (n : ℕ) (text inside : List ℕ) → n ≡ length text → inside ≡ (if begins (codes "^") text then drop 1 text else text)
    → rest_of (element_at inside) ≡ None → rest_of_class (class_at text) ≡ None
unfolding elements_at
none_start zero text inside e at element = class_elements text inside at ∙ ap (λ k. rest_of (elements_at k true inside)) (sym e)
none_start (suc n) text inside e at element =
    class_elements text inside at ∙ ap (λ k. rest_of (elements_at k true inside)) (sym e) ∙ ap rest_of (elements_first n inside) ∙ elements_stuck n _ element

pub class_none : (text inside : List ℕ) → inside ≡ (if begins (codes "^") text then drop 1 text else text) → rest_of (element_at inside) ≡ None → rest_of_class (class_at text) ≡ None
class_none text inside at element = none_start (length text) text inside refl at element

-- what a bound at a text with a byte gives
class_here : (n : ℕ) (text t : List ℕ) (c : ℕ) (u : List ℕ) → t ≡ c ∷ u → length t ≤ suc n → (c ≡ 93 → ⊥) → rest_of (elements_at (suc n) false t) ≡ rest_of_class (class_at text)
    → rest_of (then_elements n (element_at t)) ≡ rest_of_class (class_at text)
class_here n text t c u e enough other same =
    ap (λ x. rest_of (then_elements n (element_at x))) e ∙ ap rest_of (sym (elements_other n c u other)) ∙ ap (λ x. rest_of (elements_at (suc n) false x)) (sym e) ∙ same

class_on : (n : ℕ) (text t rest : List ℕ) (c : ℕ) (u : List ℕ) → length t ≤ n → rest_of (elements_at n false t) ≡ rest_of_class (class_at text) → t ≡ c ∷ u → (c ≡ 93 → ⊥)
    → rest_of (element_at t) ≡ Some rest → length rest < length t → ClassSo text rest
class_on zero text t rest c u enough same e other element shorter = absurd (omega arith)
class_on (suc n) text t rest c u enough same e other element shorter = record {
  bound = n;
  enough = omega arith;
  same = sym (elements_goes n _ rest element) ∙ class_here n text t c u e enough other same;
}

pub class_next : (text t rest : List ℕ) (c : ℕ) (u : List ℕ) → ClassSo text t → t ≡ c ∷ u → (c ≡ 93 → ⊥) → rest_of (element_at t) ≡ Some rest → length rest < length t → ClassSo text rest
class_next text t rest c u so e other element shorter = class_on so.bound text t rest c u so.enough so.same e other element shorter

class_off : (n : ℕ) (text t : List ℕ) (c : ℕ) (u : List ℕ) → length t ≤ n → rest_of (elements_at n false t) ≡ rest_of_class (class_at text) → t ≡ c ∷ u → (c ≡ 93 → ⊥)
    → rest_of (element_at t) ≡ None → rest_of_class (class_at text) ≡ None
class_off zero text t c u enough same e other element = absurd (omega (arith, ap length e))
class_off (suc n) text t c u enough same e other element = sym (class_here n text t c u e enough other same) ∙ elements_stuck n _ element

pub class_stuck : (text t : List ℕ) (c : ℕ) (u : List ℕ) → ClassSo text t → t ≡ c ∷ u → (c ≡ 93 → ⊥) → rest_of (element_at t) ≡ None → rest_of_class (class_at text) ≡ None
class_stuck text t c u so e other element = class_off so.bound text t c u so.enough so.same e other element

class_closed : (n : ℕ) (text t : List ℕ) (c : ℕ) (u : List ℕ) → length t ≤ n → rest_of (elements_at n false t) ≡ rest_of_class (class_at text) → t ≡ c ∷ u → c ≡ 93 → rest_of_class (class_at text) ≡ Some u
class_closed zero text t c u enough same e bracket = absurd (omega (arith, ap length e))
class_closed (suc n) text t c u enough same e bracket =
    sym same ∙ ap (λ x. rest_of (elements_at (suc n) false x)) (e ∙ ap (λ x. x ∷ u) bracket) ∙ ap rest_of (elements_end n u)

pub class_end : (text t : List ℕ) (c : ℕ) (u : List ℕ) → ClassSo text t → t ≡ c ∷ u → c ≡ 93 → rest_of_class (class_at text) ≡ Some u
class_end text t c u so e bracket = class_closed so.bound text t c u so.enough so.same e bracket

pub class_open : (text t : List ℕ) → ClassSo text t → length t ≡ 0 → rest_of_class (class_at text) ≡ None
class_open text [] so e = sym so.same ∙ no_elements so.bound
class_open text (c ∷ t) so e = absurd (omega arith)
