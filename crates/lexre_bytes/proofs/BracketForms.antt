-- What stands between brackets is what it is step by step.
use Rattle.std.proofs.Common.{◌≡◌, ℕ, Bool, true, false, if◌then◌else◌, List, length, drop, ◌++◌, Option, Some, None, refl, sym, ◌∙◌, subst}
use Rattle.std.proofs.lemmas.Slice.Eq.{starts_is}
use Rattle.std.proofs.lemmas.Bool.Decides.{Decides-eqb}
use Rattle.std.specs.Prelude.{codes}
use Rattle.std.specs.Option.{option_or}
use Rattle.lex_semantics.specs.ByteSets.{is_alpha}
use Rattle.lex_semantics.specs.Reading.{◌>>=◌, is_empty, take_run}
use Rattle.lexre_bytes.specs.Lexical.{after_word, run_at, class_name_at, enclosed_by, bracketed_at}
use Rattle.lexre_bytes.specs.Elements.{Element, named, unsupported}
use Rattle.lexre_bytes.specs.Brackets.{letters_at, named_at, enclosed_at, unsupported_at}
use Rattle.lexre_bytes.proofs.BraceForms.{or_none}
use Rattle.lexre_bytes.proofs.IntervalLaws.{begun}

abbrev Found : Type 0
Found = Option (Element × List ℕ)

abbrev Letters : Type 0
Letters = Option (List ℕ × List ℕ)

-- a text that begins with one of the openings begins with no other
begins_so : (w t u : List ℕ) → after_word w t ≡ Some u → t ≡ w ++ drop (length w) t
begins_so w t u e = (starts_is Decides-eqb t w true (sym (begun w t u e).0)).0 refl

no_other : (t u : List ℕ) → after_word (codes "[:^") t ≡ Some u → (after_word (codes "[=") t ≡ None) × (after_word (codes "[.") t ≡ None)
unfolding after_word
no_other t u e = subst (λ z. (after_word (codes "[=") z ≡ None) × (after_word (codes "[.") z ≡ None)) (sym (begins_so (codes "[:^") t u e)) (refl, refl)

no_dot : (t u : List ℕ) → after_word (codes "[=") t ≡ Some u → after_word (codes "[.") t ≡ None
unfolding after_word
no_dot t u e = subst (λ z. after_word (codes "[.") z ≡ None) (sym (begins_so (codes "[=") t u e)) refl

letters_is : (u : List ℕ) → ◌≡◌ {A = Letters} (run_at is_alpha u >>= λ (letters, rest). after_word (codes ":]") rest >>= λ after. Some (letters, after)) (letters_at u)
unfolding run_at letters_at
letters_is u = go (is_empty (take_run is_alpha u).0)
  where
    go : (b : Bool) → ◌≡◌ {A = Letters} ((if b then None else Some (take_run is_alpha u)) >>= λ (letters, rest). after_word (codes ":]") rest >>= λ after. Some (letters, after))
        (if b then None else after_word (codes ":]") (take_run is_alpha u).1 >>= λ after. Some ((take_run is_alpha u).0, after))
    go true = refl
    go false = refl

letters_after : (o : Option (List ℕ)) → ◌≡◌ {A = Letters} (o >>= λ u. run_at is_alpha u >>= λ (letters, rest). after_word (codes ":]") rest >>= λ after. Some (letters, after)) (o >>= letters_at)
letters_after None = refl
letters_after (Some u) = letters_is u

named_form : (t : List ℕ) → ◌≡◌ {A = Letters} (class_name_at (codes "[:") t) (named_at t)
unfolding class_name_at named_at
named_form t = letters_after (after_word (codes "[:") t)

abbrev others : List ℕ → Option (List ℕ)
others t = option_or (class_name_at (codes "[:^") t >>= λ (letters, rest). Some rest) (option_or (enclosed_by (codes "=") t) (enclosed_by (codes ".") t))

negated_form : (t : List ℕ) → ◌≡◌ {A = Letters} (class_name_at (codes "[:^") t) (after_word (codes "[:^") t >>= letters_at)
unfolding class_name_at
negated_form t = letters_after (after_word (codes "[:^") t)

equivalence_form : (t : List ℕ) → enclosed_by (codes "=") t ≡ (after_word (codes "[=") t >>= enclosed_at 61)
unfolding enclosed_by enclosed_at
equivalence_form t = refl

collating_form : (t : List ℕ) → enclosed_by (codes ".") t ≡ (after_word (codes "[.") t >>= enclosed_at 46)
unfolding enclosed_by enclosed_at
collating_form t = refl

others_form : (t : List ℕ) → others t ≡ unsupported_at t
unfolding unsupported_at
others_form t =
    rw (negated_form t, equivalence_form t, collating_form t) (go (after_word (codes "[:^") t) (after_word (codes "[=") t) refl refl)
  where
    go : (a b : Option (List ℕ)) → after_word (codes "[:^") t ≡ a → after_word (codes "[=") t ≡ b
        → option_or ((a >>= letters_at) >>= λ (letters, rest). Some rest) (option_or (b >>= enclosed_at 61) (after_word (codes "[.") t >>= enclosed_at 46)) ≡ elim a [
          | Some rest ↦ letters_at rest >>= λ (letters, after). Some after
          | None ↦ elim b [
            | Some rest ↦ enclosed_at 61 rest
            | None ↦ after_word (codes "[.") t >>= enclosed_at 46
          ]
        ]
    go (Some u) b e f =
        let none = no_other t u e in
        let g : b ≡ None = sym f ∙ none.0 in
        rw (g, none.1) (or_none (letters_at u >>= λ (letters, rest). Some rest))
    go None (Some u) e f = rw (no_dot t u f) (or_none (enclosed_at 61 u))
    go None None e f = refl

pub bracketed_form : (t : List ℕ) → ◌≡◌ {A = Found} (bracketed_at t) (elim (named_at t) [
  | Some found ↦ Some (named found.0, found.1)
  | None ↦ elim (unsupported_at t) [
    | Some rest ↦ Some (unsupported, rest)
    | None ↦ None
  ]
])
unfolding bracketed_at
bracketed_form t = rw (named_form t, others_form t) (go (named_at t) (unsupported_at t))
  where
    go : (a : Letters) (b : Option (List ℕ)) → ◌≡◌ {A = Found} (option_or (a >>= λ (letters, rest). Some (named letters, rest)) (b >>= λ rest. Some (unsupported, rest))) (elim a [
      | Some found ↦ Some (named found.0, found.1)
      | None ↦ elim b [
        | Some rest ↦ Some (unsupported, rest)
        | None ↦ None
      ]
    ])
    go (Some x) b = refl
    go None (Some u) = refl
    go None None = refl
