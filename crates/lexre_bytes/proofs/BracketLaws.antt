-- What stands between brackets inside a class.
use Rattle.std.proofs.Common.{◌≡◌, ℕ, ◌<◌, ◌≤◌, Bool, true, false, ◌&&◌, nat_lt, nat_eq, if◌then◌else◌, List, [], ◌∷◌, length, Option, Some, None, refl, ap, ◌∙◌}
use Rattle.std.proofs.lemmas.Bool.{lt-ltb, le-ltb}
use Rattle.std.specs.List.{ends_with}
use Rattle.std.specs.Prelude.{codes}
use Rattle.lex_semantics.specs.ByteSets.{is_alpha}
use Rattle.lex_semantics.specs.Reading.{take_up_to, is_empty, ◌>>=◌}
use Rattle.lexre_bytes.specs.Lexical.{after_word}
use Rattle.lexre_bytes.specs.Stops.{inside}
use Rattle.lexre_bytes.specs.Brackets.{letters_at, named_at, enclosed_at, unsupported_at}

abbrev Cut : Type 0
Cut = Option (List ℕ × List ℕ)

abbrev ending : List ℕ → List ℕ → Cut
ending letters rest = if is_empty letters then None else after_word (codes ":]") rest >>= λ after. Some (letters, after)

letters_from : (t letters rest : List ℕ) → ◌≡◌ {A = List ℕ × List ℕ} (take_up_to (length t) is_alpha t) (letters, rest) → letters_at t ≡ ending letters rest
unfolding letters_at
letters_from t letters rest e = rw e refl

pub no_letters : (t letters rest : List ℕ) → ◌≡◌ {A = List ℕ × List ℕ} (take_up_to (length t) is_alpha t) (letters, rest)
    → is_empty letters ≡ true → ◌≡◌ {A = Cut} (letters_at t) None
no_letters t letters rest e none = letters_from t letters rest e ∙ rw none refl

pub letters_then : (t letters rest : List ℕ) (o : Option (List ℕ)) → ◌≡◌ {A = List ℕ × List ℕ} (take_up_to (length t) is_alpha t) (letters, rest)
    → is_empty letters ≡ false → after_word (codes ":]") rest ≡ o → ◌≡◌ {A = Cut} (letters_at t) (o >>= λ after. Some (letters, after))
letters_then t letters rest o e some f = letters_from t letters rest e ∙ rw (some, f) refl

pub named_then : (t : List ℕ) (o : Option (List ℕ)) → after_word (codes "[:") t ≡ o → ◌≡◌ {A = Cut} (named_at t) (o >>= letters_at)
unfolding named_at
named_then t o e = ap (λ x. x >>= letters_at) e

abbrev IsInside : List ℕ → List ℕ → List ℕ → Type 0
IsInside t bytes rest = ◌≡◌ {A = List ℕ × List ℕ} (take_up_to (length t) inside t) (bytes, rest)

enclosed_from : (c : ℕ) (t bytes rest : List ℕ) → IsInside t bytes rest
    → enclosed_at c t ≡ (if nat_lt 1 (length bytes) && ends_with nat_eq bytes (c ∷ []) then after_word (codes "]") rest else None)
unfolding enclosed_at
enclosed_from c t bytes rest e = rw e refl

pub enclosed_then : (c : ℕ) (t bytes rest : List ℕ) (o : Option (List ℕ)) → IsInside t bytes rest
    → 1 < length bytes → ends_with nat_eq bytes (c ∷ []) ≡ true → after_word (codes "]") rest ≡ o → enclosed_at c t ≡ o
enclosed_then c t bytes rest o e some ends f = enclosed_from c t bytes rest e ∙ rw (lt-ltb 1 (length bytes) some, ends) f

pub enclosed_short : (c : ℕ) (t bytes rest : List ℕ) → IsInside t bytes rest → length bytes ≤ 1 → enclosed_at c t ≡ None
enclosed_short c t bytes rest e few = enclosed_from c t bytes rest e ∙ rw (le-ltb 1 (length bytes) few) refl

neither : (b : Bool) (o : Option (List ℕ)) → (if b && false then o else None) ≡ None
neither true o = refl
neither false o = refl

pub enclosed_other : (c : ℕ) (t bytes rest : List ℕ) → IsInside t bytes rest → ends_with nat_eq bytes (c ∷ []) ≡ false → enclosed_at c t ≡ None
enclosed_other c t bytes rest e ends = enclosed_from c t bytes rest e ∙ rw ends (neither (nat_lt 1 (length bytes)) (after_word (codes "]") rest))

pub negated_then : (t u : List ℕ) (o : Cut) → after_word (codes "[:^") t ≡ Some u → ◌≡◌ {A = Cut} (letters_at u) o → unsupported_at t ≡ (o >>= λ (letters, after). Some after)
unfolding unsupported_at after_word
negated_then t u o e f = rw (e, f) refl

pub equivalence_then : (t u : List ℕ) (o : Option (List ℕ)) → after_word (codes "[:^") t ≡ None → after_word (codes "[=") t ≡ Some u → enclosed_at 61 u ≡ o → unsupported_at t ≡ o
unfolding unsupported_at after_word
equivalence_then t u o e f g = rw (e, f) g

pub collating_then : (t : List ℕ) (o : Option (List ℕ)) → after_word (codes "[:^") t ≡ None → after_word (codes "[=") t ≡ None → after_word (codes "[.") t ≡ o
    → unsupported_at t ≡ (o >>= enclosed_at 46)
unfolding unsupported_at after_word
collating_then t o e f g = rw (e, f) (ap (λ x. x >>= enclosed_at 46) g)
