-- An escape is what it is step by step.
use Rattle.std.proofs.Common.{◌≡◌, ℕ, List, [], ◌∷◌, Option, Some, None, refl}
use Rattle.std.specs.Prelude.{unwrap_or}
use Rattle.std.specs.Option.{option_or}
use Rattle.std.proofs.lemmas.Bool.{ne_eqb}
use Rattle.lex_semantics.specs.Escapes.{simple_escape, hexadecimal_at}
use Rattle.lexre_bytes.specs.Lexical.{after_word, escape_at}
use Rattle.lexre_bytes.specs.EscapeSteps.{escape_from}
use Rattle.lexre_bytes.proofs.SignLaws.{by_sign, turned}

abbrev Byte : Type 0
Byte = Option (ℕ × List ℕ)

or_itself : (o : Byte) (x : ℕ × List ℕ) → ◌≡◌ {A = Byte} (option_or o (Some x)) (Some (unwrap_or o x))
or_itself None x = refl
or_itself (Some y) x = refl

pub escape_is : (t : List ℕ) → ◌≡◌ {A = Byte} (escape_at t) (escape_from t)
unfolding escape_at escape_from after_word simple_escape
escape_is [] = refl
escape_is (c ∷ t) = by_sign c 10 (λ e. rw e refl) (λ m. rw (ne_eqb c 10 m, turned c 10 m) (by_sign c 120
    (λ e. rw e (or_itself (hexadecimal_at t) (120, t)))
    (λ n. rw (ne_eqb c 120 n, turned c 120 n) refl)))
