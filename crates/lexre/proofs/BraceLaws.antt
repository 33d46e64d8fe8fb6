-- What stands between braces.
use Rattle.std.proofs.Common.{◌≡◌, ℕ, List, length, Option, Some, refl}
use Rattle.std.specs.Prelude.{codes}
use Rattle.lex_semantics.specs.Reading.{goes_on_name, take_up_to, ◌>>=◌}
use Rattle.lexre_bytes.specs.Lexical.{after_word}
use Rattle.lexre.specs.Fronts.{name_front}
use Rattle.lexre_bytes.specs.Symbols.{Symbol, name}

pub name_then : (t letters rest : List ℕ) (o : Option (List ℕ)) → ◌≡◌ {A = List ℕ × List ℕ} (take_up_to (length t) goes_on_name t) (letters, rest)
    → after_word (codes "}") rest ≡ o → ◌≡◌ {A = Option (Symbol × List ℕ)} (name_front t) (o >>= λ after. Some (name letters, after))
unfolding name_front
name_then t letters rest o e f = rw (e, f) refl
