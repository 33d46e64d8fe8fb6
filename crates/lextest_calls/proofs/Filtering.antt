-- A scan to the end over a reader is the run over all that the reader had.
use Rattle.std.proofs.Common.{◌≡◌, ℕ, Bool, true, false, List, Option, Some, None, IfSome, refl}
use Rattle.std.specs.Prelude.{nat_lt}
use Rattle.std.specs.Io.KnownBytes.{Consumes}
use Rattle.std.proofs.lemmas.Bool.{ltb-true}
use Rattle.lex_semantics.specs.Text.{IsText}
use Rattle.lex_semantics.specs.Rules.{Rules}
use Rattle.lex_semantics.specs.Acting.{Status}
use Rattle.lex_semantics.specs.Run.{Run}
use Rattle.lex_semantics.specs.Demand.{ExtendsGiven}
use Rattle.lex_semantics.proofs.After.{turns_of}
use Rattle.lex_io.specs.Source.{Gives}
use Rattle.lexscan.specs.TurnInvariants.{RunCompleted}

front : (x given : List ℕ) (known : Option (List ℕ)) → Consumes (Some x) known given → ExtendsGiven given false x
front x given None h = elim h [ ]
front x given (Some rest) h = (rest, h)

goes : (x given : List ℕ) (known : Option (List ℕ)) (ends ends' : ℕ) (b : Bool) → nat_lt ends ends' ≡ b → Gives (Some x) known ends ends' given → ExtendsGiven given b x
goes x given known ends ends' true e h = h.whole (ltb-true ends ends' e)
goes x given known ends ends' false e h = front x given known h.taken

pub runs : (R : Rules) (given out : List ℕ) (status : ℕ) (known known' : Option (List ℕ)) (ends ends' : ℕ) → Gives known known' ends ends' given
    → RunCompleted R given out (nat_lt ends ends') (Status status) → IfSome known (λ x. IsText x → Run R x out (Status status))
runs R given out status None known' ends ends' g h = tt
runs R given out status (Some x) known' ends ends' g h = λ text. (h.turns, h.place, (turns_of _ _ _ _ _ (h.scanned x (text, goes x given known' ends ends' (nat_lt ends ends') refl g))))
