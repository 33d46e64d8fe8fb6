-- What the calls of a source give. (Own.)
use Rattle.std.specs.Prelude.{◌≡◌, ℕ, ◌<◌, ◌≤◌, List, [], ◌∷◌, Option, Some, None, IfSome, Result, Ok, Err}
use Rattle.std.specs.Io.KnownBytes.{Consumes}

-- the byte that an answer gives, as a list
abbrev pub given : {E : Type 0} → Result (Option ℕ) E → List ℕ
given (Ok (Some byte)) = byte ∷ []
given (Ok None) = []
given (Err e) = []

-- 1 where the answer is the end
abbrev pub end_count : {E : Type 0} → Result (Option ℕ) E → ℕ
end_count (Ok (Some byte)) = 0
end_count (Ok None) = 1
end_count (Err e) = 0

-- What calls over a reader did, by the bytes that are known to be left in it before and after:
-- it lost these bytes and no others, and where an end was answered they are all that it had.
pub record Gives (known known' : Option (List ℕ)) (ends ends' : ℕ) (bytes : List ℕ) : Type 0 where
  pub taken : Consumes known known' bytes
  pub later : ends ≤ ends'
  pub whole : ends < ends' → IfSome known (λ all. all ≡ bytes)
