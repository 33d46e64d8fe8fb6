-- What stands in a buffer of a caller after a call. (Own.)
use Rattle.std.specs.Prelude.{◌≡◌, ℕ, ◌<◌, ◌≤◌, List, ◌++◌, length, take, drop}
use Rattle.liblex_calls.specs.declared.answer.Answer.{Answer}
use Rattle.liblex_calls.specs.declared.answer.Answer.TheVariants as answers

-- the items stand at the front, as many as there is room for, and the rest of the buffer is as it was; how many items
-- there are is told
pub record HandedOut {A : Type 0} (items old new : List A) (count : ℕ) : Type 0 where
  pub buffer : new ≡ take (length old) items ++ drop (length items) old
  pub count_is : count ≡ length items

-- the answer says whether there is room for all
abbrev pub FitsInto : {A : Type 0} → List A → List A → Answer → Type 0
FitsInto items buffer answers.Done = length items ≤ length buffer
FitsInto items buffer answers.TooSmall = length buffer < length items
FitsInto items buffer other = ⊥

-- nothing was handed out
pub record NothingOut {A : Type 0} (old new : List A) (count : ℕ) : Type 0 where
  pub buffer : new ≡ old
  pub count_is : count ≡ 0
