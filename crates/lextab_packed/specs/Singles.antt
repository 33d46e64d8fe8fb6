-- Bytes that are matches by themselves, and conditions in which most bytes of a text are. (This project's.)
use Rattle.std.specs.Prelude.{◌≡◌, ℕ, ◌+◌, ◌*◌, ◌<◌, ◌≤◌, ◌⊎◌, Bool, List, length, slice_index, slice_get, ⊤}
use Rattle.std.specs.Option.{ForSome}
use Rattle.std.specs.Coded.{Unit-prop}
use Rattle.std.proofs.Props.{props}
use Rattle.lex_semantics.specs.Machine.{Machine}
use Rattle.lextab_packed.specs.Flats.{stop_of}
use Rattle.lextab_packed.specs.Leaps.{IsOther}
use Rattle.lextab_packed.specs.declared.kinds.Kind.TheVariants as Kind
use Rattle.lextab_packed.specs.declared.leaps.Leavers.{Leavers}
use Rattle.lextab_packed.specs.declared.singles.Most.{Most}
use Rattle.lextab_packed.specs.declared.singles.Most.TheVariants.{Other, Dropped, Copied}

-- by its mark, the machine stops at a target, where the first rule that is accepted does nothing
abbrev pub StopsSilent : ℕ → Type 0
StopsSilent target = (stop_of Kind.Silent ≤ target) × (target < stop_of Kind.Echo)

-- by its mark, the machine stops at a target, where no rule is accepted, or the first of them writes the text
abbrev pub StopsCopying : ℕ → Type 0
StopsCopying target =
    ((stop_of Kind.NoRule ≤ target) × (target < stop_of Kind.Silent))
    ⊎ ((stop_of Kind.Echo ≤ target) × (target < stop_of Kind.Any))

-- From one byte up to another each leads to such a silent target, from the state whose row is at this place.
pub record DropsTo (rows : List ℕ) (place from end : ℕ) : Type 0 where
  pub order : from ≤ end
  pub inside : end ≤ 256
  pub drops : (b : ℕ) → from ≤ b → b < end → StopsSilent (slice_index rows (place + b))

-- each byte but the three leads to one
abbrev pub OthersDrop : List ℕ → ℕ → Leavers → Type 0
OthersDrop rows place l = (b : ℕ) → b < 256 → IsOther l b → StopsSilent (slice_index rows (place + b))

-- the matches of a condition start in this state, at the start of a line or not
abbrev pub StartsIn : Machine → ℕ → ℕ → Type 0
StartsIn M condition first = (line_start : Bool) → M.start condition line_start ≡ first

-- what is told of most bytes of a text in a condition
abbrev pub TellsSingles : Machine → List ℕ → ℕ → Most → Type 0
TellsSingles M rows condition Other = ⊤
TellsSingles M rows condition (Dropped first kept) =
    StartsIn M condition first × ForSome kept (λ l. OthersDrop rows (256 * first) l)
TellsSingles M rows condition (Copied first) = StartsIn M condition first

-- the same of each condition
abbrev pub AllTellSingles : Machine → List ℕ → List Most → Type 0
AllTellSingles M rows most = (c : ℕ) → ForSome (slice_get most c) (λ m. TellsSingles M rows c m)

-- So many of the first bytes are of this kind.
pub record FirstAre (P : ℕ → Type 0) (bytes : List ℕ) (count : ℕ) : Type 0 where
  pub inside : count ≤ length bytes
  pub each : (i : ℕ) → i < count → P (slice_index bytes i)

-- There is one proof at most of what is told, so a type may keep it.
TellsSingles-prop : (M : Machine) (rows : List ℕ) (c : ℕ) (m : Most) → IsProp (TellsSingles M rows c m)
TellsSingles-prop M rows c Other = Unit-prop
TellsSingles-prop M rows c (Dropped first kept) = Prim.hlevel props
TellsSingles-prop M rows c (Copied first) = Prim.hlevel props

pub AllTellSingles-prop : (M : Machine) (rows : List ℕ) (most : List Most) → IsProp (AllTellSingles M rows most)
AllTellSingles-prop M rows most x y = λ k. λ c m is. TellsSingles-prop M rows c m (x c m is) (y c m is) k
