-- What a `Stack` stands for.
use Rattle.std.specs.Prelude.{◌≡◌, ℕ, map, reverse, option_map, Option, Some, None, Result, Ok, Err}
use Rattle.lexre.specs.Outcome.{UnlessPatternMemory}
use Rattle.lexre.specs.Running.{State, frame, state, on_item, on_series}
use Rattle.lexre.specs.Running as run
use Rattle.lexre.specs.Views.{tree_of}
use Rattle.lexre_bytes.specs.declared.error.PatternErrorKind.{PatternErrorKind}
use Rattle.lexre.specs.declared.frames.Frame.{Frame}
use Rattle.lexre.specs.declared.frames.Signs.{Signs}
use Rattle.lexre.specs.declared.frames.Signs.TheVariants.{OnItem, OnSeries}
use Rattle.lexre.specs.declared.frames.Stack.{Stack}

abbrev pub signs_of : Signs → run.Signs
signs_of (OnItem before k) = on_item before k
signs_of (OnSeries k) = on_series k

abbrev pub frame_of : Frame → run.Frame
frame_of f = frame (map tree_of f.done.items) (map tree_of f.parts.items) (option_map tree_of f.last) (signs_of f.signs)

abbrev pub state_of : Stack → State
state_of s = state (frame_of s.here) (reverse (map frame_of s.outer.items)) s.left

-- A step leads to `new` and brings as many nodes as were answered; or there is no step.
abbrev pub StepsTo : Result ℕ PatternErrorKind → Option State → ℕ → State → Type 0
StepsTo (Ok n) step adds new = (step ≡ Some new) × (n ≡ adds)
StepsTo (Err kind) step adds new = UnlessPatternMemory kind (step ≡ None)
