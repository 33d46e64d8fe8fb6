use Rattle.std.proofs.Common.{ℕ, ◌<◌, slice_index}
use Rattle.lextab_packed.specs.Passes.{IsGood}
use Rattle.lextab_packed.specs.Steps.{step_of}
use Rattle.lextab_packed.specs.Views.{table_of}
use Rattle.lextab_packed.proofs.passes.leads.Given as goal

abbrev pub invariant-loop-byte : goal.invariant-loop-byte
invariant-loop-byte l =
    (k : ℕ) → k < l.byte-index → IsGood l.accepting l.live (step_of (table_of l.parts) l.state (slice_index l.bytes k)) → ⊥
