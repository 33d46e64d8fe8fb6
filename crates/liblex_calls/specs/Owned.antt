-- What a pointer to a box owns, where there is one.
use Rattle.std.specs.Prelude.{Option, Some, None}
use base.Fml.{Fml, ftrue}
use denote.RattleType.{RattleType}
use denote.RawPtr.{Ptr}
use Rattle.std.specs.contracts.impls.GlobalAllocator.TheImpl.{ghosts}
use Rattle.std.specs.declared.alloc.Global.{Global}
use Rattle.std.specs.Box.Ownership.{box_owns}

-- the allocator, which has nothing in it
abbrev pub heap : Global
heap = record { memory = record { seal = tt } }

abbrev pub owned_at : (R : RattleType) → Ptr → Option R.Denot → Fml
owned_at R p None = ftrue
owned_at R p (Some x) = box_owns (ghosts.dealloc_token heap) R p x
