use Rattle.std.proofs.Common.{◌≡◌, ℕ, ◌++◌, ◌≤◌, ◌==◌, flat_map}
use Rattle.std.specs.Prelude.{slice_index}
use Rattle.std.specs.List.{range_with_len}
use Rattle.lexlook_specs.specs.Pictures.{edge_at, leads_below}
use Rattle.lexlook_specs.proofs.picture.edges.add_edges.Given as goal

abbrev pub invariant-loop-byte : goal.invariant-loop-byte
invariant-loop-byte l =
    (l.text.items ≡ l.fn.text.items ++ flat_map (edge_at l.state (slice_index l.row)) (range_with_len 0 l.byte))
    × ((t : ℕ) → (slice_index l.drawn t == l.state) ≡ leads_below (slice_index l.row) t l.byte)
    × ((t : ℕ) → slice_index l.drawn t ≤ l.state)
