-- What the source over a slice has left, and how often it answered its end.
use Rattle.std.specs.Prelude.{ℕ, List}
use Rattle.lex_io.specs.declared.slice_source.SliceSource.{SliceSource}

-- the bytes that it has not given yet
abbrev pub slice_rest : SliceSource → List ℕ
slice_rest source = source.rest.now

-- how often it answered its end
abbrev pub slice_ends : SliceSource → ℕ
slice_ends source = source.ends
