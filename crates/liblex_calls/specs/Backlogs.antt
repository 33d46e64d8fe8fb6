-- What is still to be handed out. (Own.)
use Rattle.std.specs.Prelude.{ℕ, List, take, drop}
use Rattle.liblex_calls.specs.declared.backlog.Backlog.{Backlog}

-- the bytes that were written and not handed out yet
abbrev pub rest : Backlog → List ℕ
rest b = drop b.from (take b.end b.buffer.items)
