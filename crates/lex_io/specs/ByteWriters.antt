-- What the writer with a buffer holds.
use Rattle.std.specs.Prelude.{◌≡◌, ℕ, ◌-◌, List, ◌++◌, take, Option}
use Rattle.std.specs.Io.KnownBytes.{append_known}
use Rattle.lex_io.specs.declared.byte_writer.ByteWriter.{ByteWriter}

-- the writer behind it
abbrev pub writer_behind : {W : Type 0} → ByteWriter W → W
writer_behind w = w.writer

-- the bytes that were written to it and have not reached the writer behind
abbrev pub bytes_held : {W : Type 0} → ByteWriter W → List ℕ
bytes_held w = take w.held.end w.held.buffer.items

-- what the writer behind holds and then the bytes held here, where that is known: so what has reached it is a front of
-- this
abbrev pub bytes_written : {W : Type 0} → (W → Option (List ℕ)) → ByteWriter W → Option (List ℕ)
bytes_written written w = append_known (written w.writer) (bytes_held w)

-- how many more bytes it holds before it pours
abbrev pub room_in : {W : Type 0} → ByteWriter W → ℕ
room_in w = w.held.capacity - w.held.end

-- these bytes joined those held, and the writer behind was not touched
abbrev pub Holds : {W : Type 0} → ByteWriter W → ByteWriter W → List ℕ → Type 0
Holds old new bytes = (writer_behind new ≡ writer_behind old) × (bytes_held new ≡ bytes_held old ++ bytes)

-- the bytes end with these
abbrev pub EndsWith : List ℕ → List ℕ → Type 0
EndsWith bytes back = (front : List ℕ) × (bytes ≡ front ++ back)
