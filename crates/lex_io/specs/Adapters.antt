-- What the adapters stand on, and what they count.
use Rattle.std.specs.Prelude.{ℕ, Bool}
use Rattle.lex_io.specs.declared.sink.ToWrite.{ToWrite}
use Rattle.lex_io.specs.declared.source.FromRead.{FromRead}
use Rattle.lex_io.specs.declared.byte_reader.ByteReader.{ByteReader}
use Rattle.lex_io.specs.declared.from_bytes.FromBytes.{FromBytes}
use Rattle.lex_io.specs.declared.byte_writer.ByteWriter.{ByteWriter}
use Rattle.lex_io.specs.declared.to_bytes.ToBytes.{ToBytes}

-- the writer, as the calls so far have left it
abbrev pub writer_of : {W : Type 0} → ToWrite W → W
writer_of sink = sink.writer

-- how often the sink over it failed, and whether a flush was answered since bytes were put
abbrev pub writer_failures : {W : Type 0} → ToWrite W → ℕ
writer_failures sink = sink.failures

abbrev pub writer_flushed : {W : Type 0} → ToWrite W → Bool
writer_flushed sink = sink.flushed

-- the reader, as the calls so far have left it
abbrev pub reader_of : {R : Type 0} → FromRead R → R
reader_of source = source.reader

-- how often the source over it answered the end, and failed
abbrev pub reader_ends : {R : Type 0} → FromRead R → ℕ
reader_ends source = source.ends

abbrev pub reader_failures : {R : Type 0} → FromRead R → ℕ
reader_failures source = source.failures

-- the reader with a buffer, as the calls so far have left it
abbrev pub byte_reader_of : {R : Type 0} → FromBytes R → ByteReader R
byte_reader_of source = source.reader

abbrev pub byte_reader_ends : {R : Type 0} → FromBytes R → ℕ
byte_reader_ends source = source.ends

abbrev pub byte_reader_failures : {R : Type 0} → FromBytes R → ℕ
byte_reader_failures source = source.failures

-- the writer with a buffer, as the calls so far have left it
abbrev pub byte_writer_of : {W : Type 0} → ToBytes W → ByteWriter W
byte_writer_of sink = sink.writer

abbrev pub byte_writer_failures : {W : Type 0} → ToBytes W → ℕ
byte_writer_failures sink = sink.failures.count
