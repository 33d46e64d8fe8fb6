use Rattle.std.proofs.Common.{◌≡◌, ℕ, List, ◌++◌, Option, Some, None, take, drop, sym, ap, ◌∙◌, arith}
use Rattle.std.specs.Io.KnownBytes.{Consumes, prepend_known}
use Rattle.std.proofs.lemmas.List.{take-append-drop, append_assoc}
use Rattle.lex_io.specs.ByteReaders.{bytes_ahead}
use Rattle.lex_io.proofs.from_bytes.FromBytesSource.give.Goals as goal

-- the first of the bytes ahead are lost
front_lost : (left : Option (List ℕ)) (k : ℕ) (old new : List ℕ) → new ≡ drop k old → Consumes (prepend_known old left) (prepend_known new left) (take k old)
front_lost None k old new e = tt
front_lost (Some xs) k old new e = ap (λ l. l ++ xs) (sym (take-append-drop k old)) ∙ append_assoc (take k old) (drop k old) xs ∙ ap (λ l. take k old ++ l) (ap (λ l. l ++ xs) (sym e))

pub returns-clause-bytes : goal.returns-clause-bytes
returns-clause-bytes g c = record {
  taken = rw c.skip.ensures.reader (front_lost (g.R.Read.remaining c.args.self.now.reader.reader) c.args.count (bytes_ahead c.args.self.now.reader) (bytes_ahead c.skip.new.self) c.skip.ensures.ahead);
  later = omega arith;
  whole = λ h. absurd (omega (arith, h));
}
