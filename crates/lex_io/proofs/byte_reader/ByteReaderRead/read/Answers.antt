use Rattle.std.proofs.Common.{◌≡◌, ℕ, ◌<◌, List, [], ◌∷◌, ◌++◌, Option, length, take, set, length-set, refl, sym, ap, ◌∙◌, arith}
use Rattle.std.specs.Io.KnownBytes.{Keeps, Consumes, IsAtEnd, prepend_known}
use Rattle.std.proofs.Math.ListN.{drop_of_length-le}
use Rattle.std.proofs.KnownBytes.{prepend_known-read, Keeps-refl}
use Rattle.lex_io.specs.ByteReaders.{bytes_ahead, bytes_left}
use Rattle.lex_io.proofs.byte_reader.ByteReaderRead.read.Goals as goal
use Rattle.lex_io.proofs.byte_reader.ByteReaderRead.read.Goals.{then-self-len+in-Bytes, else-self-len}

-- the first place has what was put there
first_is : (xs : List ℕ) (x : ℕ) → length xs ≡ 1 → take 1 (set xs 0 x) ≡ x ∷ []
first_is [] x one = absurd (omega (arith, one))
first_is (y ∷ ys) x one = refl

-- the first byte ahead went to the one place that there is
one_given : (buf old new : List ℕ) (x : ℕ) → length buf ≡ 1 → old ≡ x ∷ new → old ≡ take 1 (set buf 0 x) ++ new
one_given buf old new x one e = e ∙ ap (λ l. l ++ new) (sym (first_is buf x one))

one_consumed : (a b c : Option (List ℕ)) (buf old new : List ℕ) (x : ℕ) → length buf ≡ 1 → old ≡ x ∷ new → c ≡ b → Keeps a (prepend_known old b)
    → Consumes a (prepend_known new c) (take 1 (set buf 0 x)) × (◌≡◌ {A = ℕ} 1 0 → 0 < length (set buf 0 x) → IsAtEnd (prepend_known new c))
one_consumed a b c buf old new x one e same kept =
    let given : old ≡ take 1 (set buf 0 x) ++ new = one_given buf old new x one e in
    let none : ◌≡◌ {A = ℕ} 1 0 → (new ≡ []) × IsAtEnd b = λ no. absurd (omega arith) in
    let read = prepend_known-read a b old new (take 1 (set buf 0 x)) (◌≡◌ {A = ℕ} 1 0) kept given none in
    rw same (read.0, λ no some. absurd (omega arith))

pub returns-then-buf-eq1-clause-bytes : goal.returns-then-buf-eq1-clause-bytes
returns-then-buf-eq1-clause-bytes g c =
    let left = bytes_left g.R.Read.remaining in
    let kept : Keeps (left c.args.self.now) (left c.if-self-len.self) = elim c.if-self-len.branch [
      | then-self-len+in-Bytes w ↦ rw w.self-is w.refill.ensures.bytes
      | else-self-len w ↦ rw w.self-is (Keeps-refl _)
    ] in
    one_consumed (left c.args.self.now) (g.R.Read.remaining c.if-self-len.self.reader) (g.R.Read.remaining c.give_byte.new.self.reader)
    c.args.buf.now (bytes_ahead c.if-self-len.self) (bytes_ahead c.give_byte.new.self) c.give_byte.result (omega arith)
    c.give_byte.ensures.ahead (ap g.R.Read.remaining c.give_byte.ensures.reader) kept

pub returns-then-buf-eq1-clause-ahead : goal.returns-then-buf-eq1-clause-ahead
returns-then-buf-eq1-clause-ahead g c some =
    let before = c.args.self.now in
    let after = c.give_byte.new.self in
    let x = c.give_byte.result in
    elim c.if-self-len.branch [
      | then-self-len+in-Bytes w ↦ absurd (some (drop_of_length-le before.buffer.items (omega arith)))
      | else-self-len w ↦
          let ahead : bytes_ahead before ≡ x ∷ bytes_ahead after = ap bytes_ahead (sym w.self-is) ∙ c.give_byte.ensures.ahead in
          let long = ap length ahead in (
            c.give_byte.ensures.reader ∙ ap (λ s. s.reader) w.self-is,
            (omega (arith, length-set {A = ℕ}), one_given c.args.buf.now (bytes_ahead before) (bytes_ahead after) x (omega arith) ahead),
          )
    ]
