use Rattle.std.proofs.Common.{◌≡◌, ℕ, ◌+◌, ◌-◌, List, ◌++◌, length, take, drop, sym, ap, ◌∙◌, arith}
use Rattle.std.proofs.lemmas.List.{take-append-drop, drop-drop, length-take-le}
use Rattle.std.proofs.Math.Seq.{take-append_seam}
use Rattle.lex_io.proofs.byte_reader.ByteReader.give.Goals as goal

-- the bytes given and then those that stay ahead
given_first : (k start : ℕ) (buffer given rest : List ℕ) → given ≡ take k (drop start buffer) → length given ≡ k → drop start buffer ≡ take k (given ++ rest) ++ drop (start + k) buffer
given_first k start buffer given rest e size =
    let front : take k (given ++ rest) ≡ take k (drop start buffer) = ap (λ n. take n (given ++ rest)) (sym size) ∙ take-append_seam given rest ∙ e in
    rw front (sym (take-append-drop k (drop start buffer)) ∙ ap (λ l. take k (drop start buffer) ++ l) (drop-drop k start buffer ∙ ap (λ n. drop n buffer) (omega arith)))

pub returns-clause-ahead : goal.returns-clause-ahead
returns-clause-ahead g c =
    let start : ℕ = c.args.self.now.start in
    let buffer : List ℕ = c.args.self.now.buffer.items in
    given_first c.min-count.result start buffer c.copy_from_slice.new.self _
    (c.copy_from_slice.ensures.after ∙ ap (λ l. take (start + c.min-count.result - start) (drop start l)) c.deref.ensures.value ∙ ap (λ k. take k (drop start buffer)) (omega arith))
    (c.copy_from_slice.ensures.len ∙ length-take-le c.min-count.result c.args.buf.now (omega arith))
