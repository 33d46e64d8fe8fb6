-- Tokens that lie in an input.
use Rattle.std.proofs.Common.{◌≡◌, ℕ, zero, suc, ◌≤◌, ◌<◌, List, [], ◌∷◌, ◌++◌, length, drop, ap, ◌∙◌, sym, subst, arith}
use Rattle.std.proofs.Math.Seq.{drop-append_seam}
use Rattle.std.specs.Prelude.{slice_index_or}
use Rattle.lexscan.specs.declared.token.Token.{Token}
use Rattle.lexscan.specs.Tokens.{LieIn}

-- one of them
pub lies_at : (size from : ℕ) (us : List Token) (i : ℕ) (d : Token) → LieIn size from us → i < length us → ((slice_index_or us i d).start ≤ (slice_index_or us i d).end) × ((slice_index_or us i d).end ≤ size)
lies_at size from [] i d h lt = absurd (omega (arith, lt))
lies_at size from (u ∷ us) zero d h lt = (h.1, h.2)
lies_at size from (u ∷ us) (suc i) d h lt = lies_at size u.start us i d h.3 (omega (arith, lt))

-- those that were appended to a list
pub lie_after : (size : ℕ) (old new us : List Token) → new ≡ old ++ us → LieIn size 0 us → LieIn size 0 (drop (length old) new)
lie_after size old new us is h = subst (LieIn size 0) (sym (ap (drop (length old)) is ∙ drop-append_seam old us)) h
