use Rattle.std.proofs.Common.{◌≡◌, ℕ, ◌+◌, ◌*◌, List, length, slice_index, sym, ap, ◌∙◌, arith}
use Rattle.std.proofs.lemmas.Bool.{cond-true, lt-ltb}
use Rattle.lexauto_dfa.specs.declared.dfa.Parts.{Parts}
use Rattle.lextab.proofs.tables.into_flat.Goals as goal

pub of_rows-requires-clause-len : goal.of_rows-requires-clause-len
of_rows-requires-clause-len c =
    ap (λ (p : Parts). length p.next.items) c.into_parts.ensures ∙ c.args.dfa.lawful.rows
    ∙ ap (λ (n : ℕ). 256 * n) (sym c.in_ok-tables.ensures.states)

pub of_rows-requires-clause-steps : goal.of_rows-requires-clause-steps
of_rows-requires-clause-steps c s b low byte =
    let next : List ℕ = c.args.dfa.parts.next.items in
    let place : 256 * s + b ≡ s * 256 + b = omega arith in
    ap (λ (p : Parts). slice_index p.next.items (256 * s + b)) c.into_parts.ensures ∙ ap (slice_index next) place
    ∙ sym (cond-true _ (slice_index next (s * 256 + b)) 0 (lt-ltb b 256 byte)) ∙ sym (ap (λ M. M.next s b) c.in_ok-tables.ensures.machine)
