use Rattle.std.proofs.Common.{rules, ◌≡◌, ℕ, List, ◌<◌, ◌+◌, ◌++◌, ◌∷◌, [], length, slice_index, ap, subst, sym, ◌∙◌, arith, inl, inr}
use Rattle.std.proofs.lemmas.List.{get_or_push, get_or_append_left}
use Rattle.lextab.specs.Columns.{IsDefault}
use Rattle.lextab.specs.Searching.{by_head}
use Rattle.lextab.proofs.Orders.{same_or_not}
use Rattle.lextab.proofs.Counts.{default_same}
use Rattle.lextab.proofs.rows.defaults_of.Goals as goal

more_defaults : (to : ℕ → ℕ → ℕ) (count d s : ℕ) (ds es : List ℕ) → length ds ≡ s → es ≡ ds ++ d ∷ []
    → ((r : ℕ) → r < s → IsDefault (to r) count (slice_index ds r)) → IsDefault (to s) count d
    → (r : ℕ) → r < s + 1 → IsDefault (to r) count (slice_index es r)
more_defaults to count d s ds es len e old new r h = elim (same_or_not r s) [
  | inl q ↦ subst (λ (n : ℕ). IsDefault (to r) count n) (sym (get_or_push ds d 0 r (len ∙ sym q)) ∙ ap (λ (l : List ℕ). slice_index l r) (sym e))
      (subst (λ (n : ℕ). IsDefault (to n) count d) (sym q) new)
  | inr m ↦ (let g : r < s = omega arith in subst (λ (n : ℕ). IsDefault (to r) count n) (sym (get_or_append_left ds (d ∷ []) 0 r (omega arith)) ∙ ap (λ (l : List ℕ). slice_index l r) (sym e)) (old r g))
]

pub loop-state-preserved : goal.loop-state-preserved
loop-state-preserved c =
    let to = by_head c.args.next.now c.args.heads.now in
    let count = length c.args.heads.now in
    let s = c.loop-state.state in
    let row = c.deref.result.now in
    let is : row ≡ c.read_row.new.row.items = c.deref.ensures.value in
    let len : length row ≡ count = ap length is ∙ c.read_row.ensures.len in
    let d = c.default_of-default.result in
    let one : IsDefault (slice_index row) count d = subst (λ (n : ℕ). IsDefault (slice_index row) n d) len c.default_of-default.ensures.default in
    record {
      row = c.read_row.ensures.len;
      len = search rules;
      each = more_defaults to count d s c.loop-state.defaults.items c.push.new.self.items c.loop-state.invariant.len c.in_ok-push.ensures.items c.loop-state.invariant.each
          (default_same (slice_index row) (to s) count d (λ k h. ap (λ (l : List ℕ). slice_index l k) is ∙ c.read_row.ensures.each k h) one);
      none = c.default_of-default.ensures.none;
    }
