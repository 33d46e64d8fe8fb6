use Rattle.std.proofs.Common.{rules, ◌≡◌, ℕ, List, None, length, cond, ◌==◌, sym, ap, subst, ◌∙◌, [], ◌∷◌, ◌++◌}
use Rattle.std.specs.Prelude.{slice_index_or}
use Rattle.lexauto.specs.Keys.{Key, At, Finds}
use Rattle.lexauto.specs.Interned.{no_key, row_of}
use Rattle.lexauto.specs.KeyPacking.{look_kept, kept_in, packed, unpacked}
use Rattle.lexauto.specs.declared.interner.KeptKey.{KeptKey}
use Rattle.lexauto.proofs.Places.{at_end}
use Rattle.lexauto.proofs.Interning.{finding, finds_added}
use Rattle.lexauto.proofs.Kept.{kept_of_push, kept_length}
use Rattle.lexauto.proofs.explore.intern_kept.Goals as goal

pub returns-clause-finds : goal.returns-clause-finds
returns-clause-finds c =
    let k = unpacked c.args.kept.items in
    let kept : c.args.kept.items ≡ packed k = c.requires.kept in
    let old = c.args.table.now in
    let lasts : ℕ → ℕ = λ r. slice_index_or old.lasts.items r no_key in
    let lasts' : ℕ → ℕ = λ r. slice_index_or c.add.new.self.lasts.items r no_key in
    let row : c.row_of-row.result ≡ row_of (packed k) = search rules in
    let none : look_kept old k ≡ None = search rules in
    let new : KeptKey = record { key = c.args.kept; before = lasts c.row_of-row.result } in
    let grown : c.add.new.self.keys.items ≡ old.keys.items ++ new ∷ [] = c.in_ok-add.ensures.keys in
    let told : (r : ℕ) → lasts' r ≡ cond (r == row_of (packed k)) (length old.keys.items) (lasts r) =
    subst (λ (n : ℕ). (r : ℕ) → lasts' r ≡ cond (r == n) (length old.keys.items) (lasts r)) row c.in_ok-add.ensures.lasts in
    subst (λ (keys : List KeptKey). Finds (finding keys lasts') (kept_in keys)) (sym grown)
    (finds_added old.keys.items lasts lasts' new k kept (ap lasts row) told c.requires.finds none)

pub returns-clause-place : goal.returns-clause-place
returns-clause-place c =
    let k = unpacked c.args.kept.items in
    let keys = kept_in c.args.table.now.keys.items in
    let len : c.len-place.result ≡ length c.args.table.now.keys.items = search rules in
    let new : KeptKey = record { key = c.args.kept; before = slice_index_or c.args.table.now.lasts.items c.row_of-row.result no_key } in
    let grown : kept_in c.add.new.self.keys.items ≡ keys ++ k ∷ [] = ap kept_in c.in_ok-add.ensures.keys ∙ kept_of_push c.args.table.now.keys.items new in
    subst (λ (ks : List Key). At ks c.len-place.result k) (sym grown)
    (subst (λ (n : ℕ). At (keys ++ k ∷ []) n k) (kept_length c.args.table.now.keys.items ∙ sym len) (at_end keys k))
