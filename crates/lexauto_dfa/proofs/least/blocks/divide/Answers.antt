use Rattle.std.proofs.Common.{rules, ◌≡◌, ◌≢◌, ◌^◌, ℕ, suc, ◌<◌, ◌≤◌, List, length, slice_index, arith, sym, ap, subst, ◌∙◌}
use Rattle.std.proofs.lemmas.List.{with_items_is}
use Rattle.lexauto_dfa.proofs.Dividing.{put, put_is, put_length, put_others, put_touched, few_blocks, divided, moved_at, rest_at}
use Rattle.lexauto_dfa.proofs.least.blocks.divide.Goals as goal

pub overflow_cast-new : goal.overflow_cast-new
overflow_cast-new c =
    let b = c.args.blocks.now in
    let f = few_blocks b.order.items b.place.items b.block.items b.first.items b.middle.items b.end.items c.requires.arranged in
    let s = c.requires.arranged.few in
    let l : c.len-new.result ≡ length b.first.items = search rules in
    let low : c.len-new.result < 2 ^ 32 = omega (arith, f, s, l) in
    search (rules, low)

pub returns-clause-arranged : goal.returns-clause-arranged
returns-clause-arranged c =
    let b = c.args.blocks.now in
    let len : length c.rename.new.block ≡ length b.block.items = search rules in
    let vec : length c.rename.new.block ≡ b.block.len = search rules in
    let order : c.deref.result.now ≡ b.order.items = c.deref.ensures.value in
    let number : c.len-new.result ≡ length b.first.items = search rules in
    let moved : (i : ℕ) → c.args.piece.from ≤ i → i < c.args.piece.to → slice_index c.rename.new.block (slice_index b.order.items i) ≡ length b.first.items =
    λ i h g. ap (λ (xs : List ℕ). slice_index c.rename.new.block (slice_index xs i)) (sym order) ∙ c.rename.ensures.moved i h g ∙ number in
    let rest : (x : ℕ) → ((i : ℕ) → c.args.piece.from ≤ i → i < c.args.piece.to → slice_index b.order.items i ≢ x) → slice_index c.rename.new.block x ≡ slice_index b.block.items x =
    λ x n. c.rename.ensures.rest x (λ i h g e. n i h g (ap (λ (xs : List ℕ). slice_index xs i) (sym order) ∙ e)) ∙ ap (λ (xs : List ℕ). slice_index xs x) c.deref_mut.ensures.value in
    let made = divided b.order.items b.place.items b.block.items b.first.items b.middle.items b.end.items c.requires.arranged
    c.rename.new.block c.args.number c.args.kept.from c.args.kept.to c.args.piece.from c.args.piece.to c.requires.number c.requires.pieces len moved rest in
    rw (with_items_is b.block c.rename.new.block vec, c.in_ok-push.ensures.items, c.in_ok-push-2.ensures.items, c.in_ok-push-3.ensures.items)
    (rw (put_is, put_is, put_is) at made)

pub returns-clause-division : goal.returns-clause-division
returns-clause-division c =
    let b = c.args.blocks.now in
    let len : length c.rename.new.block ≡ length b.block.items = search rules in
    let vec : length c.rename.new.block ≡ b.block.len = search rules in
    let order : c.deref.result.now ≡ b.order.items = c.deref.ensures.value in
    let number : c.len-new.result ≡ length b.first.items = search rules in
    let moved : (i : ℕ) → c.args.piece.from ≤ i → i < c.args.piece.to → slice_index c.rename.new.block (slice_index b.order.items i) ≡ length b.first.items =
    λ i h g. ap (λ (xs : List ℕ). slice_index c.rename.new.block (slice_index xs i)) (sym order) ∙ c.rename.ensures.moved i h g ∙ number in
    let rest : (x : ℕ) → ((i : ℕ) → c.args.piece.from ≤ i → i < c.args.piece.to → slice_index b.order.items i ≢ x) → slice_index c.rename.new.block x ≡ slice_index b.block.items x =
    λ x n. c.rename.ensures.rest x (λ i h g e. n i h g (ap (λ (xs : List ℕ). slice_index xs i) (sym order) ∙ e)) ∙ ap (λ (xs : List ℕ). slice_index xs x) c.deref_mut.ensures.value in
    record {
      order = search rules;
      place = search rules;
      same_states = ap (λ (xs : List ℕ). length xs) (with_items_is b.block c.rename.new.block vec) ∙ len;
      grown = search rules;
      piece_is = search rules;
      moved = λ x h f t. rw (with_items_is b.block c.rename.new.block vec) (moved_at b.order.items b.place.items b.block.items b.first.items b.middle.items b.end.items c.requires.arranged
          c.rename.new.block c.args.number c.args.kept.from c.args.kept.to c.args.piece.from c.args.piece.to c.requires.number c.requires.pieces len moved rest x h (f, t));
      rest = λ x n. rw (with_items_is b.block c.rename.new.block vec) (rest_at b.order.items b.place.items b.block.items b.first.items b.middle.items b.end.items c.requires.arranged
          c.rename.new.block c.args.number c.args.kept.from c.args.kept.to c.args.piece.from c.args.piece.to c.requires.number c.requires.pieces len moved rest x n);
      others = λ e h n.
          let b = c.args.blocks.now in
          let f : c.push.new.self.items ≡ put b.first.items c.args.number c.args.kept.from c.args.piece.from = c.in_ok-push.ensures.items ∙ sym (put_is _ _ _ _) in
          let m : c.push-2.new.self.items ≡ put b.middle.items c.args.number c.args.kept.from c.args.piece.from = c.in_ok-push-2.ensures.items ∙ sym (put_is _ _ _ _) in
          let o = put_others b.first.items b.middle.items c.args.number c.args.kept.from c.args.piece.from e c.requires.arranged.middles h n in
          (ap (λ (xs : List ℕ). slice_index xs e) f ∙ o.0, ap (λ (xs : List ℕ). slice_index xs e) m ∙ o.1);
      touched = λ e h t.
          let b = c.args.blocks.now in
          let f : c.push.new.self.items ≡ put b.first.items c.args.number c.args.kept.from c.args.piece.from = c.in_ok-push.ensures.items ∙ sym (put_is _ _ _ _) in
          let m : c.push-2.new.self.items ≡ put b.middle.items c.args.number c.args.kept.from c.args.piece.from = c.in_ok-push-2.ensures.items ∙ sym (put_is _ _ _ _) in
          let count : length c.push.new.self.items ≡ suc (length b.first.items) = ap (λ (xs : List ℕ). length xs) f ∙ put_length b.first.items c.args.number c.args.kept.from c.args.piece.from in
          put_touched b.first.items b.middle.items c.args.number c.args.kept.from c.args.piece.from e c.requires.arranged.middles c.requires.number
          (omega (arith, count, h))
          (subst (λ (xs : List ℕ). slice_index xs e < slice_index (put b.middle.items c.args.number c.args.kept.from c.args.piece.from) e) f
          (subst (λ (xs : List ℕ). slice_index c.push.new.self.items e < slice_index xs e) m t));
    }
