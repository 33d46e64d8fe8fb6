use Rattle.std.proofs.Common.{◌≡◌, ℕ, ◌<◌, ◌+◌, ◌*◌, List, [], ◌∷◌, ◌++◌, length, false, get_or, sym, ap, subst, ◌∙◌, arith}
use Rattle.std.proofs.Math.ListN.{set}
use Rattle.std.proofs.lemmas.List.{length-append}
use Rattle.lex_semantics.specs.Machine.{Machine}
use Rattle.lexlook_tables.specs.declared.same.pairs.Pair.{Pair}
use Rattle.lexlook_tables.specs.declared.same.pairs.Sight.{Sight}
use Rattle.lexlook_tables.specs.declared.same.pairs.Sight.TheVariants.{Unseen}
use Rattle.lexlook_tables.specs.Searching.{HasAt, Searched, unseen, was_seen, sight_of, is_first}
use Rattle.lexlook_tables.proofs.Lists.{before_last, any_default}
use Rattle.lexlook_tables.proofs.Widening as Widen
use Rattle.lexlook_tables.proofs.same.pairs.widen.Goals as goal
use Rattle.lexlook_tables.proofs.same.pairs.widen.Goals.{then-not-was_seen+else-not-agree+in_ok-push, else-not-was_seen}

pub bytes-preserved : goal.bytes-preserved
bytes-preserved g c = elim c.if-not-was_seen.branch [
  | then-not-was_seen+else-not-agree+in_ok-push w ↦ (let pairs : c.if-not-was_seen.pairs.items ≡ ps ++ x ∷ [] = ap (λ v. v.items) w.pairs-is ∙ w.in_ok-push.ensures.items in
      let seen' : c.if-not-was_seen.seen.items ≡ set seen k (sight_of (is_first p)) = ap (λ v. v.items) w.seen-is ∙ ap (set seen k) w.sight_of.ensures in
      let fresh : was_seen (is_first p) (get_or seen k Unseen) ≡ false = ap (was_seen (is_first p)) (sym told) ∙ sym c.was_seen.ensures ∙ w.if-not-was_seen.true in
      record {
        here = subst (λ l. HasAt l c.args.place p) (sym pairs) (before_last ps x c.args.place p c.bytes.invariant.here);
        longer = omega (arith, ap length pairs, length-append ps (x ∷ []), c.bytes.invariant.longer);
        fewer = (let less = Widen.unseen_less (is_first p) seen k inside fresh in omega (arith, less, ap unseen seen', ap length pairs, length-append ps (x ∷ []), c.bytes.invariant.fewer));
        searched = subst (λ l. Searched order M N m (g.B.Machine.states c.args.right.now) l c.if-not-was_seen.seen.items c.args.place (b + 1)) (sym pairs)
            (subst (λ l. Searched order M N m (g.B.Machine.states c.args.right.now) (ps ++ x ∷ []) l c.args.place (b + 1)) (sym seen')
            (subst (λ z. Searched order M N m z (ps ++ x ∷ []) (set seen k (sight_of (is_first p))) c.args.place (b + 1)) c.requires.width
            (Widen.seen_now order M N m n ps seen c.args.place b p x h c.bytes.invariant.here c.next_pair-next.ensures.next c.next_pair-next.ensures.known_left in_n c.next_pair-next.ensures.from small (w.agree.ensures.yes w.if-not-agree.false) inside fresh)));
      })
  | else-not-was_seen w ↦ (let pairs : c.if-not-was_seen.pairs.items ≡ ps = ap (λ v. v.items) w.pairs-is in
      let seen' : c.if-not-was_seen.seen.items ≡ seen = ap (λ v. v.items) w.seen-is in
      record {
        here = subst (λ l. HasAt l c.args.place p) (sym pairs) c.bytes.invariant.here;
        longer = omega (arith, ap length pairs, c.bytes.invariant.longer);
        fewer = omega (arith, ap unseen seen', ap length pairs, c.bytes.invariant.fewer);
        searched = subst (λ l. Searched order M N m (g.B.Machine.states c.args.right.now) l c.if-not-was_seen.seen.items c.args.place (b + 1)) (sym pairs)
            (subst (λ l. Searched order M N m (g.B.Machine.states c.args.right.now) ps l c.args.place (b + 1)) (sym seen')
            (subst (λ z. Searched order M N m z ps seen c.args.place (b + 1)) c.requires.width
            (Widen.seen_before order M N m n ps seen c.args.place b p x h c.bytes.invariant.here c.next_pair-next.ensures.next c.next_pair-next.ensures.known_left in_n (ap (was_seen (is_first p)) (sym told) ∙ sym c.was_seen.ensures ∙ w.if-not-was_seen.false))));
      })
]
  where
    order : List ℕ
    order = c.args.order.now

    M : Machine
    M = g.A.Machine.machine c.args.left.now

    N : Machine
    N = g.B.Machine.machine c.args.right.now

    m : ℕ
    m = g.A.Machine.states c.args.left.now

    n : ℕ
    n = c.args.width

    ps : List Pair
    ps = c.bytes.pairs.items

    seen : List Sight
    seen = c.bytes.seen.items

    b : ℕ
    b = c.bytes.byte

    small : b < 256
    small = omega (arith, c.bytes-test.true)

    p : Pair
    p = c.index-pair.result.now

    x : Pair
    x = c.next_pair-next.result

    k : ℕ
    k = x.left * n + x.right

    h : Searched order M N m n ps seen c.args.place b
    h = subst (λ z. Searched order M N m z ps seen c.args.place b) (sym c.requires.width) c.bytes.invariant.searched

    in_n : x.right < n
    in_n = subst (λ z. x.right < z) (sym c.requires.width) c.next_pair-next.ensures.known_right

    inside : k < length seen
    inside = (let k = Widen.place_inside m n x.left x.right c.next_pair-next.ensures.known_left in_n in omega (arith, k, h.size))

    told : c.index.result.now ≡ get_or seen k Unseen
    told = c.index.ensures ∙ any_default seen k c.index.result.now Unseen inside
