use Rattle.std.proofs.Common.{rules, ◌≡◌, ℕ, ◌+◌, ◌<◌, ◌++◌, ◌∷◌, [], List, length, length-set, length-append, slice_index, slice_set, arith, refl, sym, subst, ap, ◌∙◌}
use Rattle.std.proofs.lemmas.List.{get_or_read}
use Rattle.std.specs.Vec.{vec_len}
use Rattle.lextab_packed.specs.Inverse.{AreChains}
use Rattle.lextab_packed.proofs.Linked.{none_more_chained, one_more_chained}
use Rattle.lextab_packed.proofs.inverse.chains_of.Goals as goal
use Rattle.lextab_packed.proofs.inverse.chains_of.Goals.{then-x-eq0+in_ok-push+in_ok-push-2, then-x-eq0-via-then-x-eq0, then-x-eq0-via-else-x-eq0+then-next-x, else-x-eq0+else-next-x}

pub loop-x-preserved : goal.loop-x-preserved
loop-x-preserved c =
    let next = c.args.next.now in
    let x = c.loop-x.x in
    let last = c.loop-x.last.items in
    let entries = c.loop-x.entries.items in
    let before = c.loop-x.before.items in
    let v = c.loop-x.invariant in
    let within : x < length next = search rules in
    let known = c.requires.known x within in
    let targets = v.targets in
    let few = v.few in
    let low : slice_index next x < length last = omega (arith, known, targets) in
    elim c.if-x-eq0.branch [
      | then-x-eq0+in_ok-push+in_ok-push-2 w ↦ (
          let read = get_or_read last _ _ low w.index.ensures 0 in
          let size = length-append entries (x ∷ []) in
          let put : w.push.new.self.items ≡ entries ++ x ∷ [] = w.in_ok-push.ensures.items in
          let sent : w.push-then-x-eq0.new.self.items ≡ before ++ slice_index last (slice_index next x) ∷ [] = w.in_ok-push-2.ensures.items ∙ ap (λ (n : ℕ). before ++ n ∷ []) read in
          let long : vec_len w.push.new.self ≡ length w.push.new.self.items = search rules in
          let count : w.len.result ≡ length entries + 1 = w.len.ensures ∙ long ∙ ap length put ∙ size in
          let chained = one_more_chained next last entries before x v.chains (slice_index next x) low refl in
          rw w.last-is (rw w.entries-is (rw w.before-is (record {
            targets = length-set last (slice_index next x) w.len.result ∙ targets;
            few = omega (arith, few, size, ap length put);
            chains = subst (λ (b : List ℕ). AreChains next (slice_set last (slice_index next x) w.len.result) w.push.new.self.items b (x + 1)) (sym sent)
                (subst (λ (e : List ℕ). AreChains next (slice_set last (slice_index next x) w.len.result) e (before ++ slice_index last (slice_index next x) ∷ []) (x + 1)) (sym put)
                (subst (λ (m : ℕ). AreChains next (slice_set last (slice_index next x) m) (entries ++ x ∷ []) (before ++ slice_index last (slice_index next x) ∷ []) (x + 1)) (sym count) chained));
          }))))
      | else-x-eq0+else-next-x w ↦ rw w.last-is (rw w.entries-is (rw w.before-is (record {
        targets = v.targets;
        few = omega (arith, few);
        chains = none_more_chained next last entries before x v.chains w.if-x-eq0.false w.if-next-x.false;
      })))
    ]
