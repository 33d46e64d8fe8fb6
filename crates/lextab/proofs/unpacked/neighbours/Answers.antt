use Rattle.std.proofs.Common.{rules, ◌≡◌, ◌<◌, ◌+◌, ◌-◌, ◌++◌, ◌∷◌, [], ℕ, length, ap, ◌∙◌, arith, Vec, Global}
use Rattle.std.proofs.lemmas.List.{length-append}
use Rattle.lextab.proofs.RowByRow.{one_byte_more, one_class_more, same_neighbours}
use Rattle.lextab.proofs.unpacked.neighbours.Goals.{then-byte-eq0+in_ok-push, else-byte-eq0+else-changes-byte-ne0}
use Rattle.lextab.proofs.unpacked.neighbours.Goals as goal

pub overflow_sub-len : goal.overflow_sub-len
overflow_sub-len c =
    let items = λ (v : Vec ℕ Global). v.items in
    let hs = c.loop-byte.heads.items in
    let i = c.loop-byte.byte in
    let is : c.len.result ≡ length c.if-byte-eq0.heads.items = search rules in
    elim c.if-byte-eq0.branch [
      | then-byte-eq0+in_ok-push w ↦ (
          let e : length c.if-byte-eq0.heads.items ≡ length (hs ++ i ∷ []) = ap length (ap items w.heads-is ∙ w.in_ok-push.ensures.items) in
          let l = length-append hs (i ∷ []) in
          omega (arith, is, e, l))
      | else-byte-eq0+else-changes-byte-ne0 w ↦ (
          let e : length c.if-byte-eq0.heads.items ≡ length hs = ap length (ap items w.heads-is) in
          let some = w.if-byte-eq0.false in
          let l = c.loop-byte.invariant.last (i - 1) (omega (arith, some)) in
          omega (arith, is, e, l))
    ]

pub loop-byte-preserved : goal.loop-byte-preserved
loop-byte-preserved c =
    let items = λ (v : Vec ℕ Global). v.items in
    let next = c.args.next.now in
    let n = c.args.states in
    let i = c.loop-byte.byte in
    let cls = c.loop-byte.class_of.items in
    let hs = c.loop-byte.heads.items in
    let within : i < 256 = search rules in
    let count : c.len.result ≡ length c.if-byte-eq0.heads.items = search rules in
    let pushed : c.push-in-loop-byte.new.self.items ≡ cls ++ (c.len.result - 1) ∷ [] = c.in_ok-push-2.ensures.items in
    elim c.if-byte-eq0.branch [
      | then-byte-eq0+in_ok-push w ↦ (
          let f : c.if-byte-eq0.heads.items ≡ hs ++ i ∷ [] = ap items w.heads-is ∙ w.in_ok-push.ensures.items in
          let l = length-append hs (i ∷ []) in
          let m = ap length f in
          let is : c.len.result - 1 ≡ length hs = omega (arith, count, m, l) in
          same_neighbours next n (i + 1) (cls ++ length hs ∷ []) c.push-in-loop-byte.new.self.items (hs ++ i ∷ []) c.if-byte-eq0.heads.items
          (pushed ∙ ap (λ (k : ℕ). cls ++ k ∷ []) is) f (one_class_more next n i cls hs c.loop-byte.invariant))
      | else-byte-eq0+else-changes-byte-ne0 w ↦ (
          let f : c.if-byte-eq0.heads.items ≡ hs = ap items w.heads-is in
          let m = ap length f in
          let some = w.if-byte-eq0.false in
          let more = c.loop-byte.invariant.last (i - 1) (omega (arith, some)) in
          same_neighbours next n (i + 1) (cls ++ (c.len.result - 1) ∷ []) c.push-in-loop-byte.new.self.items hs c.if-byte-eq0.heads.items
          pushed f
          (one_byte_more next c.args.changes.now n i cls hs c.requires.tell c.loop-byte.invariant within (omega (arith, some)) w.if-changes-byte-ne0.false (c.len.result - 1) (omega (arith, count, m, more))))
    ]
