use Rattle.std.proofs.Common.{rules, arith, ◌≡◌, ℕ, ◌<◌, ◌≤◌, List, ◌-◌, ◌+◌, ◌/◌, ◌++◌, length, ap, subst, sym, ◌∙◌, take, drop, Vec, Global}
use Rattle.lextab.specs.Searching.{Hits, IsFirstFit, IsFreeAtEnd, IsMarked, slot_bit}
use Rattle.lextab.proofs.Placements.{written_back, bit_resized, marked_from, free_after}
use Rattle.lextab.proofs.placing.place.Goals.{then-len-need+in_ok-resize, else-len-need}
use Rattle.lextab.proofs.placing.place.Goals as goal

pub returns-clause-placed : goal.returns-clause-placed
returns-clause-placed c =
    let items = λ (v : Vec ℕ Global). v.items in
    let old = c.args.words.now.items in
    let mid = c.if-len-need.words.items in
    let len : length mid ≡ c.if-len-need.words.len = search rules in
    let back : take c.if-len-need.words.len (c.mark.new.words ++ drop (length c.mark.new.words) mid) ≡ c.mark.new.words = written_back c.mark.new.words mid c.if-len-need.words.len (search rules) len in
    let bits : (i : ℕ) → slot_bit mid i ≡ slot_bit old i = elim c.if-len-need.branch [
      | then-len-need+in_ok-resize w ↦ (let r = w.in_ok-resize.ensures.items in let t = w.if-len-need.true in
          bit_resized old mid (c.first_fit-base.result / 64 + 10) (c.first_fit-base.result / 64 + 10 - length old) (search rules) (ap items w.words-is ∙ (search rules)))
      | else-len-need w ↦ (λ i. ap (λ (v : Vec ℕ Global). slot_bit v.items i) w.words-is)
    ] in
    let m : IsMarked mid c.args.entries.now c.first_fit-base.result (length c.args.entries.now) c.mark.new.words =
    subst (λ (l : List ℕ). IsMarked l c.args.entries.now c.first_fit-base.result (length c.args.entries.now) c.mark.new.words) c.deref_mut.ensures.value c.mark.ensures in (
      subst (λ (l : List ℕ). IsFirstFit l c.args.entries.now c.first_fit-base.result) c.deref.ensures.value c.first_fit-base.ensures.first,
      subst (λ (l : List ℕ). IsMarked old c.args.entries.now c.first_fit-base.result (length c.args.entries.now) l) (sym back)
          (marked_from old mid c.mark.new.words c.args.entries.now c.first_fit-base.result (length c.args.entries.now) bits m),
    )

pub returns-clause-free : goal.returns-clause-free
returns-clause-free c =
    let items = λ (v : Vec ℕ Global). v.items in
    let old = c.args.words.now.items in
    let mid = c.if-len-need.words.items in
    let b = c.first_fit-base.result in
    let len : length mid ≡ c.if-len-need.words.len = search rules in
    let back : take c.if-len-need.words.len (c.mark.new.words ++ drop (length c.mark.new.words) mid) ≡ c.mark.new.words = written_back c.mark.new.words mid c.if-len-need.words.len (search rules) len in
    let bits : (i : ℕ) → slot_bit mid i ≡ slot_bit old i = elim c.if-len-need.branch [
      | then-len-need+in_ok-resize w ↦ (let r = w.in_ok-resize.ensures.items in let t = w.if-len-need.true in
          bit_resized old mid (b / 64 + 10) (b / 64 + 10 - length old) (search rules) (ap items w.words-is ∙ (search rules)))
      | else-len-need w ↦ (λ i. ap (λ (v : Vec ℕ Global). slot_bit v.items i) w.words-is)
    ] in
    let more : length old ≤ length mid = elim c.if-len-need.branch [
      | then-len-need+in_ok-resize w ↦ (search rules)
      | else-len-need w ↦ (search rules)
    ] in
    let need : b / 64 + 10 ≤ length mid = elim c.if-len-need.branch [
      | then-len-need+in_ok-resize w ↦ (search rules)
      | else-len-need w ↦ (search rules)
    ] in
    let m : IsMarked mid c.args.entries.now b (length c.args.entries.now) c.mark.new.words =
    subst (λ (l : List ℕ). IsMarked l c.args.entries.now b (length c.args.entries.now) c.mark.new.words) c.deref_mut.ensures.value c.mark.ensures in
    let same : length c.mark.new.words ≡ length mid = search rules in
    subst (λ (l : List ℕ). IsFreeAtEnd l) (sym back)
    (free_after old c.mark.new.words c.args.entries.now b c.requires.room.free (omega arith) (omega arith) c.requires.small
    (marked_from old mid c.mark.new.words c.args.entries.now b (length c.args.entries.now) bits m))

pub first_fit-base-requires-clause-from : goal.first_fit-base-requires-clause-from
first_fit-base-requires-clause-from c = subst (λ (l : List ℕ). (i : ℕ) → i < c.args.from → Hits l c.args.entries.now i) (sym c.deref.ensures.value) c.requires.from
