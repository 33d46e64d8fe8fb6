use Rattle.std.proofs.Common.{rules, ◌≡◌, ℕ, List, ◌<◌, ◌≤◌, ◌*◌, ◌+◌, ◌++◌, ◌∷◌, [], length, slice_index, ap, subst, sym, ◌∙◌, arith}
use Rattle.lextab.specs.Searching.{by_head, AreEntries, slot_bit, IsEarlier, ArePlaced}
use Rattle.lextab.proofs.Placements.{one_more_placed, starts_late}
use Rattle.lextab.proofs.placing.bases_of.Goals as goal

pub loop-state-preserved : goal.loop-state-preserved
loop-state-preserved c =
    let to = by_head c.args.next.now c.args.heads.now in
    let count = length c.args.heads.now in
    let ds = c.args.defaults.now in
    let s = c.loop-state.state in
    let row = c.deref.result.now in
    let ks = c.deref-in-loop-state-4.result.now in
    let b = c.in_ok-base.base in
    let new = c.place.new.words.items in
    let full = c.full_words-full.result in
    let is : row ≡ c.read_row.new.row.items = c.deref.ensures.value in
    let ents : AreEntries row (slice_index ds s) (length row) ks =
    subst (λ (l : List ℕ). AreEntries row (slice_index ds s) (length row) l) (sym c.deref-in-loop-state-4.ensures.value) c.in_ok-read_entries.ensures in
    let words : c.deref-in-loop-state-5.result.now ≡ new = c.deref-in-loop-state-5.ensures.value in
    let all : (i : ℕ) → i < 64 * full → slot_bit new i ≡ 1 = subst (λ (l : List ℕ). (i : ℕ) → i < 64 * full → slot_bit l i ≡ 1) words c.full_words-full.ensures.full in
    let within : full ≤ length new = subst (λ (l : List ℕ). full ≤ length l) words c.full_words-full.ensures.within in
    let pushed : c.push.new.self.items ≡ c.loop-state.bases.items ++ b ∷ [] = c.in_ok-push.ensures.items in
    record {
      row = c.read_row.ensures.len;
      lasts = search rules;
      placed = subst (λ (l : List ℕ). ArePlaced to count ds l new full (s + 1)) (sym pushed)
          (one_more_placed to count ds c.loop-state.bases.items c.loop-state.words.items c.loop-state.full s row ks b new full c.loop-state.invariant.placed
          (ap length is ∙ c.read_row.ensures.len) (λ k h. ap (λ (l : List ℕ). slice_index l k) is ∙ c.read_row.ensures.each k h)
          ents c.in_ok-base.ensures.placed.0 (search rules) c.in_ok-base.ensures.placed.1 (search rules) within all c.in_ok-base.ensures.free);
    }

pub returns-clause-each : goal.returns-clause-each
returns-clause-each c = λ s h. c.loop-state.invariant.placed.base s (let n = c.loop-state-test.false in omega arith)

pub place-requires-clause-from : goal.place-requires-clause-from
place-requires-clause-from c =
    let to = by_head c.args.next.now c.args.heads.now in
    let count = length c.args.heads.now in
    let ds = c.args.defaults.now in
    let s = c.loop-state.state in
    let row = c.read_row.new.row.items in
    let ks = c.deref-in-loop-state-4.result.now in
    let d = slice_index ds s in
    let bs = c.loop-state.bases.items in
    let ents : AreEntries row d (length row) ks =
    subst (λ (l : List ℕ). AreEntries row d (length row) l) (sym c.deref-in-loop-state-4.ensures.value)
    (subst (λ (l : List ℕ). AreEntries l d (length l) c.read_entries.new.entries.items) c.deref.ensures.value c.in_ok-read_entries.ensures) in
    let earlier : IsEarlier to count ds bs row d c.start_of-from.result =
    subst (λ (l : List ℕ). IsEarlier to count ds l row d c.start_of-from.result) c.deref-in-loop-state-2.ensures.value
    (subst (λ (l : List ℕ). IsEarlier to count ds c.deref-in-loop-state-2.result.now l d c.start_of-from.result) c.deref-in-loop-state-3.ensures.value c.start_of-from.ensures) in
    starts_late to count ds bs c.loop-state.words.items c.loop-state.full s row ks d c.start_of-from.result c.loop-state.invariant.placed ents c.read_row.ensures.len earlier
