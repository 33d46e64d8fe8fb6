use Rattle.std.proofs.Common.{◌<◌, ◌≤◌, ℕ, List, length, sym, subst, arith}
use Rattle.std.proofs.lemmas.List.{length-map}
use Rattle.lexauto_reports.specs.Searching.{word_in}
use Rattle.lexauto_reports.proofs.Stretched.{within_at}
use Rattle.lexauto_reports.proofs.groups.Groups.word.Goals as goal

pub slice_bounds-result-count : goal.slice_bounds-result-count
slice_bounds-result-count c =
    let gs = c.args.self.now.groups.items in
    let text = c.args.self.now.text.items in
    let n = length-map gs (word_in text) in
    let r = c.requires in
    let low : c.args.place < length gs = omega (arith, r, n) in
    (within_at (length text) gs c.args.place c.index-group.result.now c.args.self.now.within low c.index-group.ensures).0

pub slice_bounds-result-start : goal.slice_bounds-result-start
slice_bounds-result-start c =
    let gs = c.args.self.now.groups.items in
    let text = c.args.self.now.text.items in
    let n = length-map gs (word_in text) in
    let r = c.requires in
    let low : c.args.place < length gs = omega (arith, r, n) in
    (within_at (length text) gs c.args.place c.index-group.result.now c.args.self.now.within low c.index-group.ensures).0

pub slice_bounds-result-end : goal.slice_bounds-result-end
slice_bounds-result-end c =
    let gs = c.args.self.now.groups.items in
    let text = c.args.self.now.text.items in
    let n = length-map gs (word_in text) in
    let r = c.requires in
    let low : c.args.place < length gs = omega (arith, r, n) in
    subst (λ (l : List ℕ). c.index-group.result.now.end ≤ length l) (sym c.deref.ensures.value)
    (within_at (length text) gs c.args.place c.index-group.result.now c.args.self.now.within low c.index-group.ensures).1
