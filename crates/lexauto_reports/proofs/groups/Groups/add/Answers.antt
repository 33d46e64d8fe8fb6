use Rattle.std.proofs.Common.{rules, ◌≡◌, ◌<◌, ◌++◌, ◌∷◌, [], ℕ, List, length, map, drop, sym, ap, subst, ◌∙◌, arith, length-append}
use Rattle.std.proofs.lemmas.List.{length-map}
use Rattle.lexauto_reports.specs.Searching.{at, word_in, words_of}
use Rattle.lexauto_reports.specs.declared.groups.Group.{Group}
use Rattle.lexauto_reports.specs.Stretches.{AreWithin}
use Rattle.lexauto_reports.proofs.Stretched.{within_at, within_more, within_pushed, words_more}
use Rattle.lexauto_reports.proofs.Searched.{group_at}
use Rattle.lexauto_reports.proofs.groups.Groups.add.Goals as goal

pub lengthen-requires-clause-order : goal.lengthen-requires-clause-order
lengthen-requires-clause-order c =
    let gs = c.args.self.now.groups.items in
    let text = c.args.self.now.text.items in
    let n = length-map gs (word_in text) in
    let r = c.requires in
    let low : c.args.place < length gs = omega (arith, r, n) in
    (within_at (length text) gs c.args.place c.index-group.result.now c.args.self.now.within low c.index-group.ensures).0

pub lengthen-requires-clause-within : goal.lengthen-requires-clause-within
lengthen-requires-clause-within c =
    let gs = c.args.self.now.groups.items in
    let text = c.args.self.now.text.items in
    let n = length-map gs (word_in text) in
    let r = c.requires in
    let low : c.args.place < length gs = omega (arith, r, n) in
    (within_at (length text) gs c.args.place c.index-group.result.now c.args.self.now.within low c.index-group.ensures).1

pub invariant_of-self : goal.invariant_of-self
invariant_of-self c =
    let gs = c.args.self.now.groups.items in
    let text = c.args.self.now.text.items in
    let xs = c.lengthen.ensures.grown.0 in
    let is = c.lengthen.ensures.grown.1 in
    record { within = subst (λ (l : List ℕ). AreWithin (length l) gs) (sym is) (let n = length-append text xs in within_more (length text) (length (text ++ xs)) gs (omega (arith, n)) c.args.self.now.within) }

pub invariant_of-self-2 : goal.invariant_of-self-2
invariant_of-self-2 c =
    let gs = c.args.self.now.groups.items in
    let text = c.args.self.now.text.items in
    let new = c.lengthen.new.text.items in
    let xs = c.lengthen.ensures.grown.0 in
    let is = c.lengthen.ensures.grown.1 in
    let a : AreWithin (length new) gs = subst (λ (l : List ℕ). AreWithin (length l) gs) (sym is) (let n = length-append text xs in within_more (length text) (length (text ++ xs)) gs (omega (arith, n)) c.args.self.now.within) in
    let end : c.len-end.result ≡ length new = search rules in
    let begins = c.in_ok-start.ensures.begins in
    record { within = within_pushed (length new) gs c.push.new.self.items _ _ a (omega (arith, begins, end)) (omega (arith, end)) c.push.ensures.items }

pub returns-clause-words : goal.returns-clause-words
returns-clause-words c =
    let gs = c.args.self.now.groups.items in
    let text = c.args.self.now.text.items in
    let new = c.lengthen.new.text.items in
    let xs = c.lengthen.ensures.grown.0 in
    let is = c.lengthen.ensures.grown.1 in
    let n = length-map gs (word_in text) in
    let r = c.requires in
    let low : c.args.place < length gs = omega (arith, r, n) in
    let word = group_at gs text c.args.place c.index-group.result.now low c.index-group.ensures in
    let end : c.len-end.result ≡ length new = search rules in
    let g : Group = record { start = c.in_ok-start.start; end = c.len-end.result; states = c.args.states } in
    let longer : drop c.in_ok-start.start (text ++ xs) ≡ at (words_of c.args.self.now) c.args.place ++ c.args.byte ∷ [] =
    ap (drop c.in_ok-start.start) (sym is) ∙ c.in_ok-start.ensures.word ∙ ap (λ (w : List ℕ). w ++ c.args.byte ∷ []) (sym word) in
    ap (map (word_in new)) c.in_ok-push.ensures.items
    ∙ ap (λ (l : List ℕ). map (word_in l) (gs ++ g ∷ [])) is
    ∙ words_more text xs (at (words_of c.args.self.now) c.args.place ++ c.args.byte ∷ []) gs g c.args.self.now.within (end ∙ ap length is) longer
