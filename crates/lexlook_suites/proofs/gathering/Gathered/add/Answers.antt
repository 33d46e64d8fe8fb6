use Rattle.std.proofs.Common.{◌≡◌, List, ℕ, inl, subst, true}
use Rattle.lexlook_suites.specs.Gathers.{HasText, IsScanned, rules_by}
use Rattle.lexlook_suites.proofs.Collected.{adds_none, input_kept, text_kept}
use Rattle.lexlook_suites.proofs.gathering.Gathered.add.Goals as goal

pub returns-in_default-clause-adds : goal.returns-in_default-clause-adds
returns-in_default-clause-adds c = adds_none (rules_by c.args.machine.now) c.args.dfa.now.parts c.args.self.now c.requires

pub returns-in_default-clause-text : goal.returns-in_default-clause-text
returns-in_default-clause-text c = λ none. inl (subst (IsScanned (rules_by c.args.machine.now) c.args.text.items) c.in_default.is c.in_ok-scanned.ensures)

pub returns-then-is_kept-clause-adds : goal.returns-then-is_kept-clause-adds
returns-then-is_kept-clause-adds c =
    let is = subst (IsScanned (rules_by c.args.machine.now) c.args.text.items) c.in-Some.is c.in_ok-scanned.ensures in
    input_kept (rules_by c.args.machine.now) c.args.dfa.now.parts c.args.self.now c.keep.new.self c.in-Some.input c.requires is.1 c.in_ok-keep.ensures.inputs c.keep.ensures.marks

pub returns-then-is_kept-clause-text : goal.returns-then-is_kept-clause-text
returns-then-is_kept-clause-text c = λ none.
    let R = rules_by c.args.machine.now in
    let is = subst (IsScanned R c.args.text.items) c.in-Some.is c.in_ok-scanned.ensures in
    subst (λ (l : List ℕ). HasText R c.args.dfa.now.parts c.keep.new.self l) is.0
    (text_kept R c.args.dfa.now.parts c.args.self.now c.keep.new.self c.in-Some.input c.requires is.1 c.in_ok-keep.ensures.inputs c.keep.ensures.marks)

pub returns-clause-adds : goal.returns-clause-adds
returns-clause-adds c = adds_none (rules_by c.args.machine.now) c.args.dfa.now.parts c.args.self.now c.requires

pub returns-clause-text : goal.returns-clause-text
returns-clause-text c = λ none. absurd (let kept : c.is_kept.result ≡ true = c.is_kept.ensures none in let not_kept = c.if-is_kept.false in cc)
