use Rattle.std.proofs.Common.{◌≡◌, ◌+◌, ◌-◌, length, drop, take, refl, sym, ap, subst, ◌∙◌, arith}
use Rattle.std.proofs.lemmas.List.{drop-drop}
use Rattle.lexscan.specs.Series.{ListedOver}
use Rattle.lexscan.proofs.Listing as Told
use Rattle.lexscan.proofs.Pulling as Pull
use Rattle.lexscan.proofs.pull.PullScanner.next_several.Goals as goal

pub returns-then-not-may_list-clause-told : goal.returns-then-not-may_list-clause-told
returns-then-not-may_list-clause-told g c =
    let s = c.args.self.now in
    Told.none_told (g.M.Machine.machine s.machine) s.finished s.scan.state (drop s.from s.waiting.items) c.args.tokens.now.items

pub invariant_of-self-2-clause-reachable : goal.invariant_of-self-2-clause-reachable
invariant_of-self-2-clause-reachable g c works =
    let s = c.args.self.now in
    let M = g.M.Machine.machine s.machine in
    Told.several_reachable M s.scan c.list_at_glance-listed.new.self _ c.args.tokens.now.items c.list_at_glance-listed.new.tokens.items c.list_at_glance-listed.result (s.reachable (c.if-not-may_list.ensures.going refl).working) c.list_at_glance-listed.ensures

pub returns-clause-told : goal.returns-clause-told
returns-clause-told g c =
    let s = c.args.self.now in
    let M = g.M.Machine.machine s.machine in
    let l = c.list_at_glance-listed.result in
    let v : take (length c.deref.result.now - s.from) (drop s.from c.deref.result.now) ≡ drop s.from s.waiting.items = Pull.to_end c.deref.result.now s.from ∙ ap (drop s.from) c.deref.ensures.value in
    let over = subst (λ w. ListedOver M w s.scan c.list_at_glance-listed.new.self c.args.tokens.now.items c.list_at_glance-listed.new.tokens.items l) v c.list_at_glance-listed.ensures in
    Told.tells_several M s.finished s.scan c.list_at_glance-listed.new.self (drop s.from s.waiting.items) (drop (s.from + l.got) s.waiting.items) c.args.tokens.now.items c.list_at_glance-listed.new.tokens.items l (c.if-not-may_list.ensures.going refl).going over
    (sym (drop-drop l.got s.from s.waiting.items ∙ ap (λ n. drop n s.waiting.items) (omega arith)))
