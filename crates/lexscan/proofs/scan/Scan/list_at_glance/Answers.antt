use Rattle.std.proofs.Common.{◌≡◌, ◌-◌, refl, sym, subst, arith}
use Rattle.lexscan.specs.Bursts.{Advanced}
use Rattle.lexscan.specs.Series.{ListedOver}
use Rattle.lexscan.proofs.Glancing as Glance
use Rattle.lexscan.proofs.Listing as Told
use Rattle.lexscan.proofs.scan.Scan.list_at_glance.Goals as goal

pub returns-then-self : goal.returns-then-self
returns-then-self g c = Told.listed_none (g.M.Machine.machine c.args.machine.now) c.args.self.now c.args.waiting.now c.args.tokens.now.items c.requires.kept

pub returns : goal.returns
returns g c =
    let M = g.M.Machine.machine c.args.machine.now in
    let s = c.args.self.now in
    let begins : s.state.place.at ≡ 0 = grind arith in
    let b = c.series_over-burst.result in
    let held = c.len-held.result in
    let start : c.saturating_sub-start.result ≡ s.state.reading.taken - held = omega (arith, c.saturating_sub-start.ensures) in
    subst (λ n. ListedOver M c.args.waiting.now s (record s { state = c.advance.new.state }) c.args.tokens.now.items c.series_over-burst.new.tokens.items (record { start = n; got = b.asked - held; done = b.done })) (sym start)
    (Told.listed_over M s (record s { state = c.advance.new.state }) c.args.waiting.now c.text-text.result.now c.show-shown.new.self held c.show-shown.result b c.args.tokens.now.items c.series_over-burst.new.tokens.items c.len-held.ensures c.show-shown.ensures.bytes
    c.show-shown.ensures.ahead c.show-shown.ensures.few c.text-text.ensures (omega arith) c.requires.going c.requires.kept c.if-self.false begins c.requires.reachable refl c.series_over-burst.ensures
    (subst (λ z. Advanced b (b.asked - held) z.state c.advance.new.state) (Glance.shows_is s c.show-shown.new.self _) c.advance.ensures))
