use Rattle.std.proofs.Common.{◌+◌, drop, refl, ap, subst, ◌∙◌, arith}
use Rattle.std.proofs.lemmas.List.{take_rest}
use Rattle.lex_machine.specs.Glances.{Leads}
use Rattle.lex_machine.proofs.Growing.{is_text_from}
use Rattle.lexscan.specs.Bursts.{fault_of, BurstsBy}
use Rattle.lexscan.proofs.Bursting as Turned
use Rattle.lexscan.proofs.Chaining as Chain
use Rattle.lexscan.proofs.texts.text_over.Goals as goal

pub matches-init : goal.matches-init
matches-init g c = record {
  same = refl;
  sink = refl;
  live = c.requires.live;
  went = Turned.went_none (g.M.Machine.machine c.args.machine.now) g.K.Sink.wrote c.args.outlet.now.sink.now c.args.text.now c.args.held c.args.place.at c.args.place.condition c.args.place.line_start c.requires.held (g.met.K.Sink.wrote_none _);
  condition = c.requires.condition;
  starts = c.start-first.ensures.state;
  known = c.start-first.ensures.known;
  held = omega arith;
  asked = c.requires.held;
  inside = c.requires.inside;
  begun = omega arith;
}

pub returns-in_default-more_part : goal.returns-in_default-more_part
returns-in_default-more_part g c =
    let M = g.M.Machine.machine c.args.machine.now in
    let text = c.args.text.now in
    let s = c.args.outlet.now.sink.now in
    let u = c.text_turn.new.outlet.sink.now in
    let b = c.text_turn.result in
    let before = c.matches.invariant in
    let e = c.text_turn.ensures in
    record {
      same = e.same ∙ before.same;
      bursts = Chain.on_by M g.K.Sink.wrote g.met.K.Sink.wrote_more s s u text c.args.held c.matches.asked c.args.place c.matches.next before.held before.went b.burst b.kept e.held e.asked b.burst.fault
          (subst (λ t. BurstsBy b.burst.fault M g.K.Sink.wrote t u text c.matches.asked c.matches.next.at c.matches.next.condition c.matches.next.line_start b.burst b.kept) before.sink e.bursts);
      failures = e.failures ∙ ap (λ t. g.K.Sink.failures t + fault_of b.burst.fault) before.sink;
      live = e.live;
      condition = e.condition;
      no_earlier = omega (arith, before.begun, e.no_earlier);
      kept = e.kept;
      held = omega (arith, before.held, e.held);
      asked = e.asked;
    }

pub matches-preserved : goal.matches-preserved
matches-preserved g c =
    let M = g.M.Machine.machine c.args.machine.now in
    let laws = g.M.Machine.laws c.args.machine.now in
    let text = c.args.text.now in
    let bytes = is_text_from text (λ k. let f = c.type_inv.text k in omega (arith, f)) in
    let s = c.args.outlet.now.sink.now in
    let p = c.args.place in
    let q = c.matches.next in
    let before = c.matches.invariant in
    let way = c.in-Some.way in
    let keep = c.in-Some-more_part.keep in
    let leads = subst (λ l. Leads M c.matches.first l way) (take_rest text q.at) c.in-Some.ensures.way in
    let more = c.in-Some-more_part.ensures c.matches.first (drop q.at text) leads in
    let reaches = Turned.more_reaches M laws text bytes c.matches.asked q.at q.condition q.line_start c.matches.first way before.inside before.asked before.starts leads keep more in
    let few = more.1 in
    record {
      same = before.same;
      sink = before.sink;
      live = before.live;
      went = rw c.max-asked.ensures (Chain.more_went M laws text bytes c.matches.asked q.at q.condition q.line_start c.matches.first way before.inside before.asked before.starts leads keep more
          g.K.Sink.wrote g.met.K.Sink.wrote_none g.met.K.Sink.wrote_more s s c.args.held p.at p.condition p.line_start before.held before.went);
      condition = before.condition;
      starts = c.start-first-in-matches.ensures.state;
      known = c.start-first-in-matches.ensures.known;
      held = omega (arith, c.max-asked.ensures, before.held);
      asked = omega (arith, c.max-asked.ensures, reaches, before.asked);
      inside = omega (arith, c.max-asked.ensures, few);
      begun = omega (arith, before.begun);
    }
