use Rattle.std.proofs.Common.{◌+◌, ◌<◌, drop, true, false, refl, sym, subst, ◌∙◌, arith}
use Rattle.std.proofs.lemmas.Grind.{common_steps}
use Rattle.std.proofs.lemmas.List.{take_rest}
use Rattle.lex_machine.specs.Glances.{Leads}
use Rattle.lex_machine.proofs.Growing.{is_text_from}
use Rattle.lexscan.proofs.Bursting as Turned
use Rattle.lexscan.proofs.Planned as Plan
use Rattle.lexscan.proofs.Beginning as Begun
use Rattle.lexscan.proofs.apart.turn_apart.Goals as goal

pub returns-in_default : goal.returns-in_default
returns-in_default g c =
    let M = g.M.Machine.machine c.args.machine.now in
    let text = c.args.text.now in
    let p = c.args.place in
    let e = c.stopped.ensures in
    record {
      same = refl;
      bursts = rw (e.fault, e.done, e.kept, e.asked, e.condition, e.line) (Turned.went_none M g.K.Sink.wrote c.args.outlet.now.sink.now text c.args.held p.at p.condition p.line_start c.requires.held (g.met.K.Sink.wrote_none _));
      failures = grind (arith, common_steps);
      live = grind (arith, common_steps);
      condition = grind (arith, common_steps);
      no_earlier = grind (arith, common_steps);
      kept = grind (arith, common_steps);
      held = grind (arith, common_steps);
      asked = grind (arith, common_steps);
    }

pub returns-in-Some-begun_match : goal.returns-in-Some-begun_match
returns-in-Some-begun_match g c =
    let M = g.M.Machine.machine c.args.machine.now in
    let laws = g.M.Machine.laws c.args.machine.now in
    let text = c.args.text.now in
    let bytes = is_text_from text (λ k. let f = c.type_inv.text k in omega (arith, f)) in
    let p = c.args.place in
    let way = c.in-Some.way in
    let begun = c.in-Some-begun_match.begun in
    let plan = Begun.plan_begun begun in
    let leads = subst (λ s. Leads M s (drop p.at text) way) c.start-first.ensures.state (subst (λ l. Leads M c.start-first.result l way) (take_rest text p.at) c.in-Some.ensures.way) in
    let is = Begun.is_planned M p text way.count begun (c.in-Some-begun_match.ensures p text leads) in
    let e = c.stopped-in-Some-begun_match.ensures in
    let reaches = Plan.reaches M laws text bytes p.at c.args.held p.condition p.line_start way c.requires.inside c.requires.held leads plan is in
    let short = is.short in
    record {
      same = refl;
      bursts = rw (e.fault, e.done, e.kept, e.asked, e.condition, e.line, c.max-asked.ensures) (Plan.turned M laws text bytes p.at c.args.held p.condition p.line_start way c.requires.inside c.requires.held leads plan is
          g.K.Sink.wrote c.args.outlet.now.sink.now c.args.outlet.now.sink.now true refl 0 (p.at + begun.keep) (refl, refl) (g.met.K.Sink.wrote_none _) begun.condition refl _ refl);
      failures = grind (arith, common_steps);
      live = grind (arith, common_steps);
      condition = subst (λ k. k < M.conditions) (sym e.condition) (Plan.condition_in M laws text bytes p.at c.args.held p.condition p.line_start way c.requires.inside c.requires.held leads plan is c.requires.condition);
      no_earlier = omega (arith, e.kept);
      kept = omega (arith, e.kept, e.done, e.asked, c.max-asked.ensures, short);
      held = omega (arith, e.asked, c.max-asked.ensures);
      asked = omega (arith, e.asked, c.max-asked.ensures, reaches, c.requires.held);
    }

pub returns-in_default-plan_of : goal.returns-in_default-plan_of
returns-in_default-plan_of g c =
    let M = g.M.Machine.machine c.args.machine.now in
    let text = c.args.text.now in
    let p = c.args.place in
    let e = c.stopped-in_default-plan_of.ensures in
    record {
      same = refl;
      bursts = rw (e.fault, e.done, e.kept, e.asked, e.condition, e.line) (Turned.went_none M g.K.Sink.wrote c.args.outlet.now.sink.now text c.args.held p.at p.condition p.line_start c.requires.held (g.met.K.Sink.wrote_none _));
      failures = grind (arith, common_steps);
      live = grind (arith, common_steps);
      condition = grind (arith, common_steps);
      no_earlier = grind (arith, common_steps);
      kept = grind (arith, common_steps);
      held = grind (arith, common_steps);
      asked = grind (arith, common_steps);
    }

pub returns-in_default-do_plan : goal.returns-in_default-do_plan
returns-in_default-do_plan g c =
    let M = g.M.Machine.machine c.args.machine.now in
    let laws = g.M.Machine.laws c.args.machine.now in
    let text = c.args.text.now in
    let bytes = is_text_from text (λ k. let f = c.type_inv.text k in omega (arith, f)) in
    let p = c.args.place in
    let way = c.in-Some.way in
    let plan = c.in-Some-plan_of.plan in
    let leads = subst (λ s. Leads M s (drop p.at text) way) c.start-first.ensures.state (subst (λ l. Leads M c.start-first.result l way) (take_rest text p.at) c.in-Some.ensures.way) in
    let is = c.in-Some-plan_of.ensures p text leads in
    let e = c.stopped-in_default-do_plan.ensures in
    let put = c.in_default-do_plan.ensures.bytes in
    let reaches = Plan.reaches M laws text bytes p.at c.args.held p.condition p.line_start way c.requires.inside c.requires.held leads plan is in
    record {
      same = grind (arith, common_steps);
      bursts = rw (e.fault, e.done, e.kept, e.asked, e.condition, e.line, c.max-asked.ensures) (Plan.stopped M laws text bytes p.at c.args.held p.condition p.line_start way c.requires.inside c.requires.held leads plan is
          g.K.Sink.wrote c.args.outlet.now.sink.now c.do_plan.new.outlet.sink.now put.0 put.1 put.2);
      failures = grind (arith, common_steps);
      live = grind (arith, common_steps);
      condition = grind (arith, common_steps);
      no_earlier = grind (arith, common_steps);
      kept = grind (arith, common_steps);
      held = grind (arith, common_steps);
      asked = omega (arith, e.asked, c.max-asked.ensures, reaches, c.requires.held);
    }

pub returns-then-plan : goal.returns-then-plan
returns-then-plan g c =
    let M = g.M.Machine.machine c.args.machine.now in
    let laws = g.M.Machine.laws c.args.machine.now in
    let text = c.args.text.now in
    let bytes = is_text_from text (λ k. let f = c.type_inv.text k in omega (arith, f)) in
    let p = c.args.place in
    let way = c.in-Some.way in
    let plan = c.in-Some-plan_of.plan in
    let leads = subst (λ s. Leads M s (drop p.at text) way) c.start-first.ensures.state (subst (λ l. Leads M c.start-first.result l way) (take_rest text p.at) c.in-Some.ensures.way) in
    let is = c.in-Some-plan_of.ensures p text leads in
    let e = c.stopped-then-plan.ensures in
    let reaches = Plan.reaches M laws text bytes p.at c.args.held p.condition p.line_start way c.requires.inside c.requires.held leads plan is in
    let short = is.short in
    record {
      same = grind (arith, common_steps);
      bursts = rw (e.fault, e.done, e.kept, e.asked, e.condition, e.line, c.max-asked.ensures) (Plan.turned M laws text bytes p.at c.args.held p.condition p.line_start way c.requires.inside c.requires.held leads plan is
          g.K.Sink.wrote c.args.outlet.now.sink.now c.do_plan.new.outlet.sink.now true (sym c.if-plan.true) 0 (p.at + plan.keep) (refl, refl) c.in-Ok.ensures.bytes c.in-Ok.after c.in-Ok.ensures.condition _ refl);
      failures = grind (arith, common_steps);
      live = grind (arith, common_steps);
      condition = subst (λ k. k < M.conditions) (sym (e.condition ∙ c.in-Ok.ensures.condition)) (Plan.condition_in M laws text bytes p.at c.args.held p.condition p.line_start way c.requires.inside c.requires.held leads plan is c.requires.condition);
      no_earlier = omega (arith, e.kept);
      kept = omega (arith, e.kept, e.done, e.asked, c.max-asked.ensures, short);
      held = omega (arith, e.asked, c.max-asked.ensures);
      asked = omega (arith, e.asked, c.max-asked.ensures, reaches, c.requires.held);
    }

pub returns : goal.returns
returns g c =
    let M = g.M.Machine.machine c.args.machine.now in
    let laws = g.M.Machine.laws c.args.machine.now in
    let text = c.args.text.now in
    let bytes = is_text_from text (λ k. let f = c.type_inv.text k in omega (arith, f)) in
    let p = c.args.place in
    let way = c.in-Some.way in
    let plan = c.in-Some-plan_of.plan in
    let leads = subst (λ s. Leads M s (drop p.at text) way) c.start-first.ensures.state (subst (λ l. Leads M c.start-first.result l way) (take_rest text p.at) c.in-Some.ensures.way) in
    let is = c.in-Some-plan_of.ensures p text leads in
    let e = c.ended.ensures in
    let reaches = Plan.reaches M laws text bytes p.at c.args.held p.condition p.line_start way c.requires.inside c.requires.held leads plan is in
    let short = is.short in
    record {
      same = grind (arith, common_steps);
      bursts = rw (e.fault, e.done, e.kept, e.asked, e.condition, e.line, c.max-asked.ensures) (Plan.turned M laws text bytes p.at c.args.held p.condition p.line_start way c.requires.inside c.requires.held leads plan is
          g.K.Sink.wrote c.args.outlet.now.sink.now c.do_plan.new.outlet.sink.now false (sym c.if-plan.false) (p.at + plan.keep) 0 (refl, refl) c.in-Ok.ensures.bytes c.in-Ok.after c.in-Ok.ensures.condition _ refl);
      failures = grind (arith, common_steps);
      live = grind (arith, common_steps);
      condition = subst (λ k. k < M.conditions) (sym (e.condition ∙ c.in-Ok.ensures.condition)) (Plan.condition_in M laws text bytes p.at c.args.held p.condition p.line_start way c.requires.inside c.requires.held leads plan is c.requires.condition);
      no_earlier = omega (arith, e.done);
      kept = omega (arith, e.kept, e.done, e.asked, c.max-asked.ensures, short);
      held = omega (arith, e.asked, c.max-asked.ensures);
      asked = omega (arith, e.asked, c.max-asked.ensures, reaches, c.requires.held);
    }
