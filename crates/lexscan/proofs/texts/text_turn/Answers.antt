use Rattle.std.proofs.Common.{◌<◌, refl, sym, subst, ◌∙◌, arith}
use Rattle.std.proofs.lemmas.Grind.{common_steps}
use Rattle.std.proofs.lemmas.List.{take_rest}
use Rattle.lexscan_matching.specs.Glanced.{IsGlancedMatch}
use Rattle.lex_machine.proofs.Growing.{is_text_from}
use Rattle.lexscan.proofs.Bursting as Turned
use Rattle.lexscan.proofs.texts.text_turn.Goals as goal

pub returns-then-not-names_rule : goal.returns-then-not-names_rule
returns-then-not-names_rule g c =
    let M = g.M.Machine.machine c.args.machine.now in
    let text = c.args.text.now in
    let p = c.args.place in
    let e = c.stopped.ensures in
    record {
      same = refl;
      bursts = rw (e.fault, e.done, e.kept, e.asked, e.condition, e.line) (Turned.went_none M g.K.Sink.wrote c.args.outlet.now.sink.now text c.args.held p.at p.condition p.line_start c.requires.held (g.met.K.Sink.wrote_none _));
      failures = grind (arith, common_steps);
      live = grind (arith, common_steps);
      condition = grind (arith, common_steps);
      no_earlier = grind (arith, common_steps);
      kept = grind (arith, common_steps);
      held = grind (arith, common_steps);
      asked = grind (arith, common_steps);
    }

pub returns-in_default : goal.returns-in_default
returns-in_default g c =
    let M = g.M.Machine.machine c.args.machine.now in
    let laws = g.M.Machine.laws c.args.machine.now in
    let text = c.args.text.now in
    let bytes = is_text_from text (λ k. let f = c.type_inv.text k in omega (arith, f)) in
    let p = c.args.place in
    let longest = c.longest_match-longest.result in
    let told = sym c.names_rule.ensures ∙ c.if-not-names_rule.false in
    let tells = subst (λ l. IsGlancedMatch M c.args.first l c.args.way.count longest) (take_rest text p.at) c.longest_match-longest.ensures in
    let e = c.stopped-in_default.ensures in
    let put = c.in_default.ensures.bytes in
    let reaches = Turned.text_reaches M laws text bytes c.args.held p.at p.condition p.line_start c.args.first c.args.way c.requires.inside c.requires.held c.requires.leads.0 c.requires.leads.1 longest tells told in
    record {
      same = grind (arith, common_steps);
      bursts = rw (e.fault, e.done, e.kept, e.asked, e.condition, e.line, c.max-asked.ensures) (Turned.text_broke M laws text bytes c.args.held p.at p.condition p.line_start c.args.first c.args.way c.requires.inside c.requires.held c.requires.leads.0 c.requires.leads.1 longest tells told
          g.K.Sink.wrote g.met.K.Sink.wrote_none g.met.K.Sink.wrote_more c.args.outlet.now.sink.now c.do_gist.new.outlet.sink.now put.0 put.1 put.2);
      failures = grind (arith, common_steps);
      live = grind (arith, common_steps);
      condition = grind (arith, common_steps);
      no_earlier = grind (arith, common_steps);
      kept = grind (arith, common_steps);
      held = grind (arith, common_steps);
      asked = omega (arith, e.asked, c.max-asked.ensures, reaches, c.requires.held);
    }

pub returns : goal.returns
returns g c =
    let M = g.M.Machine.machine c.args.machine.now in
    let laws = g.M.Machine.laws c.args.machine.now in
    let text = c.args.text.now in
    let bytes = is_text_from text (λ k. let f = c.type_inv.text k in omega (arith, f)) in
    let p = c.args.place in
    let longest = c.longest_match-longest.result in
    let told = sym c.names_rule.ensures ∙ c.if-not-names_rule.false in
    let tells = subst (λ l. IsGlancedMatch M c.args.first l c.args.way.count longest) (take_rest text p.at) c.longest_match-longest.ensures in
    let reaches = Turned.text_reaches M laws text bytes c.args.held p.at p.condition p.line_start c.args.first c.args.way c.requires.inside c.requires.held c.requires.leads.0 c.requires.leads.1 longest tells told in
    let keeps = Turned.text_keeps M laws text bytes c.args.held p.at p.condition p.line_start c.args.first c.args.way c.requires.inside c.requires.held c.requires.leads.0 c.requires.leads.1 longest tells told in
    let few = keeps.1 in
    record {
      same = grind (arith, common_steps);
      bursts = rw c.max-asked.ensures (Turned.text_turned M laws text bytes c.args.held p.at p.condition p.line_start c.args.first c.args.way c.requires.inside c.requires.held c.requires.leads.0 c.requires.leads.1 longest tells told
          g.K.Sink.wrote g.met.K.Sink.wrote_none g.met.K.Sink.wrote_more c.args.outlet.now.sink.now c.do_gist.new.outlet.sink.now c.in-Ok.ensures.bytes c.in-Ok.after c.in-Ok.ensures.condition _ refl);
      failures = grind (arith, common_steps);
      live = grind (arith, common_steps);
      condition = subst (λ k. k < M.conditions) (sym c.in-Ok.ensures.condition) (Turned.text_condition M laws text bytes c.args.held p.at p.condition p.line_start c.args.first c.args.way c.requires.inside c.requires.held c.requires.leads.0 c.requires.leads.1 longest tells told c.requires.condition);
      no_earlier = grind (arith, common_steps);
      kept = omega (arith, c.max-asked.ensures, few);
      held = omega (arith, c.max-asked.ensures);
      asked = omega (arith, c.max-asked.ensures, reaches, c.requires.held);
    }
