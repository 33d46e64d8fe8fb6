use Rattle.std.proofs.Common.{refl, sym}
use Rattle.lexscan_window.specs.declared.matched.MatchedRule.TheVariants.{Default}
use Rattle.lexlook_counts.specs.Costs.{cost_by}
use Rattle.lexlook_counts.proofs.Tallying.{rules_same, this_default}
use Rattle.lexlook_counts.proofs.tally.Tally.count.Goals as goal

pub returns-in-Default : goal.returns-in-Default
returns-in-Default c rules conditions costs h =
    let t = cost_by c.args.token c.args.beyond in
    record {
      of_rules = rules_same rules costs t _ h.of_rules c.in-Default.is;
      of_default = c.with-self.ensures Default costs t h.of_default (this_default t.token.rule c.in-Default.is) refl refl;
      of_conditions = c.count_turn.ensures conditions costs t h.of_conditions (sym c.from.ensures);
    }
