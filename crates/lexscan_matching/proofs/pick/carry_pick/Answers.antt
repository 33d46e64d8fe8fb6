use Rattle.std.proofs.lemmas.Grind.{common_steps}
use Rattle.std.proofs.Common.{◌≡◌, ℕ, ◌+◌, ◌-◌, List, take, ap, subst, ◌∙◌, arith}
use Rattle.std.specs.Prelude.{map}
use Rattle.lex_machine.specs.Views.{statement_of}
use Rattle.lex_semantics.specs.Text.{BeginsWith}
use Rattle.lex_semantics.specs.Machine.{Machine}
use Rattle.lexscan_window.specs.declared.act.ActionFlow.TheVariants as Step
use Rattle.lexscan_matching.specs.Picks.{path_of}
use Rattle.lexscan_matching.specs.Descends.{conditions_of}
use Rattle.lexscan_matching.proofs.Descending as Down
use Rattle.lexscan_matching.proofs.Picking as Pick
use Rattle.lexscan_matching.proofs.pick.carry_pick.Goals as goal

pub returns-in-Err : goal.returns-in-Err
returns-in-Err g c = record {
  same = grind (arith, common_steps);
  sink = grind (arith, common_steps);
  inside = grind (arith, common_steps);
  performed = grind (arith, common_steps);
  cut_off = (let M : Machine = g.M.Machine.machine c.args.machine.now in
      let w : List ℕ = c.args.window.now.bytes in
      Pick.picked_cut M g.K.Sink.wrote g.met.K.Sink.wrote_none g.met.K.Sink.wrote_more w c.args.place.at _ _ (path_of M c.args.place w c.args.reach) c.in-Some.pick (conditions_of c.args.acting.now)
      (map statement_of c.in-Some.pick.statements.now) (rw c.in-Some.is at c.requires.longest.first) (rw c.in-Some.is at c.requires.longest.known) (rw c.in-Some.is at c.requires.longest.statements) c.in-Err.ensures.cut_short);
}

pub returns-in-Ok-Next : goal.returns-in-Ok-Next
returns-in-Ok-Next g c = record {
  same = grind (arith, common_steps);
  sink = grind (arith, common_steps);
  inside = grind (arith, common_steps);
  performed = (let ens = rw c.in-Ok-Next.field-0-is at c.in-Ok-Next.ensures in
      let M : Machine = g.M.Machine.machine c.args.machine.now in
      let w : List ℕ = c.args.window.now.bytes in
      Pick.picked M g.K.Sink.wrote g.met.K.Sink.wrote_none g.met.K.Sink.wrote_more w c.args.place.at _ _ (path_of M c.args.place w c.args.reach) c.in-Some.pick (conditions_of c.args.acting.now)
      (map statement_of c.in-Some.pick.statements.now) c.carry_out.new.acting Step.Next (λ e. cc) (rw c.in-Some.is at c.requires.longest.first) (rw c.in-Some.is at c.requires.longest.known) (rw c.in-Some.is at c.requires.longest.statements) ens.carried);
  cut_off = grind (arith, common_steps);
}

pub returns-in-Ok-Again : goal.returns-in-Ok-Again
returns-in-Ok-Again g c = record {
  same = grind (arith, common_steps);
  sink = grind (arith, common_steps);
  inside = grind (arith, common_steps);
  performed = (let ens = rw c.in-Ok-Again.field-0-is at c.in-Ok-Again.ensures in
      let M : Machine = g.M.Machine.machine c.args.machine.now in
      let w : List ℕ = c.args.window.now.bytes in
      absurd (Pick.never_again M g.K.Sink.wrote g.met.K.Sink.wrote_none g.met.K.Sink.wrote_more w c.args.place.at _ _ c.in-Some.pick (conditions_of c.args.acting.now)
      (map statement_of c.in-Some.pick.statements.now) c.carry_out.new.acting c.requires.no_reject (rw c.in-Some.is at c.requires.longest.known) (rw c.in-Some.is at c.requires.longest.statements) ens.carried));
  cut_off = grind (arith, common_steps);
}

pub returns-in-Ok-Over : goal.returns-in-Ok-Over
returns-in-Ok-Over g c = record {
  same = grind (arith, common_steps);
  sink = grind (arith, common_steps);
  inside = grind (arith, common_steps);
  performed = (let ens = rw c.in-Ok-Over.field-0-is at c.in-Ok-Over.ensures in
      let M : Machine = g.M.Machine.machine c.args.machine.now in
      let w : List ℕ = c.args.window.now.bytes in
      Pick.picked M g.K.Sink.wrote g.met.K.Sink.wrote_none g.met.K.Sink.wrote_more w c.args.place.at _ _ (path_of M c.args.place w c.args.reach) c.in-Some.pick (conditions_of c.args.acting.now)
      (map statement_of c.in-Some.pick.statements.now) c.carry_out.new.acting (Step.Over c.in-Ok-Over.finish) (λ e. cc) (rw c.in-Some.is at c.requires.longest.first) (rw c.in-Some.is at c.requires.longest.known) (rw c.in-Some.is at c.requires.longest.statements) ens.carried);
  cut_off = grind (arith, common_steps);
}

pub returns-in-Err-put : goal.returns-in-Err-put
returns-in-Err-put g c = record {
  same = grind (arith, common_steps);
  sink = grind (arith, common_steps);
  inside = grind (arith, common_steps);
  performed = grind (arith, common_steps);
  cut_off = (let M : Machine = g.M.Machine.machine c.args.machine.now in
      let w : List ℕ = c.args.window.now.bytes in
      let path : List ℕ = path_of M c.args.place w c.args.reach in
      let count : c.args.place.at + 1 - 0 ≡ c.args.place.at + 1 = omega arith in
      let text : c.slice.result.now ≡ take (c.args.place.at + 1) w = c.slice.ensures ∙ ap (λ k. take k w) count in
      Down.default_cut M g.K.Sink.wrote g.met.K.Sink.wrote_more w c.args.place.at path _ _ _ (conditions_of c.args.acting.now) (conditions_of c.args.acting.now) (omega (arith, c.requires.inside, c.requires.some))
      (Pick.none_picked M g.K.Sink.wrote g.met.K.Sink.wrote_none g.met.K.Sink.wrote_more w c.args.place.at _ path (conditions_of c.args.acting.now) (rw c.in-None.is at c.requires.longest.first))
      (subst (λ (l : List ℕ). (front : List ℕ) × BeginsWith l front × g.K.Sink.wrote c.args.outlet.now.sink.now front c.put.new.outlet.sink.now) text c.in-Err-put.ensures.bytes));
}

pub returns-in-Ok : goal.returns-in-Ok
returns-in-Ok g c = record {
  same = grind (arith, common_steps);
  sink = grind (arith, common_steps);
  inside = grind (arith, common_steps);
  performed = (let M : Machine = g.M.Machine.machine c.args.machine.now in
      let w : List ℕ = c.args.window.now.bytes in
      let path : List ℕ = path_of M c.args.place w c.args.reach in
      let count : c.args.place.at + 1 - 0 ≡ c.args.place.at + 1 = omega arith in
      let text : c.slice.result.now ≡ take (c.args.place.at + 1) w = c.slice.ensures ∙ ap (λ k. take k w) count in
      Down.default_stop M g.K.Sink.wrote g.met.K.Sink.wrote_more w c.args.place.at path _ _ _ (conditions_of c.args.acting.now) (conditions_of c.args.acting.now) (omega (arith, c.requires.inside, c.requires.some))
      (Pick.none_picked M g.K.Sink.wrote g.met.K.Sink.wrote_none g.met.K.Sink.wrote_more w c.args.place.at _ path (conditions_of c.args.acting.now) (rw c.in-None.is at c.requires.longest.first))
      (subst (λ l. g.K.Sink.wrote c.args.outlet.now.sink.now l c.put.new.outlet.sink.now) text c.in-Ok.ensures.bytes));
  cut_off = grind (arith, common_steps);
}
