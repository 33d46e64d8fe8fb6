use Rattle.std.proofs.Common.{rules, ◌≡◌, ◌↔◌, ℕ, ◌<◌, ◌≤◌, ◌+◌, ◌-◌, List, length, arith, sym, subst, ◌∙◌}
use Rattle.lexauto_dfa.specs.Arranged.{states, count, block_of, Arranged}
use Rattle.lexauto_dfa.specs.Sources.{Has}
use Rattle.lexauto_dfa.specs.declared.least.blocks.Blocks.{Blocks}
use Rattle.lexauto_dfa.proofs.Dividing.{few_blocks}
use Rattle.lexauto_dfa.proofs.Rounds.{last_known, left_known, round, settled}
use Rattle.lexauto_dfa.proofs.least.refining.split_by_waiting.Goals as goal

few : (b : Blocks) → Arranged b → count b ≤ states b
few b a = few_blocks b.order.items b.place.items b.block.items b.first.items b.middle.items b.end.items a

pub members-requires-clause-number : goal.members-requires-clause-number
members-requires-clause-number c =
    let v = c.rounds.invariant in
    last_known c.rounds.waiting.items c.pop.new.self.items c.in-Some.number (count c.rounds.blocks) c.in-Some.ensures.items v.known

pub split_by_all-requires-clause-ready : goal.split_by_all-requires-clause-ready
split_by_all-requires-clause-ready c =
    let v = c.rounds.invariant in
    record { arranged = v.arranged; untouched = v.untouched; known = left_known c.rounds.waiting.items c.pop.new.self.items c.in-Some.number (count c.rounds.blocks) c.in-Some.ensures.items v.known }

pub rounds-smaller : goal.rounds-smaller
rounds-smaller c =
    let k = c.in_ok-split_by_all.ensures.counts in
    let f = few c.split_by_all.new.blocks c.in_ok-split_by_all.ensures.ready.arranged in
    let l : length c.pop.new.self.items + 1 ≡ length c.rounds.waiting.items = search (rules, c.in-Some.ensures.len) in
    let less : length c.split_by_all.new.waiting.items + (states c.split_by_all.new.blocks - count c.split_by_all.new.blocks) < length c.rounds.waiting.items + (states c.rounds.blocks - count c.rounds.blocks) =
    omega (arith, k.weight, k.grown, k.same_states, f, l) in
    less

pub rounds-preserved : goal.rounds-preserved
rounds-preserved c =
    let v = c.rounds.invariant in
    let k = c.in_ok-split_by_all.ensures.counts in
    let targets : c.deref-in-Some.result.now ≡ c.in_ok-targets.targets.items = c.deref-in-Some.ensures.value in
    record {
      arranged = c.in_ok-split_by_all.ensures.ready.arranged;
      untouched = c.in_ok-split_by_all.ensures.ready.untouched;
      known = k.known;
      same_states = k.same_states ∙ v.same_states;
      refining = λ labels len r.
          round c.args.letters.now labels (states c.args.blocks.now) len c.requires.rows (block_of c.rounds.blocks) (block_of c.split_by_all.new.blocks)
          c.rounds.waiting.items c.pop.new.self.items c.split_by_all.new.waiting.items c.deref-in-Some.result.now c.in-Some.number
          c.in-Some.ensures.items
          (λ x h. subst (λ (xs : List ℕ). Has xs x ↔ (block_of c.rounds.blocks x ≡ c.in-Some.number)) (sym targets) (c.in_ok-targets.ensures.of x (omega (arith, h, v.same_states))))
          (λ coarse inside tells u. c.in_ok-split_by_all.ensures.used labels coarse inside (len ∙ sym v.same_states) (λ x h. tells x (omega (arith, h, v.same_states))) u)
          (v.refining labels len r);
    }

pub returns-clause-coarsest : goal.returns-clause-coarsest
returns-clause-coarsest c = λ labels len r.
    let v = c.rounds.invariant in
    settled c.args.letters.now labels (states c.args.blocks.now) len c.requires.rows (block_of c.rounds.blocks) c.rounds.waiting.items (search (rules, c.in_default.ensures.cases)) (v.refining labels len r)
