use Rattle.std.proofs.Common.{rules, ◌≡◌, ◌+◌, ◌<◌, ℕ, suc, List, [], ◌∷◌, Some, length, map, drop, refl, sym, ap, subst, ◌∙◌, arith}
use Rattle.std.proofs.lemmas.Grind.{common_steps}
use Rattle.std.specs.Prelude.{slice_get}
use Rattle.std.proofs.lemmas.List.{drop_more}
use Rattle.lex_semantics.specs.Spec.{Rule}
use Rattle.lex_semantics.specs.Subsets.{positions_of_rule, all_positions, base_of}
use Rattle.lexauto_positions.specs.Laid.{shape_of, HaveSized}
use Rattle.lexauto_positions.specs.Owners.{AreOwners}
use Rattle.lexauto_positions.specs.declared.owners.Owner.{Owner}
use Rattle.lexauto_positions.specs.declared.rules.LaidRule.{LaidRule}
use Rattle.lexauto_positions.proofs.AlikeLaws.{drop_one}
use Rattle.lexauto_positions.proofs.Bases.{base_first, base_next}
use Rattle.lexauto_positions.proofs.Owning.{none_owned, owners_more}
use Rattle.lexauto_positions.proofs.Mapped.{item_at}
use Rattle.lexauto_positions.proofs.owners.owners_of.Goals as goal

pub loop-i-init : goal.loop-i-init
loop-i-init c =
    let all = map shape_of c.args.rules.now in
    let items : c.new-owners.result.items ≡ [] = search rules in
    record {
      sized = c.requires.sized;
      place = omega arith;
      begins = sym (base_first all 0);
      len = ap length items;
      owners = subst (λ (l : List Owner). AreOwners all l) (sym items) (none_owned all);
    }

pub loop-i-preserved : goal.loop-i-preserved
loop-i-preserved c =
    let laid = c.args.rules.now in
    let all = map shape_of laid in
    let i = c.loop-i.i in
    let base = c.loop-i.base in
    let rule = c.index-rules-i.result in
    let low : i < length laid = search rules in
    let at : slice_get all i ≡ Some (shape_of rule) = item_at shape_of laid i rule low c.index-rules-i.is in
    let rest : map shape_of (drop i laid) ≡ shape_of rule ∷ map shape_of (drop (i + 1) laid) = drop_one shape_of laid i rule low c.index-rules-i.is in
    let more : c.size-base.result ≡ positions_of_rule (shape_of rule) = c.size-base.ensures in
    let before : c.loop-i.owners.len ≡ length c.loop-i.owners.items = search rules in
    let size : length c.resize.new.self.items ≡ base + c.size-base.result = search rules in
    let begins : base + c.size-base.result ≡ base_of all 0 (i + 1) =
    (let next = base_next all 0 i (shape_of rule) at in let b = c.loop-i.invariant.begins in let up : suc i ≡ i + 1 = omega arith in
    rw (more, b) (sym next ∙ ap (base_of all 0) up)) in
    let place : base + (positions_of_rule (shape_of rule) + all_positions (map shape_of (drop (i + 1) laid))) ≡ all_positions all =
    subst (λ (rs : List Rule). base + all_positions rs ≡ all_positions all) rest c.loop-i.invariant.place in
    record {
      sized = (subst (λ (ls : List LaidRule). HaveSized ls) (drop_more laid i rule low) c.loop-i.invariant.sized).1;
      place = omega (arith, place, more);
      begins = begins;
      len = size;
      owners = owners_more all c.loop-i.owners.items c.resize.new.self.items i base (shape_of rule) at c.loop-i.invariant.begins c.loop-i.invariant.len
          (size ∙ ap (λ (n : ℕ). base + n) more) (record { rule = i; base = base }) refl refl
          (λ k d h g. c.in_ok-resize.ensures.by_index.0 k d (omega (arith, h, size)) (omega (arith, g, before)))
          (λ k d g h. c.in_ok-resize.ensures.by_index.1 k d refl (omega (arith, g, before)) (omega (arith, h, size)))
          c.loop-i.invariant.owners;
    }

pub returns-clause-len : goal.returns-clause-len
returns-clause-len c = grind (arith, common_steps)

pub returns-clause-owners : goal.returns-clause-owners
returns-clause-owners c = c.loop-i.invariant.owners

pub overflow_add-base : goal.overflow_add-base
overflow_add-base = grind (arith, common_steps)

pub size-base-requires : goal.size-base-requires
size-base-requires = grind (arith, common_steps)
