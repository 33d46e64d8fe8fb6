use Rattle.std.proofs.Common.{◌<◌, ◌++◌, ◌∷◌, [], get_or, false, sym, ap, subst, ◌∙◌, arith}
use Rattle.std.specs.Prelude.{reverse}
use Rattle.lexlook_tables.specs.declared.same.pairs.From.TheVariants.{Start}
use Rattle.lexlook_tables.specs.declared.same.pairs.Pair.{Pair}
use Rattle.lexlook_tables.specs.Searching.{HasAt, IsBefore, IsSuffixOf}
use Rattle.lexlook_tables.proofs.Lists.{at_place}
use Rattle.lexlook_tables.proofs.Telling.{step_back, whole_text, key_back, key_whole}
use Rattle.lexlook_tables.proofs.same.differing.text_to.Goals as goal

pub returns-in-Start-clause-text : goal.returns-in-Start-clause-text
returns-in-Start-clause-text c = λ order M N p linked at. whole_text order M N c.args.pairs.now c.pairs.at p q c.args.byte c.pairs.text.items linked here (c.pairs.invariant.suffix order M N p q linked at here) _ c.in-Start.is c.reverse.ensures.items
  where
    q : Pair
    q = get_or c.args.pairs.now c.pairs.at (record { left = 0; right = 0; far = 0; from = Start 0 false })

    here : HasAt c.args.pairs.now c.pairs.at q
    here = at_place c.args.pairs.now c.pairs.at _ c.pairs.invariant.within

pub returns-in-Start-clause-key : goal.returns-in-Start-clause-key
returns-in-Start-clause-key c = λ keys t keyed sized is. key_whole keys c.args.pairs.now c.pairs.at q c.pairs.text.items (t ++ c.args.byte ∷ []) keyed sized c.pairs.invariant.within (at_place c.args.pairs.now c.pairs.at _ c.pairs.invariant.within)
    (λ u has. c.pairs.invariant.key keys t u keyed sized is has) _ _ _ c.in-Start.is c.reverse.ensures.items
  where
    q : Pair
    q = get_or c.args.pairs.now c.pairs.at (record { left = 0; right = 0; far = 0; from = Start 0 false })

pub pairs-smaller : goal.pairs-smaller
pairs-smaller c = subst (IsBefore c.pairs.at) c.in-Byte.is (c.requires.back c.pairs.at _ (at_place c.args.pairs.now c.pairs.at _ c.pairs.invariant.within))

pub pairs-preserved : goal.pairs-preserved
pairs-preserved c = record {
  within = omega (arith, back, c.pairs.invariant.within);
  suffix = λ order M N p r linked at has. subst (λ t. IsSuffixOf M N p c.args.byte r t) (sym c.in_ok-push-in-Byte.ensures.items)
      (step_back order M N c.args.pairs.now c.pairs.at p q c.args.byte c.pairs.text.items linked here (c.pairs.invariant.suffix order M N p q linked at here) r c.in-Byte.before c.in-Byte.byte c.in-Byte.is has);
  key = λ keys t u keyed sized is has. ap (λ z. u ++ reverse z) c.in_ok-push-in-Byte.ensures.items ∙ key_back keys c.args.pairs.now c.pairs.at q c.pairs.text.items (t ++ c.args.byte ∷ []) keyed sized c.pairs.invariant.within here
      (λ v at_v. c.pairs.invariant.key keys t v keyed sized is at_v) c.in-Byte.before c.in-Byte.byte u c.in-Byte.is has;
}
  where
    q : Pair
    q = get_or c.args.pairs.now c.pairs.at (record { left = 0; right = 0; far = 0; from = Start 0 false })

    here : HasAt c.args.pairs.now c.pairs.at q
    here = at_place c.args.pairs.now c.pairs.at _ c.pairs.invariant.within

    back : c.in-Byte.before < c.pairs.at
    back = subst (IsBefore c.pairs.at) c.in-Byte.is (c.requires.back c.pairs.at q here)
