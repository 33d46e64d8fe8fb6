-- The worked examples of condition lists and actions, computed.
use Rattle.std.proofs.Common.{true, false, [], ◌∷◌, Some, None, inl, inr, refl}
use Rattle.std.specs.Prelude.{codes}
use Rattle.lex_semantics.specs.ByteSets.{is_blank}
use Rattle.lex_semantics.specs.Escapes.{until_quote}
use Rattle.lex_semantics.specs.Reading.{take_up_to}
use Rattle.lexre.proofs.PieceLaws.{cutting_of}
use Rattle.lexre.specs.Cutting.{piece_at}
use Rattle.lexre.specs.Pieces.{other, slash, dollar, kind_at, slashes, ends_with_dollar}
use Rattle.lexspec.specs.Items.{conditions_at, after_string, after_piece, action_end, action_at}
use Rattle.lexspec.specs.RuleExamples.{ConditionLists, Actions, Sides}

pub condition_lists : ConditionLists
unfolding conditions_at take_up_to
condition_lists = (refl, refl, refl, refl)

pub actions_cut : Actions
unfolding take_up_to is_blank action_at action_end after_piece after_string until_quote
actions_cut = (refl, refl, refl, refl, refl, refl)

pub sides_cut : Sides
unfolding is_blank kind_at piece_at slashes ends_with_dollar
sides_cut = (
  (1, cutting_of (codes "a c") 1 None false false (record { pieces = (other, 0) ∷ []; cut = (codes " c", refl, refl, (refl, refl)); places = []; outside = refl; first = refl; second = refl; last = refl }), refl, refl),
  (
    2,
    refl,
    inl (
      cutting_of (codes "a$ c") 2 None false true (record {
        pieces = (other, 0) ∷ (dollar, 1) ∷ [];
        cut = (codes "$ c", refl, refl, (codes " c", refl, refl, (refl, refl)));
        places = [];
        outside = refl;
        first = refl;
        second = refl;
        last = refl;
      }),
      refl,
      refl,
    ),
  ),
  (
    3,
    refl,
    inr (
      1,
      cutting_of (codes "a/b c") 3 (Some 1) false false (record {
        pieces = (other, 0) ∷ (slash, 1) ∷ (other, 2) ∷ [];
        cut = (codes "/b c", refl, refl, (codes "b c", refl, refl, (codes " c", refl, refl, (refl, refl))));
        places = 1 ∷ [];
        outside = refl;
        first = refl;
        second = refl;
        last = refl;
      }),
      refl,
      refl,
    ),
  ),
)
