-- Rules with sound trees on their sides, one after another.
use Rattle.std.proofs.Common.{◌≡◌, List, [], ◌∷◌, ◌++◌, map, sym, ap, subst, ◌∙◌}
use Rattle.std.proofs.lemmas.List.{map-append}
use Rattle.lex_semantics.specs.Spec as S
use Rattle.lexspec.specs.WaitingRules.{acting}
use Rattle.lexspec.specs.RuleViews.{rule_of}
use Rattle.lexspec.specs.SoundSides.{HasSoundFront}
use Rattle.lex_semantics.specs.Sound.{HaveSoundSides}
use Rattle.lexspec.specs.declared.rule_text.Front.{Front}
use Rattle.lexspec.specs.declared.rule_text.Front.TheVariants as F
use Rattle.lexspec.specs.declared.rule.Rule.{Rule}

sides_append : (rs qs : List S.Rule) → HaveSoundSides rs → HaveSoundSides qs → HaveSoundSides (rs ++ qs)
sides_append [] qs h k = k
sides_append (r ∷ rs) qs h k = (h.0, sides_append rs qs h.1 k)

sides_acting : (ss : List S.Statement) (rs : List S.Rule) → HaveSoundSides rs → HaveSoundSides (map (acting ss) rs)
sides_acting ss [] h = tt
sides_acting ss (r ∷ rs) h = (h.0, sides_acting ss rs h.1)

-- one more rule waits
pub bar_sound : (x : Front) (r : Rule) (done waiting later : List Rule) → x ≡ F.Matching r → later ≡ waiting ++ r ∷ [] → HasSoundFront x → HaveSoundSides (map rule_of done) → HaveSoundSides (map rule_of waiting)
    → HaveSoundSides (map rule_of done) × HaveSoundSides (map rule_of later)
bar_sound x r done waiting later is all front h k = (
  h,
  subst HaveSoundSides (sym (ap (map rule_of) all ∙ map-append rule_of waiting (r ∷ []))) (sides_append (map rule_of waiting) (rule_of r ∷ []) k (subst HasSoundFront is front, tt)),
)

-- the rules that wait, and one more, have an action
pub rule_sound : (x : Front) (r : Rule) (ss : List S.Statement) (done waiting later : List Rule) (newer : List S.Rule) → x ≡ F.Matching r
    → newer ≡ map rule_of done ++ (map (acting ss) (map rule_of waiting) ++ acting ss (rule_of r) ∷ []) → later ≡ []
    → HasSoundFront x → HaveSoundSides (map rule_of done) → HaveSoundSides (map rule_of waiting) → HaveSoundSides newer × HaveSoundSides (map rule_of later)
rule_sound x r ss done waiting later newer is rules none front h k = (
  subst HaveSoundSides (sym rules)
      (sides_append (map rule_of done) (map (acting ss) (map rule_of waiting) ++ acting ss (rule_of r) ∷ []) h
      (sides_append (map (acting ss) (map rule_of waiting)) (acting ss (rule_of r) ∷ []) (sides_acting ss (map rule_of waiting) k) (subst HasSoundFront is front, tt))),
  subst (λ z. HaveSoundSides (map rule_of z)) (sym none) tt,
)
