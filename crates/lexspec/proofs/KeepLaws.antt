-- What the rules that are read so far keep to, after one rule more.
use Rattle.std.proofs.Common.{◌≡◌, ℕ, ◌+◌, List, [], ◌∷◌, ◌++◌, map, length, refl, sym, ap, subst, ◌∙◌, arith, length-append}
use Rattle.std.proofs.lemmas.List.{map-append, length-map}
use Rattle.lex_semantics.specs.Spec as S
use Rattle.lexspec.specs.Files.{AreSingle}
use Rattle.lexspec.specs.EndRules.{end_rule_of}
use Rattle.lexspec.specs.WaitingRules.{acting}
use Rattle.lexspec.specs.RuleViews.{rule_of}
use Rattle.lexspec.specs.Keeping.{HasRoom, Keeps}
use Rattle.lexspec.specs.SoundSides.{HasSoundFront}
use Rattle.lex_semantics.specs.Sound.{HaveSoundSides}
use Rattle.lexspec_lines.specs.declared.declarations.Declarations.{Declarations}
use Rattle.lexspec.specs.declared.endings.EndRule.{EndRule}
use Rattle.lexspec.specs.declared.rule_text.Front.TheVariants as F
use Rattle.lexspec.specs.declared.rule.Rule.{Rule}
use Rattle.lexspec.specs.declared.rules_so_far.RulesSoFar.{RulesSoFar}
use Rattle.lexspec.proofs.EndingLaws.{single_none}
use Rattle.lexspec.proofs.SideLaws.{bar_sound, rule_sound}

one_item_more : {A : Type 0} (xs : List A) (x : A) → length (xs ++ x ∷ []) ≡ length xs + 1
one_item_more xs x = length-append xs (x ∷ [])

module _ (d : Declarations) where
  pub keeps_first : (s : RulesSoFar) → s.rules.items ≡ [] → s.waiting.items ≡ [] → s.ends.items ≡ [] → Keeps d s
  keeps_first s rules waiting ends = record {
    sound = (subst (λ z. HaveSoundSides (map rule_of z)) (sym rules) tt, subst (λ z. HaveSoundSides (map rule_of z)) (sym waiting) tt);
    single = subst (λ z. AreSingle (length d.conditions.items) (map end_rule_of z)) (sym ends) (single_none (length d.conditions.items));
    few = omega (arith, ap length rules, ap length waiting);
  }

  single_on : (s s' : RulesSoFar) → s'.ends.items ≡ s.ends.items → AreSingle (length d.conditions.items) (map end_rule_of s.ends.items) → AreSingle (length d.conditions.items) (map end_rule_of s'.ends.items)
  single_on s s' ends h = subst (λ z. AreSingle (length d.conditions.items) (map end_rule_of z)) (sym ends) h

  pub keeps_bar : (r : Rule) (s s' : RulesSoFar) → s'.rules.items ≡ s.rules.items → s'.ends.items ≡ s.ends.items → s'.waiting.items ≡ s.waiting.items ++ r ∷ []
      → HasSoundFront (F.Matching r) → HasRoom (F.Matching r) s → Keeps d s → Keeps d s'
  keeps_bar r s s' rules ends waiting front room k =
      let sides = bar_sound (F.Matching r) r s.rules.items s.waiting.items s'.waiting.items refl waiting front k.sound.0 k.sound.1 in
      record {
        sound = (subst (λ z. HaveSoundSides (map rule_of z)) (sym rules) sides.0, sides.1);
        single = single_on s s' ends k.single;
        few = omega (arith, room, ap length rules, ap length waiting, one_item_more s.waiting.items r);
      }

  pub keeps_rule : (r : Rule) (ss : List S.Statement) (s s' : RulesSoFar)
      → map rule_of s'.rules.items ≡ map rule_of s.rules.items ++ (map (acting ss) (map rule_of s.waiting.items) ++ acting ss (rule_of r) ∷ [])
      → s'.ends.items ≡ s.ends.items → s'.waiting.items ≡ [] → HasSoundFront (F.Matching r) → HasRoom (F.Matching r) s → Keeps d s → Keeps d s'
  keeps_rule r ss s s' rules ends waiting front room k =
      let waiters = map (acting ss) (map rule_of s.waiting.items) in
      let all : length (map rule_of s'.rules.items) ≡ length (map rule_of s.rules.items) + length (waiters ++ acting ss (rule_of r) ∷ []) =
      ap length rules ∙ length-append (map rule_of s.rules.items) (waiters ++ acting ss (rule_of r) ∷ []) in
      let later = one_item_more waiters (acting ss (rule_of r)) in
      let done : length (map rule_of s.rules.items) ≡ length s.rules.items = length-map s.rules.items rule_of in
      let newer : length (map rule_of s'.rules.items) ≡ length s'.rules.items = length-map s'.rules.items rule_of in
      let named : length (map rule_of s.waiting.items) ≡ length s.waiting.items = length-map s.waiting.items rule_of in
      let waited : length waiters ≡ length (map rule_of s.waiting.items) = length-map (map rule_of s.waiting.items) (acting ss) in
      record {
        sound = rule_sound (F.Matching r) r ss s.rules.items s.waiting.items s'.waiting.items (map rule_of s'.rules.items) refl rules waiting front k.sound.0 k.sound.1;
        single = single_on s s' ends k.single;
        few = omega (arith, room, all, later, done, newer, named, waited, ap length waiting);
      }

  pub keeps_end : (e : EndRule) (old : List EndRule) (s s' : RulesSoFar) → old ≡ s.ends.items → s'.rules.items ≡ s.rules.items → s'.ends.items ≡ s.ends.items ++ e ∷ [] → s'.waiting.items ≡ s.waiting.items
      → ((count : ℕ) → AreSingle count (map end_rule_of old) → AreSingle count (map end_rule_of old ++ end_rule_of e ∷ [])) → Keeps d s → Keeps d s'
  keeps_end e old s s' same rules ends waiting joins k = record {
    sound = (subst (λ z. HaveSoundSides (map rule_of z)) (sym rules) k.sound.0, subst (λ z. HaveSoundSides (map rule_of z)) (sym waiting) k.sound.1);
    single = subst (AreSingle (length d.conditions.items)) (sym (ap (map end_rule_of) ends ∙ map-append end_rule_of s.ends.items (e ∷ [])))
        (subst (λ z. AreSingle (length d.conditions.items) (map end_rule_of z) → AreSingle (length d.conditions.items) (map end_rule_of z ++ end_rule_of e ∷ [])) same (joins (length d.conditions.items)) k.single);
    few = omega (arith, k.few, ap length rules, ap length waiting);
  }
