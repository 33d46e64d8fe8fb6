-- A specification in which each action is REJECT is sound.
use Rattle.std.proofs.Common.{◌≡◌, ℕ, true, List, [], ◌∷◌, length, map, refl, sym, subst}
use Rattle.std.specs.Prelude.{◌&&◌, nat_le}
use Rattle.std.proofs.lemmas.Bool.{and_parts, and_from}
use Rattle.std.proofs.lemmas.List.{length-map}
use Rattle.lex_semantics.specs.Limits.{max_conditions, max_rules}
use Rattle.lex_semantics.specs.Spec.{Spec, Rule, Reject}
use Rattle.lexspec_actions.specs.Actions.{are_few}
use Rattle.lexspec.specs.Tests.{is_sound, sound_rule, sound_rules, sound_conditions, sound_list, sound_tree, sound_trail, cut_fits, legal_action}
use Rattle.lexlook_specs.specs.Rejecting.{rejecting, rejecting_rule}

rule_sound : (n : ℕ) (r : Rule) → sound_rule n r ≡ true → sound_rule n (rejecting_rule r) ≡ true
rule_sound n r h =
    let five = and_parts (sound_list n r.conditions && sound_tree r.head && sound_trail r.trail && cut_fits r.cut r.head r.trail && legal_action n r.statements) (are_few r.statements) h in
    let four = and_parts (sound_list n r.conditions && sound_tree r.head && sound_trail r.trail && cut_fits r.cut r.head r.trail) (legal_action n r.statements) five.0 in
    and_from (sound_list n r.conditions && sound_tree r.head && sound_trail r.trail && cut_fits r.cut r.head r.trail && legal_action n (Reject ∷ [])) (are_few (Reject ∷ []))
    (and_from (sound_list n r.conditions && sound_tree r.head && sound_trail r.trail && cut_fits r.cut r.head r.trail) (legal_action n (Reject ∷ [])) four.0 refl) refl

rules_sound : (n : ℕ) (rs : List Rule) → sound_rules n rs ≡ true → sound_rules n (map rejecting_rule rs) ≡ true
rules_sound n [] h = refl
rules_sound n (r ∷ rs) h =
    let both = and_parts (sound_rule n r) (sound_rules n rs) h in
    and_from (sound_rule n (rejecting_rule r)) (sound_rules n (map rejecting_rule rs)) (rule_sound n r both.0) (rules_sound n rs both.1)

pub rejecting_sound : (S : Spec) → is_sound S ≡ true → is_sound (rejecting S) ≡ true
rejecting_sound S h =
    let n = length S.conditions in
    let four = and_parts (nat_le 1 n && nat_le n max_conditions && nat_le (length S.rules) max_rules && sound_conditions S.conditions) (sound_rules n S.rules) h in
    let three = and_parts (nat_le 1 n && nat_le n max_conditions && nat_le (length S.rules) max_rules) (sound_conditions S.conditions) four.0 in
    let two = and_parts (nat_le 1 n && nat_le n max_conditions) (nat_le (length S.rules) max_rules) three.0 in
    and_from (nat_le 1 n && nat_le n max_conditions && nat_le (length (map rejecting_rule S.rules)) max_rules && sound_conditions S.conditions) (sound_rules n (map rejecting_rule S.rules))
    (and_from (nat_le 1 n && nat_le n max_conditions && nat_le (length (map rejecting_rule S.rules)) max_rules) (sound_conditions S.conditions)
    (and_from (nat_le 1 n && nat_le n max_conditions) (nat_le (length (map rejecting_rule S.rules)) max_rules) two.0
    (subst (λ k. nat_le k max_rules ≡ true) (sym (length-map S.rules rejecting_rule)) two.1)) three.1) (rules_sound n S.rules four.1)
