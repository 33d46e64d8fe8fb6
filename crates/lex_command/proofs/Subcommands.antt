-- The flags of a subcommand, put together.
use Rattle.std.proofs.Common.{◌≡◌, ◌&&◌, ◌∷◌, ◌++◌, [], List, fold, not, Bool, true, false, refl}
use Rattle.clap.specs.Words.{App, Rule, with_rule}

-- the third of some flags is off
pub third_off : (a b g rest : Bool) → (a && (not b && (not g && rest))) ≡ true → g ≡ false
third_off true false false rest e = refl
third_off true false true rest e = absurd cc
third_off true true g rest e = absurd cc
third_off false b g rest e = absurd cc

-- a command stays plain with more words
pub stays_plain : (a : App) (rules : List Rule) → a.top.is_plain ≡ true → (fold with_rule a rules).top.is_plain ≡ true
stays_plain a [] e = e
stays_plain a (r ∷ rules) e = stays_plain (with_rule a r) rules e

-- rules that are put one behind another
pub fold_both : (a : App) (rules more : List Rule) → fold with_rule (fold with_rule a rules) more ≡ fold with_rule a (rules ++ more)
fold_both a [] more = refl
fold_both a (r ∷ rules) more = fold_both (with_rule a r) rules more
