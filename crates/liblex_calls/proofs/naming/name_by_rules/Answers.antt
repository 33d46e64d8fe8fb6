use Rattle.std.proofs.Common.{◌≡◌, ◌<◌, ◌≤◌, ◌∙◌, ℕ, zero, suc, Bool, List, [], ◌∷◌, length, inl, inr, refl, ap, subst, arith}
use Rattle.std.specs.Prelude.{slice_get, unwrap_or, option_map}
use Rattle.std.proofs.lemmas.Bool.{cases_lt}
use Rattle.std.specs.Option.{option_map_or}
use Rattle.lex_names.specs.RuleNames.{rule_name}
use Rattle.lex_semantics.specs.Machine.{Machine}
use Rattle.lex_semantics.specs.Text.{flag}
use Rattle.lextab_file.specs.File.{IsFileOf}
use Rattle.lextab_packed.specs.Steps.{machine_of_table}
use Rattle.lextab_packed.specs.Table.{RuleOfTable, Table}
use Rattle.liblex_calls.specs.Buffers.{HandedOut, FitsInto}
use Rattle.liblex_calls.specs.NamedRules.{NamesRule, name_in}
use Rattle.liblex_calls.specs.declared.answer.Answer.{Answer}
use Rattle.liblex_calls.specs.declared.answer.Answer.TheVariants as answers
use Rattle.liblex_calls.proofs.naming.name_by_rules.Goals as goal

-- the name of a rule that there is, and none of another one
named_at : (rs : List RuleOfTable) (i : ℕ) → i < length rs → rule_name (unwrap_or (option_map (λ (r : RuleOfTable). r.statements) (slice_get rs i)) []) ≡ option_map_or (λ (r : RuleOfTable). rule_name r.statements) (slice_get rs i) []
named_at [] i h = absurd (omega (arith, h))
named_at (r ∷ rs) zero h = refl
named_at (r ∷ rs) (suc i) h = named_at rs i (omega (arith, h))

no_name : (rs : List RuleOfTable) (i : ℕ) → length rs ≤ i → [] ≡ option_map_or (λ (r : RuleOfTable). rule_name r.statements) (slice_get rs i) []
no_name [] i h = refl
no_name (r ∷ rs) zero h = absurd (omega (arith, h))
no_name (r ∷ rs) (suc i) h = no_name rs i (omega (arith, h))

named_in : (t : Table) (M : Machine) (goes_on : ℕ → Bool) (i : ℕ) (name : List ℕ) → M ≡ machine_of_table t goes_on → (i < M.count → name ≡ rule_name (M.statements i)) → (M.count ≤ i → name ≡ []) → name ≡ name_in t i
named_in t M goes_on i name is within beyond =
    let count : M.count ≡ length t.rules = ap (λ (N : Machine). N.count) is in
    elim (cases_lt i (length t.rules)) [
      | inl less ↦ within (omega (arith, less, count)) ∙ ap (λ (N : Machine). rule_name (N.statements i)) is ∙ named_at t.rules i less
      | inr ge ↦ beyond (omega (arith, ge, count)) ∙ no_name t.rules i ge
    ]

-- a name that was handed out is told
handed_so : (file : List ℕ) (rule : ℕ) (old new : List ℕ) (count : ℕ) (answer : Answer) (t : Table) → IsFileOf t file → HandedOut (name_in t rule) old new count → FitsInto (name_in t rule) old answer → NamesRule file rule old new count answer
handed_so file rule old new count answers.Done t is handed fits = record { table = t; is_file = is; handed = handed; fits = fits }
handed_so file rule old new count answers.TooSmall t is handed fits = record { table = t; is_file = is; handed = handed; fits = fits }
handed_so file rule old new count answers.Ended t is handed fits = absurd fits
handed_so file rule old new count answers.More t is handed fits = absurd fits
handed_so file rule old new count answers.Closed t is handed fits = absurd fits
handed_so file rule old new count answers.Refused t is handed fits = absurd fits
handed_so file rule old new count answers.Stack t is handed fits = absurd fits
handed_so file rule old new count answers.OutOfMemory t is handed fits = absurd fits
handed_so file rule old new count answers.TooManyReads t is handed fits = absurd fits

pub returns : goal.returns
returns c file are =
    let is = named_in are.table _ (λ state. flag are.goes_on state) c.args.rule c.name_of.result.now are.is c.name_of.ensures.named c.name_of.ensures.none in
    handed_so file c.args.rule c.args.buffer.now c.hand_out.new.buffer c.hand_out.new.count c.hand_out.result are.table are.is_file
    (subst (λ (l : List ℕ). HandedOut l c.args.buffer.now c.hand_out.new.buffer c.hand_out.new.count) is c.hand_out.ensures.handed)
    (subst (λ (l : List ℕ). FitsInto l c.args.buffer.now c.hand_out.result) is c.hand_out.ensures.fits)
