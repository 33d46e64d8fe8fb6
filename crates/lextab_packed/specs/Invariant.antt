-- When states go on, and that there is one proof at most of what a table keeps to, so a type may keep it.
-- (This project's.)
use Rattle.std.specs.Prelude.{◌≡◌, ℕ, suc, ◌<◌, Bool, true, false, List, [], ◌∷◌, length, ◌↔◌, slice_index_or}
use Rattle.std.specs.Coded.{×_prop, Unit-prop, le_prop}
use Rattle.std.proofs.Props.{props}
use Rattle.lex_semantics.specs.Text.{IsText, Ascending, flag}
use Rattle.lex_semantics.specs.Spec.{Statement, Cut, Whole, Head, Trail}
use Rattle.lex_semantics.specs.Literals.{literal_of}
use Rattle.lex_semantics.specs.Legal.{IsLegal}
use Rattle.lex_semantics.specs.MachineLaws.{LeadsToAccept}
use Rattle.lextab_packed.specs.Table.{ConditionOfTable, RuleOfTable, Row, Slot, Table}
use Rattle.lextab_packed.specs.Checks.{Each, Sizes, sizes_of, AreSizes, IsCondition, IsCutInRange, IsTableRule, IsRow, IsSlot, IsTable, some_rule_rejects, bases_of}
use Rattle.lextab_packed.specs.Steps.{machine_of_table}

-- the flags tell which states go on: those from which a text leads to one that accepts a rule
pub record GoesOn (t : Table) (flags : List Bool) : Type 0 where
  pub len : length flags ≡ length t.rows
  pub leads : (s : ℕ) → s < length t.rows → (slice_index_or flags s false ≡ true)
      ↔ ∥ LeadsToAccept (machine_of_table t (λ q. false)) s ∥₁

Each-prop : {A : Type 0} (P : ℕ → A → Type 0) → ((i : ℕ) (x : A) → IsProp (P i x)) → (i : ℕ) (xs : List A)
    → IsProp (Each P i xs)
Each-prop P one i [] = Unit-prop
Each-prop P one i (x ∷ xs) = ×_prop (one i x) (Each-prop P one (suc i) xs)

Ascending-prop : (l : List ℕ) → IsProp (Ascending l)
Ascending-prop [] = Unit-prop
Ascending-prop (i ∷ is) = ×_prop (λ x y. λ k. λ j a. le_prop (x j a) (y j a) k) (Ascending-prop is)

IsText-prop : (bs : List ℕ) → IsProp (IsText bs)
IsText-prop [] = Unit-prop
IsText-prop (b ∷ bs) = ×_prop le_prop (IsText-prop bs)

IsCut-prop : (c : Cut) → IsProp (IsCutInRange c)
IsCut-prop Whole = Unit-prop
IsCut-prop (Head n) = le_prop
IsCut-prop (Trail n) = le_prop

HasText-prop : (i : ℕ) (s : Statement) → IsProp (IsText (literal_of s))
HasText-prop i s = IsText-prop (literal_of s)

IsCondition-prop : (z : Sizes) (i : ℕ) (c : ConditionOfTable) → IsProp (IsCondition z.states i c)
IsCondition-prop z i c x y = λ k. record {
  start = le_prop x.start y.start k;
  line_start = le_prop x.line_start y.line_start k;
  print = le_prop x.print y.print k;
  bytes = IsText-prop c.end.print x.bytes y.bytes k;
  status = le_prop x.status y.status k;
}

IsRule-prop : (z : Sizes) (i : ℕ) (r : RuleOfTable) → IsProp (IsTableRule z.conditions i r)
IsRule-prop z i r x y = λ k. record {
  cut = IsCut-prop r.cut x.cut y.cut k;
  few = le_prop x.few y.few k;
  literals = le_prop x.literals y.literals k;
  legal = (let p : IsProp (IsLegal z.conditions r.statements) = Prim.hlevel props in p) x.legal y.legal k;
  bytes = Each-prop (λ i s. IsText (literal_of s)) HasText-prop 0 r.statements x.bytes y.bytes k;
}

IsRow-prop : (z : Sizes) (rejects : Bool) (s : ℕ) (r : Row)
    → IsProp (IsRow z.rules z.states z.classes z.slots rejects s r)
IsRow-prop z rejects s r x y = λ k. record {
  default_target = le_prop x.default_target y.default_target k;
  base = le_prop x.base y.base k;
  rules = λ i a. le_prop (x.rules i a) (y.rules i a) k;
  ascending = Ascending-prop r.rules x.ascending y.ascending k;
  first_alone = λ e. le_prop (x.first_alone e) (y.first_alone e) k;
  dead = λ e. (let p : IsProp ((r.default_target ≡ 0) × (r.base ≡ 0) × (r.rules ≡ [])) = Prim.hlevel props in p)
      (x.dead e) (y.dead e) k;
}

IsSlot-prop : (z : Sizes) (bases : List ℕ) (i : ℕ) (s : Slot) → IsProp (IsSlot z.states z.classes bases i s)
IsSlot-prop z bases i s x y = λ k. record {
  next = le_prop x.next y.next k;
  check = le_prop x.check y.check k;
  unused = λ e. (let p : IsProp (s.next ≡ 0) = Prim.hlevel props in p) (x.unused e) (y.unused e) k;
  from = λ h. le_prop (x.from h) (y.from h) k;
  to = λ h. le_prop (x.to h) (y.to h) k;
}

pub IsTable-prop : (t : Table) → IsProp (IsTable t)
IsTable-prop t x y = λ k. record {
  sizes = (let p : IsProp
      (AreSizes (sizes_of t).conditions (sizes_of t).rules (sizes_of t).states (sizes_of t).classes
      (sizes_of t).slots) = Prim.hlevel props in p) x.sizes y.sizes k;
  conditions =
      Each-prop (IsCondition (sizes_of t).states) (IsCondition-prop (sizes_of t)) 0 t.conditions x.conditions
      y.conditions k;
  rules = Each-prop (IsTableRule (sizes_of t).conditions) (IsRule-prop (sizes_of t)) 0 t.rules x.rules y.rules k;
  bytes = (let p : IsProp (length t.class_of ≡ 256) = Prim.hlevel props in p) x.bytes y.bytes k;
  class_of = Each-prop (λ b c. c < t.classes) (λ b c. le_prop) 0 t.class_of x.class_of y.class_of k;
  rows = Each-prop
      (IsRow (sizes_of t).rules (sizes_of t).states (sizes_of t).classes (sizes_of t).slots (some_rule_rejects t.rules))
      (IsRow-prop (sizes_of t) (some_rule_rejects t.rules)) 0 t.rows x.rows y.rows k;
  slots = Each-prop (IsSlot (sizes_of t).states (sizes_of t).classes (bases_of t.rows))
      (IsSlot-prop (sizes_of t) (bases_of t.rows)) 0 t.slots x.slots y.slots k;
}

pub GoesOn-prop : (t : Table) (flags : List Bool) → IsProp (GoesOn t flags)
GoesOn-prop t flags x y = λ k. record {
  len = (let p : IsProp (length flags ≡ length t.rows) = Prim.hlevel props in p) x.len y.len k;
  leads = λ s h.
      (let p : IsProp ((flag flags s ≡ true) ↔ ∥ LeadsToAccept (machine_of_table t (λ q. false)) s ∥₁) = Prim.hlevel
      props in p) (x.leads s h) (y.leads s h) k;
}
