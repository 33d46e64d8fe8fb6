use Rattle.std.proofs.Common.{rules, ◌≡◌, ◌==◌, ◌<◌, ◌≤◌, ℕ, List, refl, length, get_or, inl, inr, sym, ap, ◌∙◌, arith}
use Rattle.std.proofs.lemmas.Bool.{cases_eq, cases_lt, cond-true, cond-false, eq-eqb, ne_eqb}
use Rattle.std.specs.Prelude.{slice_set}
use Rattle.std.proofs.lemmas.List.{get_or-set_same, get_or-set_other, get_or_past}
use Rattle.lexauto.specs.Interned.{no_key, rows}
use Rattle.lexauto.specs.declared.interner.Interner.{Interner}
use Rattle.lexauto.proofs.interner.Interner.add.Goals.{then-row-len+in_ok-resize, else-row-len}
use Rattle.lexauto.proofs.interner.Interner.add.Goals as goal

pub returns-clause-lasts : goal.returns-clause-lasts
returns-clause-lasts c = λ r.
    let row = c.args.row in
    let place = c.len-place.result in
    let old = c.args.self.now.lasts.items in
    let made = c.if-row-len.self.lasts.items in
    let within : row < length made = elim c.if-row-len.branch [
      | then-row-len+in_ok-resize w ↦ (let in_rows = c.requires.within in search rules)
      | else-row-len w ↦ search rules
    ] in
    let same : get_or made r no_key ≡ get_or old r no_key = elim c.if-row-len.branch [
      | then-row-len+in_ok-resize w ↦
          (let made_is : made ≡ w.resize.new.self.items = ap (λ (t : Interner). t.lasts.items) w.self-is in
          let size : length made ≡ rows = search rules in
          let full : c.args.self.now.lasts.len ≡ length old = search rules in
          let none : length old ≤ row = search rules in
          let low_row : row < rows = c.requires.within in
          let at_made = ap (λ (l : List ℕ). get_or l r no_key) made_is in
          elim (cases_lt r (length old)) [
            | inl low ↦ at_made ∙ w.in_ok-resize.ensures.by_index.0 r no_key (omega (arith, low, none, low_row)) (omega (arith, full, low))
            | inr past ↦ elim (cases_lt r rows) [
              | inl low ↦ at_made ∙ w.in_ok-resize.ensures.by_index.1 r no_key refl (omega (arith, full, past)) low ∙ sym (get_or_past old r no_key past)
              | inr high ↦ get_or_past made r no_key (omega (arith, size, high)) ∙ sym (get_or_past old r no_key past)
            ]
          ])
      | else-row-len w ↦ ap (λ (t : Interner). get_or t.lasts.items r no_key) w.self-is
    ] in
    let is : place ≡ length c.args.self.now.keys.items = search rules in
    elim (cases_eq r row) [
      | inl e ↦ ap (λ (q : ℕ). get_or (slice_set made row place) q no_key) e ∙ get_or-set_same made row place no_key within ∙ is
          ∙ sym (cond-true (r == row) (length c.args.self.now.keys.items) (get_or old r no_key) (eq-eqb r row e))
      | inr n ↦ get_or-set_other made row r place no_key n ∙ same
          ∙ sym (cond-false (r == row) (length c.args.self.now.keys.items) (get_or old r no_key) (ne_eqb r row n))
    ]
