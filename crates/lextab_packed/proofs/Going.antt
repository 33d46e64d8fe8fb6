-- The live states of a table's rows of targets are those that go on.
use mathlib.Core.Logic.{∥∥₁_map}
use Rattle.std.proofs.Common.{◌≡◌, ℕ, zero, suc, ◌+◌, ◌*◌, ◌/◌, ◌-◌, ◌<◌, Bool, true, false, List, [], ◌∷◌, length, map, refl, sym, ap, subst, ◌∙◌, arith, inl}
use Rattle.std.specs.Prelude.{nat_lt, slice_index, slice_index_or}
use Rattle.std.proofs.lemmas.Bool.Decides.{nat_tests}
use Rattle.std.proofs.lemmas.List.{length-map}
use Rattle.lex_semantics.specs.Text.{IsText, Among, flag}
use Rattle.lex_semantics.specs.Machine.{Machine, walk}
use Rattle.lex_semantics.specs.MachineLaws.{LeadsToAccept}
use Rattle.lextab_packed.specs.Checks.{IsTable}
use Rattle.lextab_packed.specs.Invariant as I
use Rattle.lextab_packed.specs.Steps as S
use Rattle.lextab_packed.proofs.Finding.{accepted_in}
use Rattle.lextab_packed.specs.Views.{row_of, table_of}
use Rattle.lextab_packed.specs.declared.parts.Row.{Row}
use Rattle.lextab_packed.specs.declared.parts.TableParts.{TableParts}
use Rattle.lextab_packed.proofs.Finding.{no_row}
use Rattle.lextab_packed.proofs.Places.{step_below}
use Rattle.lextab_packed.specs.Live.{after, LeadsOn, AreLive}

-- the machine of the parts, whatever goes on there
abbrev plain : TableParts → Machine
plain p = S.machine_of_table (table_of p) (λ s. false)

abbrev pub accepts : Row → Bool
accepts r = nat_lt 0 (length r.rules.items)

pub some_rule : (rules : List ℕ) → nat_lt 0 (length rules) ≡ true → (i : ℕ) × Among rules i
some_rule [] h = absurd cc
some_rule (r ∷ rules) h = (r, inl refl)

pub is_some : (rules : List ℕ) (i : ℕ) → Among rules i → nat_lt 0 (length rules) ≡ true
is_some [] i a = elim a [ ]
is_some (r ∷ rules) i a = grind (arith, nat_tests)

pub flag_at : (rows : List Row) (s : ℕ) → flag (map accepts rows) s ≡ nat_lt 0 (length (slice_index_or (map row_of rows) s no_row).rules)
flag_at [] s = refl
flag_at (r ∷ rows) zero = refl
flag_at (r ∷ rows) (suc s) = flag_at rows s

module _ (p : TableParts) (ok : IsTable (table_of p)) (next : List ℕ) (len : length next ≡ 256 * length p.rows.items)
    (each : (s b : ℕ) → s < length p.rows.items → b < 256 → slice_index next (256 * s + b) ≡ S.step_of (table_of p) s b) where
  below : (s b : ℕ) → S.step_of (table_of p) s b < length p.rows.items
  below s b = let n = length-map p.rows.items row_of in subst (λ (k : ℕ). S.step_of (table_of p) s b < k) n (step_below (table_of p) ok s b)

  pub targets_known : (i : ℕ) → i < length next → slice_index next i < length p.rows.items
  targets_known i h =
      let q : 256 * (i / 256) + (i - 256 * (i / 256)) ≡ i = omega arith in
      let s : i / 256 < length p.rows.items = omega (arith, len, h) in
      let b : i - 256 * (i / 256) < 256 = omega arith in
      subst (λ (k : ℕ). slice_index next k < length p.rows.items) q (subst (λ (k : ℕ). k < length p.rows.items) (sym (each (i / 256) (i - 256 * (i / 256)) s b)) (below (i / 256) (i - 256 * (i / 256))))

  same_after : (s : ℕ) (w : List ℕ) → s < length p.rows.items → IsText w → after next s w ≡ walk (plain p) s w
  same_after s [] h text = refl
  same_after s (b ∷ w) h text =
      ap (λ (q : ℕ). after next q w) (each s b h text.0) ∙ same_after (S.step_of (table_of p) s b) w (below s b) text.1

  there : (s : ℕ) → s < length p.rows.items → LeadsOn next (map accepts p.rows.items) s → LeadsToAccept (plain p) s
  there s h (w, text, some, a) =
      let q = walk (plain p) s w in
      let r = some_rule (accepted_in (table_of p) q) (sym (flag_at p.rows.items q) ∙ subst (λ (k : ℕ). flag (map accepts p.rows.items) k ≡ true) (same_after s w h text) a) in
      (w, text, some, r.0, r.1)

  back : (s : ℕ) → s < length p.rows.items → LeadsToAccept (plain p) s → LeadsOn next (map accepts p.rows.items) s
  back s h (w, text, some, i, a) =
      let q = walk (plain p) s w in
      (w, text, some, subst (λ (k : ℕ). flag (map accepts p.rows.items) k ≡ true) (sym (same_after s w h text)) (flag_at p.rows.items q ∙ is_some (accepted_in (table_of p) q) i a))

  pub goes_on : (live : List Bool) → AreLive next (map accepts p.rows.items) live → I.GoesOn (table_of p) live
  goes_on live l = record {
    len = l.one_each ∙ length-map p.rows.items accepts ∙ sym (length-map p.rows.items row_of);
    leads = λ s lt.
        let n = length-map p.rows.items row_of in
        let m = length-map p.rows.items accepts in
        let low : s < length p.rows.items = omega (arith, lt, n) in
        let flags = l.each s (omega (arith, low, m)) in
        ((λ f. ∥∥₁_map (flags.0 f) (there s low)), λ g. flags.1 (∥∥₁_map g (back s low)));
  }
