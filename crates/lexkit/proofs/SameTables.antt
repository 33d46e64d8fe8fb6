-- Canonical tables for specifications with the same rules are the same.
use Rattle.std.proofs.Common.{◌≡◌, ℕ, zero, suc, ◌<◌, Bool, true, false, List, [], ◌∷◌, length, refl, sym, ap, subst, ◌∙◌, Some, arith}
use Rattle.std.specs.Prelude.{slice_get, slice_index, slice_index_or}
use Rattle.std.proofs.Math.ListN.{get_or-map}
use Rattle.std.proofs.lemmas.List.{ext_get_or}
use Rattle.std.proofs.lemmas.Option.{slice_get-get_or}
use Rattle.lex_semantics.specs.Text.{IsText}
use Rattle.lex_semantics.specs.Spec as Words
use Rattle.lex_semantics.specs.Spec.{Spec}
use Rattle.lex_semantics.specs.SameRules.{SameRules}
use Rattle.lex_semantics.specs.TableLaws.{SameAnswers}
use Rattle.lex_semantics.specs.Machine.{Machine, state_after}
use Rattle.lexauto_dfa.proofs.OneMachine.{IsMachine, AreSameMachines, one_machine}
use Rattle.lextab_packed.specs.Checks.{IsTable}
use Rattle.lextab_packed.specs.Steps.{step_of, machine_of_table}
use Rattle.lextab_packed.proofs.Places.{step_dead, dead_accepts}
use Rattle.lextab_packed.proofs.Machinery.{below_of_table}
use Rattle.lextab_packed.specs.Table.{Table, ConditionOfTable, RuleOfTable, Row}
use Rattle.lextab_packed.proofs.Finding.{no_row, start_at, ending_at, cut_at, statements_at}
use Rattle.lextab.specs.Packing.{IsPacked}
use Rattle.lextab.specs.Columns.{Packing, packing_in}
use Rattle.lextab_file.specs.File.{file_of}
use Rattle.lexkit.specs.Canonical.{IsCanonicalFor}
use Rattle.lexkit.proofs.Ordered.{one_order, one_slots}

there : {A : Type 0} (xs : List A) (i : ℕ) → i < length xs → (x : A) × (slice_get xs i ≡ Some x)
there [] i h = absurd (omega (arith, h))
there (x ∷ xs) zero h = (x, refl)
there (x ∷ xs) (suc i) h = there xs i (omega (arith, h))

abbrev no_condition : ConditionOfTable
no_condition = record { start = 0; line_start = 0; end = record { print = []; status = 0 } }

abbrev no_rule : RuleOfTable
no_rule = record { cut = Words.Whole; statements = [] }

machine_of : (t : Table) (goes_on : ℕ → Bool) → IsTable t → IsMachine (machine_of_table t goes_on) (length t.rows)
machine_of t goes_on ok = record { below = below_of_table t ok goes_on; dead_stays = step_dead t ok; dead_accepts = dead_accepts t ok }

module _ (S T : Spec) (f g : List ℕ) (same : SameRules S T) (answers : SameAnswers S T) (ta tb : Table) (goes_a goes_b : ℕ → Bool)
    (a : IsCanonicalFor S ta goes_a f) (b : IsCanonicalFor T tb goes_b g) where
  abbrev A : Machine
  A = machine_of_table ta goes_a

  abbrev B : Machine
  B = machine_of_table tb goes_b

  alike : (c : ℕ) (line_start : Bool) (w : List ℕ) → c < A.conditions → IsText w → A.accepts (state_after A c line_start w) ≡ B.accepts (state_after B c line_start w)
  alike c line_start w h text =
      let low : c < length S.conditions = (let k = a.table_for.conditions in omega (arith, h, k)) in
      let low' : c < length T.conditions = (let k = same.conditions in omega (arith, low, k)) in
      one_order (A.accepts (state_after A c line_start w)) (B.accepts (state_after B c line_start w))
      (a.table_for.ascending c line_start w low text) (b.table_for.ascending c line_start w low' text)
      (λ i. (
        λ h. (b.table_for.accepts c line_start w i low' text).1 ((answers.accepted c line_start w i low text).0 ((a.table_for.accepts c line_start w i low text).0 h)),
        λ h. (a.table_for.accepts c line_start w i low text).1 ((answers.accepted c line_start w i low text).1 ((b.table_for.accepts c line_start w i low' text).0 h)),
      ))

  conditions_len : length ta.conditions ≡ length tb.conditions
  conditions_len = a.table_for.conditions ∙ same.conditions ∙ sym b.table_for.conditions

  parts : AreSameMachines A B (length ta.rows) (length tb.rows)
  parts = one_machine A B (length ta.rows) (length tb.rows) (machine_of ta goes_a a.file.0) (machine_of tb goes_b b.file.0) conditions_len a.least b.least a.numbered b.numbered alike

  module _ (one_packing : (n : ℕ) (go : ℕ → ℕ → ℕ) (t u : Table) → IsPacked n go t → IsPacked n go u → packing_in t ≡ packing_in u)
      (same_moves : (n : ℕ) (go ho : ℕ → ℕ → ℕ) (t : Table) → ((s x : ℕ) → s < n → x < 256 → go s x ≡ ho s x) → IsPacked n go t → IsPacked n ho t) where
    packing : packing_in ta ≡ packing_in tb
    packing = one_packing (length ta.rows) (step_of ta) ta tb a.packed
        (same_moves (length ta.rows) (step_of tb) (step_of ta) tb (λ s x l m. sym (parts.moves s x l m))
        (subst (λ (n : ℕ). IsPacked n (step_of tb) tb) (sym parts.states) b.packed))

    rows_len : length ta.rows ≡ length tb.rows
    rows_len = parts.states

    row : (i : ℕ) → i < length ta.rows → slice_index_or ta.rows i no_row ≡ slice_index_or tb.rows i no_row
    row i low = λ k. record { default_target = default_target k; base = base k; rules = rules k }
      where
        default_target : (slice_index_or ta.rows i no_row).default_target ≡ (slice_index_or tb.rows i no_row).default_target
        default_target = sym (get_or-map (λ (r : Row). r.default_target) ta.rows i no_row) ∙ ap (λ (p : Packing). slice_index p.defaults i) packing
            ∙ get_or-map (λ (r : Row). r.default_target) tb.rows i no_row

        base : (slice_index_or ta.rows i no_row).base ≡ (slice_index_or tb.rows i no_row).base
        base = sym (get_or-map (λ (r : Row). r.base) ta.rows i no_row) ∙ ap (λ (p : Packing). slice_index p.bases i) packing
            ∙ get_or-map (λ (r : Row). r.base) tb.rows i no_row

        rules : (slice_index_or ta.rows i no_row).rules ≡ (slice_index_or tb.rows i no_row).rules
        rules = parts.accepts i low

    rows : ta.rows ≡ tb.rows
    rows = ext_get_or no_row ta.rows tb.rows rows_len row

    slots : ta.slots ≡ tb.slots
    slots = one_slots ta.slots tb.slots (ap (λ (p : Packing). p.check) packing) (ap (λ (p : Packing). p.next) packing)

    condition : (i : ℕ) → i < length ta.conditions → i < length tb.conditions → slice_index_or ta.conditions i no_condition ≡ slice_index_or tb.conditions i no_condition
    condition i h h' = λ k. record { start = start_is k; line_start = line_start_is k; end = end_is k }
      where
        at : slice_get ta.conditions i ≡ Some (slice_index_or ta.conditions i no_condition)
        at = slice_get-get_or ta.conditions i no_condition h

        at' : slice_get tb.conditions i ≡ Some (slice_index_or tb.conditions i no_condition)
        at' = slice_get-get_or tb.conditions i no_condition h'

        start_is : (slice_index_or ta.conditions i no_condition).start ≡ (slice_index_or tb.conditions i no_condition).start
        start_is = sym (ap (λ o. start_at o false) at) ∙ parts.starts i false h ∙ ap (λ o. start_at o false) at'

        line_start_is : (slice_index_or ta.conditions i no_condition).line_start ≡ (slice_index_or tb.conditions i no_condition).line_start
        line_start_is = sym (ap (λ o. start_at o true) at) ∙ parts.starts i true h ∙ ap (λ o. start_at o true) at'

        end_is : (slice_index_or ta.conditions i no_condition).end ≡ (slice_index_or tb.conditions i no_condition).end
        end_is = sym (ap ending_at at) ∙ a.table_for.ending i (let k = a.table_for.conditions in omega (arith, h, k)) ∙ same.ending i
            ∙ sym (b.table_for.ending i (let k = b.table_for.conditions in omega (arith, h', k))) ∙ ap ending_at at'

    table_conditions : ta.conditions ≡ tb.conditions
    table_conditions = ext_get_or no_condition ta.conditions tb.conditions conditions_len (λ i h. condition i h (omega (arith, h, conditions_len)))

    rules_len : length ta.rules ≡ length tb.rules
    rules_len = a.table_for.count ∙ same.rules ∙ sym b.table_for.count

    rule : (i : ℕ) → i < length ta.rules → i < length tb.rules → slice_index_or ta.rules i no_rule ≡ slice_index_or tb.rules i no_rule
    rule i h h' = λ k. record { cut = cut_is k; statements = statements_are k }
      where
        at : slice_get ta.rules i ≡ Some (slice_index_or ta.rules i no_rule)
        at = slice_get-get_or ta.rules i no_rule h

        at' : slice_get tb.rules i ≡ Some (slice_index_or tb.rules i no_rule)
        at' = slice_get-get_or tb.rules i no_rule h'

        r : (x : Words.Rule) × (slice_get S.rules i ≡ Some x)
        r = there S.rules i (let e = a.table_for.count in omega (arith, h, e))

        q : (x : Words.Rule) × (slice_get T.rules i ≡ Some x)
        q = there T.rules i (let e = b.table_for.count in omega (arith, h', e))

        both : (r.0.cut ≡ q.0.cut) × (r.0.statements ≡ q.0.statements)
        both = same.actions i r.0 q.0 r.1 q.1

        cut_is : (slice_index_or ta.rules i no_rule).cut ≡ (slice_index_or tb.rules i no_rule).cut
        cut_is = sym (ap cut_at at) ∙ a.table_for.cut i r.0 r.1 ∙ both.0 ∙ sym (b.table_for.cut i q.0 q.1) ∙ ap cut_at at'

        statements_are : (slice_index_or ta.rules i no_rule).statements ≡ (slice_index_or tb.rules i no_rule).statements
        statements_are = sym (ap statements_at at) ∙ a.table_for.statements i (let e = a.table_for.count in omega (arith, h, e)) ∙ ap Words.statements_at r.1 ∙ both.1 ∙ sym (ap Words.statements_at q.1)
            ∙ sym (b.table_for.statements i (let e = b.table_for.count in omega (arith, h', e))) ∙ ap statements_at at'

    table_rules : ta.rules ≡ tb.rules
    table_rules = ext_get_or no_rule ta.rules tb.rules rules_len (λ i h. rule i h (omega (arith, h, rules_len)))

    tables : ta ≡ tb
    tables = λ k. record {
      conditions = table_conditions k;
      rules = table_rules k;
      classes = ap (λ (p : Packing). p.class_count) packing k;
      class_of = ap (λ (p : Packing). p.class_of) packing k;
      rows = rows k;
      slots = slots k;
    }

    pub files : f ≡ g
    files = a.file.1 ∙ ap (λ (t : Table). file_of t) tables ∙ sym b.file.1
