-- The text of the parts in memory is the table's file.
use Rattle.std.proofs.Common.{◌≡◌, ℕ, suc, ◌≤◌, Bool, List, [], ◌∷◌, ◌++◌, length, map, refl, sym, ap, ◌∙◌, arith}
use Rattle.std.specs.Prelude.{sum_by}
use Rattle.std.specs.Int.{w16, w32, to_be_bytes}
use Rattle.std.specs.List.{flat_map, AllByRecursion}
use Rattle.std.proofs.lemmas.List.{length-map}
use Rattle.std.proofs.lemmas.List.Concat.{flat_map-cons}
use Rattle.std.proofs.lemmas.List.Elements.{All-from_recursion}
use Rattle.std.proofs.lemmas.List.Sums.{sum_by-cons}
use Rattle.lex_machine.specs.Literals.{literal_bytes}
use Rattle.lex_machine.specs.Views.{cut_of, statement_of}
use Rattle.lex_machine.specs.declared.action.Statement.{Statement}
use Rattle.lextab_packed.specs.Checks.{Each, Sizes, sizes_of, IsCondition, IsTableRule, IsRow, IsTable, some_rule_rejects}
use Rattle.lextab_packed.specs.Views.{condition_of, table_rule_of, row_of, slots_of, table_of}
use Rattle.lextab_packed.specs.declared.parts.TableCondition.{TableCondition}
use Rattle.lextab_packed.specs.declared.parts.TableRule.{TableRule}
use Rattle.lextab_packed.specs.declared.parts.Row.{Row}
use Rattle.lextab_packed.specs.declared.parts.TableParts.{TableParts}
use Rattle.lextab_file.specs.File.{byte, cut_text, statement_text, condition_text, rule_text, row_text, slot_text, sizes_text, magic, file_of, version_of}
use Rattle.lextab_file.specs.Fitting.{FitsStatement, FitsRule, FitsCondition, FitsRow, FitsParts}
use Rattle.lextab_file.proofs.Fields.{few_ascend}

seen_same : {X Y : Type 0} (f : Y → List ℕ) (v : X → Y) (xs : List X) → flat_map f (map v xs) ≡ flat_map (λ x. f (v x)) xs
seen_same f v [] = refl
seen_same f v (x ∷ xs) = flat_map-cons f (v x) (map v xs) ∙ ap (λ (z : List ℕ). f (v x) ++ z) (seen_same f v xs) ∙ sym (flat_map-cons (λ x. f (v x)) x xs)

bytes_same : (xs : List ℕ) → flat_map byte xs ≡ xs
bytes_same [] = refl
bytes_same (x ∷ xs) = flat_map-cons byte x xs ∙ ap (λ (z : List ℕ). x ∷ z) (bytes_same xs)

pub rule_same : (r : TableRule) → cut_text (cut_of r.cut) ++ (to_be_bytes w32 (length r.statements.items) ++ flat_map (λ s. statement_text (statement_of s)) r.statements.items) ≡ rule_text (table_rule_of r)
rule_same r = sym (ap (λ (z : List ℕ). cut_text (cut_of r.cut) ++ z)
    (ap (λ (n : ℕ). to_be_bytes w32 n ++ flat_map statement_text (map statement_of r.statements.items)) (length-map r.statements.items statement_of)
    ∙ ap (λ (z : List ℕ). to_be_bytes w32 (length r.statements.items) ++ z) (seen_same statement_text statement_of r.statements.items)))

-- the sizes with their lengths in memory
abbrev sizes_in_memory : TableParts → Sizes
sizes_in_memory p = record { conditions = length p.conditions.items; rules = length p.rules.items; states = length p.rows.items; classes = p.classes; slots = length (slots_of p.checks.items p.nexts.items) }

same_sizes : (c r n k e x y z : ℕ) → c ≡ x → r ≡ y → n ≡ z → ◌≡◌ {A = Sizes} (record { conditions = c; rules = r; states = n; classes = k; slots = e }) (record { conditions = x; rules = y; states = z; classes = k; slots = e })
same_sizes c r n k e x y z a b d = rw (a, b, d) refl

sizes_same : (p : TableParts) → sizes_in_memory p ≡ sizes_of (table_of p)
sizes_same p = sym (same_sizes _ _ _ p.classes (length (slots_of p.checks.items p.nexts.items)) _ _ _ (length-map p.conditions.items condition_of) (length-map p.rules.items table_rule_of) (length-map p.rows.items row_of))

pub header_same : (p : TableParts) (v : ℕ) → v ≡ version_of (map table_rule_of p.rules.items) → magic ++ (to_be_bytes w16 v ++ (to_be_bytes w32 (length p.conditions.items) ++ (to_be_bytes w32 (length p.rules.items) ++ (to_be_bytes w32 (length p.rows.items) ++ (to_be_bytes w32 p.classes ++ to_be_bytes w32 (length (slots_of p.checks.items p.nexts.items)))))))
    ≡ magic ++ (to_be_bytes w16 (version_of (map table_rule_of p.rules.items)) ++ sizes_text (sizes_of (table_of p)))
header_same p v e =
    ap (λ (z : Sizes). magic ++ (to_be_bytes w16 v ++ sizes_text z)) (sizes_same p) ∙ ap (λ n. magic ++ (to_be_bytes w16 n ++ sizes_text (sizes_of (table_of p)))) e

pub file_same : (p : TableParts) → (magic ++ (to_be_bytes w16 (version_of (map table_rule_of p.rules.items)) ++ sizes_text (sizes_of (table_of p)))) ++ (flat_map (λ c. condition_text (condition_of c)) p.conditions.items ++ (flat_map (λ r. rule_text (table_rule_of r)) p.rules.items ++ (p.class_of.items ++ (flat_map (λ r. row_text (row_of r)) p.rows.items ++ flat_map slot_text (slots_of p.checks.items p.nexts.items))))) ≡ file_of (table_of p)
file_same p =
    let rows = seen_same row_text row_of p.rows.items in
    let classes = bytes_same p.class_of.items in
    let rules = seen_same rule_text table_rule_of p.rules.items in
    let conditions = seen_same condition_text condition_of p.conditions.items in
    rw (rows, classes, rules, conditions) refl

-- ---- what a table's parts keep to can be written

conditions_fit : (z : Sizes) (i : ℕ) (xs : List TableCondition) → Each (IsCondition z.states) i (map condition_of xs) → AllByRecursion FitsCondition xs
conditions_fit z i [] h = tt
conditions_fit z i (x ∷ xs) h = (h.0.print, conditions_fit z (suc i) xs h.1)

statements_fit : (xs : List Statement) → sum_by literal_bytes (map statement_of xs) ≤ 4096 → AllByRecursion FitsStatement xs
statements_fit [] h = tt
statements_fit (x ∷ xs) h =
    let whole = sum_by-cons literal_bytes (statement_of x) (map statement_of xs) in
    (omega (arith, h, whole), statements_fit xs (omega (arith, h, whole)))

rules_fit : (z : Sizes) (i : ℕ) (xs : List TableRule) → Each (IsTableRule z.conditions) i (map table_rule_of xs) → AllByRecursion FitsRule xs
rules_fit z i [] h = tt
rules_fit z i (x ∷ xs) h = (
  record {
    few = let le = h.0.few in omega (arith, length-map x.statements.items statement_of);
    each = All-from_recursion FitsStatement x.statements.items (statements_fit x.statements.items h.0.literals);
  },
  rules_fit z (suc i) xs h.1,
)

rows_fit : (z : Sizes) (rejects : Bool) (i : ℕ) (xs : List Row) → z.rules ≤ 4096 → Each (IsRow z.rules z.states z.classes z.slots rejects) i (map row_of xs) → AllByRecursion FitsRow xs
rows_fit z rejects i [] low h = tt
rows_fit z rejects i (x ∷ xs) low h = (let le = few_ascend z.rules x.rules.items h.0.rules h.0.ascending in omega (arith, le, low), rows_fit z rejects (suc i) xs low h.1)

pub parts_fit : (p : TableParts) → IsTable (table_of p) → FitsParts p
parts_fit p ok = record {
  conditions = let le = ok.sizes.some_conditions.1 in omega (arith, length-map p.conditions.items condition_of);
  rules = let le = ok.sizes.few_rules in omega (arith, length-map p.rules.items table_rule_of);
  rows = let le = ok.sizes.some_states.1 in omega (arith, length-map p.rows.items row_of);
  slots = ok.sizes.some_slots.1;
  each_condition = All-from_recursion FitsCondition p.conditions.items (conditions_fit (sizes_of (table_of p)) 0 p.conditions.items ok.conditions);
  each_rule = All-from_recursion FitsRule p.rules.items (rules_fit (sizes_of (table_of p)) 0 p.rules.items ok.rules);
  each_row = All-from_recursion FitsRow p.rows.items (rows_fit (sizes_of (table_of p)) (some_rule_rejects (map table_rule_of p.rules.items)) 0 p.rows.items ok.sizes.few_rules ok.rows);
}
