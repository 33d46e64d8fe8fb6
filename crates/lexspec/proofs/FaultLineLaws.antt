-- The first faulty line of a rules section.
use Rattle.std.proofs.Common.{◌≡◌, ◌≢◌, ℕ, suc, ◌+◌, ◌-◌, ◌^◌, ◌≤◌, Bool, true, false, List, [], ◌∷◌, ◌++◌, map, length, length-append, append_assoc, append-nil, Some, None, refl, sym, ap, subst, ◌∙◌, arith, ◌⊎◌, inl, inr}
use Rattle.std.specs.Prelude.{codes, slice_get, filter, cond}
use Rattle.std.proofs.lemmas.List.{append_cancel_right, length-map, map-append}
use Rattle.lex_semantics.specs.ByteSets.{has, set_of, empty_set, single, range_set, union, complement, other_case, fold_case, is_alpha, is_digit, is_alnum}
use Rattle.lex_semantics.specs.Escapes.{simple_escape, octal_at, hexadecimal_at, until_quote}
use Rattle.lex_semantics.specs.Reading.{take_up_to}
use Rattle.lex_semantics.specs.Spec.{Rule, Statement, Whole}
use Rattle.lex_semantics.specs.Tree.{Tree, Set}
use Rattle.lexre.proofs.PatternsComputed.{is_tree}
use Rattle.lexre.specs.Definitions.{Definitions}
use Rattle.lexre.specs.Spelling.{Spells}
use Rattle.lexre.specs.declared.options.ReadOptions.{ReadOptions}
use Rattle.lexre_bytes.specs.Lexical.{after_word, run_at, number_at, name_at, escape_at, quoted_tree, class_name_at, enclosed_by, bracketed_at, range_at, element_at, elements_at, class_at, span, class_set, bounded, interval_at, braces_at, symbol_at}
use Rattle.lexre_bytes.specs.declared.refusals.SpecError.{SpecError}
use Rattle.lexre_bytes.specs.declared.refusals.SpecErrorKind.{SpecErrorKind}
use Rattle.lexre_bytes.specs.declared.refusals.SpecErrorKind.TheVariants.{DanglingBar}
use Rattle.lexspec.proofs.OneItems.{no_item_at_end}
use Rattle.lexspec.specs.Agreeing.{Agrees}
use Rattle.lexspec.specs.EndRules.{end_rule_of}
use Rattle.lexspec.specs.FaultLines.{is_rule, last_or, MayBegin, IsFirstFault}
use Rattle.lexspec.specs.FaultLines as P
use Rattle.lexspec.specs.Items as F
use Rattle.lexspec.specs.RuleItems.{AreRules}
use Rattle.lexspec.proofs.ItemRunLaws.{kept_as, all_as, line_back, up_to_on, all_more}
use Rattle.lexspec.proofs.RuleRunLaws.{rules_first, rules_off, as_passed, same_behind}
use Rattle.lexspec.specs.Files.{AreSingle}
use Rattle.lexspec.specs.ItemReads.{names_in, NoneLeft, SomeWait}
use Rattle.lexspec.specs.ItemRuns.{Item, ItemsUpTo, EndsRules, skipped, skipped_line, skipped_block, rule, no_trail, at_end, matching, brings_rule}
use Rattle.lexspec.specs.Items.{unlisted}
use Rattle.lexspec.specs.Keeping.{Keeps}
use Rattle.lexspec.specs.RuleItems.{EndRule}
use Rattle.lexspec.specs.RuleViews.{rule_of}
use Rattle.lexspec.specs.SectionReads.{line_of_last}
use Rattle.lexspec.specs.WaitingRules.{Left, acting, filled, may_wait, RulesFrom}
use Rattle.lexspec.specs.declared.rule.Rule.{Rule as RuleKept}
use Rattle.lexspec.specs.declared.rules_so_far.RulesSoFar.{RulesSoFar}
use Rattle.lexspec_actions.specs.Actions as Actions
use Rattle.lexspec_actions.specs.Actions.{SpellsAction}
use Rattle.lexspec_actions.specs.Bytes.{after_space, after_spaces}
use Rattle.lexspec_actions.specs.Names.{Scope, known_in}
use Rattle.lexspec_lines.specs.Lines.{newlines}
use Rattle.lexspec_lines.specs.declared.declarations.Declarations.{Declarations}

-- a kind is that of a bar, or it is not
is_bar : (k : SpecErrorKind) → (k ≡ DanglingBar) ⊎ (k ≢ DanglingBar)
is_bar DanglingBar = inl refl
is_bar k = inr (λ e. cc)

-- Lines.

-- the lines of the rules with patterns
abbrev rule_lines : List (ℕ × Item) → List ℕ
rule_lines items = map (λ i. i.0) (filter (λ i. brings_rule i.1) items)

one_rule : (i : Item) → is_rule (kept_as i) ≡ brings_rule i
one_rule skipped = refl
one_rule skipped_line = refl
one_rule skipped_block = refl
one_rule (rule asked at_end action) = refl
one_rule (rule asked (matching anchored head after) action) = refl

same_lines : (is : List (ℕ × Item)) → P.rule_lines (all_as is) ≡ rule_lines is
same_lines [] = refl
same_lines (i ∷ is) = go (same_lines is) (is_rule (kept_as i.1)) (brings_rule i.1) (one_rule i.1)
  where
    go : P.rule_lines (all_as is) ≡ rule_lines is → (b c : Bool) → b ≡ c
        → map (λ (j : ℕ × F.Item). j.0) (cond b ((i.0, kept_as i.1) ∷ filter (λ j. is_rule j.1) (all_as is)) (filter (λ j. is_rule j.1) (all_as is)))
        ≡ map (λ (j : ℕ × Item). j.0) (cond c (i ∷ filter (λ j. brings_rule j.1) is) (filter (λ j. brings_rule j.1) is))
    go e true true same = ap (λ z. i.0 ∷ z) e
    go e false false same = e
    go e true false same = cc
    go e false true same = cc

abbrev lines_of : List Rule → List ℕ
lines_of rs = map (λ r. r.line) rs

more_lines : (xs ys : List (ℕ × Item)) → rule_lines (xs ++ ys) ≡ rule_lines xs ++ rule_lines ys
more_lines [] ys = refl
more_lines (x ∷ xs) ys = go (more_lines xs ys) (brings_rule x.1)
  where
    go : rule_lines (xs ++ ys) ≡ rule_lines xs ++ rule_lines ys → (b : Bool)
        → map (λ (i : ℕ × Item). i.0) (cond b (x ∷ filter (λ i. brings_rule i.1) (xs ++ ys)) (filter (λ i. brings_rule i.1) (xs ++ ys)))
        ≡ map (λ (i : ℕ × Item). i.0) (cond b (x ∷ filter (λ i. brings_rule i.1) xs) (filter (λ i. brings_rule i.1) xs)) ++ rule_lines ys
    go e true = ap (λ z. x.0 ∷ z) e
    go e false = e

last_more : (xs ys : List ℕ) (y n m : ℕ) → last_or n (xs ++ y ∷ ys) ≡ last_or m (y ∷ ys)
last_more [] ys y n m = refl
last_more (x ∷ xs) ys y n m = last_more xs ys y x m

last_line : (w : RuleKept) (ws : List RuleKept) (n m : ℕ) → line_of_last n (w ∷ ws) ≡ last_or m (lines_of (map rule_of (w ∷ ws)))
last_line w [] n m = refl
last_line w (v ∷ ws) n m =
    let e : length (w ∷ v ∷ ws) - 1 ≡ suc (length (v ∷ ws) - 1) = omega arith in
    ap (λ k. elim (slice_get (w ∷ v ∷ ws) k) [ None ↦ n | Some r ↦ r.line ]) e ∙ last_line v ws n w.line

-- no line of an item is before the first
lines_from : (n : ℕ) (t : List ℕ) (is : List (ℕ × Item)) (m : ℕ) (rest : List ℕ) → ItemsUpTo n t is m rest → (low : ℕ) → low ≤ n → (k : ℕ) → low ≤ k → (low ≤ m) × (low ≤ last_or k (rule_lines is))
lines_from n t [] m rest (line, same) low h k l = (omega (arith, line), l)
lines_from n t (i ∷ is) m rest (next, line, item, more) low h k l =
    go (λ j. lines_from (n + (newlines t - newlines next)) next is m rest more low (omega arith) j) (brings_rule i.1)
  where
    go : ((j : ℕ) → low ≤ j → (low ≤ m) × (low ≤ last_or j (rule_lines is))) → (b : Bool)
        → (low ≤ m) × (low ≤ last_or k (map (λ (i : ℕ × Item). i.0) (cond b (i ∷ filter (λ i. brings_rule i.1) is) (filter (λ i. brings_rule i.1) is))))
    go rec true = rec i.0 (omega (arith, line))
    go rec false = rec k l

-- An item that any rules may end with: `a`, without an action.

abbrev a_tree : Bool → Tree
a_tree true = Set (2 ^ 65 + 2 ^ 97)
a_tree false = Set (single 97)

read_as : (fold posix : Bool) (defined : Definitions) → Spells (record { fold = fold; posix = posix }) defined (codes "a") (a_tree fold)
unfolding after_word run_at number_at name_at escape_at quoted_tree class_name_at enclosed_by bracketed_at range_at element_at elements_at class_at span class_set bounded interval_at braces_at symbol_at has set_of empty_set single range_set union complement other_case fold_case is_alpha is_digit is_alnum simple_escape octal_at hexadecimal_at until_quote take_up_to
read_as true true defined = is_tree (record { fold = true; posix = true }) 20 (codes "a") (a_tree true) refl refl defined
read_as true false defined = is_tree (record { fold = true; posix = false }) 20 (codes "a") (a_tree true) refl refl defined
read_as false true defined = is_tree (record { fold = false; posix = true }) 20 (codes "a") (a_tree false) refl refl defined
read_as false false defined = is_tree (record { fold = false; posix = false }) 20 (codes "a") (a_tree false) refl refl defined

a_spells : (how : ReadOptions) (defined : Definitions) → Spells how defined (codes "a") (a_tree how.fold)
a_spells how defined = read_as how.fold how.posix defined

nothing_acts : (known : Scope) → SpellsAction known [] []
unfolding after_spaces after_space take_up_to
nothing_acts known = (([], [], refl, Actions.none, refl), refl)

abbrev closing : Item
closing = rule unlisted (matching false (codes "a") no_trail) (Some [])

abbrev closing_rule : Bool → Rule
closing_rule fold = record { line = 0; conditions = None; anchored = false; head = a_tree fold; trail = None; cut = Whole; statements = [] }

module _ (names : List (List ℕ)) (how : ReadOptions) (stack : Bool) (defined : Definitions) where
  closes : RulesFrom names how stack defined ((0, closing) ∷ []) (closing_rule how.fold ∷ []) []
  closes = (closing_rule how.fold, [], refl, (record { line_is = refl; listed = refl; anchor = refl; head_is = a_spells how defined; trail_is = refl; cut_is = refl }, refl, nothing_acts (known_in names stack)), (refl, refl))

  -- each rule has the line of its item
  rules_lines : (is : List (ℕ × Item)) (rs : List Rule) (es : List EndRule) → RulesFrom names how stack defined is rs es → lines_of rs ≡ rule_lines is
  rules_lines [] rs es are = ap lines_of are.0
  rules_lines ((n, rule asked at_end (Some text)) ∷ is) rs es (numbers, e, others, listed, acts, all, more) = rules_lines is rs others more
  rules_lines ((n, rule asked at_end None) ∷ is) rs es are = absurd are
  rules_lines ((n, rule asked (matching anchored head after) action) ∷ is) rs es (r, others, all, one, more) =
      ap lines_of all ∙ ap (λ z. z ∷ lines_of others) one.0.line_is ∙ ap (λ z. n ∷ z) (rules_lines is others es more)
  rules_lines ((n, skipped) ∷ is) rs es are = rules_lines is rs es are
  rules_lines ((n, skipped_line) ∷ is) rs es are = rules_lines is rs es are
  rules_lines ((n, skipped_block) ∷ is) rs es are = rules_lines is rs es are

acting_lines : (ss : List Statement) (w : List Rule) → lines_of (map (acting ss) w) ≡ lines_of w
acting_lines ss [] = refl
acting_lines ss (r ∷ w) = ap (λ z. r.line ∷ z) (acting_lines ss w)

may_close : (w : List Rule) → may_wait w ((0, closing) ∷ []) ≡ true
may_close [] = refl
may_close (r ∷ w) = refl

module _ (d : Declarations) (before : List (ℕ × Item)) (s : RulesSoFar) (a : Agrees d before s) where
  abbrev In : List (ℕ × Item) → List Rule → List EndRule → Type 0
  In items rules ends = RulesFrom (names_in d) d.options d.stack d.definitions items rules ends

  abbrev done : List Rule
  done = map rule_of s.rules.items

  abbrev waiting : List Rule
  waiting = map rule_of s.waiting.items

  abbrev last : List Rule
  last = closing_rule d.options.fold ∷ []

  closed : In (before ++ (0, closing) ∷ []) (done ++ filled waiting last) (map end_rule_of s.ends.items ++ [])
  closed =
      let left = a.back ((0, closing) ∷ []) (filled waiting last) [] (record { later = last; are = closes (names_in d) d.options d.stack d.definitions; next = may_close waiting; whole = refl }) in
      subst (λ z. In (before ++ (0, closing) ∷ []) z (map end_rule_of s.ends.items ++ [])) (sym left.whole) left.are

  -- the lines of the rules that were read, and of those that wait, are those of the items
  lines_read : rule_lines before ≡ lines_of done ++ lines_of waiting
  lines_read =
      let all = rules_lines (names_in d) d.options d.stack d.definitions (before ++ (0, closing) ∷ []) (done ++ filled waiting last) (map end_rule_of s.ends.items ++ []) closed in
      let items : rule_lines (before ++ (0, closing) ∷ []) ≡ rule_lines before ++ 0 ∷ [] = more_lines before ((0, closing) ∷ []) in
      let filled_lines : lines_of (filled waiting last) ≡ lines_of waiting ++ 0 ∷ [] = map-append (λ (r : Rule). r.line) (map (acting []) waiting) last ∙ ap (λ z. z ++ 0 ∷ []) (acting_lines [] waiting) in
      let rules : lines_of (done ++ filled waiting last) ≡ (lines_of done ++ lines_of waiting) ++ 0 ∷ [] =
      map-append (λ (r : Rule). r.line) done (filled waiting last) ∙ ap (λ z. lines_of done ++ z) filled_lines ∙ sym (append_assoc (lines_of done) (lines_of waiting) (0 ∷ [])) in
      append_cancel_right (rule_lines before) (lines_of done ++ lines_of waiting) (0 ∷ []) (sym items ∙ sym all ∙ rules)

  count_read : length (rule_lines before) ≡ length s.rules.items + length s.waiting.items
  count_read =
      let e = ap length lines_read ∙ length-append (lines_of done) (lines_of waiting) in
      let p : length (lines_of done) ≡ length s.rules.items = length-map done (λ (r : Rule). r.line) ∙ length-map s.rules.items rule_of in
      let q : length (lines_of waiting) ≡ length s.waiting.items = length-map waiting (λ (r : Rule). r.line) ∙ length-map s.waiting.items rule_of in
      omega (arith, e, p, q)

  named : length (names_in d) ≡ length d.conditions.items
  named = length-map d.conditions.items (λ c. c.name.items)

  abbrev Are : List (ℕ × F.Item) → List Rule → List EndRule → Type 0
  Are items rules ends = AreRules (names_in d) d.options d.stack d.definitions items rules ends false

  to_file : (is : List (ℕ × Item)) (R : List Rule) (E : List EndRule) → In is R E → Are (all_as is) R E
  to_file is R E h = rules_first (names_in d) d.options d.stack d.definitions is R E h

  of_file : (is : List (ℕ × Item)) (R : List Rule) (E : List EndRule) → Are (all_as is) R E → In is R E
  of_file is R E h = (rules_off (names_in d) d.options d.stack d.definitions false is R E h).0

  may_begin : Keeps d s → MayBegin (names_in d) d.options d.stack d.definitions (all_as before)
  may_begin keeps = record {
    later = all_as ((0, closing) ∷ []);
    rules = done ++ filled waiting last;
    ends = map end_rule_of s.ends.items ++ [];
    are = subst (λ z. Are z (done ++ filled waiting last) (map end_rule_of s.ends.items ++ [])) (all_more before ((0, closing) ∷ [])) (to_file (before ++ (0, closing) ∷ []) (done ++ filled waiting last) (map end_rule_of s.ends.items ++ []) closed);
    single = subst (λ z. AreSingle z (map end_rule_of s.ends.items ++ [])) (sym named) (subst (AreSingle (length d.conditions.items)) (sym (append-nil (map end_rule_of s.ends.items))) keeps.single);
    few = omega (arith, keeps.few, count_read, ap length (same_lines before));
  }

  left_of : (items : List (ℕ × Item)) (R : List Rule) (E : List EndRule) → In items R E → Left (names_in d) d.options d.stack d.definitions items [] R E
  left_of items R E are = record { later = R; are = are; next = refl; whole = refl }

  one_more : (n : ℕ) (i : Item) → brings_rule i ≡ true → length (rule_lines (before ++ (n, i) ∷ [])) ≡ length (rule_lines before) + 1
  one_more n i h = ap length (more_lines before ((n, i) ∷ [])) ∙ length-append (rule_lines before) (rule_lines ((n, i) ∷ [])) ∙ ap (λ b. length (rule_lines before) + length (map (λ (i : ℕ × Item). i.0) (cond b ((n, i) ∷ []) []))) h

  -- an item that may not follow these rules may not stand behind the items
  not_behind : (n : ℕ) (t : List ℕ) → NoneLeft d s n t → (j : F.Item) (next : List ℕ) → F.IsLine t j next → MayBegin (names_in d) d.options d.stack d.definitions (all_as before ++ (n, j) ∷ []) → ⊥
  not_behind n t none j next line m =
      let (i, same, item) = line_back t j next line in
      let one : all_as (before ++ (n, i) ∷ []) ≡ all_as before ++ (n, j) ∷ [] = all_more before ((n, i) ∷ []) ∙ ap (λ z. all_as before ++ (n, z) ∷ []) same in
      let passed = same_behind (names_in d) d.options d.stack d.definitions false (all_as before ++ (n, j) ∷ []) m.later m.rules m.ends m.are in
      let items : (all_as before ++ (n, j) ∷ []) ++ all_as (as_passed m.later) ≡ all_as (before ++ (n, i) ∷ as_passed m.later) =
      ap (λ z. z ++ all_as (as_passed m.later)) (sym one) ∙ sym (all_more (before ++ (n, i) ∷ []) (as_passed m.later)) ∙ ap all_as (append_assoc before ((n, i) ∷ []) (as_passed m.later)) in
      let are : In (before ++ (n, i) ∷ as_passed m.later) m.rules m.ends = of_file (before ++ (n, i) ∷ as_passed m.later) m.rules m.ends (subst (λ z. Are z m.rules m.ends) items passed) in
      let (S, F, p, q, left) = a.on ((n, i) ∷ as_passed m.later) m.rules m.ends (left_of (before ++ (n, i) ∷ as_passed m.later) m.rules m.ends are) in
      let single = subst (AreSingle (length d.conditions.items)) q (subst (λ z. AreSingle z m.ends) named m.single) in
      let lines : P.rule_lines (all_as before ++ (n, j) ∷ []) ≡ rule_lines (before ++ (n, i) ∷ []) = ap P.rule_lines (sym one) ∙ same_lines (before ++ (n, i) ∷ []) in
      none i next (as_passed m.later) S F item left (λ h. omega (arith, m.few, ap length lines, one_more n i h, count_read), single)

  -- at the end rules that wait are none
  no_rules_alone : (length s.waiting.items ≡ 0 → ⊥) → (R : List Rule) (E : List EndRule) → In before R E → ⊥
  no_rules_alone some R E are =
      let (S, F, p, q, left) = a.on [] R E (left_of (before ++ []) R E (subst (λ z. In z R E) (sym (append-nil before)) are)) in from s.waiting.items some left.next
    where
      no_true : false ≡ true → ⊥
      no_true e = cc

      from : (ws : List RuleKept) → (length ws ≡ 0 → ⊥) → may_wait (map rule_of ws) [] ≡ true → ⊥
      from [] h next = h refl
      from (w ∷ ws) h next = no_true next

  -- the line of the last rule that waits
  waits_at : (n : ℕ) → (length s.waiting.items ≡ 0 → ⊥) → line_of_last n s.waiting.items ≡ last_or n (rule_lines before)
  waits_at n some = from s.waiting.items refl some
    where
      from : (ws : List RuleKept) → s.waiting.items ≡ ws → (length ws ≡ 0 → ⊥) → line_of_last n s.waiting.items ≡ last_or n (rule_lines before)
      from [] e h = absurd (h refl)
      from (w ∷ ws) e h =
          let all : rule_lines before ≡ lines_of done ++ lines_of (map rule_of (w ∷ ws)) = lines_read ∙ ap (λ z. lines_of done ++ lines_of (map rule_of z)) e in
          ap (line_of_last n) e ∙ last_line w ws n n ∙ sym (last_more (lines_of done) (lines_of (map rule_of ws)) w.line n n) ∙ ap (last_or n) (sym all)

  -- The fault of an item.
  pub item_fault : (start n : ℕ) (whole_text t : List ℕ) (e : SpecError) → ItemsUpTo start whole_text before n t → Keeps d s → (EndsRules t → ⊥) → NoneLeft d s n t
      → (e.kind ≡ DanglingBar → SomeWait s) → (e.kind ≢ DanglingBar → e.line ≡ n) → (e.kind ≡ DanglingBar → e.line ≡ line_of_last n s.waiting.items) → IsFirstFault (names_in d) d.options d.stack d.definitions start whole_text e
  item_fault start n whole_text t e upto keeps goes none waits other bar = record {
    items = all_as before;
    place = n;
    rest = t;
    read = up_to_on start whole_text before n t upto;
    begun = may_begin keeps;
    stuck = not_behind n t none;
    ended = (λ R E over are. goes over);
    told = other;
    bar = (λ is. (λ R E are. no_rules_alone (waits is) R E (of_file before R E are), bar is ∙ waits_at n (waits is) ∙ ap (last_or n) (sym (same_lines before))));
  }

  -- The fault of the end.
  pub end_fault : (start n : ℕ) (whole_text t : List ℕ) (e : SpecError) → ItemsUpTo start whole_text before n t → Keeps d s → EndsRules t → (length s.waiting.items ≡ 0 → ⊥)
      → e ≡ record { line = line_of_last n s.waiting.items; kind = DanglingBar } → IsFirstFault (names_in d) d.options d.stack d.definitions start whole_text e
  end_fault start n whole_text t e upto keeps over some is = record {
    items = all_as before;
    place = n;
    rest = t;
    read = up_to_on start whole_text before n t upto;
    begun = may_begin keeps;
    stuck = (λ j next line m. let (i, same, item) = line_back t j next line in no_item_at_end t i next over item);
    ended = (λ R E over are. no_rules_alone some R E (of_file before R E are));
    told = (λ other. absurd (other (ap (λ (x : SpecError). x.kind) is)));
    bar = (λ same. (λ R E are. no_rules_alone some R E (of_file before R E are), ap (λ (x : SpecError). x.line) is ∙ waits_at n some ∙ ap (last_or n) (sym (same_lines before))));
  }

  -- No fault is told before the first line.
  pub fault_line : (start n : ℕ) (whole_text t : List ℕ) (e : SpecError) → ItemsUpTo start whole_text before n t
      → (e.kind ≢ DanglingBar → e.line ≡ n) → (e.kind ≡ DanglingBar → e.line ≡ line_of_last n s.waiting.items) → start ≤ e.line
  fault_line start n whole_text t e upto other bar = from (is_bar e.kind)
    where
      least : start ≤ n
      least = (lines_from start whole_text before n t upto start (omega arith) start (omega arith)).0

      waits : (ws : List RuleKept) → s.waiting.items ≡ ws → start ≤ line_of_last n ws
      waits [] is = least
      waits (w ∷ ws) is =
          let last_one : line_of_last n s.waiting.items ≡ last_or n (rule_lines before) = waits_at n (λ none. no_list (ap length (sym is) ∙ none)) in
          subst (λ z. start ≤ line_of_last n z) is (subst (λ k. start ≤ k) (sym last_one) (lines_from start whole_text before n t upto start (omega arith) n least).1)
        where
          no_list : length (w ∷ ws) ≡ 0 → ⊥
          no_list h = absurd (omega arith)

      from : (e.kind ≡ DanglingBar) ⊎ (e.kind ≢ DanglingBar) → start ≤ e.line
      from (inl is) = subst (λ k. start ≤ k) (sym (bar is)) (waits s.waiting.items refl)
      from (inr is) = subst (λ k. start ≤ k) (sym (other is)) least
