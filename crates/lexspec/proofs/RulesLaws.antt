-- The rules section, item by item.
use Rattle.std.proofs.Common.{◌≡◌, ℕ, Bool, true, false, List, [], ◌∷◌, ◌++◌, map, length, Option, Some, None, refl, sym, ap, subst, ◌∙◌, append_assoc}
use Rattle.std.specs.FinMap.{get}
use Rattle.std.proofs.lemmas.List.{map-append}
use Rattle.lex_semantics.specs.Tree.{Tree}
use Rattle.lex_semantics.specs.Spec.{Statement, EndAction, Cut, Rule}
use Rattle.lexre.specs.Definitions.{Definitions}
use Rattle.lexre_bytes.specs.Lexical.{symbol_at}
use Rattle.lexre.specs.Spelling.{Spells}
use Rattle.lexre.specs.Cutting.{IsCutting}
use Rattle.lexre.proofs.CuttingLaws.{one_cutting}
use Rattle.lexre.proofs.OneTree.{one_tree}
use Rattle.lexspec_actions.specs.Names.{number_from, known_in}
use Rattle.lexspec_actions.specs.Actions.{SpellsAction, SpellsEndAction}
use Rattle.lex_semantics.specs.Reading.{after_blanks}
use Rattle.lexspec.specs.Items.{Conditions, conditions_at, action_at, action_of, starts_rule}
use Rattle.lex_semantics.specs.Sound.{IsCutOf}
use Rattle.lexspec.specs.RuleItems.{numbers_of, EndRule}
use Rattle.lexspec.specs.WaitingRules.{acting, first_statements, filled, may_wait, Left, IsRule, goes_to_rule, RulesFrom, IsTrail, HasHead, IsActionOf}
use Rattle.lexspec.specs.ItemRuns.{Item, skipped, skipped_line, skipped_block, rule, IsLine, Trailing, Subject, at_end, matching, IsSubject}
use Rattle.lexspec_lines.proofs.OneSection.{no_true, some_pair}
use Rattle.lexspec.proofs.OneItems.{both_ways, AllBlank, StartsBlank, OpensBlock, tests_of, rule_tests, one_item, one_subject}
use Rattle.lexspec.proofs.OneSpec.{one_rule, one_end, some_is}
use Rattle.lexre.specs.declared.options.ReadOptions.{ReadOptions}

pub tree_once : (how : ReadOptions) (definitions : Definitions) (text : List ℕ) (t u : Tree) → Spells how definitions text t → Spells how definitions text u → t ≡ u
unfolding symbol_at
tree_once how definitions text t u h k = one_tree how.posix (symbol_at how.fold) (get definitions) refl 64 text t u h.0 k.0

cut_once : (t : List ℕ) (stop stop' : ℕ) (at at' : Option ℕ) (two two' special special' : Bool) → IsCutting t stop at two special → IsCutting t stop' at' two' special' →
    (stop ≡ stop') × (at ≡ at') × (special ≡ special')
cut_once t stop stop' at at' two two' special special' h k = let same = one_cutting t stop stop' at at' two two' special special' h k in (same.0, same.1, same.3)

-- one item begins a text, and this is left behind it
pub both_items : (t : List ℕ) (i j : Item) (rest rest' : List ℕ) → IsLine t i rest → IsLine t j rest' → (i ≡ j) × (rest ≡ rest')
both_items t i j rest rest' h k = one_item cut_once t i j rest rest' (tests_of t i rest h) (tests_of t j rest' k) h k

pub same_item : (t : List ℕ) (i j : Item) (rest rest' : List ℕ) → IsLine t i rest → IsLine t j rest' → i ≡ j
same_item t i j rest rest' h k = (both_items t i j rest rest' h k).0

module _ (names : List (List ℕ)) (how : ReadOptions) (stack : Bool) (defined : Definitions) where
  -- lines that are skipped
  abbrev pub is_plain : Item → Bool
  is_plain skipped = true
  is_plain skipped_line = true
  is_plain skipped_block = true
  is_plain (rule asked subject action) = false

  wait_plain : (w : List Rule) (n : ℕ) (i : Item) (is : List (ℕ × Item)) → is_plain i ≡ true → may_wait w ((n, i) ∷ is) ≡ may_wait w is
  wait_plain [] n i is h = refl
  wait_plain (r ∷ w) n skipped is h = refl
  wait_plain (r ∷ w) n skipped_line is h = refl
  wait_plain (r ∷ w) n skipped_block is h = refl
  wait_plain (r ∷ w) n (rule asked subject action) is h = no_true h

  rules_plain : (n : ℕ) (i : Item) (is : List (ℕ × Item)) (rs : List Rule) (es : List EndRule) → is_plain i ≡ true → RulesFrom names how stack defined ((n, i) ∷ is) rs es → RulesFrom names how stack defined is rs es
  rules_plain n skipped is rs es h are = are
  rules_plain n skipped_line is rs es h are = are
  rules_plain n skipped_block is rs es h are = are
  rules_plain n (rule asked subject action) is rs es h are = no_true h

  plain_rules : (n : ℕ) (i : Item) (is : List (ℕ × Item)) (rs : List Rule) (es : List EndRule) → is_plain i ≡ true → RulesFrom names how stack defined is rs es → RulesFrom names how stack defined ((n, i) ∷ is) rs es
  plain_rules n skipped is rs es h are = are
  plain_rules n skipped_line is rs es h are = are
  plain_rules n skipped_block is rs es h are = are
  plain_rules n (rule asked subject action) is rs es h are = no_true h

  pub plain_on : (n : ℕ) (i : Item) (is : List (ℕ × Item)) (w R : List Rule) (E : List EndRule) → is_plain i ≡ true → Left names how stack defined ((n, i) ∷ is) w R E → Left names how stack defined is w R E
  plain_on n i is w R E plain left = record {
    later = left.later;
    are = rules_plain n i is left.later E plain left.are;
    next = sym (wait_plain w n i is plain) ∙ left.next;
    whole = left.whole;
  }

  pub plain_back : (n : ℕ) (i : Item) (is : List (ℕ × Item)) (w R : List Rule) (E : List EndRule) → is_plain i ≡ true → Left names how stack defined is w R E → Left names how stack defined ((n, i) ∷ is) w R E
  plain_back n i is w R E plain left = record {
    later = left.later;
    are = plain_rules n i is left.later E plain left.are;
    next = wait_plain w n i is plain ∙ left.next;
    whole = left.whole;
  }

  -- an `<<EOF>>` rule, for which no rule waits
  pub end_on : (n : ℕ) (asked : Conditions) (text : List ℕ) (numbers : Option (List ℕ)) (e : EndAction) (is : List (ℕ × Item)) (R : List Rule) (E : List EndRule)
      → numbers_of (number_from 0 names) (length names) asked ≡ Some numbers → SpellsEndAction (known_in names stack) text e
      → Left names how stack defined ((n, rule asked at_end (Some text)) ∷ is) [] R E
      → (F : List EndRule) × (E ≡ (numbers, e) ∷ F) × Left names how stack defined is [] R F
  end_on n asked text numbers e is R E listed acts left =
      let (numbers', e', others, listed', acts', all, more) = left.are in
      let same : numbers' ≡ numbers = some_is numbers' numbers (sym listed' ∙ listed) in
      let act : e' ≡ e = one_end tree_once (known_in names stack) text e' e acts' acts in (
        others,
        all ∙ ap (λ z. (z, e') ∷ others) same ∙ ap (λ z. (numbers, z) ∷ others) act,
        record { later = left.later; are = more; next = refl; whole = left.whole },
      )

  pub end_back : (n : ℕ) (asked : Conditions) (text : List ℕ) (numbers : Option (List ℕ)) (e : EndAction) (is : List (ℕ × Item)) (R : List Rule) (E : List EndRule)
      → numbers_of (number_from 0 names) (length names) asked ≡ Some numbers → SpellsEndAction (known_in names stack) text e
      → Left names how stack defined is [] R E → Left names how stack defined ((n, rule asked at_end (Some text)) ∷ is) [] R ((numbers, e) ∷ E)
  end_back n asked text numbers e is R E listed acts left = record {
    later = left.later;
    are = (numbers, e, E, listed, acts, refl, left.are);
    next = refl;
    whole = left.whole;
  }

  -- a rule with an action of its own, which the rules that wait take

  with_statements : (n : ℕ) (asked : Conditions) (anchored : Bool) (head : List ℕ) (after : Trailing) (r : Rule) (ss : List Statement)
      → HasHead names how stack defined n asked anchored head after r → HasHead names how stack defined n asked anchored head after (acting ss r)
  with_statements n asked anchored head after r ss h = record {
    line_is = h.line_is;
    listed = h.listed;
    anchor = h.anchor;
    head_is = h.head_is;
    trail_is = h.trail_is;
    cut_is = h.cut_is;
  }

  head_rule : (n : ℕ) (asked : Conditions) (anchored : Bool) (head : List ℕ) (after : Trailing) (text : List ℕ) (is : List (ℕ × Item)) (rs : List Rule) (r : Rule) (ss : List Statement)
      → HasHead names how stack defined n asked anchored head after r → SpellsAction (known_in names stack) text ss
      → IsRule names how stack defined n asked anchored head after (Some text) is rs (acting ss r)
  head_rule n asked anchored head after text is rs r ss h acts = (with_statements n asked anchored head after r _ h, refl, acts)

  pub rule_on : (n : ℕ) (asked : Conditions) (anchored : Bool) (head : List ℕ) (after : Trailing) (text : List ℕ) (r : Rule) (ss : List Statement) (is : List (ℕ × Item)) (w R : List Rule) (E : List EndRule)
      → HasHead names how stack defined n asked anchored head after r → SpellsAction (known_in names stack) text ss
      → Left names how stack defined ((n, rule asked (matching anchored head after) (Some text)) ∷ is) w R E
      → (S : List Rule) × (R ≡ (map (acting ss) w ++ acting ss r ∷ []) ++ S) × Left names how stack defined is [] S E
  rule_on n asked anchored head after text r ss is w R E h acts left =
      let (q, others, all, one, more) = left.are in
      let same : q ≡ acting ss r = one_rule tree_once names how stack defined n asked anchored head after (Some text) is others q (acting ss r) one
      (head_rule n asked anchored head after text is others r ss h acts) in
      let later : left.later ≡ acting ss r ∷ others = all ∙ ap (λ z. z ∷ others) same in (
        others,
        left.whole ∙ ap (filled w) later ∙ sym (append_assoc (map (acting ss) w) (acting ss r ∷ []) others),
        record { later = others; are = more; next = refl; whole = refl },
      )

  wait_rule : (w : List Rule) (n : ℕ) (asked : Conditions) (anchored : Bool) (head : List ℕ) (after : Trailing) (action : Option (List ℕ)) (is : List (ℕ × Item))
      → may_wait w ((n, rule asked (matching anchored head after) action) ∷ is) ≡ true
  wait_rule [] n asked anchored head after action is = refl
  wait_rule (r ∷ w) n asked anchored head after action is = refl

  pub rule_back : (n : ℕ) (asked : Conditions) (anchored : Bool) (head : List ℕ) (after : Trailing) (text : List ℕ) (r : Rule) (ss : List Statement) (is : List (ℕ × Item)) (w S : List Rule) (E : List EndRule)
      → HasHead names how stack defined n asked anchored head after r → SpellsAction (known_in names stack) text ss
      → Left names how stack defined is [] S E → Left names how stack defined ((n, rule asked (matching anchored head after) (Some text)) ∷ is) w ((map (acting ss) w ++ acting ss r ∷ []) ++ S) E
  rule_back n asked anchored head after text r ss is w S E h acts left = record {
    later = acting ss r ∷ left.later;
    are = (acting ss r, left.later, refl, head_rule n asked anchored head after text is left.later r ss h acts, left.are);
    next = wait_rule w n asked anchored head after (Some text) is;
    whole = append_assoc (map (acting ss) w) (acting ss r ∷ []) S ∙ ap (λ z. map (acting ss) w ++ acting ss r ∷ z) left.whole;
  }

  -- a rule that waits for the action of the next one

  takes_first : (rs : List Rule) (ss : List Statement) → IsActionOf (known_in names stack) None rs ss → ss ≡ first_statements rs
  takes_first [] ss h = absurd h
  takes_first (r ∷ rs) ss h = h

  has_first : (rs : List Rule) (ss : List Statement) → IsActionOf (known_in names stack) None rs ss → IsActionOf (known_in names stack) None rs (first_statements rs)
  has_first [] ss h = absurd h
  has_first (r ∷ rs) ss h = refl

  bar_rule : (n : ℕ) (asked : Conditions) (anchored : Bool) (head : List ℕ) (after : Trailing) (is : List (ℕ × Item)) (rs : List Rule) (r : Rule)
      → HasHead names how stack defined n asked anchored head after r → goes_to_rule None is ≡ true → IsActionOf (known_in names stack) None rs (first_statements rs)
      → IsRule names how stack defined n asked anchored head after None is rs (acting (first_statements rs) r)
  bar_rule n asked anchored head after is rs r h next takes = (with_statements n asked anchored head after r _ h, next, takes)

  wait_more : (w : List Rule) (r : Rule) (is : List (ℕ × Item)) → may_wait (w ++ r ∷ []) is ≡ goes_to_rule None is
  wait_more [] r is = refl
  wait_more (q ∷ w) r is = refl

  fill_more : (ss : List Statement) (w : List Rule) (r : Rule) (rs : List Rule) → map (acting ss) w ++ acting ss r ∷ rs ≡ map (acting ss) (w ++ r ∷ []) ++ rs
  fill_more ss w r rs = sym (append_assoc (map (acting ss) w) (acting ss r ∷ []) rs) ∙ ap (λ z. z ++ rs) (sym (map-append (acting ss) w (r ∷ [])))

  pub bar_on : (n : ℕ) (asked : Conditions) (anchored : Bool) (head : List ℕ) (after : Trailing) (r : Rule) (is : List (ℕ × Item)) (w R : List Rule) (E : List EndRule)
      → HasHead names how stack defined n asked anchored head after r
      → Left names how stack defined ((n, rule asked (matching anchored head after) None) ∷ is) w R E → Left names how stack defined is (w ++ r ∷ []) R E
  bar_on n asked anchored head after r is w R E h left =
      let (q, others, all, one, more) = left.are in
      let f = first_statements others in
      let same : q ≡ acting f r = one_rule tree_once names how stack defined n asked anchored head after None is others q (acting f r) one
      (bar_rule n asked anchored head after is others r h one.1 (has_first others q.statements one.2)) in
      let later : left.later ≡ acting f r ∷ others = all ∙ ap (λ z. z ∷ others) same in
      record {
        later = others;
        are = more;
        next = wait_more w r is ∙ one.1;
        whole = left.whole ∙ ap (filled w) later ∙ fill_more f w r others;
      }

  goes_first : (is : List (ℕ × Item)) (rs : List Rule) (es : List EndRule) → goes_to_rule None is ≡ true → RulesFrom names how stack defined is rs es
      → IsActionOf (known_in names stack) None rs (first_statements rs)
  goes_first [] rs es h are = no_true h
  goes_first ((n, rule asked at_end action) ∷ is) rs es h are = no_true h
  goes_first ((n, rule asked (matching anchored head after) None) ∷ is) rs es h (r, others, all, one, more) = subst (λ z. IsActionOf (known_in names stack) None z (first_statements z)) (sym all) refl
  goes_first ((n, rule asked (matching anchored head after) (Some text)) ∷ is) rs es h (r, others, all, one, more) =
      subst (λ z. IsActionOf (known_in names stack) None z (first_statements z)) (sym all) refl
  goes_first ((n, skipped) ∷ is) rs es h are = goes_first is rs es h are
  goes_first ((n, skipped_line) ∷ is) rs es h are = goes_first is rs es h are
  goes_first ((n, skipped_block) ∷ is) rs es h are = goes_first is rs es h are

  pub bar_back : (n : ℕ) (asked : Conditions) (anchored : Bool) (head : List ℕ) (after : Trailing) (r : Rule) (is : List (ℕ × Item)) (w R : List Rule) (E : List EndRule)
      → HasHead names how stack defined n asked anchored head after r
      → Left names how stack defined is (w ++ r ∷ []) R E → Left names how stack defined ((n, rule asked (matching anchored head after) None) ∷ is) w R E
  bar_back n asked anchored head after r is w R E h left =
      let goes : goes_to_rule None is ≡ true = sym (wait_more w r is) ∙ left.next in
      let f = first_statements left.later in
      record {
        later = acting f r ∷ left.later;
        are = (acting f r, left.later, refl, bar_rule n asked anchored head after is left.later r h goes (goes_first is left.later E goes left.are), left.are);
        next = wait_rule w n asked anchored head after None is;
        whole = left.whole ∙ sym (fill_more f w r left.later);
      }

  -- What is read so far, and what is left.
  pub record Agree (before : List (ℕ × Item)) (done : List Rule) (ends : List EndRule) (w : List Rule) : Type 0 where
    pub back : (is : List (ℕ × Item)) (R : List Rule) (E : List EndRule) → Left names how stack defined is w R E → Left names how stack defined (before ++ is) [] (done ++ R) (ends ++ E)
    pub on : (is : List (ℕ × Item)) (R : List Rule) (E : List EndRule) → Left names how stack defined (before ++ is) [] R E
        → (S : List Rule) × (F : List EndRule) × (R ≡ done ++ S) × (E ≡ ends ++ F) × Left names how stack defined is w S F

  pub agree_first : Agree [] [] [] []
  agree_first = record { back = (λ is R E left. left); on = (λ is R E left. (R, E, refl, refl, left)) }

  -- one item more stands before the others
  behind : (before : List (ℕ × Item)) (x : ℕ × Item) (is : List (ℕ × Item)) (R : List Rule) (E : List EndRule) → Left names how stack defined (before ++ x ∷ is) [] R E → Left names how stack defined ((before ++ x ∷ []) ++ is) [] R E
  behind before x is R E left = subst (λ z. Left names how stack defined z [] R E) (sym (append_assoc before (x ∷ []) is)) left

  ahead : (before : List (ℕ × Item)) (x : ℕ × Item) (is : List (ℕ × Item)) (R : List Rule) (E : List EndRule) → Left names how stack defined ((before ++ x ∷ []) ++ is) [] R E → Left names how stack defined (before ++ x ∷ is) [] R E
  ahead before x is R E left = subst (λ z. Left names how stack defined z [] R E) (append_assoc before (x ∷ []) is) left

  pub agree_plain : (before : List (ℕ × Item)) (done : List Rule) (ends : List EndRule) (w : List Rule) (n : ℕ) (i : Item) → is_plain i ≡ true
      → Agree before done ends w → Agree (before ++ (n, i) ∷ []) done ends w
  agree_plain before done ends w n i plain a = record {
    back = (λ is R E left. behind before (n, i) is (done ++ R) (ends ++ E) (a.back ((n, i) ∷ is) R E (plain_back n i is w R E plain left)));
    on = (λ is R E left. let (S, F, e, f, more) = a.on ((n, i) ∷ is) R E (ahead before (n, i) is R E left) in (S, F, e, f, plain_on n i is w S F plain more));
  }

  pub agree_end : (before : List (ℕ × Item)) (done : List Rule) (ends : List EndRule) (n : ℕ) (asked : Conditions) (text : List ℕ) (numbers : Option (List ℕ)) (e : EndAction)
      → numbers_of (number_from 0 names) (length names) asked ≡ Some numbers → SpellsEndAction (known_in names stack) text e
      → Agree before done ends [] → Agree (before ++ (n, rule asked at_end (Some text)) ∷ []) done (ends ++ (numbers, e) ∷ []) []
  agree_end before done ends n asked text numbers e listed acts a =
      let x : ℕ × Item = (n, rule asked at_end (Some text)) in
      record {
        back = (λ is R E left. behind before x is (done ++ R) ((ends ++ (numbers, e) ∷ []) ++ E) (subst (λ z. Left names how stack defined (before ++ x ∷ is) [] (done ++ R) z) (sym (append_assoc ends ((numbers, e) ∷ []) E))
            (a.back (x ∷ is) R ((numbers, e) ∷ E) (end_back n asked text numbers e is R E listed acts left))));
        on = (λ is R E left.
            let (S, F, p, q, more) = a.on (x ∷ is) R E (ahead before x is R E left) in
            let (G, g, last) = end_on n asked text numbers e is S F listed acts more in
            (S, G, p, q ∙ ap (λ z. ends ++ z) g ∙ sym (append_assoc ends ((numbers, e) ∷ []) G), last));
      }

  pub agree_rule : (before : List (ℕ × Item)) (done : List Rule) (ends : List EndRule) (w : List Rule) (n : ℕ)
      (asked : Conditions) (anchored : Bool) (head : List ℕ) (after : Trailing) (text : List ℕ) (r : Rule) (ss : List Statement)
      → HasHead names how stack defined n asked anchored head after r → SpellsAction (known_in names stack) text ss
      → Agree before done ends w → Agree (before ++ (n, rule asked (matching anchored head after) (Some text)) ∷ []) (done ++ (map (acting ss) w ++ acting ss r ∷ [])) ends []
  agree_rule before done ends w n asked anchored head after text r ss h acts a =
      let x : ℕ × Item = (n, rule asked (matching anchored head after) (Some text)) in
      let taken = map (acting ss) w ++ acting ss r ∷ [] in
      record {
        back = (λ is R E left. behind before x is ((done ++ taken) ++ R) (ends ++ E) (subst (λ z. Left names how stack defined (before ++ x ∷ is) [] z (ends ++ E)) (sym (append_assoc done taken R))
            (a.back (x ∷ is) (taken ++ R) E (rule_back n asked anchored head after text r ss is w R E h acts left))));
        on = (λ is R E left.
            let (S, F, p, q, more) = a.on (x ∷ is) R E (ahead before x is R E left) in
            let (T, g, last) = rule_on n asked anchored head after text r ss is w S F h acts more in
            (T, F, p ∙ ap (λ z. done ++ z) g ∙ sym (append_assoc done taken T), q, last));
      }

  pub agree_bar : (before : List (ℕ × Item)) (done : List Rule) (ends : List EndRule) (w : List Rule) (n : ℕ)
      (asked : Conditions) (anchored : Bool) (head : List ℕ) (after : Trailing) (r : Rule)
      → HasHead names how stack defined n asked anchored head after r
      → Agree before done ends w → Agree (before ++ (n, rule asked (matching anchored head after) None) ∷ []) done ends (w ++ r ∷ [])
  agree_bar before done ends w n asked anchored head after r h a =
      let x : ℕ × Item = (n, rule asked (matching anchored head after) None) in
      record {
        back = (λ is R E left. behind before x is (done ++ R) (ends ++ E) (a.back (x ∷ is) R E (bar_back n asked anchored head after r is w R E h left)));
        on = (λ is R E left. let (S, F, p, q, more) = a.on (x ∷ is) R E (ahead before x is R E left) in (S, F, p, q, bar_on n asked anchored head after r is w S F h more));
      }

  -- What the rule that begins a text is.

  abbrev pub IsSpelled : Option (List ℕ) → Type 0
  IsSpelled None = Unit {0}
  IsSpelled (Some text) = (ss : List Statement) × SpellsAction (known_in names stack) text ss

  abbrev pub ActsAs : List Rule → Subject → Option (List ℕ) → Type 0
  ActsAs w at_end None = ⊥
  ActsAs w at_end (Some text) = (w ≡ []) × (e : EndAction) × SpellsEndAction (known_in names stack) text e
  ActsAs w (matching anchored head after) action =
      (r : Rule) × Spells how defined head r.head × IsTrail how defined after r.trail × IsCutOf r.head r.trail r.cut × IsSpelled action

  pub record RuleHere (t : List ℕ) (w : List Rule) : Type 0 where
    pub asked : Conditions
    pub subject : Subject
    pub u : List ℕ
    pub v : List ℕ
    pub text : List ℕ
    pub rest : List ℕ
    pub list : conditions_at t ≡ Some (asked, u)
    pub cut : IsSubject u subject v
    pub ends : action_at (after_blanks v) ≡ Some (text, rest)
    pub numbers : Option (List ℕ)
    pub numbered : numbers_of (number_from 0 names) (length names) asked ≡ Some numbers
    pub acts : ActsAs w subject (action_of text)

  acts_here : (w : List Rule) (n : ℕ) (asked : Conditions) (subject : Subject) (action : Option (List ℕ)) (is : List (ℕ × Item)) (rs : List Rule) (es : List EndRule)
      → RulesFrom names how stack defined ((n, rule asked subject action) ∷ is) rs es → may_wait w ((n, rule asked subject action) ∷ is) ≡ true
      → ((numbers : Option (List ℕ)) × (numbers_of (number_from 0 names) (length names) asked ≡ Some numbers)) × ActsAs w subject action
  acts_here w n asked at_end None is rs es are next = absurd are
  acts_here [] n asked at_end (Some text) is rs es (numbers, e, others, listed, acts, all, more) next = ((numbers, listed), (refl, e, acts))
  acts_here (q ∷ w) n asked at_end (Some text) is rs es are next = no_true next
  acts_here w n asked (matching anchored head after) None is rs es (r, others, all, one, more) next = ((r.conditions, one.0.listed), (r, one.0.head_is, one.0.trail_is, one.0.cut_is, tt))
  acts_here w n asked (matching anchored head after) (Some text) is rs es (r, others, all, one, more) next =
      ((r.conditions, one.0.listed), (r, one.0.head_is, one.0.trail_is, one.0.cut_is, (r.statements, one.2)))

  rule_here : (t : List ℕ) (w : List Rule) (n : ℕ) (i : Item) (rest : List ℕ) (is : List (ℕ × Item)) (rs : List Rule) (es : List EndRule) → starts_rule t ≡ true → IsLine t i rest
      → RulesFrom names how stack defined ((n, i) ∷ is) rs es → may_wait w ((n, i) ∷ is) ≡ true → RuleHere t w
  rule_here t w n skipped rest is rs es starts item are next = both_ways (AllBlank t) (tests_of t skipped rest item) (rule_tests t starts).0
  rule_here t w n skipped_line rest is rs es starts item are next = both_ways (StartsBlank t) (tests_of t skipped_line rest item).1 (rule_tests t starts).1
  rule_here t w n skipped_block rest is rs es starts item are next = both_ways (OpensBlock t) (tests_of t skipped_block rest item).2 (rule_tests t starts).3
  rule_here t w n (rule asked subject action) rest is rs es starts (starts', u, v, text, list, cut, ends, is_action) are next =
      let here = acts_here w n asked subject action is rs es are next in
      record {
        asked = asked;
        subject = subject;
        u = u;
        v = v;
        text = text;
        rest = rest;
        list = list;
        cut = cut;
        ends = ends;
        numbers = here.0.0;
        numbered = here.0.1;
        acts = subst (ActsAs w subject) is_action here.1;
      }

  pub invert : (t : List ℕ) (n : ℕ) (i : Item) (next : List ℕ) (is : List (ℕ × Item)) (w R : List Rule) (E : List EndRule) → starts_rule t ≡ true → IsLine t i next → Left names how stack defined ((n, i) ∷ is) w R E → RuleHere t w
  invert t n i next is w R E starts item left = rule_here t w n i next is left.later E starts item left.are left.next

  -- nothing is spelled from there on
  abbrev pub NoLeft : List ℕ → Type 0
  NoLeft t = (n : ℕ) (i : Item) (next : List ℕ) (is : List (ℕ × Item)) (w R : List Rule) (E : List EndRule) → IsLine t i next → Left names how stack defined ((n, i) ∷ is) w R E → ⊥

  no_some : {A B : Type 0} (x : A) (o : Option A) → o ≡ Some x → o ≡ None → B
  no_some {A} x o e f = absurd (none (sym e ∙ f))
    where
      none : ◌≡◌ {A = Option A} (Some x) None → ⊥
      none p = cc

  pub no_list : (t : List ℕ) → starts_rule t ≡ true → conditions_at t ≡ None → NoLeft t
  no_list t starts none n i next is w R E item left = let h = invert t n i next is w R E starts item left in no_some (h.asked, h.u) (conditions_at t) h.list none

  pub no_numbers : (t u : List ℕ) (asked : Conditions) → starts_rule t ≡ true → conditions_at t ≡ Some (asked, u) → numbers_of (number_from 0 names) (length names) asked ≡ None → NoLeft t
  no_numbers t u asked starts list none n i next is w R E item left =
      let h = invert t n i next is w R E starts item left in
      let same = (some_pair h.asked asked h.u u (sym h.list ∙ list)).0 in
      no_some h.numbers (numbers_of (number_from 0 names) (length names) h.asked) h.numbered (ap (numbers_of (number_from 0 names) (length names)) same ∙ none)

  pub no_subject : (t u : List ℕ) (asked : Conditions) → starts_rule t ≡ true → conditions_at t ≡ Some (asked, u) → ((s : Subject) (v : List ℕ) → IsSubject u s v → ⊥) → NoLeft t
  no_subject t u asked starts list none n i next is w R E item left =
      let h = invert t n i next is w R E starts item left in
      let same = (some_pair h.asked asked h.u u (sym h.list ∙ list)).1 in
      none h.subject h.v (subst (λ z. IsSubject z h.subject h.v) same h.cut)

  -- what is known of the rule where its list and its subject are known
  abbrev pub Known : List Rule → Subject → List ℕ → Type 0
  Known w subject v = (text rest : List ℕ) × (action_at (after_blanks v) ≡ Some (text, rest)) × ActsAs w subject (action_of text)

  known : (n : ℕ) (t u v : List ℕ) (asked : Conditions) (subject : Subject) (i : Item) (next : List ℕ) (is : List (ℕ × Item)) (w R : List Rule) (E : List EndRule)
      → starts_rule t ≡ true → conditions_at t ≡ Some (asked, u) → IsSubject u subject v → IsLine t i next → Left names how stack defined ((n, i) ∷ is) w R E → Known w subject v
  known n t u v asked subject i next is w R E starts list cut item left =
      let h = invert t n i next is w R E starts item left in
      let same = (some_pair h.asked asked h.u u (sym h.list ∙ list)).1 in
      let one = one_subject cut_once u h.subject subject h.v v (subst (λ z. IsSubject z h.subject h.v) same h.cut) cut in
      (h.text, h.rest, ap (λ z. action_at (after_blanks z)) (sym one.1) ∙ h.ends, subst (λ z. ActsAs w z (action_of h.text)) one.0 h.acts)

  -- no head, trailing context and cut
  abbrev pub NoHead : List ℕ → Trailing → Type 0
  NoHead head after = (h : Tree) (t : Option Tree) (cut : Cut) → Spells how defined head h → IsTrail how defined after t → IsCutOf h t cut → ⊥

  pub no_head : (t u v : List ℕ) (asked : Conditions) (anchored : Bool) (head : List ℕ) (after : Trailing) → starts_rule t ≡ true → conditions_at t ≡ Some (asked, u)
      → IsSubject u (matching anchored head after) v → NoHead head after → NoLeft t
  no_head t u v asked anchored head after starts list cut none n i next is w R E item left =
      let (text, rest, ends, r, spells, trail, cuts, acts) = flat (known n t u v asked (matching anchored head after) i next is w R E starts list cut item left) in none r.head r.trail r.cut spells trail cuts
    where
      flat : Known w (matching anchored head after) v → (text rest : List ℕ) × (action_at (after_blanks v) ≡ Some (text, rest)) × (r : Rule)
          × Spells how defined head r.head × IsTrail how defined after r.trail × IsCutOf r.head r.trail r.cut × IsSpelled (action_of text)
      flat (text, rest, ends, (r, spells, trail, cuts, acts)) = (text, rest, ends, r, spells, trail, cuts, acts)

  pub no_action : (t u v : List ℕ) (asked : Conditions) (subject : Subject) → starts_rule t ≡ true → conditions_at t ≡ Some (asked, u)
      → IsSubject u subject v → action_at (after_blanks v) ≡ None → NoLeft t
  no_action t u v asked subject starts list cut none n i next is w R E item left =
      let k = known n t u v asked subject i next is w R E starts list cut item left in no_some (k.0, k.1) (action_at (after_blanks v)) k.2 none

  -- the action of the rule that begins a text
  pub acts_of : (n : ℕ) (t : List ℕ) (asked : Conditions) (subject : Subject) (action : Option (List ℕ)) (rest : List ℕ) (i : Item) (next : List ℕ) (is : List (ℕ × Item)) (w R : List Rule) (E : List EndRule)
      → IsLine t (rule asked subject action) rest → IsLine t i next → Left names how stack defined ((n, i) ∷ is) w R E → ActsAs w subject action
  acts_of n t asked subject action rest i next is w R E (starts, u, v, text, list, cut, ends, is_action) item left =
      let k = known n t u v asked subject i next is w R E starts list cut item left in
      let same = (some_pair k.0 text k.1 rest (sym k.2 ∙ ends)).0 in
      subst (ActsAs w subject) (ap action_of same ∙ sym is_action) k.3
