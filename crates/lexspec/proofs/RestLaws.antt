-- The rules section, from its first line to its last.
use Rattle.std.proofs.Common.{◌≡◌, ◌≢◌, ℕ, ◌+◌, ◌-◌, ◌<◌, ◌≤◌, ◌==◌, true, List, [], ◌∷◌, ◌++◌, map, length, take, inl, refl, sym, ap, subst, ◌∙◌, arith, length-append, inr, false}
use Rattle.lex_semantics.specs.Reading.{begins}
use Rattle.std.specs.Prelude.{codes, Result, Ok, Err, IfOk, IfErr}
use Rattle.std.proofs.lemmas.List.{append-nil, length-map}
use Rattle.std.proofs.lemmas.List.Sums.{count_by-le-length}
use Rattle.lex_semantics.specs.Spec as S
use Rattle.lexspec_lines.specs.Lines.{newlines}
use Rattle.lexspec_lines.specs.SkippedCode.{Code}
use Rattle.lexspec_lines.specs.Skips.{TellsCode, TellsPieces}
use Rattle.lexspec_lines.specs.declared.skipped.Skipped.{Skipped}
use Rattle.lexspec.specs.RuleItems.{EndRule}
use Rattle.lexspec.specs.WaitingRules.{Left, acting, first_statements, may_wait, RulesFrom}
use Rattle.lexspec.specs.RuleViews.{rule_of}
use Rattle.lexspec.specs.EndRules.{end_rule_of}
use Rattle.lexspec.specs.ItemReads.{names_in, NoneLeft, SomeWait}
use Rattle.lexspec.specs.Agreeing.{Agrees, Passes}
use Rattle.lexspec.specs.Files.{AreSingle}
use Rattle.lexspec.specs.Keeping.{Keeps}
use Rattle.lex_semantics.specs.Sound.{HaveSoundSides}
use Rattle.lexspec.specs.SectionReads.{HasRules, NoSuchRules, IsRefused, line_of_last}
use Rattle.lexspec_lines.specs.Outcome.{UnlessMemory}
use Rattle.lexspec_lines.specs.declared.declarations.Declarations.{Declarations}
use Rattle.lexre_bytes.specs.declared.refusals.SpecError.{SpecError}
use Rattle.lexspec.specs.declared.rule.Rule.{Rule}
use Rattle.lexspec.specs.declared.rules_section.RulesSection.{RulesSection}
use Rattle.lexspec.specs.declared.rules_so_far.RulesSoFar.{RulesSoFar}
use Rattle.lexspec_lines.proofs.OneSection.{no_true}
use Rattle.lexspec.proofs.OneItems.{both_ways, no_item_at_end}
use Rattle.lexspec.proofs.RulesLaws.{both_items}
use Rattle.lexre_bytes.proofs.MemoryLaws.{unless_memory, always}
use Rattle.lexspec.proofs.FaultLineLaws.{item_fault, end_fault, fault_line}
use Rattle.lexre_bytes.specs.declared.refusals.SpecErrorKind.TheVariants.{DanglingBar}
use Rattle.lexspec.proofs.RulesLaws.{agree_first}
use Rattle.lexspec_lines.proofs.CodeLaws.{tells_more}
use Rattle.lexspec.specs.SkipViews.{TakesItem}
use Rattle.lexspec.specs.ItemRuns.{ItemsFrom, ItemsUpTo, EndsRules, Item, skipped, skipped_line, skipped_block, rule, at_end, matching, IsLine, brings_rule, code_of_item}
use Rattle.lex_semantics.specs.Limits.{max_rules}

pub over_empty : (t : List ℕ) → length t ≡ 0 → EndsRules t
over_empty [] h = inl refl
over_empty (c ∷ t) h = absurd (omega arith)

pub goes_on : (t : List ℕ) → 0 < length t → begins (codes "%%") t ≡ false → EndsRules t → ⊥
goes_on t some off (inl e) = let none : length t ≡ 0 = ap length e in absurd (omega arith)
goes_on t some off (inr e) = both_ways (begins (codes "%%") t) e off

no_elements : {A : Type 0} (xs : List A) → length xs ≡ 0 → xs ≡ []
no_elements [] h = refl
no_elements (x ∷ xs) h = absurd (omega arith)

-- The items of a text up to a place.

pub up_to_more : (n : ℕ) (t : List ℕ) (is : List (ℕ × Item)) (m : ℕ) (rest : List ℕ) (i : Item) (next : List ℕ) (k : ℕ) → ItemsUpTo n t is m rest → IsLine rest i next → m + (newlines rest - newlines next) ≡ k
    → ItemsUpTo n t (is ++ (m, i) ∷ []) k next
up_to_more n t [] m rest i next k (line, same) item e =
    let there : IsLine t i next = subst (λ z. IsLine z i next) (sym same) item in
    let at : n + (newlines t - newlines next) ≡ k = ap (λ z. n + (newlines z - newlines next)) same ∙ ap (λ z. z + (newlines rest - newlines next)) line ∙ e in
    (next, sym line, there, (at, refl))
up_to_more n t (j ∷ js) m rest i next k (after, line, item', more) item e = (after, line, item', up_to_more (n + (newlines t - newlines after)) after js m rest i next k more item e)

pub whole_items : (n : ℕ) (t : List ℕ) (is : List (ℕ × Item)) (m : ℕ) (rest : List ℕ) → ItemsUpTo n t is m rest → EndsRules rest → ItemsFrom n t is
whole_items n t [] m rest (line, same) over = subst EndsRules (sym same) over
whole_items n t (i ∷ is) m rest (next, line, item, more) over = (next, line, item, whole_items (n + (newlines t - newlines next)) next is m rest more over)

-- the items of a text are those up to a place, and those from there on
pub split_items : (n : ℕ) (t : List ℕ) (before : List (ℕ × Item)) (m : ℕ) (rest : List ℕ) (items : List (ℕ × Item)) → ItemsUpTo n t before m rest → ItemsFrom n t items
    → (is : List (ℕ × Item)) × (items ≡ before ++ is) × ItemsFrom m rest is
split_items n t [] m rest items (line, same) here = (items, refl, subst (λ z. ItemsFrom z rest items) line (subst (λ z. ItemsFrom n z items) same here))
split_items n t (j ∷ js) m rest [] (next, line, item, more) over = absurd (no_item_at_end t j.1 next over item)
split_items n t (j ∷ js) m rest (i ∷ is) (next, line, item, more) (next', line', item', more') =
    let same = both_items t i.1 j.1 next' next item' item in
    let first : ◌≡◌ {A = ℕ × Item} (i.0, i.1) (j.0, j.1) = ap (λ z. (z, i.1)) (line' ∙ sym line) ∙ ap (λ z. (j.0, z)) same.0 in
    let (ks, all, there) = split_items (n + (newlines t - newlines next)) next js m rest is more (subst (λ z. ItemsFrom (n + (newlines t - newlines z)) z is) same.1 more') in
    (ks, ap (λ z. z ∷ is) first ∙ ap (λ z. j ∷ z) all, there)

module _ (d : Declarations) where
  pub agrees_first : (s : RulesSoFar) → s.rules.items ≡ [] → s.waiting.items ≡ [] → s.ends.items ≡ [] → Agrees d [] s
  agrees_first s e f g =
      let a = agree_first (names_in d) d.options d.stack d.definitions in
      record {
        back = (λ is R E left. rw (e, g) (a.back is R E (rw f at left)));
        on = (λ is R E left. rw (e, f, g) (a.on is R E left));
      }

  left_of : (items : List (ℕ × Item)) (R : List S.Rule) (E : List EndRule) → RulesFrom (names_in d) d.options d.stack d.definitions items R E
      → Left (names_in d) d.options d.stack d.definitions items [] R E
  left_of items R E are = record { later = R; are = are; next = refl; whole = refl }

  -- an item that brings a rule has room where all rules have
  room_for : (s : RulesSoFar) (n : ℕ) (i : Item) (is : List (ℕ × Item)) (R : List S.Rule) (E : List EndRule) → Left (names_in d) d.options d.stack d.definitions ((n, i) ∷ is) (map rule_of s.waiting.items) R E
      → length s.rules.items + length R ≤ max_rules → brings_rule i ≡ true → length s.rules.items + length s.waiting.items < max_rules
  room_for s n i is R E left few brings =
      let waiting = map rule_of s.waiting.items in
      let waiters = map (acting (first_statements left.later)) waiting in
      let all : length R ≡ length waiters + length left.later = ap length left.whole ∙ length-append waiters left.later in
      let named : length waiters ≡ length waiting = length-map waiting (acting (first_statements left.later)) in
      let kept : length waiting ≡ length s.waiting.items = length-map s.waiting.items rule_of in
      let one : 1 ≤ length left.later = from i left.later left.are brings in
      omega arith
    where
      from : (i : Item) (later : List S.Rule) → RulesFrom (names_in d) d.options d.stack d.definitions ((n, i) ∷ is) later E → brings_rule i ≡ true → 1 ≤ length later
      from skipped later are h = no_true h
      from skipped_line later are h = no_true h
      from skipped_block later are h = no_true h
      from (rule asked at_end action) later are h = no_true h
      from (rule asked (matching anchored head after) action) later (r, others, all, one, more) h = omega (arith, ap length all)

  -- what is not spelled from a place on is not spelled from the first line on
  section_refused : (start n : ℕ) (whole t : List ℕ) (before : List (ℕ × Item)) (s : RulesSoFar) → ItemsUpTo start whole before n t → Agrees d before s → (EndsRules t → ⊥)
      → NoneLeft d s n t → NoSuchRules d start whole
  section_refused start n whole t before s upto a goes none items R E here are few single =
      let (is, all, there) = split_items start whole before n t items upto here in
      let (T, F, p, q, left) = a.on is R E (left_of (before ++ is) R E (subst (λ z. RulesFrom (names_in d) d.options d.stack d.definitions z R E) all are)) in
      let count : length R ≡ length (map rule_of s.rules.items) + length T = ap length p ∙ length-append (map rule_of s.rules.items) T in
      let done : length (map rule_of s.rules.items) ≡ length s.rules.items = length-map s.rules.items rule_of in
      let room : length s.rules.items + length T ≤ max_rules = omega arith in
      from is there T F left room (subst (AreSingle (length d.conditions.items)) q single)
    where
      from : (is : List (ℕ × Item)) → ItemsFrom n t is → (T : List S.Rule) (F : List EndRule) → Left (names_in d) d.options d.stack d.definitions is (map rule_of s.waiting.items) T F
          → length s.rules.items + length T ≤ max_rules → AreSingle (length d.conditions.items) (map end_rule_of s.ends.items ++ F) → ⊥
      from [] over T F left room single = goes over
      from (i ∷ is) (next, line, item, more) T F left room single =
          let here = subst (λ z. Left (names_in d) d.options d.stack d.definitions ((z, i.1) ∷ is) (map rule_of s.waiting.items) T F) line left in
          none i.1 next is T F item here (room_for s n i.1 is T F here room, single)

  -- no rule waits at the end
  end_waits : (start n : ℕ) (whole t : List ℕ) (before : List (ℕ × Item)) (s : RulesSoFar) → ItemsUpTo start whole before n t → Agrees d before s → EndsRules t → (length s.waiting.items ≡ 0 → ⊥)
      → NoSuchRules d start whole
  end_waits start n whole t before s upto a over some items R E here are few single =
      let (is, all, there) = split_items start whole before n t items upto here in
      let (T, F, p, q, left) = a.on is R E (left_of (before ++ is) R E (subst (λ z. RulesFrom (names_in d) d.options d.stack d.definitions z R E) all are)) in
      from s.waiting.items some is there left.next
    where
      from : (ws : List Rule) → (length ws ≡ 0 → ⊥) → (is : List (ℕ × Item)) → ItemsFrom n t is → may_wait (map rule_of ws) is ≡ true → ⊥
      from [] h is here next = h refl
      from (w ∷ ws) h [] here next = no_true next
      from (w ∷ ws) h (i ∷ is) (rest, first, item, more) next = no_item_at_end t i.1 rest over item

  pub all_read : (start n : ℕ) (whole t : List ℕ) (before : List (ℕ × Item)) (s : RulesSoFar) (x : RulesSection) → ItemsUpTo start whole before n t → Agrees d before s → Keeps d s → EndsRules t → length s.waiting.items ≡ 0
      → x.rules.items ≡ s.rules.items → x.ends.items ≡ s.ends.items → x.rest.now ≡ t → HasRules d start whole x
  all_read start n whole t before s x upto a keeps over none rules ends rest =
      let nobody : s.waiting.items ≡ [] = no_elements s.waiting.items none in
      let last : Left (names_in d) d.options d.stack d.definitions [] (map rule_of s.waiting.items) [] [] = rw nobody (left_of [] [] [] (refl, refl)) in
      let all = subst (λ z. Left (names_in d) d.options d.stack d.definitions z [] (map rule_of s.rules.items ++ []) (map end_rule_of s.ends.items ++ [])) (append-nil before) (a.back [] [] [] last) in
      let R : all.later ≡ map rule_of s.rules.items = sym all.whole ∙ append-nil (map rule_of s.rules.items) in
      record {
        items = before;
        here = whole_items start whole before n t upto over;
        are = rw (rules, ends) (subst (λ z. RulesFrom (names_in d) d.options d.stack d.definitions before z (map end_rule_of s.ends.items)) R
            (subst (λ z. RulesFrom (names_in d) d.options d.stack d.definitions before all.later z) (append-nil (map end_rule_of s.ends.items)) all.are));
        stops = subst EndsRules (sym rest) over;
        sound = subst (λ z. HaveSoundSides (map rule_of z)) (sym rules) keeps.sound.0;
        single = subst (λ z. AreSingle (length d.conditions.items) (map end_rule_of z)) (sym ends) keeps.single;
        few = omega (arith, keeps.few, ap length rules);
      }

  -- what was read of a text: the items up to a place, and what they spell
  pub record IsReadTo (start : ℕ) (whole : List ℕ) (s : RulesSoFar) (n : ℕ) (t : List ℕ) : Type 0 where
    pub before : List (ℕ × Item)
    pub up_to : ItemsUpTo start whole before n t
    pub agrees : Agrees d before s

  -- one item more
  pub item_read : (s s' : RulesSoFar) (start line more : ℕ) (whole t rest : List ℕ) → Passes d line t rest s s'
      → newlines (take (length t - length rest) t) + newlines rest ≡ newlines t → more ≡ newlines (take (length t - length rest) t) → IsReadTo start whole s line t
      → IsReadTo start whole s' (line + more) rest
  item_read s s' start line more whole t rest on counts e a =
      let same : line + (newlines t - newlines rest) ≡ line + more = omega (arith, counts, e) in
      let (i, item, later) = on a.before a.agrees in
      record { before = a.before ++ (line, i) ∷ []; up_to = up_to_more start whole a.before line t i rest (line + more) a.up_to item same; agrees = later }

  pub ended_found : (r : Result RulesSection SpecError) (start n : ℕ) (whole t : List ℕ) (s : RulesSoFar) → IsReadTo start whole s n t → Keeps d s → EndsRules t → IfOk r (λ x. length s.waiting.items ≡ 0)
      → IfOk r (λ x. x.rules.items ≡ s.rules.items) → IfOk r (λ x. x.ends.items ≡ s.ends.items) → IfOk r (λ x. x.rest.now ≡ t) → IfOk r (λ x. HasRules d start whole x)
  ended_found (Err e) start n whole t s a keeps over none rules ends rest = tt
  ended_found (Ok x) start n whole t s a keeps over none rules ends rest = all_read start n whole t a.before s x a.up_to a.agrees keeps over none rules ends rest

  -- the fault of an item, and of the end
  pub item_refused : (start n : ℕ) (whole t : List ℕ) (s : RulesSoFar) (e : SpecError) → IsReadTo start whole s n t → Keeps d s → (EndsRules t → ⊥) → UnlessMemory e.kind (NoneLeft d s n t)
      → (e.kind ≡ DanglingBar → SomeWait s) → (e.kind ≢ DanglingBar → e.line ≡ n) → (e.kind ≡ DanglingBar → e.line ≡ line_of_last n s.waiting.items) → UnlessMemory e.kind (IsRefused d start whole e)
  item_refused start n whole t s e a keeps goes none waits other bar =
      unless_memory e.kind (NoneLeft d s n t) (IsRefused d start whole e) (λ h. record {
        none = section_refused start n whole t a.before s a.up_to a.agrees goes h;
        first = item_fault d a.before s a.agrees start n whole t e a.up_to keeps goes h waits other bar;
        from_first = fault_line d a.before s a.agrees start n whole t e a.up_to other bar;
      }) none

  pub ended_refused : (r : Result RulesSection SpecError) (start n : ℕ) (whole t : List ℕ) (s : RulesSoFar) → IsReadTo start whole s n t → Keeps d s → EndsRules t → IfErr r (λ e. length s.waiting.items ≡ 0 → ⊥)
      → IfErr r (λ e. e ≡ record { line = line_of_last n s.waiting.items; kind = DanglingBar }) → IfErr r (λ e. UnlessMemory e.kind (IsRefused d start whole e))
  ended_refused (Ok x) start n whole t s a keeps over some is = tt
  ended_refused (Err e) start n whole t s a keeps over some is = always e.kind (IsRefused d start whole e) (record {
    none = end_waits start n whole t a.before s a.up_to a.agrees over some;
    first = end_fault d a.before s a.agrees start n whole t e a.up_to keeps over some is;
    from_first = fault_line d a.before s a.agrees start n whole t e a.up_to (λ other. absurd (other (ap (λ (x : SpecError). x.kind) is))) (λ same. ap (λ (x : SpecError). x.line) is);
  })

pub ended_line : (r : Result RulesSection SpecError) (line all : ℕ) (t : List ℕ) → IfOk r (λ x. x.line ≡ line) → IfOk r (λ x. x.rest.now ≡ t) → line + newlines t ≡ all
    → IfOk r (λ x. x.line + newlines x.rest.now ≡ all)
ended_line (Err e) line all t here rest h = tt
ended_line (Ok x) line all t here rest h = ap (λ z. z + newlines x.rest.now) here ∙ ap (λ z. line + newlines z) rest ∙ h

-- there are no more newlines than bytes
pub newlines_few : (t : List ℕ) → newlines t ≤ length t
newlines_few t = count_by-le-length (λ c. c == 10) t

-- the code of the items

pub item_told : (before : List Code) (end line : ℕ) (whole t rest : List ℕ) (s s' : Skipped) → TellsPieces before IsLine code_of_item end whole t s → line + newlines t ≡ end → TakesItem line t rest s s'
    → TellsPieces before IsLine code_of_item end whole rest s'
item_told before end line whole t rest s s' told at takes = tells_more IsLine code_of_item before end whole t rest line takes.item s s' told at takes.here takes.code

pub ended_code : (r : Result RulesSection SpecError) (end : ℕ) (whole t : List ℕ) (old s : Skipped) → ((before : List Code) → TellsCode before old → TellsPieces before IsLine code_of_item end whole t s)
    → IfOk r (λ x. x.rest.now ≡ t) → IfOk r (λ x. (before : List Code) → TellsCode before old → TellsPieces before IsLine code_of_item end whole x.rest.now s)
ended_code (Err e) end whole t old s told rest = tt
ended_code (Ok x) end whole t old s told rest = λ before h. subst (λ z. TellsPieces before IsLine code_of_item end whole z s) (sym rest) (told before h)
