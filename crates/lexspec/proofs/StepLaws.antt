-- One item of the rules section more.
use Rattle.std.proofs.Common.{◌≡◌, ℕ, suc, ◌+◌, ◌-◌, ◌<◌, ◌==◌, ◌&&◌, Bool, true, false, if◌then◌else◌, List, [], ◌∷◌, map, length, take, Option, Some, None, refl, sym, ap, ◌∙◌, arith, length-append}
use Rattle.lex_semantics.specs.Reading.{after_blanks, take_up_to}
use Rattle.lexspec.specs.ActionSteps.{outside, action_in, with_byte, next_place, depth_after}
use Rattle.lexspec.proofs.ActionPieces.{action_is}
use Rattle.lexspec.specs.Items.{action_at, action_of, starts_rule}
use Rattle.lexspec_lines.specs.Lines.{newlines}
use Rattle.lexspec.specs.RuleViews.{rule_of}
use Rattle.lexspec.specs.ItemReads.{names_in, ReadsFront, ReadsItem, NoRules, NoRulesAfter, NoneLeft}
use Rattle.lexspec.specs.Agreeing.{Passes}
use Rattle.lexspec.specs.SkipViews.{item_of, TakesItem}
use Rattle.lexspec_lines.specs.Outcome.{UnlessMemory}
use Rattle.lexspec_lines.specs.declared.declarations.Declarations.{Declarations}
use Rattle.lexre_bytes.specs.declared.refusals.SpecErrorKind.{SpecErrorKind}
use Rattle.lexspec_lines.specs.declared.skipped.Skipped.{Skipped}
use Rattle.lexspec_lines.proofs.CodeLaws.{adds_same}
use Rattle.lexspec.specs.declared.rule_text.Front.{Front}
use Rattle.lexspec.specs.declared.rule_text.Front.TheVariants as F
use Rattle.lexspec.specs.declared.rule_text.RuleText.{RuleText}
use Rattle.lexspec.specs.declared.skips.Skip.{Skip}
use Rattle.lexspec.specs.declared.skips.Skip.TheVariants.{Blank, Code, Block}
use Rattle.lexspec.specs.declared.rules_so_far.RulesSoFar.{RulesSoFar}
use Rattle.lexspec.specs.ItemRuns.{Item, skipped, skipped_line, skipped_block, rule, IsLine, at_end, matching}
use Rattle.lexspec_lines.proofs.OneSection.{no_true, some_pair}
use Rattle.lexre_bytes.proofs.MemoryLaws.{unless_memory, always}
use Rattle.lexspec_lines.proofs.SectionLaws.{EndsWith, ends_on, each_some, each_none, each_if, newlines_front}
use Rattle.lexspec.proofs.EndLaws.{Ends, action_ends, blanks_end, conditions_end, subject_ends, item_ends}
use Rattle.lexspec.proofs.RulesLaws.{agree_plain, is_plain}

abbrev Split : Type 0
Split = List ℕ × List ℕ

-- an action takes a byte where there is one

kept : (c : ℕ) (t : List ℕ) (o : Option Split) → Ends t o → Ends t (with_byte c o)
kept c t None h = each_none (λ (x : Split). EndsWith t x.1)
kept c t (Some x) h = each_some (λ (y : Split). EndsWith t y.1) (c ∷ x.0, x.1) (h x refl)

stopped : (t : List ℕ) → Ends t (Some ([], t))
stopped t = each_some (λ (x : Split). EndsWith t x.1) ([], t) ([], refl)

either : (t : List ℕ) (b : Bool) (x y : Option Split) → Ends t x → Ends t y → Ends t (if b then x else y)
either t b x y h k = each_if (λ (z : Split). EndsWith t z.1) b x y h k

-- from the place outside all, where no brace is open
action_takes : (c : ℕ) (t : List ℕ) → Ends t (action_in outside 0 (c ∷ t))
action_takes c t = either t (c == 10 && 0 == 0) _ _ (stopped t) (kept c t _ (action_ends t (next_place c) (depth_after 0 c)))

not_longer : (t rest : List ℕ) → EndsWith t rest → length rest < suc (length t)
not_longer t rest (front, e) = omega (arith, ap length e, length-append front rest)

action_shorter : (t text rest : List ℕ) (n : ℕ) → action_at t ≡ Some (text, rest) → length t < suc n → 0 < n → length rest < n
action_shorter [] text rest n e h k = omega (arith, ap length (some_pair [] text [] rest (sym (action_is []) ∙ e)).1)
action_shorter (c ∷ t) text rest n e h k = omega (arith, not_longer t rest (action_takes c t (text, rest) (sym (action_is (c ∷ t)) ∙ e)))

starts_some : (t : List ℕ) → starts_rule t ≡ true → 0 < length t
unfolding take_up_to
starts_some [] h = no_true h
starts_some (c ∷ t) h = omega arith

-- the rest of a rule is shorter than its text
rule_shorter : (d : Declarations) (n : ℕ) (t : List ℕ) (i : Item) (rest : List ℕ) → is_plain (names_in d) d.options d.stack d.definitions i ≡ false → IsLine t i rest → length rest < length t
rule_shorter d n t skipped rest h item = no_true (sym h)
rule_shorter d n t skipped_line rest h item = no_true (sym h)
rule_shorter d n t skipped_block rest h item = no_true (sym h)
rule_shorter d n t (rule asked subject action) rest h (starts, u, v, text, list, cut, ends, is) =
    let front = ends_on t u (after_blanks v) (conditions_end t (asked, u) list) (ends_on u v (after_blanks v) (subject_ends u subject v cut) (blanks_end v)) in
    action_shorter (after_blanks v) text rest (length t) ends (not_longer t (after_blanks v) front) (starts_some t starts)

module _ (d : Declarations) where
  reads_item : (n : ℕ) (t action rest : List ℕ) (f : Front) → ReadsFront d n t action rest f → (i : Item) × (is_plain (names_in d) d.options d.stack d.definitions i ≡ false) × IsLine t i rest
  reads_item n t action rest (F.Matching r) h = (rule h.asked (matching h.anchored h.head h.after) (action_of action), refl, h.item)
  reads_item n t action rest (F.AtEnd numbers) h = (rule h.asked at_end (action_of action), refl, h.item)

  pub reads_shorter : (n : ℕ) (t : List ℕ) (x : RuleText) → ReadsItem d n t x → length x.rest.now < length t
  reads_shorter n t x h = let (i, plain, item) = reads_item n t x.action.now x.rest.now x.front h in rule_shorter d n t i x.rest.now plain item

  pub reads_counts : (n : ℕ) (t : List ℕ) (x : RuleText) → ReadsItem d n t x → newlines (take (length t - length x.rest.now) t) + newlines x.rest.now ≡ newlines t
  reads_counts n t x h = let (i, plain, item) = reads_item n t x.action.now x.rest.now x.front h in newlines_front t x.rest.now (item_ends t i x.rest.now item)

  pub reads_code : (n : ℕ) (t : List ℕ) (x : RuleText) (s : Skipped) → ReadsItem d n t x → TakesItem n t x.rest.now s s
  reads_code n t x s h = from x.action.now x.rest.now x.front h
    where
      from : (action rest : List ℕ) (f : Front) → ReadsFront d n t action rest f → TakesItem n t rest s s
      from action rest (F.Matching r) h = record { item = rule h.asked (matching h.anchored h.head h.after) (action_of action); here = h.item; code = adds_same s }
      from action rest (F.AtEnd numbers) h = record { item = rule h.asked at_end (action_of action); here = h.item; code = adds_same s }

  plain_is : (k : Skip) → is_plain (names_in d) d.options d.stack d.definitions (item_of k) ≡ true
  plain_is Blank = refl
  plain_is Code = refl
  plain_is Block = refl

  pub plain_agrees : (s : RulesSoFar) (n : ℕ) (t : List ℕ) (k : Skip) (rest : List ℕ) → IsLine t (item_of k) rest → Passes d n t rest s s
  plain_agrees s n t k rest item before a =
      let b = agree_plain (names_in d) d.options d.stack d.definitions before (map rule_of s.rules.items) _ (map rule_of s.waiting.items) n (item_of k) (plain_is k) (record { back = a.back; on = a.on }) in
      (item_of k, item, record { back = b.back; on = b.on })

  -- where there is no item nothing is spelled
  pub plain_refused : (s : RulesSoFar) (n : ℕ) (t : List ℕ) (e : SpecErrorKind) → ((i : Item) (rest : List ℕ) → IsLine t i rest → ⊥) → UnlessMemory e (NoneLeft d s n t)
  plain_refused s n t e none = always e (NoneLeft d s n t) (λ i next is R E item left may. none i next item)

  pub text_refused : (s : RulesSoFar) (n : ℕ) (t : List ℕ) (e : SpecErrorKind) → UnlessMemory e (NoRules d t) → UnlessMemory e (NoneLeft d s n t)
  text_refused s n t e h = unless_memory e (NoRules d t) (NoneLeft d s n t) (λ none i next is R E item left may. none n i next is (map rule_of s.waiting.items) R E item left) h

  pub rule_refused : (s : RulesSoFar) (n : ℕ) (t : List ℕ) (x : RuleText) (e : SpecErrorKind) → ReadsItem d n t x → UnlessMemory e (NoRulesAfter d s x.front x.action.now) → UnlessMemory e (NoneLeft d s n t)
  rule_refused s n t x e reads h =
      unless_memory e (NoRulesAfter d s x.front x.action.now) (NoneLeft d s n t) (λ none. none n t x.rest.now reads) h
