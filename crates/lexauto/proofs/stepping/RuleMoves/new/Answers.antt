use Rattle.std.proofs.Common.{◌≡◌, ℕ, false, ◌-◌, ◌<◌, ◌^◌, List, length, map, sym, ap, subst, ◌∙◌, arith}
use Rattle.lex_semantics.specs.ByteSets.{ByteSet, has, empty_set}
use Rattle.std.specs.Prelude.{slice_index, slice_index_or}
use Rattle.lex_semantics.specs.Text.{flag}
use Rattle.lexauto.specs.Sets.{marked_by}
use Rattle.lex_semantics.specs.Subsets.{all_positions}
use Rattle.lexauto_positions.specs.Letters.{reads_at}
use Rattle.lexspec.specs.Views.{spec_of}
use Rattle.lexauto_positions.specs.Laid.{shape_of}
use Rattle.lexauto_positions.specs.Owners.{AreOwners}
use Rattle.lexauto_positions.specs.RuleFlow.{rules_enter, rules_left, rules_read}
use Rattle.lexauto_positions.specs.declared.rules.LaidRule.{LaidRule}
use Rattle.lexauto_positions.proofs.LaidLaws.{NextAll, LeftAll, Letters}
use Rattle.lexauto.proofs.StepLemmas.{tested_rules, few_rules}
use Rattle.lexauto.specs.Moving.{AreChanges, first_at, marks_at}
use Rattle.lexauto.proofs.Alphabets.{reads_by_place, changes_by_place}
use Rattle.lexauto_positions.proofs.Mapped.{length_map}
use Rattle.lexauto.proofs.stepping.RuleMoves.new.Goals as goal

pub lay_rules-requires-clause-sound : goal.lay_rules-requires-clause-sound
lay_rules-requires-clause-sound c = rw c.rules.ensures.rules (tested_rules (spec_of c.args.spec.now) c.rules.ensures.sound)

pub owners_of-requires-clause-rules : goal.owners_of-requires-clause-rules
owners_of-requires-clause-rules c =
    let number = ap (λ (rs : List LaidRule). length rs) c.deref.ensures.value ∙ sym (length_map shape_of c.in_ok-rules.rules.items) ∙ c.in_ok-rules.ensures.alike.number ∙ ap length c.rules.ensures.rules in
    let few : length (spec_of c.args.spec.now).rules < 2 ^ 32 = few_rules (spec_of c.args.spec.now) c.rules.ensures.sound in
    omega (arith, number, few)

pub kinds_of-requires : goal.kinds_of-requires
kinds_of-requires c = λ q b some low not.
    let same : c.deref-4.result.now ≡ c.deref-5.result.now = c.deref-4.ensures.value ∙ sym c.deref-5.ensures.value in
    let told = subst (λ (sets : List ByteSet). has (slice_index_or sets q empty_set) b ≡ false) c.deref-6.ensures.value not in
    subst (λ (ls : List ByteSet). reads_at ls (b - 1) q 0 ≡ reads_at ls b q 0) same (c.in_ok-changes.ensures.changes q b some low told)

pub invariant_of-result-clause-owned : goal.invariant_of-result-clause-owned
invariant_of-result-clause-owned c =
    c.in_ok-owners.ensures.len ∙ ap (λ (rs : List LaidRule). all_positions (map shape_of rs)) c.deref.ensures.value
    ∙ c.in_ok-rules.ensures.alike.size ∙ ap all_positions c.rules.ensures.rules ∙ c.requires.within

pub invariant_of-result-clause-owners_are : goal.invariant_of-result-clause-owners_are
invariant_of-result-clause-owners_are c =
    subst (λ (rs : List LaidRule). AreOwners (map shape_of rs) c.in_ok-owners.owners.items) c.deref.ensures.value c.in_ok-owners.ensures.owners

pub invariant_of-result-clause-number : goal.invariant_of-result-clause-number
invariant_of-result-clause-number c =
    sym (length_map shape_of c.in_ok-rules.rules.items) ∙ c.in_ok-rules.ensures.alike.number ∙ ap length c.rules.ensures.rules

pub invariant_of-result-clause-size : goal.invariant_of-result-clause-size
invariant_of-result-clause-size c = c.in_ok-rules.ensures.alike.size ∙ ap all_positions c.rules.ensures.rules ∙ c.requires.within

pub invariant_of-result-clause-next : goal.invariant_of-result-clause-next
invariant_of-result-clause-next c = λ on last q. ap (λ (f : NextAll). f on last q 0 0) (c.in_ok-rules.ensures.alike.next ∙ ap rules_enter c.rules.ensures.rules)

pub invariant_of-result-clause-left : goal.invariant_of-result-clause-left
invariant_of-result-clause-left c = λ last. ap (λ (f : LeftAll). f last 0 0) (c.in_ok-rules.ensures.alike.left ∙ ap rules_left c.rules.ensures.rules)

pub invariant_of-result-clause-each : goal.invariant_of-result-clause-each
invariant_of-result-clause-each c =
    let alphabet = c.in_ok-alphabet.alphabet in
    let kinds = c.in_ok-kinds.kinds.kinds.items in
    let places = c.in_ok-kinds.kinds.places.items in
    let are = c.in_ok-kinds.ensures.are in
    let within : (b : ℕ) → b < 256 → b < length places = λ b low. (let all = c.in_ok-kinds.ensures.all in omega (arith, low, all)) in
    let read = λ (b q : ℕ). rules_read (spec_of c.args.spec.now).rules b q 0 in
    let told : (i b : ℕ) → b < 256 → ((k : ℕ) → flag (marks_at kinds i) k ≡ reads_at c.deref-5.result.now b k 0) → (q : ℕ) → marked_by alphabet.places.items (marks_at kinds i) q ≡ read b q = λ i b low marks q.
    reads_by_place c.deref-3.result.now alphabet.letters.items alphabet.places.items c.in_ok-alphabet.ensures b (marks_at kinds i) low
    (λ k. marks k ∙ ap (λ (ls : List ByteSet). reads_at ls b k 0) c.deref-5.ensures.value) q
    ∙ ap (λ (ls : List ByteSet). reads_at ls b q 0) c.deref-3.ensures.value
    ∙ c.in_ok-read.ensures b q
    ∙ ap (λ (rs : List LaidRule). rules_read (map shape_of rs) b q 0) c.deref-2.ensures.value
    ∙ ap (λ (f : Letters). f b q 0) (c.in_ok-rules.ensures.alike.letters ∙ ap rules_read c.rules.ensures.rules) in
    let each : (b q : ℕ) → b < 256 → marked_by alphabet.places.items (marks_at kinds (slice_index places b)) q ≡ read b q = λ b q low.
    told (slice_index places b) b low (λ k. are.each b k (within b low)) q in
    record {
      low = λ b low. are.low b (within b low);
      each = each;
      first = λ b low. are.first b (within b low);
      same = λ b q low. (let i = slice_index places b in
          let first = are.first b (within b low) in
          sym (told i (first_at kinds i) (omega (arith, first, low)) (λ k. are.same i k (are.low b (within b low))) q) ∙ each b q low);
    }

pub invariant_of-result-clause-changing : goal.invariant_of-result-clause-changing
invariant_of-result-clause-changing c = λ q b some low not.
    let alphabet = c.in_ok-alphabet.alphabet in
    let changes = c.in_ok-changes.changes.items in
    let size : length changes ≡ length alphabet.letters.items = c.in_ok-changes.ensures.len ∙ ap (λ (ls : List ByteSet). length ls) c.deref-4.ensures.value in
    let are = subst (λ (ls : List ByteSet). AreChanges (λ c k. reads_at ls c k 0) changes) c.deref-4.ensures.value c.in_ok-changes.ensures.changes in
    let told : (k : ℕ) → reads_at c.deref-3.result.now k q 0 ≡ rules_read (spec_of c.args.spec.now).rules k q 0 = λ k.
    ap (λ (ls : List ByteSet). reads_at ls k q 0) c.deref-3.ensures.value
    ∙ c.in_ok-read.ensures k q
    ∙ ap (λ (rs : List LaidRule). rules_read (map shape_of rs) k q 0) c.deref-2.ensures.value
    ∙ ap (λ (f : Letters). f k q 0) (c.in_ok-rules.ensures.alike.letters ∙ ap rules_read c.rules.ensures.rules) in
    sym (told (b - 1))
    ∙ changes_by_place c.deref-3.result.now alphabet.letters.items alphabet.places.items c.in_ok-alphabet.ensures changes size are q b some low not
    ∙ told b
