use Rattle.std.proofs.Common.{◌≡◌, ℕ, ◌-◌, List, rules, ◌∙◌, sym, subst, ap, arith}
use Rattle.std.proofs.lemmas.Result.{err_from_is_err_and}
use Rattle.std.specs.FinMap.{get, insert}
use Rattle.lex_semantics.specs.Tree.{Tree}
use Rattle.lexre_bytes.specs.Lexical.{symbol_at}
use Rattle.lexre.specs.Cycles.{AllLeadToText}
use Rattle.lexre.specs.Names.{NamedTrees, AreKnown, open_of, trees_of}
use Rattle.lexre.specs.Reading.{StandsIn, lowered}
use Rattle.lexre.specs.StackViews.{state_of}
use Rattle.lexre.specs.SymbolViews.{symbol_of}
use Rattle.lexre_bytes.specs.Symbols.{item}
use Rattle.lexre.specs.Views.{tree_of}
use Rattle.lexre_bytes.specs.declared.error.PatternErrorKind.TheVariants.{UnbalancedParen}
use Rattle.lexre.proofs.CycleLaws.{all_lead_front, all_lead_on, among_open, ends_step, refused_cycle}
use Rattle.lexre.proofs.FrontLaws.{symbol_takes}
use Rattle.lexre.proofs.LowerLaws.{finished_lower, name_lower, spared_name, stands_rises, step_lower}
use Rattle.lexre.proofs.NameLaws.{known_usable, still_known, too_many_known}
use Rattle.lexre.proofs.OneTree.{some_is, step_limit}
use Rattle.lexre.proofs.ReaderLaws.{nothing_at, nothing_left, something_left, unless_weaker, retold, agree_step, refused_front, refused_step, refused_end, found_at_end, few_at_end, counted_at_end, no_substitute, left_of, steps_from, steps_name, plain_of, no_name_step, too_many_named, too_many_plain, counted_plain}
use Rattle.lexre.proofs.SoundLaws.{sound_step, sound_finished}
use Rattle.lexre.proofs.SymbolLaws.{symbol_adds, signs_add, sound_symbol}
use Rattle.lexre.proofs.reader.+read.Goals as goal
use Rattle.lexre.proofs.reader.+read.Goals.{step-in-Name+in_ok-tree-in-Name+in_ok-nodes-in-Name, step-in_default+in_ok-nodes-in_default}
use Rattle.lexre.specs.declared.reader.Taken.{Taken}

abbrev nodes_of : Taken → ℕ
nodes_of x = x.nodes

abbrev spare_of : Taken → ℕ
spare_of x = x.spare

pub read_name-returns-in-Err-clause-none : goal.read_name-returns-in-Err-clause-none
read_name-returns-in-Err-clause-none t c =
    unless_weaker c.in-Err.error.kind _ _ (no_substitute c.args.scope.options c.args.scope.definitions.now c.args.room c.args.left c.args.name.now _ (sym c.in-Some-find.ensures)) c.in-Err.ensures.none

pub read_name-returns-then-is_open-clause-none : goal.read_name-returns-then-is_open-clause-none
read_name-returns-then-is_open-clause-none t c =
    refused_cycle c.args.scope.options c.args.scope.definitions.now c.args.room c.args.left (open_of c.args.names.now) c.args.name.now c.requires.lead
    (among_open c.args.name.now c.args.names.now.being_read.items (sym c.is_open.ensures ∙ c.if-is_open.true))

pub read_within-returns-in-Err-clause-none : goal.read_within-returns-in-Err-clause-none
read_within-returns-in-Err-clause-none t c =
    retold c.in-Err.fault.kind _ _ c.reported.ensures
    (refused_front c.args.scope.options.posix (symbol_at c.args.scope.options.fold) (get c.args.scope.definitions.now) (nothing_at c.args.scope.options.fold) (signs_add c.args.scope.options.fold) c.in-Err.fault.kind c.args.room c.args.left (state_of c.loop-rest.stack) c.loop-rest.rest.now c.args.text.now
    c.loop-rest.invariant.agree (something_left _ (search rules)) c.requires.room c.in-Err.ensures.front)

pub read_within-returns-in-Err-step-clause-none : goal.read_within-returns-in-Err-step-clause-none
read_within-returns-in-Err-step-clause-none t c =
    rw c.fault.ensures (refused_step c.args.scope.options.posix (symbol_at c.args.scope.options.fold) (get c.args.scope.definitions.now) (nothing_at c.args.scope.options.fold) (signs_add c.args.scope.options.fold) c.in-Err-step.kind c.args.room _ c.args.left (state_of c.loop-rest.stack) c.loop-rest.rest.now c.args.text.now _ _
    c.loop-rest.invariant.agree c.in-Ok.ensures.front (let k = c.loop-rest.invariant.counted in omega arith) c.in-Err-step.ensures.none)

pub read_within-step-requires : goal.read_within-step-requires
read_within-step-requires t c =
    let Q : List (List ℕ) → Type 0 = λ x. AllLeadToText c.args.scope.options c.args.scope.definitions.now x c.args.text.now in
    let lead = subst Q (sym c.loop-rest.invariant.same_open) c.requires.lead in (
      search rules,
      (
        search rules,
        (
          (c.in-Ok.ensures.sound, c.loop-rest.invariant.sound),
          (
            c.loop-rest.invariant.known,
            all_lead_front c.args.scope.options c.args.scope.definitions.now _ c.args.text.now c.loop-rest.rest.now c.in-Ok.found.1.now _ lead c.loop-rest.invariant.ends c.in-Ok.ensures.front,
          ),
        ),
      ),
    )

pub read_within-invariant_of-result : goal.read_within-invariant_of-result
read_within-invariant_of-result t c = record {
  counted = counted_at_end (state_of c.loop-rest.stack) (tree_of c.in-Ok-finish.pattern) c.loop-rest.nodes c.in-Ok-finish.ensures c.loop-rest.invariant.counted
      (let h = c.loop-rest.invariant.few in let k = c.requires.room in omega arith);
}

pub read_within-loop-rest-smaller : goal.read_within-loop-rest-smaller
read_within-loop-rest-smaller t c = symbol_takes c.args.scope.options.fold c.loop-rest.rest.now c.in-Ok.found.1.now _ c.in-Ok.ensures.front

pub read_within-loop-rest-preserved : goal.read_within-loop-rest-preserved
read_within-loop-rest-preserved t c = record {
  agree = agree_step c.args.scope.options.posix (symbol_at c.args.scope.options.fold) (get c.args.scope.definitions.now) (nothing_at c.args.scope.options.fold) (state_of c.loop-rest.stack) (state_of c.step.new.stack) _ c.loop-rest.rest.now c.in-Ok.found.1.now c.args.text.now _
      c.in-Ok.ensures.front c.in-Ok-step.ensures.stepped.found c.loop-rest.invariant.agree;
  within = (let k = c.loop-rest.invariant.within in
      let e = step_limit c.args.scope.options.posix (symbol_at c.args.scope.options.fold) (get c.args.scope.definitions.now) (nothing_at c.args.scope.options.fold) _ (state_of c.loop-rest.stack) (state_of c.step.new.stack) c.in-Ok-step.ensures.stepped.found in omega arith);
  counted = (let k = c.loop-rest.invariant.counted in omega (arith, c.in-Ok-step.ensures.stepped.counted));
  few = (let k = c.loop-rest.invariant.few in omega (arith, c.in-Ok-step.ensures.stepped.few));
  sound = c.in-Ok-step.ensures.stepped.sound;
  known = c.in-Ok-step.ensures.known;
  same_open = c.in-Ok-step.ensures.same_open ∙ c.loop-rest.invariant.same_open;
  ends = ends_step c.args.scope.options.posix (symbol_at c.args.scope.options.fold) (get c.args.scope.definitions.now) (nothing_at c.args.scope.options.fold) c.args.text.now c.loop-rest.rest.now c.in-Ok.found.1.now _
      c.loop-rest.invariant.ends c.in-Ok.ensures.front;
  lower = λ e h.
      let k = c.min-spare.ensures in
      let j = c.loop-rest.invariant.below_now in
      agree_step c.args.scope.options.posix (symbol_at c.args.scope.options.fold) (get c.args.scope.definitions.now) (nothing_at c.args.scope.options.fold) (lowered e (state_of c.loop-rest.stack)) (lowered e (state_of c.step.new.stack)) _ c.loop-rest.rest.now c.in-Ok.found.1.now c.args.text.now _
      c.in-Ok.ensures.front (c.in-Ok-step.ensures.stepped.lower e (omega arith) (omega arith)) (c.loop-rest.invariant.lower e (omega arith));
  below = (let k = c.min-spare.ensures in let j = c.loop-rest.invariant.below in omega arith);
  below_now = (let k = c.min-spare.ensures in omega (arith, c.in-Ok-step.ensures.stepped.spare));
}

pub read_within-returns-in-Err-UnbalancedParen-clause-none : goal.read_within-returns-in-Err-UnbalancedParen-clause-none
read_within-returns-in-Err-UnbalancedParen-clause-none t c =
    refused_end c.args.scope.options.posix (symbol_at c.args.scope.options.fold) (get c.args.scope.definitions.now) (nothing_at c.args.scope.options.fold) UnbalancedParen c.args.room c.args.left (state_of c.loop-rest.stack) c.loop-rest.rest.now c.args.text.now
    c.loop-rest.invariant.agree (nothing_left _ (search rules)) (rw c.in-Err-UnbalancedParen.field-0-is at c.in-Err-UnbalancedParen.ensures)

pub read_within-returns-in-Err-finish : goal.read_within-returns-in-Err-finish
read_within-returns-in-Err-finish t c = record {
  read = tt;
  known = c.loop-rest.invariant.known;
  same_open = tt;
  none = refused_end c.args.scope.options.posix (symbol_at c.args.scope.options.fold) (get c.args.scope.definitions.now) (nothing_at c.args.scope.options.fold) c.in-Err-finish.kind c.args.room c.args.left (state_of c.loop-rest.stack) c.loop-rest.rest.now c.args.text.now
      c.loop-rest.invariant.agree (nothing_left _ (search rules)) c.in-Err-finish.ensures;
}

pub read_name-returns-then-kept-room-clause-none : goal.read_name-returns-then-kept-room-clause-none
read_name-returns-then-kept-room-clause-none t c =
    let (below, stands, sound) = known_usable c.args.scope.options c.args.scope.definitions.now (trees_of c.args.names.now) c.args.left c.args.name.now (tree_of c.in-Some.kept.now.tree.pattern) c.in-Some.kept.now.needed
    c.requires.known_so_far (sym c.in-Some.ensures) in
    too_many_known c.args.scope.options c.args.scope.definitions.now c.args.room c.args.left c.args.name.now (tree_of c.in-Some.kept.now.tree.pattern)
    (stands_rises c.args.scope.options c.args.scope.definitions.now c.in-Some.kept.now.needed c.args.left c.args.name.now (tree_of c.in-Some.kept.now.tree.pattern) stands below) (omega (arith, c.in-Some.kept.now.tree.counted))

pub read_name-read_within-requires : goal.read_name-read_within-requires
read_name-read_within-requires t c =
    let P : NamedTrees → Type 0 = λ x. AreKnown c.args.scope.options c.args.scope.definitions.now x in
    let Q : List (List ℕ) → Type 0 = λ x. AllLeadToText c.args.scope.options c.args.scope.definitions.now x c.in-Some-find.substitute.now in (
      search rules,
      (
        search rules,
        (
          c.requires.room,
          (
            subst P (sym c.enter.ensures.trees) c.requires.known_so_far,
            subst Q (sym c.in_ok-enter.ensures.entered) (all_lead_on c.args.scope.options c.args.scope.definitions.now (open_of c.args.names.now) c.args.name.now _ (sym c.in-Some-find.ensures) c.requires.lead),
          ),
        ),
      ),
    )

pub read_name-returns-in_err-enter-clause-known : goal.read_name-returns-in_err-enter-clause-known
read_name-returns-in_err-enter-clause-known t c =
    let P : NamedTrees → Type 0 = λ x. AreKnown c.args.scope.options c.args.scope.definitions.now x in subst P (sym c.enter.ensures.trees) c.requires.known_so_far

pub read_name-returns-in_err-share-in-Ok-clause-known : goal.read_name-returns-in_err-share-in-Ok-clause-known
read_name-returns-in_err-share-in-Ok-clause-known t c =
    let P : NamedTrees → Type 0 = λ x. AreKnown c.args.scope.options c.args.scope.definitions.now x in subst P (sym c.leave.ensures.trees) c.in-Ok.ensures.known

pub read_name-returns-in_err-keep-in-Ok-clause-known : goal.read_name-returns-in_err-keep-in-Ok-clause-known
read_name-returns-in_err-keep-in-Ok-clause-known t c =
    let P : NamedTrees → Type 0 = λ x. AreKnown c.args.scope.options c.args.scope.definitions.now x in
    let closed : P (trees_of c.leave.new.self) = subst P (sym c.leave.ensures.trees) c.in-Ok.ensures.known in
    subst P (sym c.in_err-keep-in-Ok.ensures.no_memory) closed

pub read_name-returns-in_ok-keep-in-Ok-clause-known : goal.read_name-returns-in_ok-keep-in-Ok-clause-known
read_name-returns-in_ok-keep-in-Ok-clause-known t c =
    let P : NamedTrees → Type 0 = λ x. AreKnown c.args.scope.options c.args.scope.definitions.now x in
    let closed : P (trees_of c.leave.new.self) = subst P (sym c.leave.ensures.trees) c.in-Ok.ensures.known in
    let Q : Tree → Type 0 = λ x. P (insert (trees_of c.leave.new.self) c.args.name.now (x, c.args.left - c.in-Ok.field-0.spare)) in
    subst P (sym c.in_ok-keep-in-Ok.ensures.trees) (subst Q (sym c.in_ok-share-in-Ok.ensures)
    (still_known c.args.scope.options c.args.scope.definitions.now (trees_of c.leave.new.self) c.args.name.now (tree_of c.in-Ok.field-0.tree.pattern) (c.args.left - c.in-Ok.field-0.spare) closed
    (spared_name c.args.scope.options c.args.scope.definitions.now c.args.left c.in-Ok.field-0.spare c.args.name.now _ (tree_of c.in-Ok.field-0.tree.pattern) c.if-left-eq0.false c.in-Ok.ensures.read.spare
    (sym c.in-Some-find.ensures) c.in-Ok.ensures.read.found)
    c.in-Ok.ensures.read.sound))

pub step-returns-in_err-tree-in-Name-clause-none : goal.step-returns-in_err-tree-in-Name-clause-none
step-returns-in_err-tree-in-Name-clause-none t c =
    let p = err_from_is_err_and c.from_residual.result c.from_residual.ensures.1 in
    rw (p.1, p.2, c.in-Name.is) (no_name_step c.args.scope.options c.args.scope.definitions.now _ c.args.room (state_of c.args.stack.now) c.in-Name.name.now c.in_err-tree-in-Name.ensures.none)

pub step-returns-then-taken-room-clause-none : goal.step-returns-then-taken-room-clause-none
step-returns-then-taken-room-clause-none t c = elim c.match-symbol.branch [
  | step-in-Name+in_ok-tree-in-Name+in_ok-nodes-in-Name w ↦
      rw w.in-Name.is (too_many_named c.args.scope.options c.args.scope.definitions.now c.args.room c.match-symbol.taken.nodes (state_of c.args.stack.now) w.in-Name.name.now (tree_of w.in_ok-tree-in-Name.field-0.tree.pattern)
      (stands_rises c.args.scope.options c.args.scope.definitions.now (c.args.stack.now.left - w.in_ok-tree-in-Name.field-0.spare) c.args.stack.now.left w.in-Name.name.now (tree_of w.in_ok-tree-in-Name.field-0.tree.pattern) w.in_ok-tree-in-Name.ensures.read.found (omega arith))
      (ap nodes_of w.taken-is ∙ w.in_ok-nodes-in-Name.ensures.1) c.if-taken-room.true)
  | step-in_default+in_ok-nodes-in_default w ↦
      too_many_plain c.args.scope.options c.args.scope.definitions.now c.args.room c.match-symbol.taken.nodes (state_of c.args.stack.now) (state_of w.take.new.self) (symbol_of c.args.symbol) (symbol_adds c.args.symbol)
      w.in_ok-nodes-in_default.ensures.0 (ap nodes_of w.taken-is ∙ w.in_ok-nodes-in_default.ensures.1) c.if-taken-room.true
]

pub step-returns-clause-known : goal.step-returns-clause-known
step-returns-clause-known t c = elim c.match-symbol.branch [
  | step-in-Name+in_ok-tree-in-Name+in_ok-nodes-in-Name w ↦ rw w.names-is w.in_ok-tree-in-Name.ensures.known
  | step-in_default+in_ok-nodes-in_default w ↦ rw w.names-is c.requires.known_so_far
]

pub step-returns-then-taken-room-clause-known : goal.step-returns-then-taken-room-clause-known
step-returns-then-taken-room-clause-known t c = elim c.match-symbol.branch [
  | step-in-Name+in_ok-tree-in-Name+in_ok-nodes-in-Name w ↦ rw w.names-is w.in_ok-tree-in-Name.ensures.known
  | step-in_default+in_ok-nodes-in_default w ↦ rw w.names-is c.requires.known_so_far
]

pub read_within-returns-in-Ok-finish-clause-read : goal.read_within-returns-in-Ok-finish-clause-read
read_within-returns-in-Ok-finish-clause-read t c = record {
  found = found_at_end c.args.scope.options.posix (symbol_at c.args.scope.options.fold) (get c.args.scope.definitions.now) (nothing_at c.args.scope.options.fold) (c.args.left - c.loop-rest.spare) (lowered c.loop-rest.spare (state_of c.loop-rest.stack)) c.loop-rest.rest.now c.args.text.now
      (tree_of c.in-Ok-finish.pattern) (c.loop-rest.invariant.lower c.loop-rest.spare (omega arith)) (nothing_left _ (search rules))
      (finished_lower c.loop-rest.spare (state_of c.loop-rest.stack) ∙ c.in-Ok-finish.ensures);
  spare = c.loop-rest.invariant.below;
  few = few_at_end c.args.scope.options.posix (symbol_at c.args.scope.options.fold) (get c.args.scope.definitions.now) (nothing_at c.args.scope.options.fold) c.args.room (state_of c.loop-rest.stack) (tree_of c.in-Ok-finish.pattern) c.in-Ok-finish.ensures
      (let k = c.loop-rest.invariant.counted in let h = c.loop-rest.invariant.few in omega arith);
  sound = sound_finished (state_of c.loop-rest.stack) (tree_of c.in-Ok-finish.pattern) c.loop-rest.invariant.sound c.in-Ok-finish.ensures;
}

pub read_name-returns-in-Some-clause-read : goal.read_name-returns-in-Some-clause-read
read_name-returns-in-Some-clause-read t c =
    let tree = tree_of c.in-Some.kept.now.tree.pattern in
    let (below, stands, sound) = known_usable c.args.scope.options c.args.scope.definitions.now (trees_of c.args.names.now) c.args.left c.args.name.now tree c.in-Some.kept.now.needed
    c.requires.known_so_far (sym c.in-Some.ensures) in
    let e : c.in-Some.kept.now.needed ≡ c.args.left - (c.args.left - c.in-Some.kept.now.needed) = omega (arith, below) in
    rw c.in_ok-share.ensures (record {
      found = subst (λ k. StandsIn c.args.scope.options c.args.scope.definitions.now k c.args.name.now tree) e stands;
      spare = omega arith;
      few = omega (arith, c.in-Some.kept.now.tree.counted, c.if-kept-room.false);
      sound = sound;
    })

pub read_name-returns-in_ok-keep-in-Ok-clause-read : goal.read_name-returns-in_ok-keep-in-Ok-clause-read
read_name-returns-in_ok-keep-in-Ok-clause-read t c = record {
  found = spared_name c.args.scope.options c.args.scope.definitions.now c.args.left c.in-Ok.field-0.spare c.args.name.now _ (tree_of c.in-Ok.field-0.tree.pattern) c.if-left-eq0.false c.in-Ok.ensures.read.spare
      (sym c.in-Some-find.ensures) c.in-Ok.ensures.read.found;
  spare = omega (arith, c.in-Ok.ensures.read.spare);
  few = c.in-Ok.ensures.read.few;
  sound = c.in-Ok.ensures.read.sound;
}

pub step-returns-clause-stepped : goal.step-returns-clause-stepped
step-returns-clause-stepped t c = record {
  found = elim c.match-symbol.branch [
    | step-in-Name+in_ok-tree-in-Name+in_ok-nodes-in-Name w ↦
        rw (w.stack-is, w.in-Name.is) (steps_name c.args.scope.options c.args.scope.definitions.now (state_of c.args.stack.now) (state_of w.push.new.self) w.in-Name.name.now (tree_of w.in_ok-tree-in-Name.field-0.tree.pattern)
        (stands_rises c.args.scope.options c.args.scope.definitions.now (c.args.stack.now.left - w.in_ok-tree-in-Name.field-0.spare) c.args.stack.now.left w.in-Name.name.now (tree_of w.in_ok-tree-in-Name.field-0.tree.pattern) w.in_ok-tree-in-Name.ensures.read.found (omega arith))
        w.in_ok-nodes-in-Name.ensures.0)
    | step-in_default+in_ok-nodes-in_default w ↦
        rw w.stack-is (steps_from c.args.scope.options c.args.scope.definitions.now (symbol_of c.args.symbol) (state_of c.args.stack.now) (state_of w.take.new.self)
        (plain_of c.args.scope.options.posix (symbol_of c.args.symbol) (state_of c.args.stack.now) (state_of w.take.new.self) w.in_ok-nodes-in_default.ensures.0) w.in_ok-nodes-in_default.ensures.0)
  ];
  spare = elim c.match-symbol.branch [
    | step-in-Name+in_ok-tree-in-Name+in_ok-nodes-in-Name w ↦
        let k = ap spare_of w.taken-is in
        let same = ap left_of (some_is _ _ w.in_ok-nodes-in-Name.ensures.0) in
        rw w.stack-is (omega (arith, w.in_ok-tree-in-Name.ensures.read.spare))
    | step-in_default+in_ok-nodes-in_default w ↦ (let k = ap spare_of w.taken-is in rw w.stack-is (omega arith))
  ];
  lower = elim c.match-symbol.branch [
    | step-in-Name+in_ok-tree-in-Name+in_ok-nodes-in-Name w ↦ λ e h h'.
        rw (w.stack-is, w.in-Name.is) (name_lower c.args.scope.options c.args.scope.definitions.now e w.in_ok-tree-in-Name.field-0.spare (state_of c.args.stack.now) (state_of w.push.new.self) w.in-Name.name.now
        (tree_of w.in_ok-tree-in-Name.field-0.tree.pattern) (let k = ap spare_of w.taken-is in omega arith) w.in_ok-tree-in-Name.ensures.read.found w.in_ok-nodes-in-Name.ensures.0)
    | step-in_default+in_ok-nodes-in_default w ↦ λ e h h'.
        let plain = plain_of c.args.scope.options.posix (symbol_of c.args.symbol) (state_of c.args.stack.now) (state_of w.take.new.self) w.in_ok-nodes-in_default.ensures.0 in
        rw w.stack-is (steps_from c.args.scope.options c.args.scope.definitions.now (symbol_of c.args.symbol) (lowered e (state_of c.args.stack.now)) (lowered e (state_of w.take.new.self)) plain
        (step_lower c.args.scope.options.posix e (symbol_of c.args.symbol) (state_of c.args.stack.now) (state_of w.take.new.self) h (let k = ap spare_of w.taken-is in omega arith) w.in_ok-nodes-in_default.ensures.0))
  ];
  few = omega (arith, c.if-taken-room.false);
  sound = elim c.match-symbol.branch [
    | step-in-Name+in_ok-tree-in-Name+in_ok-nodes-in-Name w ↦
        rw w.stack-is (sound_step c.args.scope.options.posix (item (tree_of w.in_ok-tree-in-Name.field-0.tree.pattern)) (state_of c.args.stack.now) (state_of w.push.new.self) w.in_ok-tree-in-Name.ensures.read.sound c.requires.sound.1
        w.in_ok-nodes-in-Name.ensures.0)
    | step-in_default+in_ok-nodes-in_default w ↦
        rw w.stack-is (sound_step c.args.scope.options.posix (symbol_of c.args.symbol) (state_of c.args.stack.now) (state_of w.take.new.self) (sound_symbol c.args.symbol c.requires.sound.0) c.requires.sound.1 w.in_ok-nodes-in_default.ensures.0)
  ];
  counted = elim c.match-symbol.branch [
    | step-in-Name+in_ok-tree-in-Name+in_ok-nodes-in-Name w ↦
        rw w.stack-is (counted_plain c.args.scope.options.posix c.args.room c.match-symbol.taken.nodes (state_of c.args.stack.now) (state_of w.push.new.self) (item (tree_of w.in_ok-tree-in-Name.field-0.tree.pattern)) tt
        w.in_ok-nodes-in-Name.ensures.0 (ap nodes_of w.taken-is ∙ w.in_ok-nodes-in-Name.ensures.1) c.if-taken-room.false c.requires.room)
    | step-in_default+in_ok-nodes-in_default w ↦
        rw w.stack-is (counted_plain c.args.scope.options.posix c.args.room c.match-symbol.taken.nodes (state_of c.args.stack.now) (state_of w.take.new.self) (symbol_of c.args.symbol) (symbol_adds c.args.symbol)
        w.in_ok-nodes-in_default.ensures.0 (ap nodes_of w.taken-is ∙ w.in_ok-nodes-in_default.ensures.1) c.if-taken-room.false c.requires.room)
  ];
}
