use Rattle.std.proofs.Common.{rules, ◌≡◌, ℕ, Bool, false, [], ◌∷◌, ◌++◌, ◌+◌, ◌-◌, ◌*◌, ◌/◌, ◌%◌, ◌<◌, ◌≤◌, List, length, refl, sym, subst, ap, ◌∙◌, get_or, Err, arith}
use Rattle.lex_semantics.specs.Text.{Ascending}
use Rattle.lexauto.specs.Explored.{Changes, key_at, goes_by, step_by}
use Rattle.lexauto.specs.declared.explore.ExploreError.TheVariants.{TooMany}
use Rattle.std.proofs.lemmas.Result.{err_from_is_err_and}
use Rattle.lexauto.specs.Keys.{Key, At, Absent, Found, keys_in}
use Rattle.lexauto.specs.declared.explore.Told.{Told}
use Rattle.lexauto.specs.declared.explore.Following.{Following}
use Rattle.lexauto.specs.KeyPacking.{look_kept, kept_in, unpacked}
use Rattle.lexauto.proofs.Works.{Fills, ToldAt, unchanged, advance, held_on, told_first, told_further, told_longer, told_done, finished, too_many}
use Rattle.lexauto.proofs.Kept.{kept_length, kept_at}
use Rattle.lexauto.proofs.explore.explore.Goals.{then-byte-eq0+in_ok-following, else-byte-eq0}
use Rattle.lexauto.proofs.explore.explore.Goals as goal

pub returns-clause-ok : goal.returns-clause-ok
returns-clause-ok g c =
    let done : length (kept_in c.work.table.keys.items) ≤ length c.work.next.items / 256 =
    rw kept_length (search rules) in
    finished (step_by (g.M.Moves.follow c.args.moves.now) (g.M.Moves.read c.args.moves.now)) (kept_in c.args.roots.keys.items) (look_kept c.work.table) (kept_in c.work.table.keys.items) c.work.next.items c.args.limit c.work.invariant.exploring done

pub returns-clause-goes_on : goal.returns-clause-goes_on
returns-clause-goes_on g c =
    let done : length (kept_in c.work.table.keys.items) ≤ length c.work.next.items / 256 =
    rw kept_length (search rules) in
    told_done (step_by (g.M.Moves.follow c.args.moves.now) (g.M.Moves.read c.args.moves.now)) (kept_in c.args.roots.keys.items) (look_kept c.work.table) (kept_in c.work.table.keys.items) c.work.next.items c.args.limit c.work.invariant.exploring
    false (goes_by (g.M.Moves.follow c.args.moves.now)) c.work.told.goes_on.items done c.work.invariant.on

pub returns-clause-accepts : goal.returns-clause-accepts
returns-clause-accepts g c =
    let done : length (kept_in c.work.table.keys.items) ≤ length c.work.next.items / 256 =
    rw kept_length (search rules) in
    told_done (step_by (g.M.Moves.follow c.args.moves.now) (g.M.Moves.read c.args.moves.now)) (kept_in c.args.roots.keys.items) (look_kept c.work.table) (kept_in c.work.table.keys.items) c.work.next.items c.args.limit c.work.invariant.exploring
    [] (g.M.Moves.accept c.args.moves.now) (keys_in c.work.told.accepts.items) done c.work.invariant.accepted

pub target-requires-clause-ascending : goal.target-requires-clause-ascending
target-requires-clause-ascending g c =
    let held : Ascending c.if-byte-eq0.following.list.items = elim c.if-byte-eq0.branch [
      | then-byte-eq0+in_ok-following w ↦ subst (λ (f : Following). Ascending f.list.items) (sym w.following-is) w.in_ok-following.ensures.ascending
      | else-byte-eq0 w ↦ subst (λ (f : Following). Ascending f.list.items) (sym w.following-is) c.work.invariant.ascending
    ] in
    subst Ascending (sym c.deref-in-work-3.ensures.value) held

pub work-preserved : goal.work-preserved
work-preserved g c =
    let follow = g.M.Moves.follow c.args.moves.now in
    let accept = g.M.Moves.accept c.args.moves.now in
    let step = step_by follow (g.M.Moves.read c.args.moves.now) in
    let roots = kept_in c.args.roots.keys.items in
    let keys = kept_in c.work.table.keys.items in
    let new = kept_in c.target.new.table.keys.items in
    let n = length c.work.next.items in
    let at : c.len-at.result ≡ n = search rules in
    let byte : c.len-in-work-2.result ≡ n = search rules in
    let low : n / 256 < length c.work.table.keys.items = search rules in
    let held : c.if-byte-eq0.following.list.items ≡ follow (key_at keys (n / 256)) = elim c.if-byte-eq0.branch [
      | then-byte-eq0+in_ok-following w ↦
          (let here : w.index.result.now ≡ get_or c.work.table.keys.items (n / 256) w.index.result.now = rw (← at) w.index.ensures in
          ap (λ (f : Following). f.list.items) w.following-is ∙ w.in_ok-following.ensures.followers ∙ ap follow (ap unpacked w.deref.ensures.value ∙ sym (kept_at c.work.table.keys.items (n / 256) w.index.result.now low here)))
      | else-byte-eq0 w ↦
          (let some : 0 < n % 256 = (let f = w.if-byte-eq0.false in search (rules, f)) in
          ap (λ (f : Following). f.list.items) w.following-is ∙ c.work.invariant.held some)
    ] in
    let key : g.M.Moves.read c.args.moves.now c.deref-in-work-3.result.now (c.len-in-work-2.result % 256) ≡ step (key_at keys (n / 256)) (n % 256) =
    ap (λ (k : Key). g.M.Moves.read c.args.moves.now k (c.len-in-work-2.result % 256)) (c.deref-in-work-3.ensures.value ∙ held)
    ∙ ap (λ (m : ℕ). g.M.Moves.read c.args.moves.now (follow (key_at keys (n / 256))) (m % 256)) byte in
    let goes : ToldAt false (goes_by follow) keys (n / 256) c.if-byte-eq0.told.goes_on.items = elim c.if-byte-eq0.branch [
      | then-byte-eq0+in_ok-following w ↦
          (let here : w.index.result.now ≡ get_or c.work.table.keys.items (n / 256) w.index.result.now = rw (← at) w.index.ensures in
          let kept : unpacked w.deref.result.now ≡ key_at keys (n / 256) = ap unpacked w.deref.ensures.value ∙ sym (kept_at c.work.table.keys.items (n / 256) w.index.result.now low here) in
          let zero : n % 256 ≡ 0 = (let f = w.if-byte-eq0.true in search (rules, f)) in
          subst (λ (gs : List Bool). ToldAt false (goes_by follow) keys (n / 256) gs)
          (sym (ap (λ (t : Told). t.goes_on.items) w.told-is ∙ w.in_ok-following.ensures.goes_on ∙ ap (λ (k : Key). c.work.told.goes_on.items ++ goes_by follow k ∷ []) kept))
          (told_first step roots (look_kept c.work.table) keys c.work.next.items c.args.limit c.work.invariant.exploring false (goes_by follow) n c.work.told.goes_on.items (goes_by follow (key_at keys (n / 256))) refl zero c.work.invariant.on refl))
      | else-byte-eq0 w ↦
          (let some : 0 < n % 256 = (let f = w.if-byte-eq0.false in search (rules, f)) in
          subst (λ (gs : List Bool). ToldAt false (goes_by follow) keys (n / 256) gs) (sym (ap (λ (t : Told). t.goes_on.items) w.told-is))
          (told_further step roots (look_kept c.work.table) keys c.work.next.items c.args.limit c.work.invariant.exploring false (goes_by follow) n c.work.told.goes_on.items refl some c.work.invariant.on))
    ] in
    let accepted : ToldAt [] accept keys (n / 256) (keys_in c.if-byte-eq0.told.accepts.items) = elim c.if-byte-eq0.branch [
      | then-byte-eq0+in_ok-following w ↦
          (let here : w.index.result.now ≡ get_or c.work.table.keys.items (n / 256) w.index.result.now = rw (← at) w.index.ensures in
          let kept : unpacked w.deref.result.now ≡ key_at keys (n / 256) = ap unpacked w.deref.ensures.value ∙ sym (kept_at c.work.table.keys.items (n / 256) w.index.result.now low here) in
          let zero : n % 256 ≡ 0 = (let f = w.if-byte-eq0.true in search (rules, f)) in
          subst (λ (ls : List Key). ToldAt [] accept keys (n / 256) ls)
          (sym (ap (λ (t : Told). keys_in t.accepts.items) w.told-is ∙ w.in_ok-following.ensures.accepts ∙ ap (λ (k : Key). keys_in c.work.told.accepts.items ++ accept k ∷ []) kept))
          (told_first step roots (look_kept c.work.table) keys c.work.next.items c.args.limit c.work.invariant.exploring [] accept n (keys_in c.work.told.accepts.items) (accept (key_at keys (n / 256))) refl zero c.work.invariant.accepted refl))
      | else-byte-eq0 w ↦
          (let some : 0 < n % 256 = (let f = w.if-byte-eq0.false in search (rules, f)) in
          subst (λ (ls : List Key). ToldAt [] accept keys (n / 256) ls) (sym (ap (λ (t : Told). keys_in t.accepts.items) w.told-is))
          (told_further step roots (look_kept c.work.table) keys c.work.next.items c.args.limit c.work.invariant.exploring [] accept n (keys_in c.work.told.accepts.items) refl some c.work.invariant.accepted))
    ] in
    let changes : Changes (g.M.Moves.read c.args.moves.now) c.if-byte-eq0.following.list.items c.if-byte-eq0.following.changes = elim c.if-byte-eq0.branch [
      | then-byte-eq0+in_ok-following w ↦ subst (λ (f : Following). Changes (g.M.Moves.read c.args.moves.now) f.list.items f.changes) (sym w.following-is) w.in_ok-following.ensures.changes
      | else-byte-eq0 w ↦
          (let some : 0 < n % 256 = (let f = w.if-byte-eq0.false in search (rules, f)) in
          subst (λ (f : Following). Changes (g.M.Moves.read c.args.moves.now) f.list.items f.changes) (sym w.following-is) (c.work.invariant.changes some))
    ] in
    let found : Found keys (step (key_at keys (n / 256)) (n % 256)) new = subst (λ (k : Key). Found keys k new) key c.in_ok-place.ensures.found in
    let filled = c.resize.new.self.items in
    let after = c.first_after-end.ensures.after in
    let within = c.first_after-end.ensures.within in
    let size : length filled ≡ n / 256 * 256 + c.first_after-end.result = search rules in
    let full : c.work.next.len ≡ n = search rules in
    let fills : Fills c.work.next.items c.in_ok-place.place filled = record {
      more = omega (arith, size, after, byte);
      row = omega (arith, size, within);
      before = λ j h. c.in_ok-resize.ensures.by_index.0 j 0 (omega (arith, at, after, byte, h)) (omega (arith, full, h));
      added = λ j h g. c.in_ok-resize.ensures.by_index.1 j 0 refl (omega (arith, full, h)) (omega (arith, at, size, g));
    } in
    let alike : (j : ℕ) → n ≤ j → j < length filled → step (key_at keys (n / 256)) (j % 256) ≡ step (key_at keys (n / 256)) (n % 256) = λ j h top.
    let last : n % 256 + (j - n) ≡ j % 256 = omega (arith, size, within, h, top) in
    let read = λ (b : ℕ). g.M.Moves.read c.args.moves.now (follow (key_at keys (n / 256))) b in
    let one = unchanged (g.M.Moves.read c.args.moves.now) c.if-byte-eq0.following.list.items (c.len-in-work-2.result % 256) c.first_after-end.result
    (λ b past low. changes b (omega (arith, past)) (omega (arith, low, within)) (c.first_after-end.ensures.none b past low)) (j - n) (omega (arith, byte, size, h, top)) in
    sym (ap read last) ∙ subst (λ (k : Key). g.M.Moves.read c.args.moves.now k (n % 256 + (j - n)) ≡ g.M.Moves.read c.args.moves.now k (n % 256)) held
    (subst (λ (m : ℕ). g.M.Moves.read c.args.moves.now c.if-byte-eq0.following.list.items (m % 256 + (j - n)) ≡ g.M.Moves.read c.args.moves.now c.if-byte-eq0.following.list.items (m % 256)) byte one) in
    record {
      exploring = advance step roots (look_kept c.work.table) keys c.work.next.items c.args.limit c.work.invariant.exploring
          (look_kept c.target.new.table) new filled c.in_ok-place.place n refl (rw kept_length low)
          c.in_ok-place.ensures.finds found
          (subst (λ (k : Key). At new c.in_ok-place.place k) key c.in_ok-place.ensures.place)
          (rw kept_length (c.in_ok-place.ensures.room (rw kept_length at c.work.invariant.exploring.room))) fills alike;
      held = held_on step roots (look_kept c.work.table) keys c.work.next.items c.args.limit c.work.invariant.exploring
          follow new filled c.in_ok-place.place n c.if-byte-eq0.following.list.items (step (key_at keys (n / 256)) (n % 256)) refl (rw kept_length low) found fills held;
      ascending = elim c.if-byte-eq0.branch [
        | then-byte-eq0+in_ok-following w ↦ subst (λ (f : Following). Ascending f.list.items) (sym w.following-is) w.in_ok-following.ensures.ascending
        | else-byte-eq0 w ↦ subst (λ (f : Following). Ascending f.list.items) (sym w.following-is) c.work.invariant.ascending
      ];
      changes = λ some. changes;
      on = told_longer step roots (look_kept c.work.table) keys c.work.next.items c.args.limit c.work.invariant.exploring false (goes_by follow) new filled c.in_ok-place.place n (step (key_at keys (n / 256)) (n % 256)) c.if-byte-eq0.told.goes_on.items refl (rw kept_length low) found fills goes;
      accepted = told_longer step roots (look_kept c.work.table) keys c.work.next.items c.args.limit c.work.invariant.exploring [] accept new filled c.in_ok-place.place n (step (key_at keys (n / 256)) (n % 256)) (keys_in c.if-byte-eq0.told.accepts.items) refl (rw kept_length low) found fills accepted;
    }

pub returns-in_err-place-clause-too_many : goal.returns-in_err-place-clause-too_many
returns-in_err-place-clause-too_many g c = λ e.
    let follow = g.M.Moves.follow c.args.moves.now in
    let step = step_by follow (g.M.Moves.read c.args.moves.now) in
    let roots = kept_in c.args.roots.keys.items in
    let keys = kept_in c.work.table.keys.items in
    let n = length c.work.next.items in
    let at : c.len-at.result ≡ n = search rules in
    let byte : c.len-in-work-2.result ≡ n = search rules in
    let low : n / 256 < length c.work.table.keys.items = search rules in
    let held : c.if-byte-eq0.following.list.items ≡ follow (key_at keys (n / 256)) = elim c.if-byte-eq0.branch [
      | then-byte-eq0+in_ok-following w ↦
          (let here : w.index.result.now ≡ get_or c.work.table.keys.items (n / 256) w.index.result.now = rw (← at) w.index.ensures in
          ap (λ (f : Following). f.list.items) w.following-is ∙ w.in_ok-following.ensures.followers ∙ ap follow (ap unpacked w.deref.ensures.value ∙ sym (kept_at c.work.table.keys.items (n / 256) w.index.result.now low here)))
      | else-byte-eq0 w ↦
          (let some : 0 < n % 256 = (let f = w.if-byte-eq0.false in search (rules, f)) in
          ap (λ (f : Following). f.list.items) w.following-is ∙ c.work.invariant.held some)
    ] in
    let key : g.M.Moves.read c.args.moves.now c.deref-in-work-3.result.now (c.len-in-work-2.result % 256) ≡ step (key_at keys (n / 256)) (n % 256) =
    ap (λ (k : Key). g.M.Moves.read c.args.moves.now k (c.len-in-work-2.result % 256)) (c.deref-in-work-3.ensures.value ∙ held)
    ∙ ap (λ (m : ℕ). g.M.Moves.read c.args.moves.now (follow (key_at keys (n / 256))) (m % 256)) byte in
    let p = err_from_is_err_and c.from_residual-in_err-place.result c.from_residual-in_err-place.ensures.1 in
    let told = rw (p.1, p.2) at e in
    let same : c.in_err-place.field-0.0 ≡ TooMany = cc in
    let full = c.in_err-place.ensures.full (ap Err same) in
    too_many step roots (look_kept c.work.table) keys c.work.next.items c.args.limit c.work.invariant.exploring n refl (rw kept_length low)
    (subst (λ (k : Key). Absent keys k) key full.0) (rw kept_length full.1)
