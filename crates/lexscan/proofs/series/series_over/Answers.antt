use Rattle.std.proofs.Common.{rules, ◌≡◌, ℕ, ◌+◌, ◌-◌, ◌<◌, ◌≤◌, List, [], ◌∷◌, ◌++◌, length, get_or, take, drop, take_all, length-drop, Bool, false, refl, sym, ap, subst, ◌∙◌, arith, append_assoc, append-nil}
use Rattle.std.specs.Prelude.{nat_eq, max, min}
use Rattle.std.proofs.lemmas.Bool.Decides.{nat_tests}
use Rattle.std.proofs.lemmas.List.{get_or-drop, drop-drop}
use Rattle.lex_semantics.specs.Text.{IsText}
use Rattle.lex_semantics.specs.Machine.{Machine}
use Rattle.lex_semantics.specs.MachineLaws.{MachineLaws}
use Rattle.lex_machine.proofs.Growing.{is_text_from}
use Rattle.lexscan.specs.Bursts.{starts_line}
use Rattle.lexscan.specs.Glances.{IsTold}
use Rattle.lexscan.specs.Series.{IsBrief, SeriesTells, end_of}
use Rattle.lexscan.specs.declared.glance.ToldMatch.{ToldMatch}
use Rattle.lexscan.specs.declared.series.BriefToken.{BriefToken}
use Rattle.lexscan.proofs.Listing as Told
use Rattle.lexscan.proofs.series.series_over.Goals as goal
use Rattle.lexscan.proofs.series.series_over.Goals.{else-turns-test, then-turns-test+in_default, then-turns-test+in-Some+in_default-brief_of, then-turns-test+in-Some+in-Some-brief_of+in-Err}

-- A match at the front of what is left of a text: `unasked` bytes of the text were asked for by no match before.
module _ (M : Machine) (laws : MachineLaws M) (text : List ℕ) (bytes : IsText text) (held condition0 : ℕ) (line0 : Bool) (added : List BriefToken) (rest : List ℕ) (unasked condition first : ℕ) (t : ToldMatch) (is : rest ≡ drop (length text - length rest) text) (short : length rest ≤ length text)
    (few : unasked ≤ length rest) (low : held ≤ length text - unasked) (starts : first ≡ M.start condition (starts_line line0 text (length text - length rest))) (size : end_of 0 added ≡ length text - length rest) (told : IsTold M first rest condition t) where
  abbrev done : ℕ
  done = length text - length rest

  abbrev asked : ℕ
  asked = length text - unasked

  abbrev here : Bool
  here = starts_line line0 text done

  abbrev then_rest : List ℕ
  then_rest = take (length rest - t.keep) (drop t.keep rest)

  before : done ≤ asked
  before = omega (arith, few)

  inside : asked ≤ length text
  inside = omega arith

  told_here : IsTold M (M.start condition here) (drop done text) condition t
  told_here = subst (λ s. IsTold M s (drop done text) condition t) starts (subst (λ l. IsTold M first l condition t) is told)

  fits : t.asked ≤ length rest
  fits = omega (arith, told.asked, told.leads.inside)

  within : t.keep ≤ t.asked
  within = omega (arith, told.asked, told.short)

  some : 1 ≤ t.keep
  some = told.some

  then_is : then_rest ≡ drop (done + t.keep) text
  then_is =
      take_all (length rest - t.keep) (drop t.keep rest) (omega (arith, length-drop t.keep rest)) ∙ ap (λ l. drop t.keep l) is ∙ drop-drop t.keep done text ∙ ap (λ n. drop n text) (omega arith)

  then_size : length then_rest ≡ length text - (done + t.keep)
  then_size = ap (λ l. length l) then_is ∙ length-drop (done + t.keep) text

  then_done : length text - length then_rest ≡ done + t.keep
  then_done = omega (arith, then_size, within, fits, short)

  shorter : length then_rest < length rest
  shorter = omega (arith, then_size, some, within, fits, short)

  then_inside : length then_rest ≤ length text
  then_inside = omega (arith, then_size)

  rest_then : then_rest ≡ drop (length text - length then_rest) text
  rest_then = then_is ∙ ap (λ n. drop n text) (sym then_done)

  line_there : nat_eq (get_or rest (t.keep - 1) 0) 10 ≡ starts_line line0 text (done + t.keep)
  line_there =
      let no : nat_eq (done + t.keep) 0 ≡ false = grind (arith, nat_tests, some) in
      let e : done + t.keep - 1 ≡ done + (t.keep - 1) = omega (arith, some) in
      sym (rw no (ap (λ b. nat_eq b 10) (ap (λ i. get_or text i 0) e ∙ sym (get_or-drop done text (t.keep - 1) 0) ∙ ap (λ l. get_or l (t.keep - 1) 0) (sym is))))

  line_then : nat_eq (get_or rest (t.keep - 1) 0) 10 ≡ starts_line line0 text (length text - length then_rest)
  line_then = line_there ∙ ap (λ n. starts_line line0 text n) (sym then_done)

  condition_then : condition < M.conditions → t.condition < M.conditions
  condition_then lt = Told.below M laws text bytes held condition0 line0 added done asked condition here size low before inside t told_here lt

  near_then : t.asked ≤ t.keep + 1 → length then_rest ≤ length rest - t.asked + 1
  near_then near = omega (arith, near, then_size, within, fits, short)

  -- what no match has asked for then
  module _ (left : ℕ) (left_is : left ≡ min unasked (length rest - t.asked)) where
    asked_then : length text - left ≡ max asked (done + t.asked)
    asked_then = omega (arith, left_is, short, few, fits)

    less_unasked : left ≤ length then_rest
    less_unasked = omega (arith, then_size, left_is, within, fits, short)

    held_then : held ≤ length text - left
    held_then = omega (arith, asked_then, low)

    size_then : (token : BriefToken) → IsBrief t condition token → end_of 0 (added ++ token ∷ []) ≡ length text - length then_rest
    size_then token brief = ap (λ u. end_of 0 (added ++ u ∷ [])) brief ∙ Told.size_more M laws text bytes held condition0 line0 added done asked condition here size low before inside t told_here ∙ sym then_done

    tells_then : SeriesTells M text held condition0 line0 added done asked condition here → (token : BriefToken) → IsBrief t condition token →
        SeriesTells M text held condition0 line0 (added ++ token ∷ []) (length text - length then_rest) (length text - left) t.condition (starts_line line0 text (length text - length then_rest))
    tells_then so_far token brief =
        subst (λ u. SeriesTells M text held condition0 line0 (added ++ u ∷ []) (length text - length then_rest) (length text - left) t.condition (starts_line line0 text (length text - length then_rest))) (sym brief)
        (subst (λ d. SeriesTells M text held condition0 line0 (added ++ record { rule = t.rule; length = t.keep; condition = condition } ∷ []) d (length text - left) t.condition (starts_line line0 text d)) (sym then_done)
        (subst (λ k. SeriesTells M text held condition0 line0 (added ++ record { rule = t.rule; length = t.keep; condition = condition } ∷ []) (done + t.keep) k t.condition (starts_line line0 text (done + t.keep))) (sym asked_then)
        (Told.tells_more M laws text bytes held condition0 line0 added done asked condition here size low before inside t told_here so_far (starts_line line0 text (done + t.keep)) (sym line_there ∙ ap (λ l. nat_eq (get_or l (t.keep - 1) 0) 10) is))))

pub turns-init : goal.turns-init
turns-init g c = rw none (record {
  rest = refl;
  added = (
    [],
    sym (append-nil c.args.tokens.now.items),
    refl,
    subst (λ k. SeriesTells M text c.args.held c.args.place.condition c.args.place.line_start [] 0 k c.args.place.condition c.args.place.line_start) (sym all)
        (Told.series_none M text c.args.held c.args.place.condition c.args.place.line_start c.requires.held),
  );
  first = (c.start_at-first.ensures M states c.args.place.condition c.starts_in-starts.ensures).0;
  known = (c.start_at-first.ensures M states c.args.place.condition c.starts_in-starts.ensures).1;
  starts = c.starts_in-starts.ensures;
  condition = c.requires.condition;
  inside = omega arith;
  done = omega arith;
  near = omega arith;
  held = omega (arith, all);
})
  where
    M : Machine
    M = g.M.Machine.machine c.args.machine.now

    text : List ℕ
    text = c.args.text.now

    none : length text - length text ≡ 0
    none = omega arith

    states : ℕ
    states = g.M.Machine.states c.args.machine.now

    all : length text - min (length text) (length text - c.args.held) ≡ c.args.held
    all = let h = c.requires.held in omega (arith, h)

pub starts_after-starts-requires-clause-after : goal.starts_after-starts-requires-clause-after
starts_after-starts-requires-clause-after g c =
    let i = c.turns.invariant in
    let text = c.args.text.now in
    condition_then (g.M.Machine.machine c.args.machine.now) (g.M.Machine.laws c.args.machine.now) text (is_text_from text (λ k. let f = c.type_inv.text k in omega (arith, f))) c.args.held c.args.place.condition c.args.place.line_start i.added.0 c.turns.rest.now (min c.turns.unasked (length text - c.args.held)) c.turns.condition c.turns.first c.in-Some.told
    i.rest i.inside i.done i.held i.first i.added.2 c.in-Some.ensures.told i.condition

pub starts_after-starts-requires-clause-known : goal.starts_after-starts-requires-clause-known
starts_after-starts-requires-clause-known g c = c.turns.invariant.starts

pub turns-preserved : goal.turns-preserved
turns-preserved g c =
    let M = g.M.Machine.machine c.args.machine.now in
    let laws = g.M.Machine.laws c.args.machine.now in
    let text = c.args.text.now in
    let bytes = is_text_from text (λ k. let f = c.type_inv.text k in omega (arith, f)) in
    let i = c.turns.invariant in
    let p = c.args.place in
    let t = c.in-Some.told in
    let token = c.in-Some-brief_of.token in
    let told = c.in-Some.ensures.told in
    let rest = c.turns.rest.now in
    let unasked : ℕ = min c.turns.unasked (length text - c.args.held) in
    let left : ℕ = min (length rest - t.asked) (length text - c.args.held) in
    let left_is : left ≡ min unasked (length rest - t.asked) = omega (arith, i.near, told.some, told.short, told.asked) in
    let start = c.start_at-first-in-turns.ensures M (g.M.Machine.states c.args.machine.now) t.condition c.starts_after-starts.ensures in
    let pushed : c.push.new.self.items ≡ c.turns.tokens.items ++ token ∷ [] = search rules in
    record {
      rest = rest_then M laws text bytes c.args.held p.condition p.line_start i.added.0 rest unasked c.turns.condition c.turns.first t i.rest i.inside i.done i.held i.first i.added.2 told;
      added = (
        i.added.0 ++ token ∷ [],
        pushed ∙ ap (λ l. l ++ token ∷ []) i.added.1 ∙ append_assoc c.args.tokens.now.items i.added.0 (token ∷ []),
        size_then M laws text bytes c.args.held p.condition p.line_start i.added.0 rest unasked c.turns.condition c.turns.first t i.rest i.inside i.done i.held i.first i.added.2 told left left_is token c.in-Some-brief_of.ensures.brief,
        tells_then M laws text bytes c.args.held p.condition p.line_start i.added.0 rest unasked c.turns.condition c.turns.first t i.rest i.inside i.done i.held i.first i.added.2 told left left_is i.added.3 token c.in-Some-brief_of.ensures.brief,
      );
      first = start.0 ∙ ap (M.start t.condition) (line_then M laws text bytes c.args.held p.condition p.line_start i.added.0 rest unasked c.turns.condition c.turns.first t i.rest i.inside i.done i.held i.first i.added.2 told);
      known = start.1;
      starts = c.starts_after-starts.ensures;
      condition = condition_then M laws text bytes c.args.held p.condition p.line_start i.added.0 rest unasked c.turns.condition c.turns.first t i.rest i.inside i.done i.held i.first i.added.2 told i.condition;
      inside = then_inside M laws text bytes c.args.held p.condition p.line_start i.added.0 rest unasked c.turns.condition c.turns.first t i.rest i.inside i.done i.held i.first i.added.2 told;
      done = less_unasked M laws text bytes c.args.held p.condition p.line_start i.added.0 rest unasked c.turns.condition c.turns.first t i.rest i.inside i.done i.held i.first i.added.2 told left left_is;
      near = near_then M laws text bytes c.args.held p.condition p.line_start i.added.0 rest unasked c.turns.condition c.turns.first t i.rest i.inside i.done i.held i.first i.added.2 told c.in-Some.ensures.near;
      held = held_then M laws text bytes c.args.held p.condition p.line_start i.added.0 rest unasked c.turns.condition c.turns.first t i.rest i.inside i.done i.held i.first i.added.2 told left left_is;
    }

pub returns : goal.returns
returns g c =
    let M = g.M.Machine.machine c.args.machine.now in
    let text = c.args.text.now in
    let i = c.turns.invariant in
    let p = c.args.place in
    let same : c.turns-test.tokens.items ≡ c.turns.tokens.items = elim c.turns-test.branch [
      | else-turns-test w ↦ search rules
      | then-turns-test+in_default w ↦ search rules
      | then-turns-test+in-Some+in_default-brief_of w ↦ search rules
      | then-turns-test+in-Some+in-Some-brief_of+in-Err w ↦ search rules
    ] in
    let is : c.min.result ≡ min c.turns.unasked (length text - c.args.held) = c.min.ensures in
    record {
      added = i.added.0;
      appended = same ∙ i.added.1;
      size = i.added.2;
      done = (let a = i.done in omega (arith, a, is));
      held = omega (arith, i.held, is);
      asked = omega arith;
      condition = i.condition;
      tells = subst (λ u. SeriesTells M text c.args.held p.condition p.line_start i.added.0 (length text - length c.turns.rest.now) (length text - u) c.turns.condition c.starts_line.result) (sym is)
          (subst (SeriesTells M text c.args.held p.condition p.line_start i.added.0 (length text - length c.turns.rest.now) (length text - min c.turns.unasked (length text - c.args.held)) c.turns.condition) (sym c.starts_line.ensures) i.added.3);
    }
