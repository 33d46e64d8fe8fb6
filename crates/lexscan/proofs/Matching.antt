-- One turn over a text, whatever the statements of its match are: what stands after it, and what where the sink fails in it.
use Rattle.std.proofs.Common.{◌≡◌, ℕ, suc, ◌+◌, ◌-◌, ◌≤◌, Bool, true, false, List, [], ◌++◌, length, take, drop, get_or, inl, inr, Option, Some, None, refl, sym, ◌∙◌, ap, subst, arith}
use Rattle.std.specs.Prelude.{max, nat_eq, ⊤}
use Rattle.std.proofs.lemmas.List.{append_assoc, get_or-take, length-drop, length-take-le}
use Rattle.lex_semantics.specs.Text.{IsText, BeginsWith}
use Rattle.lex_semantics.specs.Acting as Scan
use Rattle.lex_semantics.specs.Machine.{Machine, walk}
use Rattle.lex_semantics.specs.MachineLaws.{MachineLaws}
use Rattle.lex_semantics.proofs.Texts.{is_text_take, is_text_drop}
use Rattle.lex_semantics.proofs.Once.{some_inj}
use Rattle.lex_machine.specs.declared.glance.Way.{Way}
use Rattle.lex_machine.specs.Glances.{Leads}
use Rattle.lexscan_window.specs.declared.state.State.{State}
use Rattle.lexscan_window.specs.declared.matched.MatchedRule.{MatchedRule}
use Rattle.lexscan_window.specs.declared.state.Reading.{Reading}
use Rattle.lexscan_window.specs.declared.state.TextPlace.{TextPlace}
use Rattle.lexscan.specs.declared.turn.Turn.{Turn}
use Rattle.lexscan_window.specs.declared.error.RunError.TheVariants.{Write, Stack, TooManyReads}
use Rattle.lexscan_window.specs.Acts.{acting_of}
use Rattle.lexscan_matching.specs.Descends.{Conditions, outcome, matches_of, CutAll, Takes}
use Rattle.lexscan_matching.specs.Looks.{SoFar, Looked}
use Rattle.lexscan_matching.specs.Picks.{path_of, state_at}
use Rattle.lexscan.specs.TurnSteps.{MatchStep, RefusedStep}
use Rattle.lexscan.specs.TurnInvariants.{TurnInvariant, AfterRefusal}
use Rattle.lexscan.specs.Bursts.{Between, AllInvariant, BurstStopped}
use Rattle.lexscan.proofs.Bursting.{Left, Stands, left_more, left_none, acting_then, whole, grown_by, front_is, none_given, untold}
use Rattle.lexscan.proofs.Stepping as Go
use Rattle.lexscan.proofs.Refusing as Fall

abbrev Nothing : ⊤ → List ℕ → ⊤ → Type 0
Nothing a xs b = ⊤

-- where the next text begins, and how many bytes of it are kept, once one ends there
abbrev pub Leaves : Bool → ℕ → ℕ → ℕ → Type 0
Leaves true end done kept = (done ≡ 0) × (kept ≡ end)
Leaves false end done kept = (done ≡ end) × (kept ≡ 0)

abbrev pub LeftOf : Bool → List ℕ → ℕ → ℕ → ℕ → Type 0
LeftOf more w end done kept = Left w end more (drop done w) kept

pub left_of : (more : Bool) (w : List ℕ) (end done kept : ℕ) → end ≤ length w → Leaves more end done kept → LeftOf more w end done kept
left_of true w end done kept inside (d, k) = subst (λ n. Left w end true (drop n w) kept) (sym d) (subst (λ n. Left w end true w n) (sym k) (left_more w end inside))
left_of false w end done kept inside (d, k) = subst (λ n. Left w end false (drop n w) kept) (sym d) (subst (λ n. Left w end false (drop end w) n) (sym k) (left_none w end inside))

abbrev pub Stood : Machine → List ℕ → ℕ → ℕ → ℕ → Bool → List ℕ → ℕ → ℕ → ℕ → ℕ → Bool → Type 0
Stood M text held kept condition line out done kept' asked condition' line' = Stands M text held kept condition line 1 out done kept' asked condition' line'

module _ (M : Machine) (laws : MachineLaws M) (text : List ℕ) (bytes : IsText text) (at far condition : ℕ) (line : Bool) (way : Way) (le : at ≤ far) (inside : far ≤ length text) (leads : Leads M (M.start condition line) (drop at text) way) where
  -- how far is asked for then
  abbrev pub beyond : ℕ
  beyond = max far (at + way.count)

  -- what is held then
  abbrev pub w : List ℕ
  w = take beyond text

  abbrev pub p : TextPlace
  p = record { at = at; line_start = line; condition = condition }

  abbrev pub path : List ℕ
  path = path_of M p w way.count

  pub reaches : at + way.count ≤ length text
  reaches = omega (arith, leads.inside, length-drop at text, leads.some, le, inside)

  pub far_beyond : far ≤ beyond
  far_beyond = omega arith

  pub inside_beyond : beyond ≤ length text
  inside_beyond = omega (arith, reaches, inside)

  pub size : length w ≡ beyond
  size = length-take-le beyond text inside_beyond

  pub within : at + way.count ≤ length w
  within = omega (arith, size)

  pub front_here : (i : ℕ) → i ≤ way.count → take i (drop at w) ≡ take i (drop at text)
  front_here i less = front_is text at far beyond le far_beyond inside_beyond i (omega (arith, less))

  pub state_here : way.state ≡ state_at M p w way.count
  state_here = leads.state_is ∙ ap (walk M (M.start condition line)) (sym (front_here way.count (omega arith)))

  so_far : SoFar M p (drop p.at w) way.count way.state path
  so_far = record {
    inside = omega (arith, within, length-drop at w);
    state_is = state_here;
    asked = λ i some less. subst (λ l. M.goes_on (walk M (M.start condition line) l) ≡ true) (sym (front_here i (omega (arith, less)))) (leads.asked i some less);
    path_is = refl;
  }

  abbrev pub conditions : List ℕ → Conditions
  conditions stack = record { next = condition; stack = stack }

  -- What the first match that is not rejected makes of it: the end of the text, the condition, whether yymore keeps it, and what all wrote.
  module _ (end after : ℕ) (more : Bool) (out : List ℕ) (number : Option MatchedRule) (some : 1 ≤ end) (ends : end ≤ length w)
      (makes : (stack before : List ℕ) → outcome M w at (matches_of M w at path) before (conditions stack) ≡ Some (record (acting_of w (acting_then more end after (conditions stack)) (before ++ out)) { ended = None }))
      (takes : (stack : List ℕ) → Takes M w at (matches_of M w at path) (conditions stack) number) where
    last_byte : nat_eq (get_or text (end - 1) 0) 10 ≡ nat_eq (get_or w (end - 1) 0) 10
    last_byte = ap (λ b. nat_eq b 10) (sym (get_or-take beyond text (end - 1) 0 (omega (arith, some, ends, size))))

    module _ (stack : List ℕ) where
      -- the state before the match, made of one after it
      abbrev was : (v : State) (taken : ℕ) → taken + 0 ≤ v.reading.max_reads → State
      was v taken few = record v {
        reading = record v.reading { window = record { bytes = take far text; room = true; ahead = []; behind = [] }; taken = taken; at_end = false; few_reads = few };
        place = p;
        acting = record v.acting { stack = stack };
        ended = None;
        failed = false;
      }

      abbrev got : List ℕ
      got = drop far (take beyond text)

      grown : length got ≡ beyond - far
      grown = grown_by text at far beyond le far_beyond inside_beyond

      looks_over : (old new : Reading) → old.window.bytes ≡ take far text → new.window.bytes ≡ w → new.at_end ≡ old.at_end → Looked M p old new (path_of M p new.window.bytes way.count)
      looks_over old new before bytes_are at_end = record {
        reach = way.count;
        some = leads.some;
        state = way.state;
        so_far = subst (λ z. SoFar M p (drop p.at z) way.count way.state (path_of M p z way.count)) (sym bytes_are) so_far;
        size = (let a = ap length bytes_are in let z = ap length before ∙ length-take-le far text inside in omega (arith, a, z, size));
        stops = inl (leads.stops, at_end);
      }

      -- the turn was carried out
      step : (left : List ℕ) (kept : ℕ) → Left w end more left kept → (line' : Bool) → line' ≡ nat_eq (get_or text (end - 1) 0) 10 → (n taken : ℕ) (given before : List ℕ) →
          AllInvariant M n given before (take far text) at taken condition line stack →
          AllInvariant M (1 + n) (given ++ drop far (take beyond text)) (before ++ out) left kept (taken + (beyond - far)) after line' stack
      step left kept goes line' line_is n taken given before all v b works =
          let few : taken + 0 ≤ v.reading.max_reads = let reads = v.reading.few_reads in omega (arith, reads, b.taken_is) in
          let old : State = was v taken few in
          let h : TurnInvariant M n given before old = all old (record { bytes_are = refl; taken_is = refl; at_end = refl; at = refl; line_is = refl; condition_is = refl; stack_is = refl; going = refl }) refl in
          let mid : Reading = record v.reading { window = record { bytes = w; room = true; ahead = []; behind = [] } } in
          let now : State = record v {
            reading = record v.reading { window = record v.reading.window { behind = take end w } };
            acting = record v.acting { end = end };
            matched = number;
          } in
          let m : MatchStep M Nothing Nothing tt tt tt tt (record old { failed = true }) now Turn.Went = record {
            mid = mid;
            took = record {
              got = got;
              source = tt;
              text = is_text_drop far (take beyond text) (is_text_take beyond text bytes);
              held = whole text at far beyond le far_beyond inside_beyond;
              taken = b.taken_is ∙ ap (λ k. taken + k) (sym grown);
              nothing = untold;
              end_stays = untold;
              max_reads = refl;
            };
            path = path;
            looked = looks_over old.reading mid refl refl b.at_end;
            acted = record {
              acting = acting_then more end after (conditions stack);
              ended = None;
              performed = record { out = out; sink = tt; acts = λ had. makes stack had };
              inside = ends;
              left = record {
                held = b.bytes_are ∙ goes.bytes_are;
                at = b.at ∙ goes.kept_is;
                line = λ more'. b.line_is ∙ line_is ∙ last_byte;
                condition = b.condition_is;
                stack = b.stack_is;
                end = refl;
                text = goes.text_is v.reading.window.bytes v.place.at b.bytes_are b.at;
              };
              says = refl;
              same = record { taken = refl; at_end = refl };
              is_ended = λ e i. b.going ∙ i;
              takes = takes stack;
            };
          } in
          let invariant : TurnInvariant M (suc n) (given ++ got) (before ++ out) (record now { failed = false }) = Go.matched_stands M laws Nothing Nothing tt tt tt tt n given before old now Turn.Went refl h m b.going in
          let stands : TurnInvariant M (suc n) (given ++ got) (before ++ out) v = record {
            works = works;
            start = invariant.start;
            scanned = invariant.scanned;
            text = invariant.text;
            covered = invariant.covered;
            held = invariant.held;
            line = invariant.line;
            taken = invariant.taken;
          } in
          subst (λ k. TurnInvariant M k (given ++ got) (before ++ out) v) (omega arith) stands

      module _ {K : Type 0} (wrote : K → List ℕ → K → Type 0) (t u : K) (front : List ℕ) (begins : BeginsWith out front) (put : wrote t front u) where
        -- what is written before a fault is a front of it
        cut : (before : List ℕ) (o : Scan.Acting) → outcome M w at (matches_of M w at path) before (conditions stack) ≡ Some o → BeginsWith o.written (before ++ front)
        cut before o e = (
          begins.0,
          sym (ap (λ a. a.written) (some_inj _ _ (sym (makes stack before) ∙ e))) ∙ ap (λ l. before ++ l) begins.1 ∙ sym (append_assoc before front begins.0),
        )

        -- the sink failed in it
        fell : (n taken : ℕ) (given before : List ℕ) → AllInvariant M n given before (take far text) at taken condition line stack →
            (v : State) → Between v (take beyond text) at (taken + (beyond - far)) condition line stack → v.failed ≡ true → AfterRefusal M n given (drop far (take beyond text)) (before ++ front) v Write
        fell n taken given before all v b bad =
            let few : taken + 0 ≤ v.reading.max_reads = let reads = v.reading.few_reads in omega (arith, reads, b.taken_is) in
            let old : State = was v taken few in
            let h : TurnInvariant M n given before old = all old (record { bytes_are = refl; taken_is = refl; at_end = refl; at = refl; line_is = refl; condition_is = refl; stack_is = refl; going = refl }) refl in
            let looked : Looked M p old.reading v.reading (path_of M p v.reading.window.bytes way.count) = looks_over old.reading v.reading refl b.bytes_are b.at_end in
            let short : CutAll M wrote t u v.reading.window.bytes at (matches_of M v.reading.window.bytes at (path_of M p v.reading.window.bytes way.count)) (conditions stack) = record {
              out = front;
              sink = put;
              front = subst (λ z. (had : List ℕ) (o : Scan.Acting) → outcome M z at (matches_of M z at (path_of M p z way.count)) had (conditions stack) ≡ Some o → BeginsWith o.written (had ++ front)) (sym b.bytes_are) cut;
            } in
            let m : RefusedStep M Nothing wrote tt tt t u (record old { failed = true }) v Write = record {
              took = record {
                got = got;
                source = tt;
                text = is_text_drop far (take beyond text) (is_text_take beyond text bytes);
                held = b.bytes_are ∙ whole text at far beyond le far_beyond inside_beyond;
                taken = b.taken_is ∙ ap (λ k. taken + k) (sym grown);
                nothing = untold;
                end_stays = untold;
                max_reads = refl;
              };
              place = λ i. record { at = b.at i; line_start = b.line_is i; condition = b.condition_is i };
              why = inr (inl (path_of M p v.reading.window.bytes way.count, looked, short));
              early = λ early. absurd (early.0 refl);
              fault = λ e. absurd (not_stack e);
            } in
            Fall.refusal M laws Nothing wrote tt tt t u n given before old v Write refl h m bad (λ e. absurd (not_many e)) short.out
            (Fall.match_front M laws Nothing wrote tt tt t u n given before old v Write refl h m (path_of M p v.reading.window.bytes way.count) looked short)
            (Fall.match_within M laws Nothing wrote tt tt t u n given before old v Write refl h m (path_of M p v.reading.window.bytes way.count) looked) (λ e. absurd (not_stack e)) (λ early. absurd (early.0 refl))
          where
            not_stack : Write ≡ Stack → ⊥
            not_stack e = cc

            not_many : Write ≡ TooManyReads → ⊥
            not_many e = cc

    -- what stands after the turn
    pub turn_stands : (done kept : ℕ) → Left w end more (drop done (take beyond text)) kept → (line' : Bool) → line' ≡ nat_eq (get_or text (end - 1) 0) 10 → Stands M text far at condition line 1 out done kept beyond after line'
    turn_stands done kept goes line' line_is n given before taken stack = step stack (drop done (take beyond text)) kept goes line' line_is n taken given before

    -- the sink failed in it
    pub broke : {K : Type 0} (wrote : K → List ℕ → K → Type 0) (t u : K) (front : List ℕ) → BeginsWith out front → wrote t front u → BurstStopped M wrote t u text far at condition line 0 at beyond condition line
    broke wrote t u front begins put = record {
      turns = 0;
      out = front;
      sink = put;
      before = far;
      few = omega arith;
      more = far_beyond;
      refusal = λ n given had taken stack all v b bad.
          subst (λ k. AfterRefusal M k (given ++ drop far (take far text)) (drop far (take beyond text)) (had ++ front) v Write) (omega arith)
          (subst (λ l. AfterRefusal M n l (drop far (take beyond text)) (had ++ front) v Write) (none_given text far inside given)
          (fell stack wrote t u front begins put n taken given had all v b bad));
    }
