-- A turn that is planned: at most one match is rejected, and the next one is carried out.
use Rattle.std.proofs.Common.{◌≡◌, ℕ, ◌+◌, ◌-◌, ◌≤◌, ◌<◌, Bool, true, false, List, [], ◌∷◌, ◌++◌, length, take, drop, get_or, inl, inr, Some, None, refl, sym, ◌∙◌, ap, subst, arith}
use Rattle.std.specs.Prelude.{max, map, nat_eq}
use Rattle.std.proofs.lemmas.List.{append-nil, append_assoc, take-take}
use Rattle.lex_semantics.specs.Text.{IsText, BeginsWith}
use Rattle.lex_semantics.specs.Spec as S
use Rattle.lex_semantics.specs.Candidates.{Candidate}
use Rattle.lex_semantics.specs.Acting as Scan
use Rattle.lex_semantics.specs.ActionResults.{act_result, settle}
use Rattle.lex_semantics.specs.Machine.{Machine}
use Rattle.lex_semantics.specs.MachineLaws.{MachineLaws}
use Rattle.lex_semantics.specs.Plain.{default_match}
use Rattle.lex_semantics.specs.Trail.{trail_from, falling}
use Rattle.lex_semantics.proofs.Actions.{BeginsBelow, begins_below}
use Rattle.lex_machine.specs.declared.glance.Way.{Way}
use Rattle.lex_machine.specs.Glances.{Leads}
use Rattle.lex_machine.specs.Views.{statement_of}
use Rattle.lexscan_window.specs.declared.act.ActionFlow.{ActionFlow}
use Rattle.lexscan_window.specs.declared.matched.MatchedRule.TheVariants.{Numbered}
use Rattle.lexscan_window.specs.Acts.{acting_of, after_step}
use Rattle.lexscan_matching.specs.declared.plan.Plan.{Plan}
use Rattle.lexscan_matching.specs.Descends.{Conditions, conditions_in, outcome, matches_of, Takes}
use Rattle.lexscan_matching.specs.Glanced.{all_begun, all_said}
use Rattle.lexscan_matching.specs.Plans.{closing_more, DoesSimply, Rejected, IsPlan, said_by_plan, begun_by_plan}
use Rattle.lexscan_matching.proofs.Descending.{start_of, head_outcome, statements_are, settled, no_outcome}
use Rattle.lexscan_matching.proofs.Planning.{act_front}
use Rattle.lexscan_matching.proofs.Telling.{begun_below}
use Rattle.lexscan.specs.Bursts.{TurnsMade, BurstStopped}
use Rattle.lexscan.proofs.Bursting.{acting_then}
use Rattle.lexscan.proofs.Matching as Made

-- yymore at the end, or nothing
close_acts : (more : Bool) (w : List ℕ) (end after : ℕ) (c : Conditions) (before : List ℕ) →
    act_result (closing_more more) (acting_of w (acting_then false end after c) before) ≡ after_step ActionFlow.Next [] (acting_of w (acting_then more end after c) before)
close_acts true w end after c before = refl
close_acts false w end after c before = refl

-- what comes before other statements leaves the condition in range
front_below : (n : ℕ) (ss end : List S.Statement) → BeginsBelow n (ss ++ end) → BeginsBelow n ss
front_below n [] end h = tt
front_below n (S.Begin d ∷ ss) end h = (h.0, front_below n ss end h.1)
front_below n (S.Echo ∷ ss) end h = front_below n ss end h
front_below n (S.Print bytes ∷ ss) end h = front_below n ss end h
front_below n (S.More ∷ ss) end h = front_below n ss end h
front_below n (S.Less m ∷ ss) end h = front_below n ss end h
front_below n (S.Reject ∷ ss) end h = front_below n ss end h
front_below n (S.End s ∷ ss) end h = front_below n ss end h
front_below n (S.Push d ∷ ss) end h = (h.0, front_below n ss end h.1)
front_below n (S.Pop ∷ ss) end h = front_below n ss end h

simple_below : (M : Machine) (laws : MachineLaws M) (m : Candidate) (keep : ℕ) (ss end : List S.Statement) (c : ℕ) → DoesSimply M m keep ss end → c < M.conditions → all_begun ss c < M.conditions
simple_below M laws m keep ss end c d lt =
    let legal = laws.legal m.rule d.known in
    begun_below M.conditions ss c (front_below M.conditions ss end (subst (λ l. BeginsBelow M.conditions l) d.does (begins_below M.conditions (M.statements m.rule) legal.ranges))) lt

-- a plan leaves the condition in range
pub plan_below : (M : Machine) (laws : MachineLaws M) (gone : List Candidate) (taken : Candidate) (plan : Plan) (c : ℕ) → Rejected M gone plan → DoesSimply M taken plan.keep (map statement_of plan.said.now) (closing_more plan.more) → c < M.conditions → begun_by_plan plan c < M.conditions
plan_below M laws gone taken plan c (inl (none, empty)) d lt = simple_below M laws taken plan.keep (map statement_of plan.said.now) (closing_more plan.more) (all_begun (map statement_of plan.rejected.now) c) d (subst (λ ss. all_begun ss c < M.conditions) (sym empty) lt)
plan_below M laws gone taken plan c (inr (m, one, r)) d lt = simple_below M laws taken plan.keep (map statement_of plan.said.now) (closing_more plan.more) (all_begun (map statement_of plan.rejected.now) c) d (simple_below M laws m plan.rejected_keep (map statement_of plan.rejected.now) (S.Reject ∷ []) c r lt)

module _ (M : Machine) (w : List ℕ) (at : ℕ) where
  -- the first match that is carried out
  taken_makes : (m : Candidate) (keep : ℕ) (ss : List S.Statement) (more : Bool) → DoesSimply M m keep ss (closing_more more) → (c : Conditions) (before : List ℕ) (rest : List Candidate) →
      outcome M w at (m ∷ rest) before c ≡ Some (record (acting_of w (acting_then more (at + keep) (all_begun ss c.next) c) (before ++ all_said ss (take (at + keep) w))) { ended = None })
  taken_makes m keep ss more d c before rest =
      let next = λ (a : Scan.Acting). outcome M w at rest a.written (conditions_in a) in
      head_outcome M w at m rest before c
      ∙ ap (λ l. settle (act_result l (acting_of w (start_of at m.keep c) before)) next) (statements_are M m.rule d.known ∙ d.does)
      ∙ ap (λ k. settle (act_result (ss ++ closing_more more) (acting_of w (start_of at k c) before)) next) d.keep_is
      ∙ ap (λ z. settle z next) (act_front w ss (closing_more more) (start_of at keep c) before d.simple ∙ close_acts more w (at + keep) (all_begun ss c.next) c (before ++ all_said ss (take (at + keep) w)))
      ∙ settled ActionFlow.Next (acting_of w (acting_then more (at + keep) (all_begun ss c.next) c) (before ++ all_said ss (take (at + keep) w))) next (λ e. cc)

  -- a match that is rejected
  rejected_makes : (m : Candidate) (keep : ℕ) (ss : List S.Statement) → DoesSimply M m keep ss (S.Reject ∷ []) → (c : Conditions) (before : List ℕ) (rest : List Candidate) →
      outcome M w at (m ∷ rest) before c ≡ outcome M w at rest (before ++ all_said ss (take (at + keep) w)) (record { next = all_begun ss c.next; stack = c.stack })
  rejected_makes m keep ss d c before rest =
      let next = λ (a : Scan.Acting). outcome M w at rest a.written (conditions_in a) in
      head_outcome M w at m rest before c
      ∙ ap (λ l. settle (act_result l (acting_of w (start_of at m.keep c) before)) next) (statements_are M m.rule d.known ∙ d.does)
      ∙ ap (λ k. settle (act_result (ss ++ S.Reject ∷ []) (acting_of w (start_of at k c) before)) next) d.keep_is
      ∙ ap (λ z. settle z next) (act_front w ss (S.Reject ∷ []) (start_of at keep c) before d.simple)

  -- those that are rejected
  gone_makes : (gone : List Candidate) (plan : Plan) → Rejected M gone plan → (c : Conditions) (before : List ℕ) (rest : List Candidate) →
      outcome M w at (gone ++ rest) before c ≡ outcome M w at rest (before ++ all_said (map statement_of plan.rejected.now) (take (at + plan.rejected_keep) w)) (record { next = all_begun (map statement_of plan.rejected.now) c.next; stack = c.stack })
  gone_makes gone plan (inl (none, empty)) c before rest =
      ap (λ l. outcome M w at (l ++ rest) before c) none
      ∙ ap (λ b. outcome M w at rest b c) (sym (append-nil before))
      ∙ ap (λ ss. outcome M w at rest (before ++ all_said ss (take (at + plan.rejected_keep) w)) (record { next = all_begun ss c.next; stack = c.stack })) (sym empty)
  gone_makes gone plan (inr (m, one, r)) c before rest =
      ap (λ l. outcome M w at (l ++ rest) before c) one
      ∙ rejected_makes m plan.rejected_keep (map statement_of plan.rejected.now) r c before rest

module _ (M : Machine) (laws : MachineLaws M) (text : List ℕ) (bytes : IsText text) (at far condition : ℕ) (line : Bool) (way : Way) (le : at ≤ far) (inside : far ≤ length text) (leads : Leads M (M.start condition line) (drop at text) way)
    (plan : Plan) (is : IsPlan M (record { at = at; line_start = line; condition = condition }) text way.count plan) where
  abbrev w : List ℕ
  w = take (max far (at + way.count)) text

  abbrev end : ℕ
  end = at + plan.keep

  within : at + way.count ≤ length w
  within = Made.within M laws text bytes at far condition line way le inside leads

  pub ends : end ≤ length w
  ends = omega (arith, is.short, within)

  pub reaches : at + way.count ≤ length text
  reaches = Made.reaches M laws text bytes at far condition line way le inside leads

  abbrev path : List ℕ
  path = Made.path M laws text bytes at far condition line way le inside leads

  abbrev left : List Candidate
  left = is.others ++ default_match M.count (drop at w)

  in_order : matches_of M w at path ≡ is.gone ++ is.taken ∷ left
  in_order =
      ap (λ l. falling M 0 (trail_from M (M.start condition line) l) ++ default_match M.count (drop at w)) (Made.front_here M laws text bytes at far condition line way le inside leads way.count (omega arith))
      ∙ ap (λ l. l ++ default_match M.count (drop at w)) is.in_order
      ∙ append_assoc is.gone (is.taken ∷ is.others) (default_match M.count (drop at w))

  abbrev cs : List ℕ → Conditions
  cs stack = record { next = condition; stack = stack }

  abbrev then : List ℕ → Conditions
  then stack = record { next = all_begun (map statement_of plan.rejected.now) condition; stack = stack }

  abbrev rejected_said : List ℕ
  rejected_said = all_said (map statement_of plan.rejected.now) (take (at + plan.rejected_keep) w)

  -- what is written of the bytes held is written of the text
  said_is : said_by_plan plan at w ≡ said_by_plan plan at text
  said_is =
      let far' : ℕ = max far (at + way.count) in
      let one : take (at + plan.rejected_keep) w ≡ take (at + plan.rejected_keep) text = take-take (at + plan.rejected_keep) far' text (omega (arith, is.short_rejected)) in
      let two : take (at + plan.keep) w ≡ take (at + plan.keep) text = take-take (at + plan.keep) far' text (omega (arith, is.short)) in
      ap (λ l. all_said (map statement_of plan.rejected.now) l ++ all_said (map statement_of plan.said.now) (take (at + plan.keep) w)) one
      ∙ ap (λ l. all_said (map statement_of plan.rejected.now) (take (at + plan.rejected_keep) text) ++ all_said (map statement_of plan.said.now) l) two

  makes_here : (stack before : List ℕ) (rest : List Candidate) → outcome M w at (is.gone ++ is.taken ∷ rest) before (cs stack) ≡ Some (record (acting_of w (acting_then plan.more end (begun_by_plan plan condition) (cs stack)) ((before ++ rejected_said) ++ all_said (map statement_of plan.said.now) (take end w))) { ended = None })
  makes_here stack before rest =
      gone_makes M w at is.gone plan is.rejected (cs stack) before (is.taken ∷ rest)
      ∙ taken_makes M w at is.taken plan.keep (map statement_of plan.said.now) plan.more is.does (then stack) (before ++ rejected_said) rest

  makes : (stack before : List ℕ) → outcome M w at (matches_of M w at path) before (cs stack) ≡ Some (record (acting_of w (acting_then plan.more end (begun_by_plan plan condition) (cs stack)) (before ++ said_by_plan plan at text)) { ended = None })
  makes stack before =
      ap (λ l. outcome M w at l before (cs stack)) in_order
      ∙ makes_here stack before left
      ∙ ap (λ l. Some (record (acting_of w (acting_then plan.more end (begun_by_plan plan condition) (cs stack)) l) { ended = None })) (append_assoc before rejected_said (all_said (map statement_of plan.said.now) (take end w)) ∙ ap (λ l. before ++ l) said_is)

  takes : (stack : List ℕ) → Takes M w at (matches_of M w at path) (cs stack) (Some (Numbered is.taken.rule))
  takes stack = record {
    passed = is.gone;
    taken = is.taken;
    left = left;
    in_order = in_order;
    rule_is = (refl, is.does.known);
    rejected = λ before.
        ap (λ l. outcome M w at l before (cs stack)) (sym (append-nil is.gone))
        ∙ gone_makes M w at is.gone plan is.rejected (cs stack) before []
        ∙ no_outcome M w at (before ++ rejected_said) (then stack);
    carried = λ before. (
      record (acting_of w (acting_then plan.more end (begun_by_plan plan condition) (cs stack)) ((before ++ rejected_said) ++ all_said (map statement_of plan.said.now) (take end w))) { ended = None },
      λ rest. makes_here stack before rest,
    );
  }

  pub condition_in : condition < M.conditions → begun_by_plan plan condition < M.conditions
  condition_in lt = plan_below M laws is.gone is.taken plan condition is.rejected is.does lt

  module _ {K : Type 0} (wrote : K → List ℕ → K → Type 0) (t u : K) where
    -- it was carried out
    pub turned : (more : Bool) → more ≡ plan.more → (done kept : ℕ) → Made.Leaves more end done kept → wrote t (said_by_plan plan at text) u → (after : ℕ) → after ≡ begun_by_plan plan condition → (line' : Bool) → line' ≡ nat_eq (get_or text (end - 1) 0) 10 →
        TurnsMade M wrote t u text far at condition line done kept (max far (at + way.count)) after line'
    turned more more_is done kept leaves put after after_is line' line_is = record {
      turns = 1;
      out = said_by_plan plan at text;
      sink = put;
      stand = subst (λ k. Made.Stood M text far at condition line (said_by_plan plan at text) done kept (max far (at + way.count)) k line') (sym after_is)
          (Made.turn_stands M laws text bytes at far condition line way le inside leads end (begun_by_plan plan condition) plan.more (said_by_plan plan at text) (Some (Numbered is.taken.rule)) (omega (arith, is.some)) ends makes takes done kept
          (subst (λ m. Made.LeftOf m w end done kept) more_is (Made.left_of more w end done kept ends leaves)) line' line_is);
    }

    -- the sink failed in it
    pub stopped : (front : List ℕ) → BeginsWith (said_by_plan plan at text) front → wrote t front u → BurstStopped M wrote t u text far at condition line 0 at (max far (at + way.count)) condition line
    stopped = Made.broke M laws text bytes at far condition line way le inside leads end (begun_by_plan plan condition) plan.more (said_by_plan plan at text) (Some (Numbered is.taken.rule)) (omega (arith, is.some)) ends makes takes wrote t u
