-- The turns by the specification that tells.
use Rattle.std.proofs.Common.{◌≡◌, ℕ, zero, suc, ◌≤◌, ◌<◌, Bool, List, [], ◌∷◌, ◌++◌, length, drop, inl, inr, Option, Some, None, refl, sym, ◌∙◌, ap, subst, arith, length-drop}
use Rattle.lex_semantics.proofs.ResultsAre.{results_are}
use Rattle.lex_semantics.specs.Acting.{Ending, Status, Acting}
use Rattle.lex_semantics.specs.Candidates.{Candidates}
use Rattle.lex_semantics.specs.Rules.{Rules, rules_of}
use Rattle.lex_semantics.specs.Run.{Place, State, MatchTurn, EndTurn, Turn, NextFrom, Turns, Run}
use Rattle.lex_semantics.specs.Sound.{IsSound}
use Rattle.lex_semantics.specs.Spec.{Spec, EndAction, statements_at}
use Rattle.lex_semantics.specs.Text.{IsText, part, at_line_start}
use Rattle.lex_semantics.proofs.Actions.{BeginsBelow, begins_below}
use Rattle.lex_semantics.proofs.Once.{one_state}
use Rattle.lex_semantics.proofs.Demanded.{spec_state}
use Rattle.lex_semantics.proofs.Table.{Below, get_at, perform_below}
use Rattle.lex_semantics.proofs.Texts.{is_text_drop}
use Rattle.lexlook_specs.specs.Lines.{TurnLines, LinesFrom, Lines, match_lines}
use Rattle.lexlook_specs.specs.TraceLaw.{with_lines, TellsTurns, TellsRun, TellsRuns}
use Rattle.lexlook_specs.specs.Traced.{end_line, traced}
use Rattle.lexlook_specs.proofs.Acts.{anew}
use Rattle.lexlook_specs.proofs.Matching as M

module _ (S : Spec) (sound : IsSound S) where
  abbrev R : Rules
  R = rules_of S

  abbrev T : Rules
  T = rules_of (traced S)

  begins : (i : ℕ) → i < R.count → BeginsBelow R.conditions (R.statements i)
  begins i lt =
      let r = get_at S.rules i lt in
      subst (λ o. BeginsBelow (length S.conditions) (statements_at o)) (sym r.1) (begins_below (length S.conditions) r.0.statements (sound.rules i r.0 r.1).legal.0.ranges)

  abbrev PlaceBelow : Place → Type 0
  PlaceBelow p = Below R.conditions p.condition p.stack

  module _ (x : List ℕ) (text : IsText x) where
    -- a turn of the specification, told
    record Told (p : Place) (s : State) : Type 0 where
      lines : List ℕ
      are : TurnLines S x p lines
      turn : Turn T x p (with_lines lines s)
      below : PlaceBelow s.place

    match_told : (p : Place) (s : State) → PlaceBelow p → MatchTurn R x p s → Told p s
    match_told p s lt h =
        let line : Bool = at_line_start x p.at in
        let y : List ℕ = drop p.at x in
        let kept : List ℕ = part x p.start p.at in
        let y_text : IsText y = is_text_drop p.at x text in
        let some : 1 ≤ length y = rw length-drop (omega (arith, h.before_end)) in
        let k = M.taken_of S kept y h.matches [] [] p.condition p.stack h.outcome (λ m a. M.rule_bound S p.condition line y lt.0 y_text some m ((h.all.members m).0 a)) (sym (results_are _ _ _ _ _ _ _) ∙ h.performed) in
        let lines : List ℕ = match_lines S kept y (k.passed ++ k.taken ∷ []) in
        let told : Acting = anew lines h.outcome in
        record {
          lines = lines;
          are = inl (record {
            taken = k.taken;
            outcome = h.outcome;
            carries = record { before_end = h.before_end; passed = k.passed; left = k.left; all = subst (Candidates R p.condition line y) k.splits h.all; rejected = results_are _ _ _ _ _ _ _ ∙ k.rejected; carried = results_are _ _ _ _ _ _ _ ∙ k.carried };
            lines_are = refl;
          });
          turn = inl (record {
            before_end = h.before_end;
            matches = h.matches ++ M.extra S ∷ [];
            all = M.candidates_told S p.condition line y lt.0 y_text some h.matches h.all;
            outcome = told;
            performed = results_are _ _ _ _ _ _ _ ∙ k.performed (M.extra S ∷ []);
            leaves = ap (with_lines lines) h.leaves;
          });
          below = subst (λ (z : State). PlaceBelow z.place) (sym h.leaves) (perform_below R begins kept y h.matches [] p.condition p.stack h.outcome lt (sym (results_are _ _ _ _ _ _ _) ∙ h.performed));
        }

    end_told : (p : Place) (s : State) → PlaceBelow p → EndTurn R x p s → Told p s
    end_told p s lt h = record {
      lines = end_line p.condition;
      are = inr (s, h, refl);
      turn = inr (record { at_end = h.at_end; leaves = ap (with_lines (end_line p.condition)) h.leaves ∙ ap make (sym (M.ending_told S p.condition lt.0)) });
      below = subst (λ (z : State). PlaceBelow z.place) (sym h.leaves) lt;
    }
      where
        make : EndAction → State
        make e = record { written = e.print; place = record { start = p.at; at = p.at; condition = p.condition; stack = p.stack }; ended = Some (Status e.status) }

    turn_told : (p : Place) (s : State) → PlaceBelow p → Turn R x p s → Told p s
    turn_told p s lt (inl h) = match_told p s lt h
    turn_told p s lt (inr h) = end_told p s lt h

    -- n turns of the specification, told
    pub record AllTold (n : ℕ) (s : State) : Type 0 where
      pub lines : List ℕ
      pub are : Lines S x n lines
      pub turns : Turns T x n (with_lines lines s)
      pub below : PlaceBelow s.place

    next_told : (n : ℕ) (b s : State) → Turns R x n b → AllTold n b → (e : Option Ending) → b.ended ≡ e → NextFrom R x b e s → AllTold (suc n) s
    next_told n b s turns k (Some e) is next = record {
      lines = k.lines;
      are = (b, k.lines, turns, k.are, subst (λ z. LinesFrom S x b z k.lines k.lines) (sym is) refl);
      turns = (with_lines k.lines b, k.turns, subst (λ z. NextFrom T x (with_lines k.lines b) z (with_lines k.lines s)) (sym is) (ap (with_lines k.lines) next));
      below = subst (λ (z : State). PlaceBelow z.place) (sym next) k.below;
    }
    next_told n b s turns k None is (t, turn, next) =
        let told = turn_told b.place t k.below turn in
        let all : List ℕ = k.lines ++ told.lines in
        record {
          lines = all;
          are = (b, k.lines, turns, k.are, subst (λ z. LinesFrom S x b z k.lines all) (sym is) (told.lines, told.are, refl));
          turns = (with_lines k.lines b, k.turns, subst (λ z. NextFrom T x (with_lines k.lines b) z (with_lines all s)) (sym is) (with_lines told.lines t, told.turn, ap (with_lines all) next));
          below = subst (λ (z : State). PlaceBelow z.place) (sym next) told.below;
        }

    pub turns_told : (n : ℕ) (s : State) → Turns R x n s → AllTold n s
    turns_told zero s e = record {
      lines = [];
      are = refl;
      turns = ap (with_lines []) e;
      below = subst (λ (z : State). PlaceBelow z.place) (sym e) (omega (arith, sound.some_condition), tt);
    }
    turns_told (suc n) s (b, turns, next) = next_told n b s turns (turns_told n b turns) b.ended refl next

    pub runs_told : (lines : List ℕ) (ending : Ending) → Run T x lines ending → TellsRun S x lines ending
    runs_told lines ending (n, p, h) = from (spec_state S sound x n)
      where
        from : (s : State) × Turns R x n s → TellsRun S x lines ending
        from (s, turns) =
            let k = turns_told n s turns in
            let last : State = record { written = lines; place = p; ended = Some ending } in
            let same : last ≡ with_lines k.lines s = one_state T x n last (with_lines k.lines s) h k.turns in
            let is : k.lines ≡ lines = ap (λ (z : State). z.written) (sym same) in
            let over : s.ended ≡ Some ending = ap (λ (z : State). z.ended) (sym same) in
            record {
              written = s.written;
              run = (n, s.place, subst (Turns R x n) (λ i. record { written = s.written; place = s.place; ended = over i }) turns);
              lines_are = subst (Lines S x n) is k.are;
            }

pub tells_turns : (S : Spec) → IsSound S → TellsTurns S
tells_turns S sound x n s text turns = (let k = turns_told S sound x text n s turns in (k.lines, k.are, k.turns))

pub tells_runs : (S : Spec) → IsSound S → TellsRuns S
tells_runs S sound x lines ending text h = runs_told S sound x text lines ending h
