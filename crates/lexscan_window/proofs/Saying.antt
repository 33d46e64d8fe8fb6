-- What the statements of an action do, one after another.
use Rattle.std.proofs.Common.{◌≡◌, ℕ, ◌+◌, ◌<◌, true, List, [], ◌∷◌, ◌++◌, length, take, drop, refl, sym, ◌∙◌, ap, subst}
use Rattle.std.proofs.lemmas.List.{append-nil, append_assoc, drop_more}
use Rattle.std.specs.Prelude.{Bool, false, map, get_or, if◌then◌else◌}
use Rattle.lex_semantics.specs.Text.{BeginsWith}
use Rattle.lex_semantics.specs.Spec.{Statement, Echo, Print, Begin, More, Less, Reject, End, Push, Pop}
use Rattle.lex_semantics.specs.Acting as Scan
use Rattle.lex_semantics.specs.Acting.{StackFault}
use Rattle.lex_semantics.specs.ActionResults.{ActionResult, Over, act_result, has_room, popped}
use Rattle.lexscan_window.specs.declared.act.ActionState.{ActionState}
use Rattle.lexscan_window.specs.declared.act.ActionFlow.{ActionFlow}
use Rattle.lex_machine.specs.declared.action.Statement.{Statement as Item}
use Rattle.lex_machine.specs.Views.{statement_of}
use Rattle.lexscan_window.specs.Acts.{acting_of, said, after_step, StatementCarried, written_of, Carried, CutShort, CarriedTo}

abbrev pub IsPrefixOf : List ℕ → List ℕ → Type 0
IsPrefixOf u w = BeginsWith w u

pub prefix_trans : (a b c : List ℕ) → IsPrefixOf a b → IsPrefixOf b c → IsPrefixOf a c
prefix_trans a b c p q = (p.0 ++ q.0, q.1 ∙ ap (λ l. l ++ q.0) p.1 ∙ append_assoc a p.0 q.0)

prefix_more : (a b c : List ℕ) → IsPrefixOf (a ++ b) c → IsPrefixOf a c
prefix_more a b c p = (b ++ p.0, p.1 ∙ append_assoc a b p.0)

pub prefix_same : (a : List ℕ) → IsPrefixOf a a
prefix_same a = ([], sym (append-nil a))

-- a fault of the stack leaves what was written
full_grows : (b : Bool) (a : Scan.Acting) (w : ActionResult) → IsPrefixOf a.written (written_of w) → IsPrefixOf a.written (written_of (if b then w else Over a StackFault))
full_grows true a w h = h
full_grows false a w h = prefix_same a.written

empty_grows : (cs : List ℕ) (a : Scan.Acting) (next : ℕ → List ℕ → ActionResult) → ((c : ℕ) (rest : List ℕ) → IsPrefixOf a.written (written_of (next c rest))) → IsPrefixOf a.written (written_of (popped cs a next))
empty_grows [] a next h = prefix_same a.written
empty_grows (c ∷ cs) a next h = h c cs

-- an action only adds to what was written
pub act_grows : (ss : List Statement) (a : Scan.Acting) → IsPrefixOf a.written (written_of (act_result ss a))
act_grows [] a = prefix_same a.written
act_grows (Echo ∷ ss) a = prefix_more a.written a.text _ (act_grows ss (record a { written = a.written ++ a.text }))
act_grows (Print s ∷ ss) a = prefix_more a.written s _ (act_grows ss (record a { written = a.written ++ s }))
act_grows (Begin d ∷ ss) a = act_grows ss (record a { condition = d })
act_grows (More ∷ ss) a = act_grows ss (record a { more = true })
act_grows (Less n ∷ ss) a = act_grows ss (record a { text = take n a.text })
act_grows (Reject ∷ ss) a = prefix_same a.written
act_grows (End s ∷ ss) a = prefix_same a.written
act_grows (Push d ∷ ss) a = full_grows (has_room a.stack) a (act_result ss (record a { condition = d; stack = a.condition ∷ a.stack })) (act_grows ss (record a { condition = d; stack = a.condition ∷ a.stack }))
act_grows (Pop ∷ ss) a = empty_grows a.stack a (λ c cs. act_result ss (record a { condition = c; stack = cs })) (λ c cs. act_grows ss (record a { condition = c; stack = cs }))

-- and by what its first statement says
says_grows : (st : Statement) (ss : List Statement) (a : Scan.Acting) → IsPrefixOf (a.written ++ said st a.text) (written_of (act_result (st ∷ ss) a))
says_grows Echo ss a = act_grows ss (record a { written = a.written ++ a.text })
says_grows (Print s) ss a = act_grows ss (record a { written = a.written ++ s })
says_grows (Begin d) ss a = subst (λ z. IsPrefixOf z (written_of (act_result (Begin d ∷ ss) a))) (sym (append-nil a.written)) (act_grows (Begin d ∷ ss) a)
says_grows More ss a = subst (λ z. IsPrefixOf z (written_of (act_result (More ∷ ss) a))) (sym (append-nil a.written)) (act_grows (More ∷ ss) a)
says_grows (Less n) ss a = subst (λ z. IsPrefixOf z (written_of (act_result (Less n ∷ ss) a))) (sym (append-nil a.written)) (act_grows (Less n ∷ ss) a)
says_grows Reject ss a = subst (λ z. IsPrefixOf z (written_of (act_result (Reject ∷ ss) a))) (sym (append-nil a.written)) (act_grows (Reject ∷ ss) a)
says_grows (End s) ss a = subst (λ z. IsPrefixOf z (written_of (act_result (End s ∷ ss) a))) (sym (append-nil a.written)) (act_grows (End s ∷ ss) a)
says_grows (Push d) ss a = subst (λ z. IsPrefixOf z (written_of (act_result (Push d ∷ ss) a))) (sym (append-nil a.written)) (act_grows (Push d ∷ ss) a)
says_grows Pop ss a = subst (λ z. IsPrefixOf z (written_of (act_result (Pop ∷ ss) a))) (sym (append-nil a.written)) (act_grows (Pop ∷ ss) a)

-- nothing said
pub nothing_said : (w : List ℕ) (a : ActionState) (before : List ℕ) → acting_of w a before ≡ acting_of w a (before ++ [])
nothing_said w a before = ap (acting_of w a) (sym (append-nil before))

-- the statements that are left
pub left_is : (items : List Item) (i : ℕ) (item : Item) → i < length items → item ≡ get_or items i item → map statement_of (drop i items) ≡ statement_of item ∷ map statement_of (drop (i + 1) items)
left_is items i item lt is = ap (map statement_of) (drop_more items i item lt) ∙ ap (λ z. statement_of z ∷ map statement_of (drop (i + 1) items)) (sym is)

module _ {K : Type 0} (wrote : K → List ℕ → K → Type 0) (none : (s : K) → wrote s [] s) (join : (s t u : K) (xs ys : List ℕ) → wrote s xs t → wrote t ys u → wrote s (xs ++ ys) u) where
  pub carried_first : (s : K) (w : List ℕ) (ss : List Statement) (old : ActionState) → CarriedTo wrote s s w ss ss old old
  carried_first s w ss old = record { out = []; sink = none s; acts = λ before. ap (act_result ss) (nothing_said w old before) }

  pub carried_next : (s t u : K) (w : List ℕ) (ss rest : List Statement) (st : Statement) (old mid new : ActionState) (left : List Statement) → left ≡ st ∷ rest → CarriedTo wrote s t w ss left old mid →
      wrote t (said st (take mid.end w)) u → StatementCarried w st mid new ActionFlow.Next → CarriedTo wrote s u w ss rest old new
  carried_next s t u w ss rest st old mid new left e h put steps = record {
    out = h.out ++ said st (take mid.end w);
    sink = join s t u h.out (said st (take mid.end w)) h.sink put;
    acts = λ before. h.acts before ∙ ap (λ z. act_result z (acting_of w mid (before ++ h.out))) e ∙ steps (before ++ h.out) rest ∙ ap (λ z. act_result rest (acting_of w new z)) (append_assoc before h.out (said st (take mid.end w)));
  }

  pub carried_last : (s t : K) (w : List ℕ) (ss left : List Statement) (old new : ActionState) → left ≡ [] → CarriedTo wrote s t w ss left old new → Carried wrote s t w ss old new ActionFlow.Next
  carried_last s t w ss left old new e h = record { out = h.out; sink = h.sink; acts = λ before. h.acts before ∙ ap (λ z. act_result z (acting_of w new (before ++ h.out))) e }

  -- a statement after which none follows
  pub carried_stop : (s t u : K) (w : List ℕ) (ss rest : List Statement) (st : Statement) (old mid new : ActionState) (left : List Statement) (step : ActionFlow) → (step ≡ ActionFlow.Next → ⊥) → left ≡ st ∷ rest → CarriedTo wrote s t w ss left old mid →
      wrote t (said st (take mid.end w)) u → StatementCarried w st mid new step → Carried wrote s u w ss old new step
  carried_stop s t u w ss rest st old mid new left step stops e h put steps = record {
    out = h.out ++ said st (take mid.end w);
    sink = join s t u h.out (said st (take mid.end w)) h.sink put;
    acts = λ before. h.acts before ∙ ap (λ z. act_result z (acting_of w mid (before ++ h.out))) e ∙ steps (before ++ h.out) rest
        ∙ ap (λ z. after_step step rest (acting_of w new z)) (append_assoc before h.out (said st (take mid.end w))) ∙ no_rest step stops (acting_of w new (before ++ (h.out ++ said st (take mid.end w))));
  }
    where
      no_rest : (step : ActionFlow) → (step ≡ ActionFlow.Next → ⊥) → (a : Scan.Acting) → after_step step rest a ≡ after_step step [] a
      no_rest ActionFlow.Next stops a = absurd (stops refl)
      no_rest ActionFlow.Again stops a = refl
      no_rest (ActionFlow.Over s) stops a = refl

  -- a statement that was refused
  pub cut_short : (s t u : K) (w : List ℕ) (ss rest : List Statement) (st : Statement) (old mid : ActionState) (left : List Statement) → left ≡ st ∷ rest → CarriedTo wrote s t w ss left old mid →
      ((front : List ℕ) × IsPrefixOf front (said st (take mid.end w)) × wrote t front u) → CutShort wrote s u w ss old
  cut_short s t u w ss rest st old mid left e h (front, is_front, put) = record {
    out = h.out ++ front;
    sink = join s t u h.out front h.sink put;
    front = λ before. subst (λ z. IsPrefixOf (before ++ (h.out ++ front)) (written_of z)) (sym (h.acts before ∙ ap (λ z. act_result z (acting_of w mid (before ++ h.out))) e))
        (subst (λ z. IsPrefixOf z (written_of (act_result (st ∷ rest) (acting_of w mid (before ++ h.out))))) (append_assoc before h.out front)
        (prefix_trans ((before ++ h.out) ++ front) ((before ++ h.out) ++ said st (take mid.end w)) _ (is_front.0, ap (λ z. (before ++ h.out) ++ z) is_front.1 ∙ sym (append_assoc (before ++ h.out) front is_front.0)) (says_grows st rest (acting_of w mid (before ++ h.out)))));
  }
