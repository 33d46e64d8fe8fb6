-- Turns over bytes that are held: they keep marks true, and a match that these bytes settle is as any other.
use Rattle.std.proofs.Common.{◌≡◌, ℕ, ◌+◌, ◌≤◌, Bool, true, false, List, [], ◌++◌, length, drop, inl, inr, Result, Ok, Err, refl, sym, ap, subst, arith}
use Rattle.std.specs.Prelude.{IfOk, OnOk, OnErr}
use Rattle.lex_semantics.specs.Machine.{Machine}
use Rattle.lex_semantics.specs.Plain.{default_match}
use Rattle.lex_semantics.specs.Trail.{falling}
use Rattle.lexscan_matching.specs.declared.back.Settled.{Settled}
use Rattle.lexscan_window.specs.declared.memo.Mark.{Mark}
use Rattle.lexscan_window.specs.declared.state.Reading.{Reading}
use Rattle.lexscan_window.specs.declared.state.TextPlace.{TextPlace}
use Rattle.lexscan_window.specs.declared.state.State.{State}
use Rattle.lexscan.specs.declared.turn.Turn.{Turn}
use Rattle.lexscan_window.specs.declared.error.RunError.{RunError}
use Rattle.lexscan_matching.specs.Picks.{path_of, state_at}
use Rattle.lexscan_matching.specs.Descends.{Conditions, conditions_at, matches_of, ending_of, Performed, CutAll, Faulted, Takes}
use Rattle.lexscan.specs.TurnSteps.{MatchLeft, Acted, TurnStep, is_over}
use Rattle.lexscan_window.specs.Places.{next_bytes, stays}
use Rattle.lexscan_window.specs.Memos.{Barren, IsTrueMark, AreTrue}
use Rattle.lexscan_matching.specs.Backs.{IsSettled}
use Rattle.lexscan_matching.specs.Looks.{Wants}
use Rattle.lexscan_matching.proofs.Growing.{took_none}
use Rattle.lexscan_matching.proofs.Limiting.{not_looked}
use Rattle.lexscan_matching.proofs.Barrens.{true_dropped, true_grown, Further, further}
use Rattle.lexscan.proofs.Leaving.{matched_moved}

true_left : (M : Machine) (old new : Reading) (b : Bool) (n : ℕ) (m : Mark) → n ≤ length old.window.bytes → new.window.bytes ≡ next_bytes b n old.window.bytes → new.taken ≡ old.taken → new.at_end ≡ old.at_end →
    IsTrueMark M old m → IsTrueMark M new m
true_left M old new true n m le held taken at_end h = true_dropped M old new 0 m (omega arith) held taken at_end h
true_left M old new false n m le held taken at_end h = true_dropped M old new n m le held taken at_end h

-- a turn keeps marks true
pub true_moved : {S K : Type 0} (M : Machine) (gave : S → List ℕ → S → Type 0) (wrote : K → List ℕ → K → Type 0) (s s' : S) (t t' : K) (old new : State) (ms : List Mark) (result : Result Turn RunError) →
    TurnStep M gave wrote s s' t t' old new result → AreTrue M old.reading ms → OnOk result (AreTrue M new.reading ms)
true_moved M gave wrote s s' t t' old new ms (Ok turn) (inl m) h = λ x a.
    true_left M m.mid new.reading (stays m.acted.acting.more (is_over m.acted.ended)) m.acted.acting.end x m.acted.inside m.acted.left.held m.acted.same.taken m.acted.same.at_end
    (true_grown M gave s s' old.reading m.mid x m.took (h x a))
true_moved M gave wrote s s' t t' old new ms (Ok turn) (inr m) h = λ x a.
    true_dropped M m.mid new.reading old.place.at x (omega (arith, m.looked.all)) m.left.held m.left.same.taken m.left.same.at_end (true_grown M gave s s' old.reading m.mid x m.took (h x a))
true_moved M gave wrote s s' t t' old new ms (Err e) m h = tt

-- the same matches
module _ {K : Type 0} (M : Machine) (wrote : K → List ℕ → K → Type 0) (t t' : K) (r : Reading) (p : TextPlace) (c : Conditions) (path path' : List ℕ) (same : falling M 0 path ≡ falling M 0 path') where
  all_same : matches_of M r.window.bytes p.at path ≡ matches_of M r.window.bytes p.at path'
  all_same = ap (λ ms. ms ++ default_match M.count (drop p.at r.window.bytes)) same

  acted_same : (new : State) (result : Result Turn RunError) → IfOk result (λ turn. Acted M wrote t t' r p c path new turn) → IfOk result (λ turn. Acted M wrote t t' r p c path' new turn)
  acted_same new (Ok turn) a = record {
    acting = a.acting;
    ended = a.ended;
    performed = subst (λ ms. Performed M wrote t t' r.window.bytes p.at ms c a.acting (ending_of a.ended)) all_same a.performed;
    inside = a.inside;
    left = a.left;
    says = a.says;
    same = a.same;
    is_ended = a.is_ended;
    takes = subst (λ ms. Takes M r.window.bytes p.at ms c new.matched) all_same a.takes;
  }
  acted_same new (Err e) a = a

  cut_same : (result : Result Turn RunError) → OnErr result (CutAll M wrote t t' r.window.bytes p.at (matches_of M r.window.bytes p.at path) c) → OnErr result (CutAll M wrote t t' r.window.bytes p.at (matches_of M r.window.bytes p.at path') c)
  cut_same result h = subst (λ ms. OnErr result (CutAll M wrote t t' r.window.bytes p.at ms c)) all_same h

  fault_same : Faulted M wrote t t' r.window.bytes p.at (matches_of M r.window.bytes p.at path) c → Faulted M wrote t t' r.window.bytes p.at (matches_of M r.window.bytes p.at path') c
  fault_same h = subst (λ ms. Faulted M wrote t t' r.window.bytes p.at ms c) all_same h

-- a match whose longest text is known from the bytes held: it has asked for no more
settled_far : (M : Machine) (states : ℕ) (old : State) (a : Settled) → IsSettled M states old.place old.reading a → Further M old.place old.reading a.keep
settled_far M states old a h =
    further M old.place old.reading (omega (arith, h.inside)) (drop (old.place.at + a.keep) old.reading.window.bytes) a.keep a.state (M.goes_on a.state) refl refl h.some h.so_far
    (subst (λ q. Barren M old.reading.at_end q (drop (old.place.at + a.keep) old.reading.window.bytes)) (sym kept) (h.barren a.keep (omega arith) h.order))
  where
    kept : a.state ≡ state_at M old.place old.reading.window.bytes a.keep
    kept = h.so_far.state_is

pub settled_asks : {S : Type 0} (M : Machine) (states : ℕ) (gave : S → List ℕ → S → Type 0) (s : S) (old : State) (a : Settled) → gave s [] s → IsSettled M states old.place old.reading a → old.reading.taken ≡ old.reading.max_reads → Wants M old.place old.reading → ⊥
settled_asks M states gave s old a none h = not_looked M old.place gave s s old.reading old.reading (took_none gave s old.reading none) _ (settled_far M states old a h).looked

-- such a match
pub settled_moved : {S K : Type 0} (M : Machine) (states : ℕ) (gave : S → List ℕ → S → Type 0) (wrote : K → List ℕ → K → Type 0) (fails : K → ℕ) (s : S) (t t' : K) (live : Bool) (old new : State) (a : Settled) (result : Result Turn RunError) →
    gave s [] s → IsSettled M states old.place old.reading a → MatchLeft M wrote fails t t' live old new (path_of M old.place old.reading.window.bytes a.keep) result → TurnStep M gave wrote s s t t' old new result
settled_moved M states gave wrote fails s t t' live old new a result none h left =
    let short : List ℕ = path_of M old.place old.reading.window.bytes a.keep in
    let long : List ℕ = path_of M old.place old.reading.window.bytes far.reach in
    matched_moved M gave wrote s s t t' old old.reading new (took_none gave s old.reading none) fails live long result far.looked
    (record {
      acted = acted_same M wrote t t' old.reading old.place (conditions_at old) short long far.same new result left.acted;
      going = left.going;
      cut_off = cut_same M wrote t t' old.reading old.place (conditions_at old) short long far.same result left.cut_off;
      fault = λ is. fault_same M wrote t t' old.reading old.place (conditions_at old) short long far.same (left.fault is);
      unchanged = left.unchanged;
      refusals = left.refusals;
      write_faults = left.write_faults;
      may_write = left.may_write;
      failed = left.failed;
      max_reads = left.max_reads;
    })
  where
    far : Further M old.place old.reading a.keep
    far = settled_far M states old a h
