-- Turn after turn, up to the end.
use Rattle.std.proofs.Common.{◌≡◌, ℕ, suc, ◌+◌, ◌-◌, ◌*◌, ◌≤◌, ◌<◌, Bool, true, false, List, ◌++◌, length, Some, None, refl, sym, ◌∙◌, ap, subst, arith}
use Rattle.std.specs.Prelude.{nat_lt}
use Rattle.std.proofs.lemmas.Nat.{mul-le}
use Rattle.std.proofs.lemmas.Bool.{lt-ltb, ltb-true}
use Rattle.std.proofs.lemmas.List.{length-drop}
use Rattle.lex_semantics.specs.Scanned.{Scanned}
use Rattle.lex_semantics.specs.Acting.{Status}
use Rattle.lex_semantics.specs.Demand.{Consistent, answers}
use Rattle.lex_semantics.specs.Machine.{Machine, rules_of_machine}
use Rattle.lex_semantics.specs.MachineLaws.{MachineLaws}
use Rattle.lex_semantics.proofs.After.{turns_of}
use Rattle.lex_semantics.proofs.MachineLaws.{machine_laws}
use Rattle.lex_semantics.proofs.MachineRun.{machine_candidates_exist}
use Rattle.lex_semantics.proofs.Ends.{Grows}
use Rattle.lex_semantics.proofs.Growth.{turns_grow, falls}
use Rattle.lexscan_window.specs.declared.state.State.{State}
use Rattle.lexscan_window.specs.declared.error.RunError.{RunError}
use Rattle.lexscan_window.specs.declared.error.RunError.TheVariants.{TooManyReads}
use Rattle.lex_semantics.specs.ByteSets.{bit_of}
use Rattle.lexscan_window.specs.Reads.{end_step}
use Rattle.lexscan_matching.specs.Descends.{ending_of}
use Rattle.lexscan.specs.TurnInvariants.{state_of, TurnInvariant, AfterRefusal, NoneAfterEnd, RunCompleted}
use Rattle.lexscan.specs.Runs.{Running, RunStopped}
use Rattle.lexscan.specs.Bursts.{NoEarlier}
use Rattle.lexscan.proofs.Refusing.{earlier, just_these}

-- where the text starts
abbrev pub start_of : State → ℕ
start_of s = s.reading.taken - length s.reading.window.bytes

-- how much the turns may still go on, where at most m bytes are taken
abbrev pub left_over : ℕ → State → ℕ
left_over m s = (m - start_of s) * (m + 1) + (m - (start_of s + s.place.at))

start_is : (M : Machine) (n : ℕ) (given out : List ℕ) (s : State) (h : TurnInvariant M n given out s) → start_of s ≡ h.start
start_is M n given out s h =
    let size : length s.reading.window.bytes ≡ length given - h.start = ap length h.held ∙ length-drop h.start given in
    omega (arith, size, h.taken, h.covered)

-- what is held was taken
pub all_taken : (M : Machine) (n : ℕ) (given out : List ℕ) (s : State) → TurnInvariant M n given out s → length s.reading.window.bytes ≤ s.reading.taken
all_taken M n given out s h = omega (arith, ap length h.held, length-drop h.start given, h.taken)

pub turn_falls : (M : Machine) (laws : MachineLaws M) (m n : ℕ) (given got out wrote : List ℕ) (old new : State) → (h : TurnInvariant M n given out old) → (k : TurnInvariant M (suc n) (given ++ got) (out ++ wrote) new) → NoneAfterEnd old new got → new.ended ≡ None →
    old.reading.taken ≤ m → new.reading.taken ≤ m → left_over m new < left_over m old
turn_falls M laws m n given got out wrote old new h k none going few few' =
    let g : List ℕ = given ++ got in
    let consistent : Consistent g new.reading.at_end g = (k.text, just_these g new.reading.at_end) in
    let before : Consistent given old.reading.at_end g = (k.text, earlier given got old.reading.at_end new.reading.at_end g (λ e. (none e).0) (λ e. (none e).1) consistent.1) in
    let grows : Grows (state_of out h.start old).place (state_of (out ++ wrote) k.start new).place =
    turns_grow (rules_of_machine M) (machine_laws M laws) laws.legal (λ c line_start y. machine_candidates_exist M laws c line_start y) g n (state_of out h.start old) (state_of (out ++ wrote) k.start new)
    (turns_of _ _ _ _ _ (h.scanned g before)) (turns_of (rules_of_machine M) g (suc n) (state_of (out ++ wrote) k.start new) (answers g new.reading.at_end) (k.scanned g consistent)) (ap ending_of going) in
    let less = falls m (state_of out h.start old).place (state_of (out ++ wrote) k.start new).place (omega arith) (omega (arith, h.covered, h.taken)) (omega arith) (omega (arith, k.covered, k.taken)) grows in
    let a : start_of old ≡ h.start = start_is M n given out old h in
    let b : start_of new ≡ k.start = start_is M (suc n) g (out ++ wrote) new k in
    rw (a, b) less

answered : (e e' : ℕ) (b : Bool) → e' ≡ e + end_step false b → nat_lt e e' ≡ b
answered e e' true h = lt-ltb e e' (omega (arith, h))
answered e e' false h = go (nat_lt e e') refl
  where
    go : (b : Bool) → nat_lt e e' ≡ b → nat_lt e e' ≡ false
    go false q = q
    go true q = let less : e < e' = ltb-true e e' q in absurd (omega (arith, h))

-- the end is answered at most once
pub answered_once : (a b : Bool) → (a ≡ true → b ≡ true) → end_step false a + end_step a b ≡ end_step false b
answered_once true true h = refl
answered_once true false h = let e = h refl in cc
answered_once false true h = refl
answered_once false false h = refl

-- one turn more
pub running_on : {S K : Type 0} (M : Machine) (gave : S → List ℕ → S → Type 0) (wrote : K → List ℕ → K → Type 0) (r s s' : S) (t u u' : K) (old new : State) (got put : List ℕ) →
    ((r s t : S) (xs ys : List ℕ) → gave r xs s → gave s ys t → gave r (xs ++ ys) t) → ((r s t : K) (xs ys : List ℕ) → wrote r xs s → wrote s ys t → wrote r (xs ++ ys) t) →
    (h : Running M gave wrote r s t u old) → gave s got s' → wrote u put u' → TurnInvariant M (suc h.turns) (h.given ++ got) (h.out ++ put) new → Running M gave wrote r s' t u' new
running_on M gave wrote r s s' t u u' old new got put join join' h a b k = record {
  turns = suc h.turns;
  given = h.given ++ got;
  out = h.out ++ put;
  source = join r s s' h.given got h.source a;
  sink = join' t u u' h.out put h.sink b;
  invariant = k;
}

-- several turns more
pub running_further : {S K : Type 0} (M : Machine) (gave : S → List ℕ → S → Type 0) (wrote : K → List ℕ → K → Type 0) (r s s' : S) (t u u' : K) (old new : State) (turns : ℕ) (got put : List ℕ) →
    ((r s t : S) (xs ys : List ℕ) → gave r xs s → gave s ys t → gave r (xs ++ ys) t) → ((r s t : K) (xs ys : List ℕ) → wrote r xs s → wrote s ys t → wrote r (xs ++ ys) t) →
    (h : Running M gave wrote r s t u old) → gave s got s' → wrote u put u' → TurnInvariant M (turns + h.turns) (h.given ++ got) (h.out ++ put) new → Running M gave wrote r s' t u' new
running_further M gave wrote r s s' t u u' old new turns got put join join' h a b k = record {
  turns = turns + h.turns;
  given = h.given ++ got;
  out = h.out ++ put;
  source = join r s s' h.given got h.source a;
  sink = join' t u u' h.out put h.sink b;
  invariant = k;
}

-- what does not start earlier has no more left
pub no_more_left : (m : ℕ) (old new : State) → NoEarlier old new → left_over m new ≤ left_over m old
no_more_left m old new h =
    let few : (m - start_of new) * (m + 1) ≤ (m - start_of old) * (m + 1) = mul-le (m - start_of new) (m + 1) (m - start_of old) (m + 1) (omega (arith, h.start)) (omega arith) in
    omega (arith, few, h.place)

-- the reads that were made, by what the source counts
pub few_made : (given : List ℕ) (s : State) (m fault e e' f f' f'' : ℕ) → s.reading.taken ≡ length given → e' ≡ e + end_step false s.reading.at_end → f'' ≡ f' + fault → f' ≡ f →
    s.reading.taken + bit_of s.reading.at_end + fault ≤ s.reading.max_reads → s.reading.max_reads ≡ m → length given + (e' - e) + (f'' - f) ≤ m
few_made given s m fault e e' f f' f'' taken ends more before few most =
    let ended : e' ≡ e + bit_of s.reading.at_end = ends in
    omega (arith, taken, ended, more, before, few, most)

-- at the end
pub ran_to : (M : Machine) (n status e e' : ℕ) (given out : List ℕ) (s : State) → e' ≡ e + end_step false s.reading.at_end → s.ended ≡ Some status → TurnInvariant M n given out s → RunCompleted (rules_of_machine M) given out (nat_lt e e') (Status status)
ran_to M n status e e' given out s ends over h =
    let told : nat_lt e e' ≡ s.reading.at_end = answered e e' s.reading.at_end ends in
    let ended : (state_of out h.start s).ended ≡ Some (Status status) = ap ending_of over in
    subst (λ b. RunCompleted (rules_of_machine M) given out b (Status status)) (sym told) (record {
      text = h.text;
      turns = n;
      place = (state_of out h.start s).place;
      scanned = subst (Scanned (rules_of_machine M) given s.reading.at_end n) (λ i. record { written = out; place = (state_of out h.start s).place; ended = ended i }) h.scanned;
    })

-- at a refusal
pub ran_into : (M : Machine) (n e e' m : ℕ) (given got out : List ℕ) (s : State) (error : RunError) → e' ≡ e + end_step false s.reading.at_end → (error ≡ TooManyReads → (s.reading.taken ≡ m) × (s.reading.at_end ≡ false)) → AfterRefusal M n given got out s error → RunStopped (rules_of_machine M) (given ++ got) out (nat_lt e e') m error
ran_into M n e e' m given got out s error ends many h =
    let told : nat_lt e e' ≡ s.reading.at_end = answered e e' s.reading.at_end ends in
    subst (λ b. RunStopped (rules_of_machine M) (given ++ got) out b m error) (sym told) (record {
      turns = n;
      had = answers given h.end_before;
      refused_turn = h.refused_turn;
      too_many = λ is. (let all = many is in (sym h.taken ∙ all.0, all.1));
      fault = h.fault;
    })
