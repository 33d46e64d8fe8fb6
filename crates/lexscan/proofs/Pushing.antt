-- Scans by pieces.
use Rattle.std.proofs.Common.{◌≡◌, ℕ, suc, ◌+◌, ◌-◌, ◌<◌, ◌≤◌, inl, inr, Bool, true, false, List, [], ◌++◌, length, take, drop, min, Option, Some, None, Ok, Err, refl, sym, ap, subst, ◌∙◌, append_assoc, append-nil, arith}
use Rattle.std.specs.Prelude.{IfSome, Result, IfErr, OnErr, IsErrOf, nat_le}
use Rattle.std.proofs.lemmas.Bool.{cases_lt, cases_eq, cases_Bool, le-leb}
use Rattle.std.proofs.lemmas.List.{length-append, drop-append-le, nil_from_length, take-append-le, length-drop, drop_all}
use Rattle.std.proofs.Math.Seq.{take-append_seam, drop-append_seam, drop-append-add}
use Rattle.lex_semantics.proofs.After.{turns_of}
use Rattle.lex_semantics.proofs.Once.{run_by}
use Rattle.lex_semantics.specs.Text.{IsText, BeginsWith, at_line_start}
use Rattle.lex_semantics.specs.Acting.{Ending, Status}
use Rattle.lex_semantics.specs.Run as Scan
use Rattle.lex_semantics.specs.Run.{Run}
use Rattle.lex_semantics.specs.Demand.{Consistent, ExtendsGiven}
use Rattle.lex_semantics.specs.Scanned.{Scanned}
use Rattle.lex_semantics.specs.Rules.{Rules}
use Rattle.lex_semantics.specs.Machine.{Machine, walk, rules_of_machine}
use Rattle.lex_semantics.proofs.Once.{one_state}
use Rattle.lex_semantics.proofs.Written.{run_begins}
use Rattle.lexscan_window.specs.declared.state.State.{State}
use Rattle.lexscan.specs.declared.turn.Turn.{Turn}
use Rattle.lexscan_window.specs.declared.error.RunError.{RunError}
use Rattle.lexscan_window.specs.declared.error.RunError.TheVariants.{Read, TooManyReads, Write, OutOfMemory, Stack, Failed}
use Rattle.lex_semantics.specs.ByteSets.{bit_of}
use Rattle.lexscan_window.specs.Reads.{end_step}
use Rattle.lexscan_matching.specs.Descends.{ending_of}
use Rattle.lexscan.specs.TurnInvariants.{state_of, TurnInvariant, AfterRefusal, NoneAfterEnd}
use Rattle.lexscan.specs.Pushes.{AsksForMore, IsReachable, MadeTurns, Pauses, Fed, RunsTo, WritesFirst, AfterFeed, AfterFinish, HasFailedBy, HasFailedByPiece, WalkStaysLive, WalksOn, IsAsking}
use Rattle.lexscan_window.specs.Waits.{GivesWaiting}
use Rattle.lex_semantics.specs.MachineLaws.{MachineLaws}
use Rattle.lex_semantics.proofs.MachineLaws.{walk-append}
use Rattle.lex_semantics.proofs.Texts.{take_past}
use Rattle.lex_semantics.proofs.Wanted.{WantsMore, wanted_end}
use Rattle.lexscan_window.specs.declared.state.Reading.{Reading}
use Rattle.lexscan_matching.specs.Looks.{Wants}
use Rattle.lexscan.proofs.Lifting.{wants_here}
use Rattle.lexscan.proofs.Refusing.{earlier, just_these}
use Rattle.lexscan.proofs.Furthering.{no_further}

-- what is not denied, of numbers and of flags
pub certain_is : (a b : ℕ) → ((a ≡ b → ⊥) → ⊥) → a ≡ b
certain_is a b h = elim (cases_eq a b) [ inl e ↦ e | inr ne ↦ absurd (h ne) ]

pub certain_less : (a b : ℕ) → ((a < b → ⊥) → ⊥) → a < b
certain_less a b h = elim (cases_lt a b) [ inl lt ↦ lt | inr le ↦ absurd (h (λ lt. omega (arith, le, lt))) ]

pub certain_le : (a b : ℕ) → ((a ≤ b → ⊥) → ⊥) → a ≤ b
certain_le a b h = elim (cases_lt b a) [ inl lt ↦ absurd (h (λ le. omega (arith, le, lt))) | inr le ↦ le ]

pub certain_false : (b : Bool) → ((b ≡ false → ⊥) → ⊥) → b ≡ false
certain_false false h = refl
certain_false true h = absurd (h (λ e. cc))

pub certain_true : (b : Bool) → ((b ≡ true → ⊥) → ⊥) → b ≡ true
certain_true true h = refl
certain_true false h = absurd (h (λ e. cc))

-- where the end was not answered after, it was not before
not_before : (a b : Bool) → (a ≡ true → b ≡ true) → b ≡ false → a ≡ false
not_before false b stays e = refl
not_before true b stays e = (let t = stays refl in cc)

-- where so many bytes of two lists are dropped
pub drop_over : (n k : ℕ) (xs ys : List ℕ) → k ≡ min n (length xs) → drop n (xs ++ ys) ≡ drop k xs ++ drop (n - k) ys
drop_over n k xs ys is = elim (cases_lt (length xs) n) [
  | inr few ↦ (let e : k ≡ n = omega (arith, is, few) in
      let none : n - k ≡ 0 = omega (arith, e) in
      drop-append-le n xs ys few ∙ ap (λ j. drop j xs ++ ys) (sym e) ∙ ap (λ j. drop k xs ++ drop j ys) (sym none))
  | inl more ↦ (let e : k ≡ length xs = omega (arith, is, more) in
      let whole : n ≡ length xs + (n - k) = omega (arith, e, more) in
      ap (λ j. drop j (xs ++ ys)) whole ∙ drop-append-add xs ys (n - k) ∙ ap (λ l. l ++ drop (n - k) ys) (sym (drop_all k xs (omega (arith, e)))))
]

-- Turns that are refused leave the scan failed, and never for too many bytes.
pub failed_by : {A : Type 0} (r : Result A RunError) (failed : Bool) → OnErr r (failed ≡ true) → (IsErrOf r TooManyReads → ⊥) → IfErr r (λ e. HasFailedBy e failed)
failed_by (Ok v) failed is few = tt
failed_by (Err TooManyReads) failed is few = absurd (few refl)
failed_by (Err Read) failed is few = is
failed_by (Err Write) failed is few = is
failed_by (Err OutOfMemory) failed is few = is
failed_by (Err Stack) failed is few = is
failed_by (Err Failed) failed is few = is

-- So they do after a piece for which there was room.
pub failed_by_piece : {A : Type 0} (r : Result A RunError) (need before after : ℕ) (failed : Bool) → OnErr r (after ≡ before) → need ≤ before → OnErr r (failed ≡ true) → (IsErrOf r TooManyReads → ⊥) → IfErr r (λ e. HasFailedByPiece (nat_le need after) e failed)
failed_by_piece (Ok v) need before after failed same fits is few = tt
failed_by_piece (Err TooManyReads) need before after failed same fits is few = absurd (few refl)
failed_by_piece (Err Read) need before after failed same fits is few = is
failed_by_piece (Err Write) need before after failed same fits is few = is
failed_by_piece (Err OutOfMemory) need before after failed same fits is few =
    is ∙ sym (le-leb need after (subst (λ n. need ≤ n) (sym same) fits))
failed_by_piece (Err Stack) need before after failed same fits is few = is
failed_by_piece (Err Failed) need before after failed same fits is few = is

-- A turn that asked for more than may be read is given up.
module _ (M : Machine) (n : ℕ) (given got out out' : List ℕ) (old mid new : State) (h : TurnInvariant M n given out old) (none : NoneAfterEnd old mid got) (refusal : AfterRefusal M n given got out' mid TooManyReads) (more : mid.reading.at_end ≡ false) where
  abbrev pub all : List ℕ
  all = given ++ got

  consistent : Consistent all mid.reading.at_end all
  consistent = (refusal.refused_turn.text, just_these all mid.reading.at_end)

  pub same_start : refusal.refused_turn.before.place.start ≡ h.start
  same_start =
      let b = refusal.refused_turn.after all consistent in
      let a = h.scanned all (refusal.refused_turn.text, earlier given got old.reading.at_end mid.reading.at_end all (λ e. (none e).0) (λ e. (none e).1) consistent.1) in
      let one : refusal.refused_turn.before ≡ state_of out h.start old = one_state (rules_of_machine M) all n refusal.refused_turn.before (state_of out h.start old) (turns_of _ _ _ _ _ b) (turns_of _ _ _ _ _ a) in
      ap (λ (s : Scan.State). s.place.start) one

  pub same_bytes : new.reading.window.bytes ≡ take (length old.reading.window.bytes) mid.reading.window.bytes → new.reading.window.bytes ≡ old.reading.window.bytes
  same_bytes kept =
      let w : List ℕ = old.reading.window.bytes in
      let grown : mid.reading.window.bytes ≡ w ++ got = refusal.held ∙ ap (λ k. drop k all) same_start ∙ drop-append-le h.start given got (omega (arith, h.covered)) ∙ ap (λ l. l ++ got) (sym h.held) in
      kept ∙ ap (take (length w)) grown ∙ take-append_seam w got

  held_again : new.reading.window.bytes ≡ take (length old.reading.window.bytes) mid.reading.window.bytes → new.reading.window.bytes ≡ drop h.start given
  held_again kept = same_bytes kept ∙ h.held

  pub stands_again : new.failed ≡ false → new.place ≡ old.place → new.acting.stack ≡ old.acting.stack → old.ended ≡ None → new.ended ≡ None → new.reading.at_end ≡ false → new.reading.window.bytes ≡ take (length old.reading.window.bytes) mid.reading.window.bytes → new.reading.taken ≡ old.reading.taken → TurnInvariant M n given out new
  stands_again works place stack was going reading kept taken =
      let back : old.place ≡ new.place = sym place in
      let cs : old.acting.stack ≡ new.acting.stack = sym stack in
      let goes : old.ended ≡ new.ended = was ∙ sym going in
      let same : state_of out h.start old ≡ state_of out h.start new = λ i. record { written = out; place = record { start = h.start; at = h.start + (back i).at; condition = (back i).condition; stack = cs i }; ended = ending_of (goes i) } in
      record {
        works = works;
        start = h.start;
        scanned = subst (λ e. Scanned (rules_of_machine M) given e n (state_of out h.start new)) (not_before old.reading.at_end mid.reading.at_end (λ e. (none e).1) more ∙ sym reading)
            (subst (Scanned (rules_of_machine M) given old.reading.at_end n) same h.scanned);
        text = h.text;
        covered = omega (arith, h.covered, ap (λ p. p.at) place);
        held = held_again kept;
        line = ap (λ p. p.line_start) place ∙ h.line ∙ ap (λ p. at_line_start given (h.start + p.at)) back;
        taken = taken ∙ h.taken;
      }

  pub asks_more : AsksForMore (rules_of_machine M) n all
  asks_more t asked after = omega (arith, refusal.refused_turn.more refl t asked after)

-- some turns, and then some more
pub made_then : (M : Machine) (old mid new : State) (a b : ℕ) (got put got' put' : List ℕ) → MadeTurns M old mid a got put → MadeTurns M mid new b got' put' → MadeTurns M old new (b + a) (got ++ got') (put ++ put')
made_then M old mid new a b got put got' put' first second n given out h =
    let k = second (a + n) (given ++ got) (out ++ put) (first n given out h) in
    let e : b + (a + n) ≡ (b + a) + n = omega arith in
    subst (λ t. TurnInvariant M t (given ++ (got ++ got')) (out ++ (put ++ put')) new) e
    (subst (λ l. TurnInvariant M (b + (a + n)) l (out ++ (put ++ put')) new) (append_assoc given got got')
    (subst (λ l. TurnInvariant M (b + (a + n)) ((given ++ got) ++ got') l new) (append_assoc out put put') k))

pub made_one : (M : Machine) (old new : State) (got put : List ℕ) → ((n : ℕ) (given out : List ℕ) → TurnInvariant M n given out old → TurnInvariant M (suc n) (given ++ got) (out ++ put) new) → MadeTurns M old new 1 got put
made_one M old new got put turn n given out h = let e : suc n ≡ 1 + n = omega arith in subst (λ t. TurnInvariant M t (given ++ got) (out ++ put) new) e (turn n given out h)

pub made_none : (M : Machine) (s : State) → MadeTurns M s s 0 [] []
made_none M s n given out h = no_further M n given out s h

pub standing_on : (M : Machine) (old new : State) (turns : ℕ) (got put : List ℕ) → IsReachable M old → MadeTurns M old new turns got put → IsReachable M new
standing_on M old new turns got put reachable made denied = reachable (λ n given out h. denied (turns + n) (given ++ got) (out ++ put) (made n given out h))

pub made_working : (M : Machine) (old new : State) (turns : ℕ) (got put : List ℕ) → IsReachable M old → MadeTurns M old new turns got put → new.failed ≡ false
made_working M old new turns got put reachable made = certain_false new.failed (λ denied. reachable (λ n given out h. denied (let k = made n given out h in k.works)))

pub made_taken : (M : Machine) (old new : State) (turns : ℕ) (got put : List ℕ) → IsReachable M old → MadeTurns M old new turns got put → new.reading.taken ≡ old.reading.taken + length got
made_taken M old new turns got put reachable made = certain_is new.reading.taken (old.reading.taken + length got) (λ denied. reachable (λ n given out h. denied (taken_by n given out h)))
  where
    taken_by : (n : ℕ) (given out : List ℕ) → TurnInvariant M n given out old → new.reading.taken ≡ old.reading.taken + length got
    taken_by n given out h = let k = made n given out h in omega (arith, k.taken, h.taken, length-append given got)

-- What the turns so far have done, over the source and the sink.
pub record Onward {S K : Type 0} (M : Machine) (gave : S → List ℕ → S → Type 0) (wrote : K → List ℕ → K → Type 0) (s s' : S) (t t' : K) (old new : State) : Type 0 where
  pub turns : ℕ
  pub got : List ℕ
  pub put : List ℕ
  pub source : gave s got s'
  pub sink : wrote t put t'
  pub made : MadeTurns M old new turns got put

module _ {S K : Type 0} (M : Machine) (gave : S → List ℕ → S → Type 0) (wrote : K → List ℕ → K → Type 0) (join : (r s t : S) (xs ys : List ℕ) → gave r xs s → gave s ys t → gave r (xs ++ ys) t) (join' : (r s t : K) (xs ys : List ℕ) → wrote r xs s → wrote s ys t → wrote r (xs ++ ys) t) (r s s' : S) (t u u' : K) (first old new : State) where
  pub onward_more : (turns : ℕ) (got put : List ℕ) → Onward M gave wrote r s t u first old → gave s got s' → wrote u put u' → MadeTurns M old new turns got put → Onward M gave wrote r s' t u' first new
  onward_more turns got put h a b made = record {
    turns = turns + h.turns;
    got = h.got ++ got;
    put = h.put ++ put;
    source = join r s s' h.got got h.source a;
    sink = join' t u u' h.put put h.sink b;
    made = made_then M first old new h.turns turns h.got h.put got put h.made made;
  }

-- A turn after some others was refused.
pub fell_at : (M : Machine) (old mid new : State) (e : RunError) (a : ℕ) (got put more put' : List ℕ) → MadeTurns M old mid a got put → ((n : ℕ) (given out : List ℕ) → TurnInvariant M n given out mid → AfterRefusal M n given more (out ++ put') new e) →
    (n : ℕ) (given out : List ℕ) → TurnInvariant M n given out old → AfterRefusal M (a + n) (given ++ got) more (out ++ (put ++ put')) new e
fell_at M old mid new e a got put more put' made refusal n given out h =
    subst (λ l. AfterRefusal M (a + n) (given ++ got) more l new e) (append_assoc out put put') (refusal (a + n) (given ++ got) (out ++ put) (made n given out h))

pub fell_after : (M : Machine) (old mid new : State) (e : RunError) (a b : ℕ) (got put had more put' : List ℕ) → MadeTurns M old mid a got put → ((n : ℕ) (given out : List ℕ) → TurnInvariant M n given out mid → AfterRefusal M (b + n) (given ++ had) more (out ++ put') new e) →
    (n : ℕ) (given out : List ℕ) → TurnInvariant M n given out old → AfterRefusal M ((b + a) + n) (given ++ (got ++ had)) more (out ++ (put ++ put')) new e
fell_after M old mid new e a b got put had more put' made refusal n given out h =
    let k = refusal (a + n) (given ++ got) (out ++ put) (made n given out h) in
    let same : b + (a + n) ≡ (b + a) + n = omega arith in
    subst (λ t. AfterRefusal M t (given ++ (got ++ had)) more (out ++ (put ++ put')) new e) same
    (subst (λ l. AfterRefusal M (b + (a + n)) l more (out ++ (put ++ put')) new e) (append_assoc given got had)
    (subst (λ l. AfterRefusal M (b + (a + n)) ((given ++ got) ++ had) more l new e) (append_assoc out put put') k))

-- The bytes that wait, and those of them that the source gave.
module _ (M : Machine) (old new : State) (waiting left : List ℕ) (ends ends' : ℕ) (got : List ℕ) (gave : GivesWaiting waiting ends left ends' got) (counted : ends' ≡ ends + end_step false new.reading.at_end) (most : new.reading.max_reads ≡ old.reading.max_reads) where
  -- where the end was answered, all were given
  pub all_given : new.reading.at_end ≡ true → left ≡ []
  all_given is = gave.whole (let one : end_step false new.reading.at_end ≡ 1 = ap (end_step false) is in omega (arith, counted, one))

  -- where no more may be read than there is, the end is not answered
  pub not_ended : old.reading.max_reads ≡ old.reading.taken + length waiting → new.reading.taken ≡ old.reading.taken + length got → new.reading.at_end ≡ false
  not_ended limit taken = elim (cases_Bool new.reading.at_end) [ inl is ↦ absurd (over is) | inr not ↦ not ]
    where
      over : new.reading.at_end ≡ true → ⊥
      over is =
          let none = all_given is in
          let sizes : length waiting ≡ length got + length left = ap length gave.taken ∙ length-append got left in
          let one : bit_of new.reading.at_end ≡ 1 = ap bit_of is in
          omega (arith, limit, taken, most, sizes, ap length none, one, new.reading.few_reads)

-- the end of what was fed, if all of it was given
pub consistent_end : (g rest : List ℕ) (b : Bool) → (b ≡ true → rest ≡ []) → ExtendsGiven g b (g ++ rest)
consistent_end g rest true none = ap (λ l. g ++ l) (none refl) ∙ append-nil g
consistent_end g rest false none = (rest, refl)

-- a text that goes on from more goes on from less
pub begins_less : (x g rest : List ℕ) → BeginsWith x (g ++ rest) → BeginsWith x g
begins_less x g rest (more, is) = (rest ++ more, is ∙ append_assoc g rest more)

-- What a feed leaves.
module _ (M : Machine) (old new : State) (waiting : List ℕ) (fed out : List ℕ) (h : Fed M fed out old waiting) (going : old.ended ≡ None) where
  abbrev pub R : Rules
  R = rules_of_machine M

  -- the bytes fed are those given and those that wait
  fed_is : (got left : List ℕ) → waiting ≡ got ++ left → fed ≡ (h.given ++ got) ++ left
  fed_is got left is = h.all ∙ ap (λ l. h.given ++ l) (h.waits going ∙ is) ∙ sym (append_assoc h.given got left)

  pub fed_on : {S : Type 0} (gave : S → List ℕ → S → Type 0) (mid s' : S) (got put left rest : List ℕ) (e e' e'' : ℕ) (kept : List ℕ) → (p : Pauses M gave mid s' old new got put) → GivesWaiting waiting e left e' got → GivesWaiting left e' rest e'' p.more →
      old.reading.max_reads ≡ old.reading.taken + length waiting → kept ≡ drop (new.reading.taken - old.reading.taken) waiting → AfterFeed M fed (out ++ put) new kept (Ok Turn.Went)
  fed_on gave mid s' got put left rest e e' e'' kept p first second limit dropped =
      let asks = p.asks h.turns h.given out h.invariant in
      let invariant = p.made h.turns h.given out h.invariant in
      let sizes : length waiting ≡ length got + length left = ap length first.taken ∙ length-append got left in
      let sizes' : length left ≡ length p.more + length rest = ap length second.taken ∙ length-append p.more rest in
      let sizes'' : length ((h.given ++ got) ++ p.more) ≡ length (h.given ++ got) + length p.more = length-append (h.given ++ got) p.more in
      let given_size : length (h.given ++ got) ≡ length h.given + length got = length-append h.given got in
      let none : rest ≡ [] = nil_from_length rest (omega (arith, limit, asks.1, sizes, sizes', sizes'', given_size, h.invariant.taken)) in
      let all : left ≡ p.more = second.taken ∙ ap (λ l. p.more ++ l) none ∙ append-nil p.more in
      let size : new.reading.taken - old.reading.taken ≡ length got = omega (arith, invariant.taken, given_size, h.invariant.taken) in (
        record {
          turns = p.turns + h.turns;
          given = h.given ++ got;
          left = left;
          invariant = invariant;
          reading = p.at_end;
          all = fed_is got left first.taken;
          waits = λ _. sym (dropped ∙ ap (λ k. drop k waiting) size ∙ ap (drop (length got)) first.taken ∙ drop-append_seam got left);
        },
        p.going,
        λ _. subst (AsksForMore R (p.turns + h.turns)) (sym (fed_is got left first.taken ∙ ap (λ l. (h.given ++ got) ++ l) all)) asks.0,
      )

  -- the taken bytes, by what was given
  pub taken_of : (turns : ℕ) (got put : List ℕ) → MadeTurns M old new turns got put → new.reading.taken ≡ old.reading.taken + length got
  taken_of turns got put made = let k = made h.turns h.given out h.invariant in omega (arith, k.taken, h.invariant.taken, length-append h.given got)

  pub fallen_of : (turns : ℕ) (got put had more : List ℕ) (e : RunError) → got ≡ had ++ more → AfterRefusal M (turns + h.turns) (h.given ++ had) more (out ++ put) new e → new.reading.taken ≡ old.reading.taken + length got
  fallen_of turns got put had more e is refusal = omega (arith, refusal.taken, h.invariant.taken, length-append (h.given ++ had) more, length-append h.given had, length-append had more, ap length is)

  -- where the run goes on from all that was given
  run_of : (turns status : ℕ) (got put : List ℕ) (b : Bool) (x : List ℕ) → MadeTurns M old new turns got put → new.ended ≡ Some status → new.reading.at_end ≡ b → IsText x → ExtendsGiven (h.given ++ got) b x → Run R x (out ++ put) (Status status)
  run_of turns status got put b x made ended reading text goes =
      let invariant = made h.turns h.given out h.invariant in
      let last : Scan.State = state_of (out ++ put) invariant.start new in
      run_by R x (out ++ put) (Status status) (turns + h.turns) last (turns_of _ _ _ _ _ (invariant.scanned x (text, subst (λ e. ExtendsGiven (h.given ++ got) e x) (sym reading) goes))) refl (ap ending_of ended)

  pub fed_ended : (turns status : ℕ) (got put left kept : List ℕ) → MadeTurns M old new turns got put → new.ended ≡ Some status → new.reading.at_end ≡ false → waiting ≡ got ++ left → AfterFeed M fed (out ++ put) new kept (Ok (Turn.Ended status))
  fed_ended turns status got put left kept made ended reading is = (
    record {
      turns = turns + h.turns;
      given = h.given ++ got;
      left = left;
      invariant = made h.turns h.given out h.invariant;
      reading = reading;
      all = fed_is got left is;
      waits = λ none. absurd (over (sym none ∙ ended));
    },
    ended,
    λ x text begins. run_of turns status got put false x made ended reading text (begins_less x (h.given ++ got) left (subst (BeginsWith x) (fed_is got left is) begins)),
  )
    where
      over : ◌≡◌ {A = Option ℕ} None (Some status) → ⊥
      over e = cc

  -- what the source gave in the refused turn follows what it gave before
  all_fed : (got had more left : List ℕ) → got ≡ had ++ more → waiting ≡ got ++ left → fed ≡ ((h.given ++ had) ++ more) ++ left
  all_fed got had more left is waits = fed_is got left waits ∙ ap (λ l. (h.given ++ l) ++ left) is ∙ ap (λ l. l ++ left) (sym (append_assoc h.given had more))

  module _ (turns : ℕ) (got put had more left : List ℕ) (e : RunError) (is : got ≡ had ++ more) (waits : waiting ≡ got ++ left) (refusal : AfterRefusal M (turns + h.turns) (h.given ++ had) more (out ++ put) new e) where
    pub fed_refused : (kept : List ℕ) → new.reading.at_end ≡ false → AfterFeed M fed (out ++ put) new kept (Err e)
    fed_refused kept reading = (
      λ x text begins. refusal.refused_turn.front x (goes x text begins),
      λ fault x text begins. (let ran = refusal.fault fault in (ran.turns, ran.place, (turns_of _ _ _ _ _ (ran.scanned x (goes x text begins))))),
    )
      where
        goes : (x : List ℕ) → IsText x → BeginsWith x fed → Consistent ((h.given ++ had) ++ more) new.reading.at_end x
        goes x text begins = (text, subst (λ b. ExtendsGiven ((h.given ++ had) ++ more) b x) (sym reading) (begins_less x ((h.given ++ had) ++ more) left (subst (BeginsWith x) (all_fed got had more left is waits) begins)))

    pub end_refused : (new.reading.at_end ≡ true → left ≡ []) → AfterFinish R fed (out ++ put) (Err e)
    end_refused none text = (refusal.refused_turn.front fed goes, λ fault. (let ran = refusal.fault fault in (ran.turns, ran.place, (turns_of _ _ _ _ _ (ran.scanned fed goes)))))
      where
        goes : Consistent ((h.given ++ had) ++ more) new.reading.at_end fed
        goes = (text, subst (ExtendsGiven ((h.given ++ had) ++ more) new.reading.at_end) (sym (all_fed got had more left is waits)) (consistent_end ((h.given ++ had) ++ more) left new.reading.at_end none))

  pub end_reached : (turns status : ℕ) (got put left : List ℕ) → MadeTurns M old new turns got put → new.ended ≡ Some status → (new.reading.at_end ≡ true → left ≡ []) → waiting ≡ got ++ left → AfterFinish R fed (out ++ put) (Ok status)
  end_reached turns status got put left made ended none is text =
      run_of turns status got put new.reading.at_end fed made ended refl text (subst (ExtendsGiven (h.given ++ got) new.reading.at_end) (sym (fed_is got left is)) (consistent_end (h.given ++ got) left new.reading.at_end none))

-- As many reads are allowed as there are bytes and an end: no turn asks for more.
pub never_open : {S : Type 0} (M : Machine) (gave : S → List ℕ → S → Type 0) (mid s' : S) (old new : State) (waiting got put left rest : List ℕ) (e e' e'' : ℕ) → IsReachable M old → (p : Pauses M gave mid s' old new got put) → GivesWaiting waiting e left e' got → GivesWaiting left e' rest e'' p.more →
    old.reading.max_reads ≡ old.reading.taken + length waiting + 1 → ⊥
never_open M gave mid s' old new waiting got put left rest e e' e'' reachable p first second limit = reachable over
  where
    over : (n : ℕ) (given out : List ℕ) → TurnInvariant M n given out old → ⊥
    over n given out h =
        let asks = p.asks n given out h in
        omega (arith, limit, asks.1, h.taken, ap length first.taken, length-append got left, ap length second.taken, length-append p.more rest, length-append (given ++ got) p.more, length-append given got)

-- a state with another limit
pub stands_limit : (M : Machine) (n : ℕ) (given out : List ℕ) (s : State) (most : ℕ) (few : s.reading.taken + bit_of s.reading.at_end ≤ most) → TurnInvariant M n given out s → TurnInvariant M n given out (record s { reading = record s.reading { max_reads = most; few_reads = few } })
stands_limit M n given out s most few h = record { works = h.works; start = h.start; scanned = h.scanned; text = h.text; covered = h.covered; held = h.held; line = h.line; taken = h.taken }

pub standing_limit : (M : Machine) (s : State) (most : ℕ) (few : s.reading.taken + bit_of s.reading.at_end ≤ most) → IsReachable M s → IsReachable M (record s { reading = record s.reading { max_reads = most; few_reads = few } })
standing_limit M s most few reachable denied = reachable (λ n given out h. denied n given out (stands_limit M n given out s most few h))

pub fed_limit : (M : Machine) (fed out : List ℕ) (s : State) (waiting : List ℕ) (most : ℕ) (few : s.reading.taken + bit_of s.reading.at_end ≤ most) → Fed M fed out s waiting → Fed M fed out (record s { reading = record s.reading { max_reads = most; few_reads = few } }) waiting
fed_limit M fed out s waiting most few h = record { turns = h.turns; given = h.given; left = h.left; invariant = stands_limit M h.turns h.given out s most few h.invariant; reading = h.reading; all = h.all; waits = h.waits }

-- Some bytes more are fed, and wait.
pub fed_more : (M : Machine) (fed out : List ℕ) (s : State) (waiting piece waiting' : List ℕ) → Fed M fed out s waiting → waiting' ≡ waiting ++ piece → Fed M (fed ++ piece) out s waiting'
fed_more M fed out s waiting piece waiting' h is = record {
  turns = h.turns;
  given = h.given;
  left = h.left ++ piece;
  invariant = h.invariant;
  reading = h.reading;
  all = ap (λ l. l ++ piece) h.all ∙ append_assoc h.given h.left piece;
  waits = λ none. ap (λ l. l ++ piece) (h.waits none) ∙ sym is;
}

-- what was written so far, whatever follows
module _ (M : Machine) (fed out : List ℕ) (s : State) (waiting : List ℕ) (h : Fed M fed out s waiting) where
  goes_on : (piece x : List ℕ) → IsText x → BeginsWith x (fed ++ piece) → Consistent h.given s.reading.at_end x
  goes_on piece x text begins =
      let all : fed ++ piece ≡ h.given ++ (h.left ++ piece) = ap (λ l. l ++ piece) h.all ∙ append_assoc h.given h.left piece in
      (text, subst (λ b. ExtendsGiven h.given b x) (sym h.reading) (begins_less x h.given (h.left ++ piece) (subst (BeginsWith x) all begins)))

  pub fed_first : (piece : List ℕ) → WritesFirst (rules_of_machine M) (fed ++ piece) (out ++ [])
  fed_first piece x text begins w ending run = subst (BeginsWith w) (sym (append-nil out)) (run_begins (rules_of_machine M) x h.turns (state_of out h.invariant.start s) w ending (turns_of _ _ _ _ _ (h.invariant.scanned x (goes_on piece x text begins))) run)

  pub fed_runs : (piece : List ℕ) (status : ℕ) → s.ended ≡ Some status → RunsTo (rules_of_machine M) (fed ++ piece) (out ++ []) (Status status)
  fed_runs piece status ended x text begins =
      run_by (rules_of_machine M) x (out ++ []) (Status status) h.turns (state_of out h.invariant.start s) (turns_of _ _ _ _ _ (h.invariant.scanned x (goes_on piece x text begins))) (sym (append-nil out)) (ap ending_of ended)

  pub fed_over : (piece : List ℕ) (status : ℕ) → s.ended ≡ Some status → AfterFeed M (fed ++ piece) (out ++ []) s waiting (Ok (Turn.Ended status))
  fed_over piece status ended = (
    record {
      turns = h.turns;
      given = h.given;
      left = h.left ++ piece;
      invariant = subst (λ l. TurnInvariant M h.turns h.given l s) (sym (append-nil out)) h.invariant;
      reading = h.reading;
      all = ap (λ l. l ++ piece) h.all ∙ append_assoc h.given h.left piece;
      waits = λ none. absurd (over (sym none ∙ ended));
    },
    ended,
    fed_runs piece status ended,
  )
    where
      over : ◌≡◌ {A = Option ℕ} None (Some status) → ⊥
      over e = cc

  pub end_first : IsText fed → (w : List ℕ) (ending : Ending) → Run (rules_of_machine M) fed w ending → BeginsWith w (out ++ [])
  end_first text = fed_first [] fed text ([], sym (append-nil (fed ++ []) ∙ append-nil fed))

  pub end_runs : (status : ℕ) → s.ended ≡ Some status → IsText fed → Run (rules_of_machine M) fed (out ++ []) (Status status)
  end_runs status ended text = fed_runs [] status ended fed text ([], sym (append-nil (fed ++ []) ∙ append-nil fed))

-- a walk over bytes, and then over others
pub goes_further : (M : Machine) (first mid last : ℕ) (v w : List ℕ) → WalkStaysLive M first v mid → WalkStaysLive M mid w last → WalkStaysLive M first (v ++ w) last
goes_further M first mid last v w (at, goes) (at', goes') = (at' ∙ ap (λ s. walk M s w) at ∙ sym (walk-append M first v w), over)
  where
    over : (i : ℕ) → 1 ≤ i → i ≤ length (v ++ w) → M.goes_on (walk M first (take i (v ++ w))) ≡ true
    over i some le = elim (cases_lt (length v) i) [
      | inr few ↦ ap (λ l. M.goes_on (walk M first l)) (take-append-le i v w few) ∙ goes i some few
      | inl more ↦ (let size : length (v ++ w) ≡ length v + length w = length-append v w in
          let e : i ≡ length v + (i - length v) = omega (arith, more) in
          let split : take i (v ++ w) ≡ v ++ take (i - length v) w = ap (λ k. take k (v ++ w)) e ∙ take_past v w (i - length v) in
          ap (λ l. M.goes_on (walk M first l)) split ∙ ap M.goes_on (walk-append M first v (take (i - length v) w) ∙ ap (λ s. walk M s (take (i - length v) w)) (sym at)) ∙ goes' (i - length v) (omega (arith, more)) (omega (arith, le, size)))
    ]

-- The match that asks for all the bytes asks for a piece more.
pub asking_more : (M : Machine) (s : State) (waiting piece waiting' : List ℕ) (first last : ℕ) → s.place.at ≤ length s.reading.window.bytes → waiting' ≡ waiting ++ piece →
    WalkStaysLive M (M.start s.place.condition s.place.line_start) (drop s.place.at (s.reading.window.bytes ++ waiting)) first → WalkStaysLive M first piece last →
    WalkStaysLive M (M.start s.place.condition s.place.line_start) (drop s.place.at (s.reading.window.bytes ++ waiting')) last
asking_more M s waiting piece waiting' first last inside is h k =
    let w : List ℕ = s.reading.window.bytes in
    let size : length (w ++ waiting) ≡ length w + length waiting = length-append w waiting in
    let all : drop s.place.at (w ++ waiting') ≡ drop s.place.at (w ++ waiting) ++ piece = ap (λ l. drop s.place.at (w ++ l)) is ∙ ap (drop s.place.at) (sym (append_assoc w waiting piece)) ∙ drop-append-le s.place.at (w ++ waiting) piece (omega (arith, inside, size)) in
    subst (λ l. WalkStaysLive M (M.start s.place.condition s.place.line_start) l last) (sym all) (goes_further M (M.start s.place.condition s.place.line_start) first last (drop s.place.at (w ++ waiting)) piece h k)

-- Where the match goes on over all the bytes, the next turn asks for more.
pub asks_still : (M : Machine) → MachineLaws M → (fed out : List ℕ) (s : State) (waiting : List ℕ) (last : ℕ) (h : Fed M fed out s waiting) → s.ended ≡ None → s.place.at ≤ length s.reading.window.bytes →
    WalkStaysLive M (M.start s.place.condition s.place.line_start) (drop s.place.at (s.reading.window.bytes ++ waiting)) last → IsText fed → AsksForMore (rules_of_machine M) h.turns fed
asks_still M laws fed out s waiting last h going inside goes text t asked after =
    let k = h.invariant in
    let w : List ℕ = s.reading.window.bytes ++ waiting in
    let size : length w ≡ length s.reading.window.bytes + length waiting = length-append s.reading.window.bytes waiting in
    let all : fed ≡ h.given ++ waiting = h.all ∙ ap (λ l. h.given ++ l) (h.waits going) in
    let win : drop k.start (h.given ++ waiting) ≡ w = drop-append-le k.start h.given waiting (omega (arith, k.covered)) ∙ ap (λ l. l ++ waiting) (sym k.held) in
    let reading : Reading = record s.reading { window = record s.reading.window { bytes = w } } in
    let left : length (drop s.place.at w) ≡ length w - s.place.at = length-drop s.place.at w in
    let wants : Wants M s.place reading = record { inside = omega (arith, inside, size); asked = λ i some le. goes.1 i some (omega (arith, left, le)); reading = h.reading } in
    let more : WantsMore (rules_of_machine M) (h.given ++ waiting) (record { start = k.start; at = k.start + s.place.at; condition = s.place.condition; stack = s.acting.stack }) =
    wants_here M laws h.given waiting k.start s.place s.acting.stack w k.covered win k.line reading refl wants in
    let turns = (turns_of _ _ _ _ _ (k.scanned fed (text, subst (λ b. ExtendsGiven h.given b fed) (sym h.reading) (waiting, all)))) in
    wanted_end (rules_of_machine M) fed h.turns (state_of out k.start s) t asked turns (ap ending_of going) (subst (λ l. WantsMore (rules_of_machine M) l (record { start = k.start; at = k.start + s.place.at; condition = s.place.condition; stack = s.acting.stack })) (sym all) more) after

-- what two walks tell, and one more
pub asking_all : (M : Machine) (states : ℕ) (s : State) (waiting : List ℕ) (held : ℕ) (o : Option ℕ) → s.place.at ≤ length s.reading.window.bytes → WalkStaysLive M (M.start s.place.condition s.place.line_start) (drop s.place.at s.reading.window.bytes) held →
    IfSome o (λ last. last < states) → IfSome o (WalkStaysLive M held waiting) → IsAsking M states s waiting o
asking_all M states s waiting held None inside h known k = tt
asking_all M states s waiting held (Some last) inside h known k = (
  known,
  subst (λ l. WalkStaysLive M (M.start s.place.condition s.place.line_start) l last) (sym (drop-append-le s.place.at s.reading.window.bytes waiting inside)) (goes_further M (M.start s.place.condition s.place.line_start) held last (drop s.place.at s.reading.window.bytes) waiting h k),
)

pub asking_on : (M : Machine) (states : ℕ) (s : State) (waiting piece waiting' : List ℕ) (asking : Option ℕ) (last : ℕ) → s.place.at ≤ length s.reading.window.bytes → waiting' ≡ waiting ++ piece → IsAsking M states s waiting asking → last < states → WalksOn M asking piece last → IsAsking M states s waiting' (Some last)
asking_on M states s waiting piece waiting' None last inside is h known k = absurd k
asking_on M states s waiting piece waiting' (Some first) last inside is h known k = (known, asking_more M s waiting piece waiting' first last inside is h.1 k)

-- Some bytes more wait, and the next turn asks for more.
pub fed_quiet : (M : Machine) → MachineLaws M → (states : ℕ) (fed out : List ℕ) (s : State) (waiting piece waiting' : List ℕ) (last : ℕ) → Fed M fed out s waiting → waiting' ≡ waiting ++ piece → s.ended ≡ None → s.place.at ≤ length s.reading.window.bytes → IsAsking M states s waiting' (Some last) →
    AfterFeed M (fed ++ piece) (out ++ []) s waiting' (Ok Turn.Went)
fed_quiet M laws states fed out s waiting piece waiting' last h is going inside asking =
    let more : Fed M (fed ++ piece) (out ++ []) s waiting' = fed_more M fed (out ++ []) s waiting piece waiting' (subst (λ l. Fed M fed l s waiting) (sym (append-nil out)) h) is in
    (more, going, asks_still M laws (fed ++ piece) (out ++ []) s waiting' last more going inside asking.1)
