-- Tokens that are asked for one by one.
use Rattle.std.proofs.Common.{◌≡◌, ℕ, suc, ◌+◌, ◌-◌, ◌≤◌, ◌<◌, ◌⊎◌, inl, inr, Bool, true, false, List, [], ◌∷◌, ◌++◌, length, take, drop, Option, Some, None, Ok, Err, refl, sym, ◌∙◌, ap, subst, append_assoc, append-nil, length-append, arith}
use Rattle.std.specs.Prelude.{Result, IfErr, OnErr, IsErrOf}
use Rattle.std.specs.Prelude.{IfSome, is_some}
use Rattle.std.proofs.lemmas.List.{nil_from_length, length-drop, take_all, drop-drop, drop-append-le, drop_all}
use Rattle.std.proofs.Math.Seq.{drop-append_seam}
use Rattle.lex_semantics.specs.Text.{IsText, BeginsWith, part}
use Rattle.lex_semantics.specs.ByteSets.{bit_of}
use Rattle.lex_semantics.specs.Rules.{Rules}
use Rattle.lex_semantics.specs.Acting.{Status, StackFault}
use Rattle.lex_semantics.specs.Demand.{Consistent, ExtendsGiven, answers}
use Rattle.lex_semantics.specs.Machine.{Machine, rules_of_machine}
use Rattle.lex_semantics.specs.MachineLaws.{MachineLaws}
use Rattle.lex_semantics.specs.Run as Scan
use Rattle.lex_semantics.specs.Run.{Place, Turns, NextFrom}
use Rattle.lex_semantics.proofs.After.{turns_of}
use Rattle.lex_semantics.proofs.Once.{one_state}
use Rattle.lex_semantics.proofs.Texts.{part_front, is_text_append}
use Rattle.lex_io.specs.Source.{Gives}
use Rattle.lexscan_window.specs.Window.{last_of}
use Rattle.lexscan_window.specs.Reads.{end_step, read_fault_count, write_fault_count}
use Rattle.lexscan_window.specs.declared.matched.Match.{Match}
use Rattle.lexscan_window.specs.declared.state.State.{State}
use Rattle.lexscan_window.specs.declared.error.RunError.{RunError}
use Rattle.lexscan_window.specs.declared.error.RunError.TheVariants.{Read, TooManyReads, Write, OutOfMemory, Stack, Failed}
use Rattle.lexscan_matching.specs.Descends.{ending_of}
use Rattle.lexscan.specs.Matches.{match_in, text_of, MatchedBy, TellsMatch}
use Rattle.lexscan_window.specs.Places.{kept_before}
use Rattle.lexscan.specs.Scans.{ScanInvariant}
use Rattle.lexscan.specs.TurnInvariants.{TurnInvariant, AfterRefusal, RunCompleted, NoneAfterEnd, TurnPreserves, state_of}
use Rattle.lexscan.specs.Pushes.{AsksForMore, IsReachable, StaysBefore, AttemptsTo, Fed, IsAsking, WalksOn}
use Rattle.lexscan.specs.Tokens.{token_by, Appends, IsToken}
use Rattle.lex_io.specs.declared.source.Source as Source
use Rattle.lex_io.specs.declared.sink.Sink as Sink
use Rattle.lexscan.specs.declared.scan.Ends.{Ends}
use Rattle.lexscan.specs.Attempts.{MayGoOn}
use Rattle.lexscan.specs.Pulls.{TokensTold, TokenisedSo, StoppedSo, WantsPiece, TurnedOver}
use Rattle.lexscan.specs.declared.scan.Scan.{Scan as ScanParts}
use Rattle.lexscan.specs.declared.turn.Turn.{Turn}
use Rattle.lexscan.specs.declared.token.Token.{Token}
use Rattle.lexscan.proofs.Refusing.{earlier, just_these}
use Rattle.lexscan.proofs.Pushing.{begins_less, stands_limit, asks_still, asking_on, made_one, made_taken, standing_on}
use Rattle.lexscan.proofs.SoFar.{same_part}

-- what a flag is
told_true : (b : Bool) → 1 ≤ bit_of b → b ≡ true
told_true true h = refl
told_true false h = absurd (omega (arith, h))

told_false : (b : Bool) → bit_of b ≡ 0 → b ≡ false
told_false false h = refl
told_false true h = absurd (omega (arith, h))

false_unless : (b : Bool) → (b ≡ true → ⊥) → b ≡ false
false_unless false never = refl
false_unless true never = absurd (never refl)

not_both : false ≡ true → ⊥
not_both e = cc

pub not_ended : (b : Bool) → b ≡ false → b ≡ true → ⊥
not_ended b before after = not_both (sym before ∙ after)

pub has_ended : (o : Option ℕ) (status : ℕ) → o ≡ Some status → o ≡ None → ⊥
has_ended o status is none = let e = sym none ∙ is in cc

-- an input that goes on from all that was fed goes on from what was given
pub goes_on : (fed given left : List ℕ) (told at_end : Bool) (x : List ℕ) → fed ≡ given ++ left → (at_end ≡ true → (told ≡ true) × (left ≡ [])) → ExtendsGiven fed told x → ExtendsGiven given at_end x
goes_on fed given left told true x all ending h =
    let e = ending refl in
    let whole : x ≡ fed = subst (λ b. ExtendsGiven fed b x) e.0 h in
    whole ∙ all ∙ ap (λ l. given ++ l) e.1 ∙ append-nil given
goes_on fed given left told false x all ending h = front told h
  where
    front : (b : Bool) → ExtendsGiven fed b x → BeginsWith x given
    front true k = (left, k ∙ all)
    front false k = (left ++ k.0, k.1 ∙ ap (λ l. l ++ k.0) all ∙ append_assoc given left k.0)

-- What is left where the source gave the first of the bytes, and its end only after all.
left_over : (waiting a b got : List ℕ) (e e' : ℕ) → a ≡ waiting → Gives (Some a) (Some b) e e' got → waiting ≡ got ++ b
left_over waiting a b got e e' is gave = sym is ∙ gave.taken

nothing_left : (waiting a b got : List ℕ) (e e' : ℕ) (before after : Bool) → a ≡ waiting → Gives (Some a) (Some b) e e' got → e' ≡ e + end_step before after → before ≡ false → after ≡ true → b ≡ []
nothing_left waiting a b got e e' before after is gave counted was now =
    let one : end_step before after ≡ 1 = ap (λ z. end_step z after) was ∙ ap (end_step false) now in
    let all : a ≡ got = gave.whole (omega (arith, counted, one)) in
    let taken : a ≡ got ++ b = gave.taken in
    nil_from_length b (omega (arith, ap length all, ap length taken, length-append got b))

-- over memory a turn is refused for memory, or by the stack
pub only_these : (r : Result (Option Turn) RunError) → 0 ≡ 0 + read_fault_count r → 0 ≡ 0 + write_fault_count r → (IsErrOf r TooManyReads → ⊥) → (IsErrOf r Failed → ⊥) → IfErr r (λ e. (e ≡ OutOfMemory) ⊎ (e ≡ Stack))
only_these (Ok turn) reads writes many failed = tt
only_these (Err Read) reads writes many failed = absurd (omega (arith, reads))
only_these (Err Write) reads writes many failed = absurd (omega (arith, writes))
only_these (Err TooManyReads) reads writes many failed = absurd (many refl)
only_these (Err Failed) reads writes many failed = absurd (failed refl)
only_these (Err OutOfMemory) reads writes many failed = inl refl
only_these (Err Stack) reads writes many failed = inr refl

pub has_failed : {S K : Type 0} {of_source : Source.Ghosts S} {of_sink : Sink.Ghosts K} (M : Machine) (e : Ends S K of_source of_sink) (s : ScanParts) (r : Result (Option Turn) RunError) → MayGoOn M e s r → OnErr r (s.state.failed ≡ true)
has_failed M e s (Ok None) h = tt
has_failed M e s (Ok (Some turn)) h = tt
has_failed M e s (Err error) h = h

pub turned_over : (M : Machine) (waiting a b got put : List ℕ) (e e' : ℕ) (old new : ScanParts) (r : Result (Option Turn) RunError) → a ≡ waiting → Gives (Some a) (Some b) e e' got → e' ≡ e + end_step old.state.reading.at_end new.state.reading.at_end →
    NoneAfterEnd old.state new.state got → AttemptsTo M old.state new.state got put r → new.state.reading.max_reads ≡ old.state.reading.max_reads → IfErr r (λ e. (e ≡ OutOfMemory) ⊎ (e ≡ Stack)) → OnErr r (new.state.failed ≡ true) → ScanInvariant M new →
    (left : List ℕ) × TurnedOver M waiting left old new r
turned_over M waiting a b got put e e' old new r is gave counted none attempts most refusals failed kept = (
  b,
  record {
    got = got;
    put = put;
    all = left_over waiting a b got e e' is gave;
    none = none;
    ending = nothing_left waiting a b got e e' old.state.reading.at_end new.state.reading.at_end is gave counted;
    attempts = attempts;
    max_reads = most;
    refusals = refusals;
    failed = failed;
    kept = kept;
  },
)

-- A turn that was made: the bytes that it asked for, and the next place among those that wait.
module _ (M : Machine) (waiting left : List ℕ) (old new : ScanParts) (turn : Turn) (t : TurnedOver M waiting left old new (Ok (Some turn))) (reachable : IsReachable M old.state) where
  pub asked_for : new.state.reading.taken ≡ old.state.reading.taken + length t.got
  asked_for = made_taken M old.state new.state 1 t.got t.put reachable (made_one M old.state new.state t.got t.put (t.attempts).1)

  pub still_reachable : IsReachable M new.state
  still_reachable = standing_on M old.state new.state 1 t.got t.put reachable (made_one M old.state new.state t.got t.put (t.attempts).1)

  pub some_asked : length waiting ≡ length t.got + length left
  some_asked = ap length t.all ∙ length-append t.got left

pub moved_on : (all waiting got left : List ℕ) (from asked : ℕ) → waiting ≡ drop from all → waiting ≡ got ++ left → asked ≡ length got → drop (from + asked) all ≡ left
moved_on all waiting got left from asked is split size =
    let swap : from + asked ≡ asked + from = omega arith in
    sym (drop-drop asked from all) ∙ ap (drop asked) (sym is) ∙ ap (λ n. drop n waiting) size ∙ ap (drop (length got)) split ∙ drop-append_seam got left

-- a turn that was given up
pub stays_reachable : (M : Machine) (old new : State) (got : List ℕ) → IsReachable M old → StaysBefore M old new got → IsReachable M new
stays_reachable M old new got reachable stays denied = reachable (λ n given out h. denied n given out (stays n given out h).0)

-- A turn that goes on tells a match: only the end action tells none, and it ends the scan.
ends_there : (R : Rules) (g : List ℕ) (s t : Scan.State) → s.place.at ≡ length g → t.ended ≡ None → NextFrom R g s None t → ⊥
ends_there R g s t at going (u, inl m, is) = absurd (omega (arith, at, m.before_end))
ends_there R g s t at going (u, inr m, is) =
    let e = sym going ∙ ap (λ (z : Scan.State). z.ended) is ∙ ap (λ (z : Scan.State). z.ended) m.leaves in cc

goes_by_match : (M : Machine) (n : ℕ) (given got out put : List ℕ) (old new : State) → old.ended ≡ None → TurnInvariant M n given out old → TurnPreserves M old new got put (Ok Turn.Went) → NoneAfterEnd old new got → match_in new ≡ None → ⊥
goes_by_match M n given got out put old new going h k none is =
    let g : List ℕ = given ++ got in
    let R : Rules = rules_of_machine M in
    let invariant = k.1 n given out h in
    let consistent : Consistent g new.reading.at_end g = (invariant.text, just_these g new.reading.at_end) in
    let s : Scan.State = state_of out h.start old in
    let t : Scan.State = state_of (out ++ put) invariant.start new in
    let before : Turns R g n s = (turns_of _ _ _ _ _ (h.scanned g (invariant.text, earlier given got old.reading.at_end new.reading.at_end g (λ e. (none e).0) (λ e. (none e).1) consistent.1))) in
    let after : Turns R g (suc n) t = turns_of R g (suc n) t (answers g new.reading.at_end) (invariant.scanned g consistent) in
    let tells : TellsMatch R g new.reading.at_end s.place None (text_of None new) = subst (λ o. TellsMatch R g new.reading.at_end s.place o (text_of o new)) is (k.2 going n given out h) in
    let one : after.0 ≡ s = one_state R g n after.0 s after.1 before in
    let next : NextFrom R g s None t = subst (λ e. NextFrom R g s e t) (ap ending_of going) (subst (λ (z : Scan.State). NextFrom R g z z.ended t) one after.2) in
    ends_there R g s t (tells g consistent) (ap ending_of k.0) next

pub never_none : (M : Machine) (old new : State) (got put : List ℕ) → IsReachable M old → old.ended ≡ None → TurnPreserves M old new got put (Ok Turn.Went) → NoneAfterEnd old new got → match_in new ≡ None → ⊥
never_none M old new got put reachable going k none is = reachable (λ n given out h. goes_by_match M n given got out put old new going h k none is)

-- After the end they are all.
pub ended_all : (M : Machine) (fed : List ℕ) (told : Bool) (tokens : List Token) (s : State) (waiting : List ℕ) (status : ℕ) → TokensTold M fed told tokens s waiting → s.ended ≡ Some status → TokenisedSo (rules_of_machine M) fed told tokens (Status status)
ended_all M fed told tokens s waiting status h over x c = record {
  turns = h.turns;
  last = state_of h.out h.invariant.start s;
  reached = (turns_of _ _ _ _ _ (h.invariant.scanned x (c.0, goes_on fed h.given h.left told s.reading.at_end x h.all h.ending c.1)));
  ends = ap ending_of over;
  tokens = h.tokens_are x c;
}

-- One turn more.
module _ (M : Machine) (fed : List ℕ) (told : Bool) (tokens : List Token) (old new : State) (waiting got left put : List ℕ) (h : TokensTold M fed told tokens old waiting) (going : old.ended ≡ None) (all : waiting ≡ got ++ left)
    (none : NoneAfterEnd old new got) (ends : old.reading.at_end ≡ false → new.reading.at_end ≡ true → left ≡ []) (most : new.reading.max_reads ≡ old.reading.max_reads) where
  abbrev R : Rules
  R = rules_of_machine M

  abbrev place : Place
  place = (state_of h.out h.invariant.start old).place

  fed_is : fed ≡ (h.given ++ got) ++ left
  fed_is = h.all ∙ ap (λ l. h.given ++ l) ((h.waits going).0 ∙ all) ∙ sym (append_assoc h.given got left)

  sizes : length fed ≡ length (h.given ++ got) + length left
  sizes = ap length fed_is ∙ length-append (h.given ++ got) left

  limit : new.reading.max_reads ≡ length fed + bit_of told
  limit = most ∙ (h.waits going).1

  -- the end is answered only after all, and where it was told
  ending : new.reading.taken ≡ length (h.given ++ got) → new.reading.at_end ≡ true → (told ≡ true) × (left ≡ [])
  ending taken is = from old.reading.at_end refl
    where
      from : (b : Bool) → old.reading.at_end ≡ b → (told ≡ true) × (left ≡ [])
      from true e =
          let k = h.ending e in
          let empty : waiting ≡ [] = sym (h.waits going).0 ∙ k.1 in
          (k.0, nil_from_length left (omega (arith, ap length empty, ap length all, length-append got left)))
      from false e =
          let nothing = ends e is in
          let one : bit_of new.reading.at_end ≡ 1 = ap bit_of is in
          let few : new.reading.taken + bit_of new.reading.at_end ≤ new.reading.max_reads = new.reading.few_reads in
          (told_true told (omega (arith, few, one, limit, taken, sizes, ap length nothing)), nothing)

  before : (x : List ℕ) → Consistent fed told x → Turns R x h.turns (state_of h.out h.invariant.start old)
  before x c = (turns_of _ _ _ _ _ (h.invariant.scanned x (c.0, goes_on fed h.given h.left told old.reading.at_end x h.all h.ending c.1)))

  -- it was made
  module _ (turn : Turn) (k : TurnPreserves M old new got put (Ok turn)) where
    invariant : TurnInvariant M (suc h.turns) (h.given ++ got) (h.out ++ put) new
    invariant = k.1 h.turns h.given h.out h.invariant

    consistent : (x : List ℕ) → Consistent fed told x → Consistent (h.given ++ got) new.reading.at_end x
    consistent x c = (c.0, goes_on fed (h.given ++ got) left told new.reading.at_end x fed_is (ending invariant.taken) c.1)

    made : (tokens' : List Token) (waiting' : List ℕ) → ((x : List ℕ) → Consistent fed told x → Appends R x place tokens tokens') → waiting' ≡ left → TokensTold M fed told tokens' new waiting'
    made tokens' waiting' appends waits = record {
      turns = suc h.turns;
      given = h.given ++ got;
      left = left;
      out = h.out ++ put;
      text = h.text;
      invariant = invariant;
      all = fed_is;
      ending = ending invariant.taken;
      waits = λ _. (sym waits, limit);
      tokens_are = λ x c. (state_of h.out h.invariant.start old, tokens, before x c, ap ending_of going, h.tokens_are x c, appends x c);
    }

    -- its match is the next token
    module _ (m : Match) (is : match_in new ≡ Some m) where
      tells : MatchedBy R (h.given ++ got) new.reading.at_end place m (text_of (Some m) new)
      tells = subst (λ o. TellsMatch R (h.given ++ got) new.reading.at_end place o (text_of o new)) is (k.2 going h.turns h.given h.out h.invariant)

      token : (x : List ℕ) → Consistent fed told x → IsToken R x place (token_by m old.place.condition)
      token x c =
          let t = tells in
          record {
            taken = t.taken;
            outcome = t.outcome;
            carries = t.carries x (consistent x c);
            rule_is = t.rule_is;
            start_is = t.start_is;
            end_is = ap (λ a. a + m.length) t.start_is ∙ ap (λ b. h.invariant.start + b) t.length_is;
            condition_is = refl;
            text_is = same_part x (h.given ++ got) new.reading.at_end m.start (m.start + m.length) (consistent x c).1 t.inside ∙ t.part_is;
          }

      pub token_more : (waiting' : List ℕ) → waiting' ≡ left → TokensTold M fed told (tokens ++ token_by m old.place.condition ∷ []) new waiting'
      token_more waiting' waits = made (tokens ++ token_by m old.place.condition ∷ []) waiting' (λ x c. inl (token_by m old.place.condition, token x c, refl)) waits

      pub token_text : last_of m.length (kept_before new) ≡ part fed m.start (m.start + m.length)
      token_text =
          let t = tells in
          t.text_is ∙ sym t.part_is ∙ sym (part_front (h.given ++ got) left m.start (m.start + m.length) t.inside) ∙ ap (λ l. part l m.start (m.start + m.length)) (sym fed_is)

    -- it tells no match
    pub none_more : (waiting' : List ℕ) → match_in new ≡ None → waiting' ≡ left → TokensTold M fed told tokens new waiting'
    none_more waiting' is waits = made tokens waiting' (λ x c. inr (at_end x c, refl)) waits
      where
        at_end : (x : List ℕ) → Consistent fed told x → place.at ≡ length x
        at_end x c =
            let t : TellsMatch R (h.given ++ got) new.reading.at_end place None (text_of None new) = subst (λ o. TellsMatch R (h.given ++ got) new.reading.at_end place o (text_of o new)) is (k.2 going h.turns h.given h.out h.invariant) in
            t x (consistent x c)

  -- it was given up
  pub wants_piece : (waiting' : List ℕ) → StaysBefore M old new got → new.ended ≡ None → new.reading.at_end ≡ false → waiting' ≡ waiting → WantsPiece M fed told tokens new waiting'
  wants_piece waiting' stays still reading waits =
      let k = stays h.turns h.given h.out h.invariant in
      let size : length (h.given ++ got) ≡ old.reading.max_reads = k.2 in
      let nothing : left ≡ [] = nil_from_length left (omega (arith, size, sizes, (h.waits going).1)) in
      let whole : fed ≡ h.given ++ got = fed_is ∙ ap (λ l. (h.given ++ got) ++ l) nothing ∙ append-nil (h.given ++ got) in (
        record {
          turns = h.turns;
          given = h.given;
          left = h.left;
          out = h.out;
          text = h.text;
          invariant = k.0;
          all = h.all;
          ending = λ is. absurd (not_both (sym reading ∙ is));
          waits = λ _. ((h.waits going).0 ∙ sym waits, limit);
          tokens_are = h.tokens_are;
        },
        told_false told (omega (arith, size, sizes, (h.waits going).1)),
        still,
        subst (AsksForMore R h.turns) (sym whole) k.1,
      )

  -- it was refused
  pub refused_so : (e : RunError) → TurnPreserves M old new got put (Err e) → (e ≡ OutOfMemory) ⊎ (e ≡ Stack) → StoppedSo R fed told tokens e
  refused_so e k why x c = record {
    turns = h.turns;
    last = state_of h.out h.invariant.start old;
    reached = before x c;
    going = ap ending_of going;
    tokens = h.tokens_are x c;
    why = because why;
  }
    where
      refusal : AfterRefusal M h.turns h.given got (h.out ++ put) new e
      refusal = k.1 h.turns h.given h.out h.invariant

      because : (e ≡ OutOfMemory) ⊎ (e ≡ Stack) → (e ≡ OutOfMemory) ⊎ ((e ≡ Stack) × (t : Scan.State) × Turns R x (suc h.turns) t × (t.ended ≡ Some StackFault))
      because (inl is) = inl is
      because (inr is) =
          let ran : RunCompleted R (h.given ++ got) (h.out ++ put) new.reading.at_end StackFault = refusal.fault is in
          let last : Scan.State = record { written = h.out ++ put; place = ran.place; ended = Some StackFault } in
          inr (is, last, subst (λ n. Turns R x n last) (refusal.at_once is) (turns_of _ _ _ _ _ (ran.scanned x (c.0, goes_on fed (h.given ++ got) left told new.reading.at_end x fed_is (ending refusal.taken) c.1))), refl)

-- The match asks for more than all that waits.
pub asks_on : (M : Machine) → MachineLaws M → (states : ℕ) (fed : List ℕ) (told : Bool) (tokens : List Token) (s : State) (waiting : List ℕ) (last : ℕ) → TokensTold M fed told tokens s waiting → told ≡ false → s.ended ≡ None → s.place.at ≤ length s.reading.window.bytes →
    IsAsking M states s waiting (Some last) → WantsPiece M fed told tokens s waiting
asks_on M laws states fed told tokens s waiting last h untold going inside asking =
    let reading : s.reading.at_end ≡ false = false_unless s.reading.at_end (λ is. not_both (sym untold ∙ (h.ending is).0)) in
    let as_fed : Fed M fed h.out s waiting = record { turns = h.turns; given = h.given; left = h.left; invariant = h.invariant; reading = reading; all = h.all; waits = λ none. (h.waits none).0 } in
    (h, untold, going, asks_still M laws fed h.out s waiting last as_fed going inside asking.1 h.text)

pub asks_some : (M : Machine) → MachineLaws M → (states : ℕ) (fed : List ℕ) (told : Bool) (tokens : List Token) (s : State) (waiting : List ℕ) (asking : Option ℕ) → is_some asking ≡ true → TokensTold M fed told tokens s waiting → told ≡ false → s.ended ≡ None → s.place.at ≤ length s.reading.window.bytes →
    IsAsking M states s waiting asking → WantsPiece M fed told tokens s waiting
asks_some M laws states fed told tokens s waiting None some h untold going inside asking = absurd (not_both some)
asks_some M laws states fed told tokens s waiting (Some last) some h untold going inside asking = asks_on M laws states fed told tokens s waiting last h untold going inside asking

-- The state after all that waits and a piece more, where it is told.
pub asking_fed : (M : Machine) (states : ℕ) (s : State) (waiting piece waiting' : List ℕ) (asking result : Option ℕ) → s.place.at ≤ length s.reading.window.bytes → waiting' ≡ waiting ++ piece → IsAsking M states s waiting asking →
    IfSome result (λ last. last < states) → IfSome result (WalksOn M asking piece) → IsAsking M states s waiting' result
asking_fed M states s waiting piece waiting' asking None inside is h known walked = tt
asking_fed M states s waiting piece waiting' asking (Some last) inside is h known walked = asking_on M states s waiting piece waiting' asking last inside is h known walked

-- Bytes that wait from a place on, with a piece after them.
pub waits_with : (all piece all' waiting : List ℕ) (from : ℕ) → from ≤ length all → all' ≡ all ++ piece → drop from all ≡ waiting → drop from all' ≡ waiting ++ piece
waits_with all piece all' waiting from inside is same = ap (drop from) is ∙ drop-append-le from all piece inside ∙ ap (λ l. l ++ piece) same

-- a slice to the end is all that is left
pub to_end : (w : List ℕ) (n : ℕ) → take (length w - n) (drop n w) ≡ drop n w
to_end w n = take_all (length w - n) (drop n w) (omega (arith, length-drop n w))

-- nothing is shown
pub nothing_shown : (l : List ℕ) → last_of 0 l ≡ []
nothing_shown l = drop_all (length l - 0) l (omega arith)

-- A piece more was fed.
pub piece_more : (M : Machine) (fed piece : List ℕ) (tokens : List Token) (s : State) (waiting waiting' : List ℕ) (most : ℕ) (few : s.reading.taken + bit_of s.reading.at_end ≤ most) → TokensTold M fed false tokens s waiting → IsText piece → s.ended ≡ None → waiting' ≡ waiting ++ piece → most ≡ s.reading.max_reads + length piece →
    TokensTold M (fed ++ piece) false tokens (record s { reading = record s.reading { max_reads = most; few_reads = few } }) waiting'
piece_more M fed piece tokens s waiting waiting' most few h text going is count = record {
  turns = h.turns;
  given = h.given;
  left = h.left ++ piece;
  out = h.out;
  text = is_text_append fed piece h.text text;
  invariant = stands_limit M h.turns h.given h.out s most few h.invariant;
  all = ap (λ l. l ++ piece) h.all ∙ append_assoc h.given h.left piece;
  ending = λ ended. absurd (not_both (h.ending ended).0);
  waits = λ _. (ap (λ l. l ++ piece) (h.waits going).0 ∙ sym is, omega (arith, count, (h.waits going).1, length-append fed piece));
  tokens_are = λ x c. h.tokens_are x (c.0, begins_less x fed piece c.1);
}

-- It counts for nothing once the scan has ended.
pub piece_late : (M : Machine) (fed piece : List ℕ) (tokens : List Token) (s : State) (waiting : List ℕ) → TokensTold M fed false tokens s waiting → IsText piece → (s.ended ≡ None → ⊥) → TokensTold M (fed ++ piece) false tokens s waiting
piece_late M fed piece tokens s waiting h text over = record {
  turns = h.turns;
  given = h.given;
  left = h.left ++ piece;
  out = h.out;
  text = is_text_append fed piece h.text text;
  invariant = h.invariant;
  all = ap (λ l. l ++ piece) h.all ∙ append_assoc h.given h.left piece;
  ending = λ ended. absurd (not_both (h.ending ended).0);
  waits = λ going. absurd (over going);
  tokens_are = λ x c. h.tokens_are x (c.0, begins_less x fed piece c.1);
}

-- The end was told.
pub end_told : (M : Machine) (fed : List ℕ) (told : Bool) (tokens : List Token) (s : State) (waiting : List ℕ) (most : ℕ) (few : s.reading.taken + bit_of s.reading.at_end ≤ most) → told ≡ false → TokensTold M fed told tokens s waiting → most ≡ s.reading.max_reads + 1 →
    TokensTold M fed true tokens (record s { reading = record s.reading { max_reads = most; few_reads = few } }) waiting
end_told M fed told tokens s waiting most few untold h count =
    let k : TokensTold M fed false tokens s waiting = subst (λ b. TokensTold M fed b tokens s waiting) untold h in
    record {
      turns = k.turns;
      given = k.given;
      left = k.left;
      out = k.out;
      text = k.text;
      invariant = stands_limit M k.turns k.given k.out s most few k.invariant;
      all = k.all;
      ending = λ ended. (refl, (k.ending ended).1);
      waits = λ going. ((k.waits going).0, omega (arith, count, (k.waits going).1));
      tokens_are = λ x c. k.tokens_are x (c.0, ([], c.1 ∙ sym (append-nil fed)));
    }
