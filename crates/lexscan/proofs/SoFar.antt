-- The tokens that a scan has told so far.
use Rattle.std.proofs.Common.{◌≡◌, ℕ, suc, ◌+◌, ◌≤◌, ◌<◌, Bool, true, false, List, [], ◌∷◌, ◌++◌, length, inl, inr, Option, Some, None, Ok, Err, refl, sym, ◌∙◌, ap, subst, append_assoc, append-nil, length-append, arith}
use Rattle.std.specs.Io.KnownBytes.{Consumes}
use Rattle.lex_semantics.specs.Text.{IsText, part}
use Rattle.lex_semantics.specs.Acting.{Status, StackFault}
use Rattle.lex_semantics.specs.Demand.{Consistent, ExtendsGiven, answers}
use Rattle.lex_semantics.specs.Machine.{Machine, rules_of_machine}
use Rattle.lex_semantics.specs.MachineLaws.{MachineLaws}
use Rattle.lex_semantics.specs.Run as Scan
use Rattle.lex_semantics.specs.Run.{Place, Turns}
use Rattle.lex_semantics.proofs.After.{turns_of}
use Rattle.lex_semantics.proofs.Ends.{Grows}
use Rattle.lex_semantics.proofs.Growth.{turns_grow}
use Rattle.lex_semantics.proofs.MachineLaws.{machine_laws}
use Rattle.lex_semantics.proofs.Texts.{part_front}
use Rattle.lex_semantics.proofs.MachineRun.{machine_candidates_exist}
use Rattle.lex_io.specs.Source.{Gives}
use Rattle.lex_io.specs.SourceLaws.{Gives-trans}
use Rattle.lexscan_window.specs.declared.matched.Match.{Match}
use Rattle.lexscan_window.specs.declared.state.State.{State}
use Rattle.lexscan.specs.declared.turn.Turn.{Turn}
use Rattle.lexscan_window.specs.declared.error.RunError.{RunError}
use Rattle.lexscan_window.specs.declared.error.RunError.TheVariants.{Read, TooManyReads, Write, OutOfMemory, Stack, Failed}
use Rattle.lexscan_matching.specs.Descends.{ending_of}
use Rattle.lexscan.specs.Matches.{match_in, text_of, TellsMatch}
use Rattle.lexscan_window.specs.Reads.{end_step, read_fault_count, write_fault_count}
use Rattle.lexscan.specs.TurnInvariants.{TurnInvariant, AfterRefusal, RunCompleted, state_of, TurnPreserves}
use Rattle.lexscan.specs.declared.token.Token.{Token}
use Rattle.lexscan.specs.Tokens.{token_by, tokens_by, Appends, TokensOf, Tokenised, Stopped, LieIn}

front : (x given : List ℕ) (known : Option (List ℕ)) → Consumes (Some x) known given → ExtendsGiven given false x
front x given None h = elim h [ ]
front x given (Some rest) h = (rest, h)

-- the whole input goes on from what was given
goes : (x given : List ℕ) (known : Option (List ℕ)) (ends ends' : ℕ) (b : Bool) → ends' ≡ ends + end_step false b → Gives (Some x) known ends ends' given → ExtendsGiven given b x
goes x given known ends ends' true e h = h.whole (omega (arith, e))
goes x given known ends ends' false e h = front x given known h.taken

-- and is no shorter
no_shorter : (x given : List ℕ) (b : Bool) → ExtendsGiven given b x → length given ≤ length x
no_shorter x given true h = omega (arith, ap length h)
no_shorter x given false h = omega (arith, ap length h.1, length-append given h.0)

-- and has the same parts among them
pub same_part : (x given : List ℕ) (b : Bool) (i j : ℕ) → ExtendsGiven given b x → j ≤ length given → part x i j ≡ part given i j
same_part x given true i j h le = ap (λ z. part z i j) h
same_part x given false i j h le = ap (λ z. part z i j) h.1 ∙ part_front given h.0 i j le

-- where the last of some tokens begins
abbrev pub last_start : ℕ → List Token → ℕ
last_start from [] = from
last_start from (t ∷ ts) = last_start t.start ts

lie_more : (size from : ℕ) (ts : List Token) (t : Token) → LieIn size from ts → last_start from ts ≤ t.start → t.start ≤ t.end → t.end ≤ size → LieIn size from (ts ++ t ∷ [])
lie_more size from [] t h a b c = (a, b, c, tt)
lie_more size from (u ∷ ts) t h a b c = (h.0, h.1, h.2, lie_more size u.start ts t h.3 a b c)

last_more : (from : ℕ) (ts : List Token) (t : Token) → last_start from (ts ++ t ∷ []) ≡ t.start
last_more from [] t = refl
last_more from (u ∷ ts) t = last_more u.start ts t

-- After some turns over the input these tokens were appended to the list.
pub record Listed (M : Machine) (x : List ℕ) (known : Option (List ℕ)) (ends ends' : ℕ) (list list' : List Token) (s : State) : Type 0 where
  pub turns : ℕ
  pub given : List ℕ
  pub out : List ℕ
  pub gives : Gives (Some x) known ends ends' given
  pub invariant : TurnInvariant M turns given out s
  pub tokens : List Token
  pub tokens_are : TokensOf (rules_of_machine M) x turns tokens
  pub appended : list' ≡ list ++ tokens
  pub lie : LieIn (length x) 0 tokens
  pub last : s.ended ≡ None → last_start 0 tokens ≤ invariant.start

no_earlier : (p q : Place) → Grows p q → p.start ≤ q.start
no_earlier p q (inl less) = omega (arith, less)
no_earlier p q (inr same) = omega (arith, same.0)

module _ (M : Machine) (laws : MachineLaws M) (x : List ℕ) (text : IsText x) (known known' : Option (List ℕ)) (ends ends' ends'' : ℕ) (list list' : List Token) (old new : State)
    (h : Listed M x known ends ends' list list' old) (going : old.ended ≡ None) (before : ends' ≡ ends + end_step false old.reading.at_end) (after : ends'' ≡ ends + end_step false new.reading.at_end) where
  reached : Turns (rules_of_machine M) x h.turns (state_of h.out h.invariant.start old)
  reached = (turns_of _ _ _ _ _ (h.invariant.scanned x (text, goes x h.given known ends ends' old.reading.at_end before h.gives)))

  -- one turn more
  pub listed_more : (turn : Turn) (got wrote : List ℕ) → Gives known known' ends' ends'' got → TurnPreserves M old new got wrote (Ok turn) → Listed M x known' ends ends'' list (list' ++ tokens_by (match_in new) old.place.condition) new
  listed_more turn got wrote gave k = record {
    turns = suc h.turns;
    given = h.given ++ got;
    out = h.out ++ wrote;
    gives = all;
    invariant = invariant;
    tokens = h.tokens ++ tokens_by (match_in new) old.place.condition;
    tokens_are = (state_of h.out h.invariant.start old, h.tokens, reached, ap ending_of going, h.tokens_are, appends (match_in new) told);
    appended = ap (λ l. l ++ tokens_by (match_in new) old.place.condition) h.appended ∙ append_assoc list h.tokens (tokens_by (match_in new) old.place.condition);
    lie = (lies (match_in new) told).0;
    last = λ goes. (let a = (lies (match_in new) told).1 in let b = no_earlier (state_of h.out h.invariant.start old).place (state_of (h.out ++ wrote) invariant.start new).place (grows goes) in omega (arith, a, b));
  }
    where
      all : Gives (Some x) known' ends ends'' (h.given ++ got)
      all = Gives-trans (Some x) known known' ends ends' ends'' h.given got h.gives gave

      invariant : TurnInvariant M (suc h.turns) (h.given ++ got) (h.out ++ wrote) new
      invariant = k.1 h.turns h.given h.out h.invariant

      told : TellsMatch (rules_of_machine M) (h.given ++ got) new.reading.at_end (state_of h.out h.invariant.start old).place (match_in new) (text_of (match_in new) new)
      told = k.2 going h.turns h.given h.out h.invariant

      goes_on : ExtendsGiven (h.given ++ got) new.reading.at_end x
      goes_on = goes x (h.given ++ got) known' ends ends'' new.reading.at_end after all

      consistent : Consistent (h.given ++ got) new.reading.at_end x
      consistent = (text, goes_on)

      grows : new.ended ≡ None → Grows (state_of h.out h.invariant.start old).place (state_of (h.out ++ wrote) invariant.start new).place
      grows goes =
          turns_grow (rules_of_machine M) (machine_laws M laws) laws.legal (λ c line_start y. machine_candidates_exist M laws c line_start y) x h.turns
          (state_of h.out h.invariant.start old) (state_of (h.out ++ wrote) invariant.start new) reached (turns_of (rules_of_machine M) x (suc h.turns) (state_of (h.out ++ wrote) invariant.start new) (answers (h.given ++ got) new.reading.at_end) (invariant.scanned x consistent)) (ap ending_of goes)

      appends : (m : Option Match) → TellsMatch (rules_of_machine M) (h.given ++ got) new.reading.at_end (state_of h.out h.invariant.start old).place m (text_of m new) →
          Appends (rules_of_machine M) x (state_of h.out h.invariant.start old).place h.tokens (h.tokens ++ tokens_by m old.place.condition)
      appends None t = inr (t x consistent, append-nil h.tokens)
      appends (Some m) t = inl (
        token_by m old.place.condition,
        record {
          taken = t.taken;
          outcome = t.outcome;
          carries = t.carries x consistent;
          rule_is = t.rule_is;
          start_is = t.start_is;
          end_is = ap (λ a. a + m.length) t.start_is ∙ ap (λ b. h.invariant.start + b) t.length_is;
          condition_is = refl;
          text_is = same_part x (h.given ++ got) new.reading.at_end m.start (m.start + m.length) goes_on t.inside ∙ t.part_is;
        },
        refl,
      )

      lies : (m : Option Match) → TellsMatch (rules_of_machine M) (h.given ++ got) new.reading.at_end (state_of h.out h.invariant.start old).place m (text_of m new) →
          LieIn (length x) 0 (h.tokens ++ tokens_by m old.place.condition) × (last_start 0 (h.tokens ++ tokens_by m old.place.condition) ≤ h.invariant.start)
      lies None t = (subst (LieIn (length x) 0) (sym (append-nil h.tokens)) h.lie, subst (λ l. last_start 0 l ≤ h.invariant.start) (sym (append-nil h.tokens)) (h.last going))
      lies (Some m) t =
          let u : Token = token_by m old.place.condition in
          let begins : last_start 0 h.tokens ≤ u.start = omega (arith, h.last going, t.start_is) in
          let whole : length (h.given ++ got) ≤ length x = no_shorter x (h.given ++ got) new.reading.at_end goes_on in
          let inside : u.end ≤ length x = omega (arith, t.inside, whole) in
          (lie_more (length x) 0 h.tokens u h.lie begins (omega arith) inside, omega (arith, last_more 0 h.tokens u, t.start_is))

  -- a turn that memory did not suffice for, or for its token
  pub stopped_by_memory : Stopped (rules_of_machine M) x h.tokens OutOfMemory
  stopped_by_memory = record {
    turns = h.turns;
    last = state_of h.out h.invariant.start old;
    reached = reached;
    going = ap ending_of going;
    tokens = h.tokens_are;
    why = inl refl;
  }

  -- a refused turn
  pub stopped_at : (e : RunError) (got wrote : List ℕ) → Gives known known' ends' ends'' got → TurnPreserves M old new got wrote (Err e) → 0 ≡ 0 + read_fault_count {T = Turn} (Err e) → 0 ≡ 0 + write_fault_count {T = Turn} (Err e) →
      (e ≡ TooManyReads → length x < new.reading.taken) → (e ≡ Failed → old.failed ≡ true) → Stopped (rules_of_machine M) x h.tokens e
  stopped_at e got wrote gave k reads writes many failed = by e reads writes many failed refusal
    where
      all : Gives (Some x) known' ends ends'' (h.given ++ got)
      all = Gives-trans (Some x) known known' ends ends' ends'' h.given got h.gives gave

      goes_on : ExtendsGiven (h.given ++ got) new.reading.at_end x
      goes_on = goes x (h.given ++ got) known' ends ends'' new.reading.at_end after all

      refusal : AfterRefusal M h.turns h.given got (h.out ++ wrote) new e
      refusal = k.1 h.turns h.given h.out h.invariant

      no : true ≡ false → ⊥
      no p = cc

      by : (e : RunError) → 0 ≡ 0 + read_fault_count {T = Turn} (Err e) → 0 ≡ 0 + write_fault_count {T = Turn} (Err e) →
          (e ≡ TooManyReads → length x < new.reading.taken) → (e ≡ Failed → old.failed ≡ true) → AfterRefusal M h.turns h.given got (h.out ++ wrote) new e → Stopped (rules_of_machine M) x h.tokens e
      by Read reads writes many failed f = absurd (omega (arith, reads))
      by Write reads writes many failed f = absurd (omega (arith, writes))
      by TooManyReads reads writes many failed f = absurd (omega (arith, many refl, f.taken, no_shorter x (h.given ++ got) new.reading.at_end goes_on))
      by Failed reads writes many failed f = absurd (no (sym (failed refl) ∙ h.invariant.works))
      by OutOfMemory reads writes many failed f = stopped_by_memory
      by Stack reads writes many failed f =
          let ran : RunCompleted (rules_of_machine M) (h.given ++ got) (h.out ++ wrote) new.reading.at_end StackFault = f.fault refl in
          let last : Scan.State = record { written = h.out ++ wrote; place = ran.place; ended = Some StackFault } in
          record {
            turns = h.turns;
            last = state_of h.out h.invariant.start old;
            reached = reached;
            going = ap ending_of going;
            tokens = h.tokens_are;
            why = inr (refl, last, subst (λ n. Turns (rules_of_machine M) x n last) (f.at_once refl) (turns_of _ _ _ _ _ (ran.scanned x (text, goes_on))), refl);
          }

-- at the end
pub listed_all : (M : Machine) (x : List ℕ) (known : Option (List ℕ)) (ends ends' status : ℕ) (list list' : List Token) (s : State) → IsText x → ends' ≡ ends + end_step false s.reading.at_end → s.ended ≡ Some status →
    (h : Listed M x known ends ends' list list' s) → Tokenised (rules_of_machine M) x h.tokens (Status status)
listed_all M x known ends ends' status list list' s text after over h = record {
  turns = h.turns;
  last = state_of h.out h.invariant.start s;
  reached = (turns_of _ _ _ _ _ (h.invariant.scanned x (text, goes x h.given known ends ends' s.reading.at_end after h.gives)));
  ends = ap ending_of over;
  tokens = h.tokens_are;
}
