-- What the calls leave of a scan that is asked for its tokens.
use Rattle.std.proofs.Common.{◌≡◌, ℕ, suc, ◌+◌, ◌≤◌, inl, inr, Bool, true, false, List, [], ◌∷◌, ◌++◌, ◌⊎◌, Some, Result, Ok, refl, sym, ap, subst, ◌∙◌, append-nil, arith}
use Rattle.lex_semantics.specs.Text.{IsText, part}
use Rattle.lex_semantics.specs.Rules.{Rules}
use Rattle.lex_semantics.specs.Acting.{StackFault}
use Rattle.lex_semantics.specs.Run as Scan
use Rattle.lex_semantics.specs.Machine.{Machine, rules_of_machine}
use Rattle.lexscan_window.specs.declared.state.State.{State}
use Rattle.lexscan_window.specs.declared.error.RunError.{RunError}
use Rattle.lexscan_window.specs.declared.error.RunError.TheVariants as runs
use Rattle.lexscan.specs.declared.token.Token.{Token}
use Rattle.lexscan.specs.Pulls.{TokensTold, StoppedSo, AfterPull, whole_token}
use Rattle.lexscan.specs.declared.pull.Pulled.{Pulled}
use Rattle.lexscan.specs.declared.pull.PulledToken.{PulledToken}
use Rattle.lexscan.specs.Scanners.{SamePull, pull_machine, pull_state, pull_waiting, pull_finished, pull_text}
use Rattle.liblex_calls.specs.Rules.{rules_machine}
use Rattle.liblex_calls.specs.Files.{IsMachineOf}
use Rattle.liblex_calls.specs.Stages.{fault_of, answer_at, status_in}
use Rattle.liblex_calls.specs.Lines.{Counted}
use Rattle.liblex_calls.specs.Ahead.{HoldsFed, HandsToken, IsAhead, text_shown, tokens_ahead}
use Rattle.liblex_calls.specs.Told.{token_machine, TokensStand, Told, HandedOn, FeedTells, NextTells}
use Rattle.liblex_calls.specs.declared.ahead.Ahead.{Ahead}
use Rattle.liblex_calls.specs.declared.lines.Lines.{Lines}
use Rattle.liblex_calls.specs.declared.rules.Rules.{Rules as Held}
use Rattle.liblex_calls.specs.declared.stage.Stage.{Stage}
use Rattle.liblex_calls.specs.declared.stage.Stage.TheVariants as stages
use Rattle.liblex_calls.specs.declared.token_scan.TokenScan.{TokenScan}
use Rattle.liblex_calls.specs.declared.token_scan.NextToken.{NextToken}
use Rattle.lexscan.proofs.Refusing.{just_these}
use Rattle.liblex_calls.proofs.Heading.{one_handed, text_low, shows_told, shows_handed, shows_fed, same_ahead, piece_ahead, turn_ahead}
use Rattle.liblex_calls.proofs.Lining.{counted_more}
use Rattle.liblex_calls.proofs.Piecing.{append_text, untold}

-- the end is told
pub end_stands : (M : Machine) (stage : Stage) (told : Bool) (fed : List ℕ) (tokens : List Token) (text : List ℕ) (s t : State) (waiting left : List ℕ) (a : Ahead) → (IsAhead M fed told tokens s waiting a → IsAhead M fed true tokens t left a) →
    TokensStand M stage told fed tokens text s waiting a → TokensStand M stage true fed tokens text t left a
end_stands M stages.Going told fed tokens text s t waiting left a go h = go h
end_stands M (stages.Ended status) told fed tokens text s t waiting left a go h = (λ x c. h.0 x (untold told fed x c), h.1)
end_stands M stages.Stack told fed tokens text s t waiting left a go h = (λ x c. h.0 x (untold told fed x c), h.1)
end_stands M stages.OutOfMemory told fed tokens text s t waiting left a go h = (λ x c. h.0 x (untold told fed x c), h.1)
end_stands M stages.TooManyReads told fed tokens text s t waiting left a go h = absurd h

-- how the tokens stand, where the stage is known
pub stands_at : (file : List ℕ) (lines told : Bool) (fed : List ℕ) (tokens : List Token) (text : List ℕ) (p : TokenScan) (stage : Stage) → p.stage ≡ stage → Told file lines told fed tokens text p → TokensStand (token_machine p) stage told fed tokens text (pull_state p.scanner) (pull_waiting p.scanner) p.ahead
stands_at file lines told fed tokens text p stage is T = subst (λ (g : Stage). TokensStand (token_machine p) g told fed tokens text (pull_state p.scanner) (pull_waiting p.scanner) p.ahead) is T.stands

-- a piece that counts for nothing
pub feed_again : (file : List ℕ) (lines told : Bool) (fed piece : List ℕ) (tokens : List Token) (text : List ℕ) (p : TokenScan) (stage : Stage) → p.stage ≡ stage → (stage ≡ stages.Going → ⊥) → Told file lines told fed tokens text p → FeedTells file lines told fed piece tokens text p (answer_at stage)
feed_again file lines told fed piece tokens text p stages.Going is not T = absurd (not refl)
feed_again file lines told fed piece tokens text p (stages.Ended status) is not T = (inr (ap answer_at is), T)
feed_again file lines told fed piece tokens text p stages.Stack is not T = (ap answer_at is, T)
feed_again file lines told fed piece tokens text p stages.OutOfMemory is not T = T
feed_again file lines told fed piece tokens text p stages.TooManyReads is not T = absurd (stands_at file lines told fed tokens text p stages.TooManyReads is T)

-- the same scan, of which the text is told otherwise
shown_as : (file : List ℕ) (lines told : Bool) (fed : List ℕ) (tokens : List Token) (text : List ℕ) (p : TokenScan) → text ≡ [] → Told file lines told fed tokens text p → Told file lines told fed tokens [] p
shown_as file lines told fed tokens text p is T = subst (λ (t : List ℕ). Told file lines told fed tokens t p) is T

-- the end and a fault are told again
pub next_again : (file : List ℕ) (lines told : Bool) (fed : List ℕ) (tokens : List Token) (text : List ℕ) (p : TokenScan) (token : NextToken) (stage : Stage) → p.stage ≡ stage → (stage ≡ stages.Going → ⊥) → Told file lines told fed tokens text p → NextTells file lines told fed tokens p token token (status_in p.stage) (answer_at stage)
next_again file lines told fed tokens text p token stages.Going is not T = absurd (not refl)
next_again file lines told fed tokens text p token (stages.Ended status) is not T = (refl, refl, sym (ap answer_at is), shown_as file lines told fed tokens text p (stands_at file lines told fed tokens text p (stages.Ended status) is T).1 T)
next_again file lines told fed tokens text p token stages.Stack is not T = (refl, refl, sym (ap answer_at is), shown_as file lines told fed tokens text p (stands_at file lines told fed tokens text p stages.Stack is T).1 T)
next_again file lines told fed tokens text p token stages.OutOfMemory is not T = (refl, refl, sym (ap answer_at is), shown_as file lines told fed tokens text p (stands_at file lines told fed tokens text p stages.OutOfMemory is T).1 T)
next_again file lines told fed tokens text p token stages.TooManyReads is not T = absurd (stands_at file lines told fed tokens text p stages.TooManyReads is T)

-- a turn is refused for memory, or by the stack
either : (R : Rules) (x : List ℕ) (n : ℕ) (e : RunError) → (e ≡ runs.OutOfMemory) ⊎ ((e ≡ runs.Stack) × (t : Scan.State) × Scan.Turns R x n t × (t.ended ≡ Some StackFault)) → (e ≡ runs.OutOfMemory) ⊎ (e ≡ runs.Stack)
either R x n e (inl is) = inl is
either R x n e (inr h) = inr h.0

only_two : (M : Machine) (told : Bool) (fed : List ℕ) (tokens : List Token) (e : RunError) → IsText fed → StoppedSo (rules_of_machine M) fed told tokens e → (e ≡ runs.OutOfMemory) ⊎ (e ≡ runs.Stack)
only_two M told fed tokens e text h =
    let stopped = h fed (text, just_these fed told) in
    either (rules_of_machine M) fed (suc stopped.turns) e stopped.why

never_read : (runs.Read ≡ runs.OutOfMemory) ⊎ (runs.Read ≡ runs.Stack) → ⊥
never_read (inl e) = cc
never_read (inr e) = cc

never_write : (runs.Write ≡ runs.OutOfMemory) ⊎ (runs.Write ≡ runs.Stack) → ⊥
never_write (inl e) = cc
never_write (inr e) = cc

never_many : (runs.TooManyReads ≡ runs.OutOfMemory) ⊎ (runs.TooManyReads ≡ runs.Stack) → ⊥
never_many (inl e) = cc
never_many (inr e) = cc

never_failed : (runs.Failed ≡ runs.OutOfMemory) ⊎ (runs.Failed ≡ runs.Stack) → ⊥
never_failed (inl e) = cc
never_failed (inr e) = cc

pub refused_stands : (M : Machine) (told : Bool) (fed : List ℕ) (tokens : List Token) (text : List ℕ) (s : State) (waiting : List ℕ) (a : Ahead) (e : RunError) → IsText fed → text ≡ [] → StoppedSo (rules_of_machine M) fed told tokens e → TokensStand M (fault_of e) told fed tokens text s waiting a
refused_stands M told fed tokens text s waiting a runs.OutOfMemory is none h = (h, none)
refused_stands M told fed tokens text s waiting a runs.Stack is none h = (h, none)
refused_stands M told fed tokens text s waiting a runs.Read is none h = absurd (never_read (only_two M told fed tokens runs.Read is h))
refused_stands M told fed tokens text s waiting a runs.Write is none h = absurd (never_write (only_two M told fed tokens runs.Write is h))
refused_stands M told fed tokens text s waiting a runs.TooManyReads is none h = absurd (never_many (only_two M told fed tokens runs.TooManyReads is h))
refused_stands M told fed tokens text s waiting a runs.Failed is none h = absurd (never_failed (only_two M told fed tokens runs.Failed is h))

pub fault_stops : (e : RunError) → fault_of e ≡ stages.Going → ⊥
fault_stops runs.OutOfMemory h = cc
fault_stops runs.Stack h = cc
fault_stops runs.Read h = cc
fault_stops runs.Write h = cc
fault_stops runs.TooManyReads h = cc
fault_stops runs.Failed h = cc

-- How a scan stands after a call, by how its tokens stand.
pub told_by : (file : List ℕ) (lines told : Bool) (fed : List ℕ) (tokens : List Token) (text : List ℕ) (p : TokenScan) (rules : Held) → pull_machine p.scanner ≡ rules → IsMachineOf file (rules_machine rules) → IsText fed → pull_finished p.scanner ≡ told → text_shown p.scanner p.ahead ≡ text → HoldsFed fed p.ahead.texts → p.lines.counts ≡ lines → Counted lines fed tokens p.lines →
    TokensStand (rules_machine rules) p.stage told fed tokens text (pull_state p.scanner) (pull_waiting p.scanner) p.ahead → Told file lines told fed tokens text p
told_by file lines told fed tokens text p rules machine of_file is_text finished shows held counts counted stands = record {
  machine = subst (λ (r : Held). IsMachineOf file (rules_machine r)) (sym machine) of_file;
  is_text = is_text;
  finished = finished;
  stands = subst (λ (r : Held). TokensStand (rules_machine r) p.stage told fed tokens text (pull_state p.scanner) (pull_waiting p.scanner) p.ahead) (sym machine) stands;
  shows = shows;
  held = held;
  counts = counts;
  counted = counted;
}

-- what is known of a call by whether the end was told
pub pulled_as : (M : Machine) (fed : List ℕ) (finished told : Bool) (tokens : List Token) (s t : State) (waiting left text : List ℕ) (r : Result Pulled RunError) → finished ≡ told → (TokensTold M fed finished tokens s waiting → AfterPull M fed finished tokens t left text r) →
    TokensTold M fed told tokens s waiting → AfterPull M fed told tokens t left text r
pulled_as M fed finished told tokens s t waiting left text r is f = subst (λ b. TokensTold M fed b tokens s waiting → AfterPull M fed b tokens t left text r) is f

pub pulled_ok : (M : Machine) (fed : List ℕ) (finished told : Bool) (tokens : List Token) (s t : State) (waiting left text : List ℕ) (u v : Pulled) → u ≡ v → finished ≡ told → (TokensTold M fed finished tokens s waiting → AfterPull M fed finished tokens t left text (Ok u)) →
    TokensTold M fed told tokens s waiting → AfterPull M fed told tokens t left text (Ok v)
pulled_ok M fed finished told tokens s t waiting left text u v same is f h = subst (λ (w : Pulled). AfterPull M fed told tokens t left text (Ok w)) same (pulled_as M fed finished told tokens s t waiting left text (Ok u) is f h)

-- while the scan goes on
pub going_stands : (M : Machine) (stage : Stage) (told : Bool) (fed : List ℕ) (tokens : List Token) (text : List ℕ) (s : State) (waiting : List ℕ) (a : Ahead) → stage ≡ stages.Going → IsAhead M fed told tokens s waiting a → TokensStand M stage told fed tokens text s waiting a
going_stands M stage told fed tokens text s waiting a is h = subst (λ (g : Stage). TokensStand M g told fed tokens text s waiting a) (sym is) h

-- a token that was told ahead is handed on
pub kept_handed : (file : List ℕ) (lines told : Bool) (fed : List ℕ) (tokens : List Token) (text : List ℕ) (p q : TokenScan) (t : PulledToken) → p.stage ≡ stages.Going → Told file lines told fed tokens text p → HandsToken p.ahead q.ahead (Some t) → q.scanner ≡ p.scanner → q.stage ≡ p.stage → q.lines ≡ p.lines →
    HandedOn file lines told fed tokens t q
kept_handed file lines told fed tokens text p q t going T on scanner stage same =
    let h = stands_at file lines told fed tokens text p stages.Going going T in
    let ahead = one_handed (token_machine p) fed told tokens (pull_state p.scanner) (pull_waiting p.scanner) p.ahead q.ahead t h on in
    let shows = shows_handed fed p.scanner p.ahead q.ahead t T.held (text_low (token_machine p) fed told tokens (pull_state p.scanner) (pull_waiting p.scanner) p.ahead q.ahead t h on) on in
    record {
      machine = subst (λ s. IsMachineOf file (rules_machine (pull_machine s))) (sym scanner) T.machine;
      is_text = T.is_text;
      finished = ap pull_finished scanner ∙ T.finished;
      going = stage ∙ going;
      ahead = subst (λ s. IsAhead (rules_machine (pull_machine s)) fed told (tokens ++ whole_token t ∷ []) (pull_state s) (pull_waiting s) q.ahead) (sym scanner) ahead;
      shows = subst (λ s. text_shown s q.ahead ≡ part fed t.start (t.start + t.length)) (sym scanner) shows;
      held = subst (HoldsFed fed) (sym on.5) T.held;
      counts = ap (λ (l : Lines). l.counts) same ∙ T.counts;
      counted = subst (Counted lines fed tokens) (sym same) T.counted;
    }

-- where none was told ahead nothing changes
pub none_left : (file : List ℕ) (lines told : Bool) (fed : List ℕ) (tokens : List Token) (text : List ℕ) (p : TokenScan) (b : Ahead) → b ≡ p.ahead → Told file lines told fed tokens text p → Told file lines told fed tokens text (record p { ahead = b })
none_left file lines told fed tokens text p b is T = subst (λ (a : Ahead). Told file lines told fed tokens text (record p { ahead = a })) (sym is) T

-- how many turns are made one by one changes nothing
pub by_turns : (file : List ℕ) (lines told : Bool) (fed : List ℕ) (tokens : List Token) (text : List ℕ) (p : TokenScan) (n : ℕ) → Told file lines told fed tokens text p → Told file lines told fed tokens text (record p { turns = n })
by_turns file lines told fed tokens text p n T = told_by file lines told fed tokens text (record p { turns = n }) (pull_machine p.scanner) refl T.machine T.is_text T.finished T.shows T.held T.counts T.counted T.stands

-- the next ones are told ahead
pub told_ahead : (file : List ℕ) (lines told : Bool) (fed : List ℕ) (tokens : List Token) (text : List ℕ) (p q : TokenScan) → p.stage ≡ stages.Going → Told file lines told fed tokens text p → pull_machine q.scanner ≡ pull_machine p.scanner → pull_finished q.scanner ≡ pull_finished p.scanner → text_shown q.scanner q.ahead ≡ [] → q.ahead.texts ≡ p.ahead.texts →
    (IsAhead (token_machine p) fed (pull_finished p.scanner) tokens (pull_state p.scanner) (pull_waiting p.scanner) p.ahead → IsAhead (token_machine p) fed (pull_finished p.scanner) tokens (pull_state q.scanner) (pull_waiting q.scanner) q.ahead) → q.stage ≡ p.stage → q.lines ≡ p.lines →
    Told file lines told fed tokens [] q
told_ahead file lines told fed tokens text p q going T machine finished shows texts on stage same =
    let M = token_machine p in
    let before = stands_at file lines told fed tokens text p stages.Going going T in
    let after = subst (λ (b : Bool). IsAhead M fed b tokens (pull_state p.scanner) (pull_waiting p.scanner) p.ahead → IsAhead M fed b tokens (pull_state q.scanner) (pull_waiting q.scanner) q.ahead) T.finished on before in
    told_by file lines told fed tokens [] q (pull_machine p.scanner) machine T.machine T.is_text (finished ∙ T.finished) shows (subst (HoldsFed fed) (sym texts) T.held) (ap (λ (l : Lines). l.counts) same ∙ T.counts) (subst (Counted lines fed tokens) (sym same) T.counted)
    (going_stands M q.stage told fed tokens [] (pull_state q.scanner) (pull_waiting q.scanner) q.ahead (stage ∙ going) after)

-- A piece was not fed after all.
pub same_told : (file : List ℕ) (lines told : Bool) (fed : List ℕ) (tokens : List Token) (text : List ℕ) (p q : TokenScan) → p.stage ≡ stages.Going → Told file lines told fed tokens text p → SamePull p.scanner q.scanner → HoldsFed fed q.ahead.texts → tokens_ahead q.ahead ≡ tokens_ahead p.ahead → q.ahead.given ≡ p.ahead.given → q.ahead.last ≡ p.ahead.last → q.ahead.start ≡ p.ahead.start →
    q.ahead.texts.before ≡ p.ahead.texts.before → q.stage ≡ p.stage → q.lines ≡ p.lines → Told file lines told fed tokens text q
same_told file lines told fed tokens text p q going T pull held ahead given last start before stage same =
    let M = token_machine p in
    let h = stands_at file lines told fed tokens text p stages.Going going T in
    let on = same_ahead M fed told tokens (pull_state p.scanner) (pull_state q.scanner) (pull_waiting p.scanner) (pull_waiting q.scanner) p.ahead q.ahead pull.state pull.waiting ahead given last start before h in
    let low = h.low in
    let whole = append-nil fed in
    let shows = shows_fed fed [] p.scanner q.scanner p.ahead q.ahead pull.text T.held h.low (subst (λ l. HoldsFed l q.ahead.texts) (sym whole) held) (omega (arith, low, before)) h.inside given last start in
    told_by file lines told fed tokens text q (pull_machine p.scanner) pull.machine T.machine T.is_text (pull.finished ∙ T.finished) (shows ∙ T.shows) held (ap (λ (l : Lines). l.counts) same ∙ T.counts) (subst (Counted lines fed tokens) (sym same) T.counted)
    (going_stands M q.stage told fed tokens text (pull_state q.scanner) (pull_waiting q.scanner) q.ahead (stage ∙ going) on)

-- A piece more was fed.
pub fed_told : (file : List ℕ) (lines told : Bool) (fed piece : List ℕ) (tokens : List Token) (text : List ℕ) (p q : TokenScan) → p.stage ≡ stages.Going → told ≡ false → IsText piece → Told file lines told fed tokens text p → pull_machine q.scanner ≡ pull_machine p.scanner → pull_finished q.scanner ≡ false → pull_text q.scanner ≡ pull_text p.scanner →
    (TokensTold (token_machine p) fed false (tokens ++ tokens_ahead p.ahead) (pull_state p.scanner) (pull_waiting p.scanner) → TokensTold (token_machine p) (fed ++ piece) false (tokens ++ tokens_ahead p.ahead) (pull_state q.scanner) (pull_waiting q.scanner)) → HoldsFed (fed ++ piece) q.ahead.texts →
    (p.ahead.texts.before ≤ p.ahead.last → q.ahead.texts.before ≤ p.ahead.last) → tokens_ahead q.ahead ≡ tokens_ahead p.ahead → q.ahead.given ≡ p.ahead.given → q.ahead.last ≡ p.ahead.last → q.ahead.start ≡ p.ahead.start → q.stage ≡ p.stage → q.lines ≡ p.lines → Told file lines false (fed ++ piece) tokens text q
fed_told file lines told fed piece tokens text p q going open_end bytes T machine finished shown more held low ahead given last start stage same =
    let M = token_machine p in
    let h = subst (λ (b : Bool). IsAhead M fed b tokens (pull_state p.scanner) (pull_waiting p.scanner) p.ahead) open_end (stands_at file lines told fed tokens text p stages.Going going T) in
    let on = piece_ahead M fed piece tokens (pull_state p.scanner) (pull_state q.scanner) (pull_waiting p.scanner) (pull_waiting q.scanner) p.ahead q.ahead more ahead given last start (low h.low) h in
    let shows = shows_fed fed piece p.scanner q.scanner p.ahead q.ahead shown T.held h.low held (low h.low) h.inside given last start in
    told_by file lines false (fed ++ piece) tokens text q (pull_machine p.scanner) machine T.machine (append_text fed piece T.is_text bytes) finished (shows ∙ T.shows) held (ap (λ (l : Lines). l.counts) same ∙ T.counts) (subst (Counted lines (fed ++ piece) tokens) (sym same) (counted_more lines fed piece tokens p.lines T.counted))
    (going_stands M q.stage false (fed ++ piece) tokens text (pull_state q.scanner) (pull_waiting q.scanner) q.ahead (stage ∙ going) on)

-- A token that was told by one turn is handed on.
pub turn_handed : (file : List ℕ) (lines told : Bool) (fed : List ℕ) (tokens : List Token) (text : List ℕ) (p q : TokenScan) (t : PulledToken) → p.stage ≡ stages.Going → Told file lines told fed tokens text p → pull_machine q.scanner ≡ pull_machine p.scanner → pull_finished q.scanner ≡ pull_finished p.scanner →
    TokensTold (token_machine p) fed told (tokens ++ whole_token t ∷ []) (pull_state q.scanner) (pull_waiting q.scanner) → pull_text q.scanner ≡ part fed t.start (t.start + t.length) → tokens_ahead q.ahead ≡ [] → q.ahead.given ≡ 0 → q.ahead.last ≡ t.start → q.ahead.texts ≡ p.ahead.texts → q.stage ≡ p.stage → q.lines ≡ p.lines →
    HandedOn file lines told fed tokens t q
turn_handed file lines told fed tokens text p q t going T machine finished more shown none given last texts stage same =
    let M = token_machine p in
    let h = stands_at file lines told fed tokens text p stages.Going going T in
    let on = turn_ahead M fed told tokens (pull_state p.scanner) (pull_state q.scanner) (pull_waiting p.scanner) (pull_waiting q.scanner) p.ahead q.ahead t none given last texts h more in
    record {
      machine = subst (λ (r : Held). IsMachineOf file (rules_machine r)) (sym machine) T.machine;
      is_text = T.is_text;
      finished = finished ∙ T.finished;
      going = stage ∙ going;
      ahead = subst (λ (r : Held). IsAhead (rules_machine r) fed told (tokens ++ whole_token t ∷ []) (pull_state q.scanner) (pull_waiting q.scanner) q.ahead) (sym machine) on;
      shows = shows_told q.scanner q.ahead given ∙ shown;
      held = subst (HoldsFed fed) (sym texts) T.held;
      counts = ap (λ (l : Lines). l.counts) same ∙ T.counts;
      counted = subst (Counted lines fed tokens) (sym same) T.counted;
    }
