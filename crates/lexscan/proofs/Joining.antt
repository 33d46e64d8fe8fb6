-- Turns over a text, and others over what they left of it.
use Rattle.std.proofs.Common.{◌≡◌, ℕ, ◌+◌, ◌-◌, ◌≤◌, Bool, true, false, List, ◌++◌, length, drop, sym, ◌∙◌, ap, subst, arith}
use Rattle.std.proofs.lemmas.List.{length-drop}
use Rattle.lex_io.specs.declared.sink.Sink as Sink
use Rattle.lex_semantics.specs.Machine.{Machine}
use Rattle.lexscan_window.specs.declared.intake.Outlet.{Outlet}
use Rattle.lexscan_window.specs.declared.state.TextPlace.{TextPlace}
use Rattle.lexscan_window.specs.Intakes.{sink_of}
use Rattle.lexscan.specs.declared.burst.Burst.{Burst}
use Rattle.lexscan.specs.Bursts.{TurnsMade, BurstStopped, BurstsBy, BurstMade, fault_of}
use Rattle.lexscan.proofs.Chaining as Chain

-- the same turns, said of another burst that led to the same place
by_same : {K : Type 0} (fault : Bool) (M : Machine) (wrote : K → List ℕ → K → Type 0) (t u : K) (text : List ℕ) (held kept condition : ℕ) (line : Bool) (b b' : Burst) (k k' : ℕ) → b'.done ≡ b.done → b'.asked ≡ b.asked → b'.condition ≡ b.condition → b'.line_start ≡ b.line_start → k' ≡ k →
    BurstsBy fault M wrote t u text held kept condition line b k → BurstsBy fault M wrote t u text held kept condition line b' k'
by_same false M wrote t u text held kept condition line b b' k k' d a c l e h =
    subst (λ z. TurnsMade M wrote t u text held kept condition line z k' b'.asked b'.condition b'.line_start) (sym d)
    (subst (λ z. TurnsMade M wrote t u text held kept condition line b.done z b'.asked b'.condition b'.line_start) (sym e)
    (subst (λ z. TurnsMade M wrote t u text held kept condition line b.done k z b'.condition b'.line_start) (sym a)
    (subst (λ z. TurnsMade M wrote t u text held kept condition line b.done k b.asked z b'.line_start) (sym c)
    (subst (λ z. TurnsMade M wrote t u text held kept condition line b.done k b.asked b.condition z) (sym l) h))))
by_same true M wrote t u text held kept condition line b b' k k' d a c l e h =
    subst (λ z. BurstStopped M wrote t u text held kept condition line z k' b'.asked b'.condition b'.line_start) (sym d)
    (subst (λ z. BurstStopped M wrote t u text held kept condition line b.done z b'.asked b'.condition b'.line_start) (sym e)
    (subst (λ z. BurstStopped M wrote t u text held kept condition line b.done k z b'.condition b'.line_start) (sym a)
    (subst (λ z. BurstStopped M wrote t u text held kept condition line b.done k b.asked z b'.line_start) (sym c)
    (subst (λ z. BurstStopped M wrote t u text held kept condition line b.done k b.asked b.condition z) (sym l) h))))

module _ {K : Type 0} {of_sink : Sink.Ghosts K} (M : Machine) (join : (s t u : K) (xs ys : List ℕ) → of_sink.wrote s xs t → of_sink.wrote t ys u → of_sink.wrote s (xs ++ ys) u) (o o' o'' : Outlet K of_sink) (text : List ℕ) (held : ℕ) (p q : TextPlace) (b next all : Burst) (kept after last : ℕ)
    (works : b.fault ≡ false) (e : BurstMade M o o' text held p.at p b kept) (f : BurstMade M o' o'' (drop b.done text) (b.asked - b.done) q.at q next after)
    (at : q.at ≡ kept) (condition : q.condition ≡ b.condition) (line : q.line_start ≡ b.line_start)
    (done_is : all.done ≡ b.done + next.done) (asked_is : all.asked ≡ b.done + next.asked) (condition_is : all.condition ≡ next.condition) (line_is : all.line_start ≡ next.line_start) (fault_is : all.fault ≡ next.fault) (last_is : last ≡ after) where
  left : length (drop b.done text) ≡ length text - b.done
  left = length-drop b.done text

  order : b.done ≤ b.asked
  order = omega (arith, e.kept)

  within : b.done + next.asked ≤ length text
  within = omega (arith, f.asked, left, order, e.asked)

  went : TurnsMade M of_sink.wrote (sink_of o) (sink_of o') text held p.at p.condition p.line_start b.done kept b.asked b.condition b.line_start
  went = subst (λ z. BurstsBy z M of_sink.wrote (sink_of o) (sink_of o') text held p.at p.condition p.line_start b kept) works e.bursts

  then : BurstsBy next.fault M of_sink.wrote (sink_of o') (sink_of o'') (drop b.done text) (b.asked - b.done) kept b.condition b.line_start next after
  then =
      subst (λ k. BurstsBy next.fault M of_sink.wrote (sink_of o') (sink_of o'') (drop b.done text) (b.asked - b.done) k b.condition b.line_start next after) at
      (subst (λ k. BurstsBy next.fault M of_sink.wrote (sink_of o') (sink_of o'') (drop b.done text) (b.asked - b.done) q.at k b.line_start next after) condition
      (subst (λ k. BurstsBy next.fault M of_sink.wrote (sink_of o') (sink_of o'') (drop b.done text) (b.asked - b.done) q.at q.condition k next after) line f.bursts))

  pub joined : BurstMade M o o'' text held p.at p all last
  joined =
      let none = ap fault_of works in record {
        same = f.same ∙ e.same;
        bursts = subst (λ z. BurstsBy z M of_sink.wrote (sink_of o) (sink_of o'') text held p.at p.condition p.line_start all last) (sym fault_is)
            (by_same next.fault M of_sink.wrote (sink_of o) (sink_of o'') text held p.at p.condition p.line_start (record next { done = b.done + next.done; asked = b.done + next.asked }) all after last done_is asked_is condition_is line_is last_is
            (Chain.after_by M of_sink.wrote join (sink_of o) (sink_of o') (sink_of o'') text held p b.done kept b.asked b.condition b.line_start e.held order went next after f.held within next.fault then));
        failures = (let one = e.failures in let two = f.failures in let last = ap fault_of fault_is in omega (arith, one, two, none, last));
        live = λ h. f.live (sym fault_is ∙ h);
        condition = (let c = f.condition in omega (arith, c, condition_is));
        no_earlier = (let one = e.no_earlier in let two = f.no_earlier in omega (arith, one, two, at, done_is, last_is));
        kept = (let k = f.kept in omega (arith, k, done_is, asked_is, last_is));
        held = (let h = f.held in let k = e.held in omega (arith, h, k, asked_is, order));
        asked = omega (arith, within, asked_is);
      }
