-- What several turns leave.
use Rattle.std.proofs.Common.{◌≡◌, ℕ, ◌+◌, ◌-◌, ◌≤◌, Bool, true, false, List, [], ◌++◌, length, take, drop, None, sym, ◌∙◌, ap, subst, arith}
use Rattle.std.proofs.lemmas.List.{append-nil, length-append, length-drop, length-take-le, take-take}
use Rattle.std.proofs.Math.Seq.{take-append_seam, drop-append_seam}
use Rattle.lex_semantics.specs.Text.{at_line_start}
use Rattle.lex_semantics.specs.Scanned.{Scanned}
use Rattle.lex_semantics.specs.Machine.{Machine, rules_of_machine}
use Rattle.lex_semantics.proofs.Texts.{take_past}
use Rattle.lexscan_window.specs.declared.state.State.{State}
use Rattle.lexscan_window.specs.declared.error.RunError.TheVariants.{Write}
use Rattle.lexscan_matching.specs.Descends.{ending_of}
use Rattle.lexscan.specs.TurnInvariants.{state_of, TurnInvariant, AfterRefusal}
use Rattle.lexscan.specs.Bursts.{Between, AllInvariant, TurnsMade, BurstStopped, NoEarlier}

-- what is known of a state is known of each that stands as it does
pub stands_all : (M : Machine) (n : ℕ) (given out : List ℕ) (old : State) (bytes : List ℕ) → old.reading.window.bytes ≡ bytes → old.reading.at_end ≡ false → old.ended ≡ None → TurnInvariant M n given out old →
    AllInvariant M n given out bytes old.place.at old.reading.taken old.place.condition old.place.line_start old.acting.stack
stands_all M n given out old bytes held reading going h v b works = record {
  works = works;
  start = h.start;
  scanned = subst (λ e. Scanned (rules_of_machine M) given e n (state_of out h.start v)) (reading ∙ sym b.at_end)
      (subst (Scanned (rules_of_machine M) given old.reading.at_end n)
      (λ i. record { written = out; place = record { start = h.start; at = h.start + (sym b.at) i; condition = sym b.condition_is i; stack = sym b.stack_is i }; ended = ending_of ((going ∙ sym b.going) i) }) h.scanned);
  text = h.text;
  covered = omega (arith, h.covered, b.at);
  held = b.bytes_are ∙ sym held ∙ h.held;
  line = b.line_is ∙ h.line ∙ ap (λ k. at_line_start given (h.start + k)) (sym b.at);
  taken = b.taken_is ∙ h.taken;
}

-- a text made of the bytes held and of those that are ready
module _ (text held ready : List ℕ) (h shown asked : ℕ) (size : h ≡ length held) (is : text ≡ held ++ take shown ready) (few : shown ≤ length ready) (low : h ≤ asked) (high : asked ≤ length text) where
  pub held_all : held ≡ take h text
  held_all = sym (ap (take h) is ∙ ap (λ k. take k (held ++ take shown ready)) size ∙ take-append_seam held (take shown ready))

  pub asked_all : take asked text ≡ held ++ take (asked - h) ready
  asked_all =
      let all : length text ≡ h + shown = ap length is ∙ length-append held (take shown ready) ∙ ap (λ k. length held + k) (length-take-le shown ready few) ∙ ap (λ k. k + shown) (sym size) in
      let e : asked ≡ length held + (asked - h) = omega (arith, low, size) in
      ap (take asked) is ∙ ap (λ k. take k (held ++ take shown ready)) e ∙ take_past held (take shown ready) (asked - h)
      ∙ ap (λ l. held ++ l) (take-take (asked - h) shown ready (omega (arith, all, high)))

  pub given_all : take (asked - h) ready ≡ drop h (take asked text)
  given_all = sym (ap (drop h) asked_all ∙ ap (λ k. drop k (held ++ take (asked - h) ready)) size ∙ drop-append_seam held (take (asked - h) ready))

-- the bytes that are accepted are those that are ready
pub accepted : (text held bytes ahead given ready : List ℕ) (h shown asked done : ℕ) → h ≡ length held → text ≡ held ++ take shown ready → shown ≤ length ready → asked ≤ length text → bytes ≡ held → ahead ≡ take shown given → given ≡ ready →
    drop done (bytes ++ take (asked - h) ahead) ≡ drop done (held ++ take (asked - h) ready)
accepted text held bytes ahead given ready h shown asked done size is few high e f g =
    let all : length text ≡ length held + shown = ap length is ∙ length-append held (take shown ready) ∙ ap (λ k. length held + k) (length-take-le shown ready few) in
    ap (λ l. drop done (l ++ take (asked - h) ahead)) e ∙ ap (λ l. drop done (held ++ take (asked - h) l)) (f ∙ ap (take shown) g) ∙ ap (λ l. drop done (held ++ l)) (take-take (asked - h) shown ready (omega (arith, all, size, high)))

-- nothing was done
pub no_further : (M : Machine) (n : ℕ) (given out : List ℕ) (s : State) → TurnInvariant M n given out s → TurnInvariant M (0 + n) (given ++ []) (out ++ []) s
no_further M n given out s h = subst (λ l. TurnInvariant M (0 + n) l (out ++ []) s) (sym (append-nil given)) (subst (λ l. TurnInvariant M (0 + n) given l s) (sym (append-nil out)) (subst (λ k. TurnInvariant M k given out s) (omega arith) h))

-- the turns of a burst, over a state and the one after it
module _ (M : Machine) (old new : State) (text ready : List ℕ) (h shown asked done kept condition : ℕ) (line : Bool) (size : h ≡ length old.reading.window.bytes) (is : text ≡ old.reading.window.bytes ++ take shown ready) (few : shown ≤ length ready)
    (low : h ≤ asked) (high : asked ≤ length text) (held_is : new.reading.window.bytes ≡ drop done (old.reading.window.bytes ++ take (asked - h) ready)) (taken_is : new.reading.taken ≡ old.reading.taken + (asked - h)) (reading : old.reading.at_end ≡ false)
    (at_end : new.reading.at_end ≡ false) (at : new.place.at ≡ kept) (line_is : new.place.line_start ≡ line) (condition_is : new.place.condition ≡ condition) (stack_is : new.acting.stack ≡ old.acting.stack) (going : old.ended ≡ None)
    (goes : new.ended ≡ None) {K : Type 0} (wrote : K → List ℕ → K → Type 0) (t u : K) where
  abbrev held_bytes : List ℕ
  held_bytes = old.reading.window.bytes

  given_is : drop h (take asked text) ≡ take (asked - h) ready
  given_is = sym (given_all text held_bytes ready h shown asked size is few low high)

  first_held : held_bytes ≡ take h text
  first_held = held_all text held_bytes ready h shown asked size is few low high

  pub between : Between new (drop done (take asked text)) kept (old.reading.taken + (asked - h)) condition line old.acting.stack
  between = record {
    bytes_are = held_is ∙ ap (drop done) (sym (asked_all text held_bytes ready h shown asked size is few low high));
    taken_is = taken_is;
    at_end = at_end;
    at = at;
    line_is = line_is;
    condition_is = condition_is;
    stack_is = stack_is;
    going = goes;
  }

  pub went_further : (went : TurnsMade M wrote t u text h old.place.at old.place.condition old.place.line_start done kept asked condition line) → new.failed ≡ false → (n : ℕ) (given out : List ℕ) → TurnInvariant M n given out old →
      TurnInvariant M (went.turns + n) (given ++ take (asked - h) ready) (out ++ went.out) new
  went_further went works n given out invariant =
      subst (λ l. TurnInvariant M (went.turns + n) (given ++ l) (out ++ went.out) new) given_is
      (went.stand n given out old.reading.taken old.acting.stack (stands_all M n given out old (take h text) first_held reading going invariant) new between works)

  pub broke_further : (broke : BurstStopped M wrote t u text h old.place.at old.place.condition old.place.line_start done kept asked condition line) → new.failed ≡ true → (n : ℕ) (given out : List ℕ) → TurnInvariant M n given out old →
      AfterRefusal M (broke.turns + n) (given ++ drop h (take broke.before text)) (drop broke.before (take asked text)) (out ++ broke.out) new Write
  broke_further broke bad n given out invariant = broke.refusal n given out old.reading.taken old.acting.stack (stands_all M n given out old (take h text) first_held reading going invariant) new between bad

  -- neither the text nor the match starts earlier
  pub starts_no_earlier : length old.reading.window.bytes ≤ old.reading.taken → done + kept ≤ asked → old.place.at ≤ done + kept → NoEarlier old new
  starts_no_earlier all order later =
      let left : length new.reading.window.bytes ≡ asked - done = ap length between.bytes_are ∙ length-drop done (take asked text) ∙ ap (λ n. n - done) (length-take-le asked text high) in
      record {
        start = omega (arith, left, taken_is, size, low, all, order);
        place = omega (arith, left, taken_is, size, low, all, order, later, at);
      }
