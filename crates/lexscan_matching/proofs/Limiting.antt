-- What is told of a match where no more may be read.
use Rattle.std.proofs.Common.{◌≡◌, ℕ, ◌+◌, ◌≤◌, ◌<◌, max, true, false, List, [], ◌∷◌, ◌++◌, length, take, drop, ◌⊎◌, inl, inr, Result, Ok, Err, refl, sym, ◌∙◌, ap, append-nil, arith}
use Rattle.std.specs.Prelude.{IfErr, ⊤}
use Rattle.std.proofs.lemmas.List.{length-append, length-drop}
use Rattle.std.proofs.lemmas.Bool.{cases_lt}
use Rattle.lex_semantics.specs.ByteSets.{bit_of}
use Rattle.lex_semantics.specs.Machine.{Machine, state_after}
use Rattle.lexscan_window.specs.declared.error.RunError.{RunError}
use Rattle.lexscan_window.specs.declared.error.RunError.TheVariants.{TooManyReads, OutOfMemory, Write, Stack}
use Rattle.lexscan_window.specs.declared.state.Reading.{Reading}
use Rattle.lexscan_window.specs.declared.state.TextPlace.{TextPlace}
use Rattle.lexscan_window.specs.Reads.{Took, IsWanted, IsShort}
use Rattle.lexscan_matching.specs.Looks.{Looked, Wants, LimitFirst}
use Rattle.lexscan_matching.proofs.Growing.{was_reading, clash}

none_of : (l : List ℕ) → length l ≡ 0 → l ≡ []
none_of [] e = refl
none_of (x ∷ l) e = absurd (omega (arith, e))

at_most : (r : Reading) → r.taken ≤ r.max_reads
at_most r = omega (arith, r.few_reads)

not_ok : {T : Type 0} (x : T) (e : RunError) → ◌≡◌ {A = Result T RunError} (Ok x) (Err e) → ⊥
not_ok x e p = cc

not_both : {T : Type 0} (e : RunError) → e ≡ TooManyReads → ◌≡◌ {A = Result T RunError} (Err e) (Err OutOfMemory) → ⊥
not_both e is p = cc

module _ {S : Type 0} (M : Machine) (p : TextPlace) (gave : S → List ℕ → S → Type 0) (s t : S) (old new : Reading) (k : Took gave s t old new) where
  -- no byte was taken where none was added
  same_taken : new.window.bytes ≡ old.window.bytes → new.taken ≡ old.taken
  same_taken same =
      let sizes : length new.window.bytes ≡ length old.window.bytes + length k.got = ap length k.held ∙ length-append old.window.bytes k.got in
      omega (arith, sizes, ap length same, k.taken)

  none_added : length k.got ≡ 0 → new.window.bytes ≡ old.window.bytes
  none_added none = k.held ∙ ap (λ l. old.window.bytes ++ l) (none_of k.got none) ∙ append-nil old.window.bytes

  -- where no more may be read, no end is learnt
  pub no_end : old.taken ≡ old.max_reads → new.at_end ≡ true → ⊥
  no_end limit e =
      let one : bit_of new.at_end ≡ 1 = ap bit_of e in
      omega (arith, new.few_reads, one, k.taken, k.max_reads, limit)

  -- nor is a match seen that asks for more than was held
  pub not_looked : (path : List ℕ) → Looked M p old new path → old.taken ≡ old.max_reads → Wants M p old → ⊥
  not_looked path h limit wants = elim h.stops [ inl z ↦ clash (M.goes_on h.state) live z.0 | inr z ↦ no_end limit z.2 ]
    where
      same : new.window.bytes ≡ old.window.bytes
      same = none_added (omega (arith, at_most new, k.taken, k.max_reads, limit))

      inside : p.at + h.reach ≤ length old.window.bytes
      inside = omega (arith, h.so_far.inside, length-drop p.at new.window.bytes, ap length same, h.some)

      live : M.goes_on h.state ≡ true
      live = ap M.goes_on (h.so_far.state_is ∙ ap (λ w. state_after M p.condition p.line_start (take h.reach (drop p.at w))) same) ∙ wants.asked h.reach h.some inside

-- what was answered is no refusal
module _ {S : Type 0} (M : Machine) (keeps : Type 0) (p : TextPlace) (gave : S → List ℕ → S → Type 0) (s t : S) (old new : Reading) (k : Took gave s t old new) where
  pub answered : {T : Type 0} (x : T) → (old.taken ≡ old.max_reads → Wants M p old → ⊥) → LimitFirst M keeps p old new (Ok x)
  answered x none = record {
    memory = λ is. absurd (not_ok x OutOfMemory is);
    reads = λ limit wants. absurd (none limit wants);
  }

  pub ended : {T : Type 0} (x : T) → new.at_end ≡ true → LimitFirst M keeps p old new (Ok x)
  ended x e = answered x (λ limit wants. no_end M p gave s t old new k limit e)

-- what was refused after some bytes were taken
module _ {S : Type 0} (M : Machine) (p : TextPlace) (gave : S → List ℕ → S → Type 0) (s t u : S) (old mid new : Reading) (h : Took gave s t old mid) (k : Took gave t u mid new) (e : RunError) where
  used_up : old.taken ≡ old.max_reads → mid.taken ≡ mid.max_reads
  used_up limit = omega (arith, at_most mid, h.taken, h.max_reads, limit)

  refused_for : {T : Type 0} → new.window.bytes ≡ mid.window.bytes → (mid.taken ≡ mid.max_reads → e ≡ TooManyReads) → ◌≡◌ {A = Result T RunError} (Err e) (Err OutOfMemory) → new.taken < new.max_reads
  refused_for same first is = elim (cases_lt new.taken new.max_reads) [
    | inl less ↦ less
    | inr more ↦ absurd (not_both e (first (omega (arith, more, at_most mid, same_taken M p gave t u mid new k same, k.max_reads))) is)
  ]

  -- by bytes that were asked for many at a time
  pub filled : {T U : Type 0} (keeps : Type 0) (x : T) (y : U) → (mid.taken ≡ mid.max_reads → ◌≡◌ {A = Result U RunError} (Ok y) (Err TooManyReads)) → LimitFirst M keeps p old new (Ok x)
  filled keeps x y first = record {
    memory = λ is. absurd (not_ok x OutOfMemory is);
    reads = λ limit wants. absurd (not_ok y TooManyReads (first (used_up limit)));
  }

  pub fill_refused : {T : Type 0} (keeps : Type 0) → new.window.bytes ≡ mid.window.bytes → (mid.taken ≡ mid.max_reads → e ≡ TooManyReads) → LimitFirst {T = T} M keeps p old new (Err e)
  fill_refused keeps same first = record {
    memory = λ is. inl (refused_for same first is);
    reads = λ limit wants. inl (ap Err (first (used_up limit)));
  }

  -- byte by byte, with the state after each
  pub fetch_refused : {T : Type 0} (next len : ℕ) → mid.at_end ≡ old.at_end → next ≡ p.at + len → length mid.window.bytes ≡ max (length old.window.bytes) (p.at + len) → IsWanted mid new next ⊎ IsShort mid new next →
      (next ≡ length mid.window.bytes → mid.at_end ≡ false → mid.taken ≡ mid.max_reads → e ≡ TooManyReads) → (next < length mid.window.bytes → e ≡ OutOfMemory) → LimitFirst {T = T} M ⊤ p old new (Err e)
  fetch_refused next len same_end place size (inl wanted) first short = record {
    memory = λ is. inl (refused_for wanted.0 (first here (was_reading mid.at_end new.at_end k.end_stays wanted.2)) is);
    reads = λ limit wants. inl (ap Err (first here (same_end ∙ wants.reading) (used_up limit)));
  }
    where
      here : next ≡ length mid.window.bytes
      here = sym wanted.1 ∙ ap length wanted.0
  fetch_refused next len same_end place size (inr less) first short = record {
    memory = λ is. inr (tt, less.0 ∙ none_added M p gave s t old mid h (omega (arith, sizes, longer)), omega (arith, longer, place, less.1));
    reads = λ limit wants. inr (ap Err (short less.1));
  }
    where
      sizes : length mid.window.bytes ≡ length old.window.bytes + length h.got
      sizes = ap length h.held ∙ length-append old.window.bytes h.got

      longer : length mid.window.bytes ≡ length old.window.bytes
      longer = omega (arith, size, place, less.1)

-- A match that was seen asked for no byte more than it was allowed, and its action asks for no memory.
pub not_wanted : {T : Type 0} (M : Machine) (keeps : Type 0) (p : TextPlace) (old new : Reading) (x : T) → LimitFirst M keeps p old new (Ok x) → old.taken ≡ old.max_reads → Wants M p old → ⊥
not_wanted M keeps p old new x h limit wants = elim (h.reads limit wants) [ inl is ↦ not_ok x TooManyReads is | inr is ↦ not_ok x OutOfMemory is ]

pub carried : {T : Type 0} (M : Machine) (keeps : Type 0) (p : TextPlace) (old new : Reading) (result : Result T RunError) → (◌≡◌ {A = Result T RunError} result (Err OutOfMemory) → ⊥) → (old.taken ≡ old.max_reads → Wants M p old → ⊥) → LimitFirst M keeps p old new result
carried M keeps p old new result other none = record {
  memory = λ is. absurd (other is);
  reads = λ limit wants. absurd (none limit wants);
}

pub late_only : {T : Type 0} (result : Result T RunError) → IfErr result (λ e. (e ≡ Write) ⊎ (e ≡ Stack)) → ◌≡◌ {A = Result T RunError} result (Err OutOfMemory) → ⊥
late_only (Ok x) h is = not_ok x OutOfMemory is
late_only {T = T} (Err e) h is = later h is
  where
    later : (e ≡ Write) ⊎ (e ≡ Stack) → ◌≡◌ {A = Result T RunError} (Err e) (Err OutOfMemory) → ⊥
    later (inl by) p = cc
    later (inr by) p = cc

pub write_only : {T : Type 0} (result : Result T RunError) → IfErr result (λ e. e ≡ Write) → ◌≡◌ {A = Result T RunError} result (Err OutOfMemory) → ⊥
write_only (Ok x) h is = not_ok x OutOfMemory is
write_only (Err e) h is = cc

-- the same refusal of another call
pub given_up : {T U : Type 0} (M : Machine) (keeps : Type 0) (p : TextPlace) (old new : Reading) (e : RunError) → LimitFirst {T = T} M keeps p old new (Err e) → LimitFirst {T = U} M keeps p old new (Err e)
given_up {T = T} {U = U} M keeps p old new e h = record {
  memory = λ is. h.memory (cc);
  reads = λ limit wants. elim (h.reads limit wants) [ inl is ↦ inl (cc) | inr is ↦ inr (cc) ];
}

-- for what is known otherwise of who keeps states
pub known_keeper : {T : Type 0} (M : Machine) (keeps keeps' : Type 0) (p : TextPlace) (old new : Reading) (result : Result T RunError) → (keeps → keeps') → LimitFirst M keeps p old new result → LimitFirst M keeps' p old new result
known_keeper M keeps keeps' p old new result known h = record {
  memory = λ is. elim (h.memory is) [ inl less ↦ inl less | inr held ↦ inr (known held.0, held.1, held.2) ];
  reads = h.reads;
}
