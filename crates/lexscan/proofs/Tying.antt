-- A turn whose output was handed on before it.
use Rattle.std.proofs.Common.{◌≡◌, Bool, ℕ, List, [], ◌++◌, inl, inr, Ok, Err, refl, sym, subst}
use Rattle.std.specs.Prelude.{Result}
use Rattle.lex_semantics.specs.Machine.{Machine}
use Rattle.lexscan_window.specs.declared.state.State.{State}
use Rattle.lexscan.specs.declared.turn.Turn.{Turn}
use Rattle.lexscan_window.specs.declared.error.RunError.{RunError}
use Rattle.lexscan_window.specs.declared.error.RunError.TheVariants.{Read, TooManyReads, Write, OutOfMemory, Stack, Failed}
use Rattle.lexscan_window.specs.Reads.{Took}
use Rattle.lexscan_matching.specs.Looks.{Unmet}
use Rattle.lexscan.specs.Ties.{HandedOnAfter}
use Rattle.lexscan.specs.TurnSteps.{RefusalCause, StackFaulted, TurnStep}

module _ {S K : Type 0} (M : Machine) (gave : S → List ℕ → S → Type 0) (wrote : K → List ℕ → K → Type 0) (s s' : S) (t u t' : K) (old new : State)
    (more : (a b c : K) (xs ys : List ℕ) → wrote a xs b → wrote b ys c → wrote a (xs ++ ys) c) (flushed : wrote t [] u) where
  on : (ys : List ℕ) → wrote u ys t' → wrote t ys t'
  on ys w = more t u t' [] ys flushed w

  why_on : RefusalCause M wrote u t' old new → RefusalCause M wrote t t' old new
  why_on (inl h) = inl (h.0, on [] h.1)
  why_on (inr (inl h)) = inr (inl (h.0, h.1, record { out = h.2.out; sink = on h.2.out h.2.sink; front = h.2.front }))
  why_on (inr (inr h)) = inr (inr (h.0, h.1, h.2, on h.1 h.3))

  fault_on : StackFaulted M wrote u t' old new → StackFaulted M wrote t t' old new
  fault_on h =
      let f = h.2 in (
        h.0,
        h.1,
        record { acting = f.acting; performed = record { out = f.performed.out; sink = on f.performed.out f.performed.sink; acts = f.performed.acts }; inside = f.inside },
      )

  pub tied_moved : (r : Result Turn RunError) → TurnStep M gave wrote s s' u t' old new r → TurnStep M gave wrote s s' t t' old new r
  tied_moved (Ok turn) (inl m) =
      let a = m.acted in
      let p = a.performed in
      inl (record {
        mid = m.mid;
        took = m.took;
        path = m.path;
        looked = m.looked;
        acted = record {
          acting = a.acting;
          ended = a.ended;
          performed = record { out = p.out; sink = on p.out p.sink; acts = p.acts };
          inside = a.inside;
          left = a.left;
          says = a.says;
          same = a.same;
          is_ended = a.is_ended;
          takes = a.takes;
        };
      })
  tied_moved (Ok turn) (inr m) = inr (record { mid = m.mid; took = m.took; looked = m.looked; sink = on (M.ending old.place.condition).print m.sink; left = m.left })
  tied_moved (Err e) m = record {
    took = m.took;
    place = m.place;
    why = why_on m.why;
    early = λ is. (let h = m.early is in (h.0, on [] h.1));
    fault = λ is. fault_on (m.fault is);
  }

-- no byte was had, or no memory, or what was written could not be handed on: nothing was put
pub stopped : {S K : Type 0} (M : Machine) (gave : S → List ℕ → S → Type 0) (wrote : K → List ℕ → K → Type 0) (s s' : S) (t t' : K) (old new : State) → Took gave s s' old.reading new.reading → new.place ≡ old.place →
    Unmet M old.place old.reading new.reading → wrote t [] t' → (e : RunError) → (e ≡ Stack → ⊥) → TurnStep M gave wrote s s' t t' old new (Err e)
stopped M gave wrote s s' t t' old new took place unmet none e other = record {
  took = took;
  place = place;
  why = inl (unmet, none);
  early = λ early. (unmet, none);
  fault = λ is. absurd (other is);
}

-- a refusal that is none of the stack asks nothing
pub no_stack : (flushed : Bool) (e : RunError) → (e ≡ Stack → ⊥) → HandedOnAfter flushed e
no_stack flushed Stack other = absurd (other refl)
no_stack flushed Read other = tt
no_stack flushed TooManyReads other = tt
no_stack flushed Write other = tt
no_stack flushed OutOfMemory other = tt
no_stack flushed Failed other = tt

-- nor does a write fault
pub write_only : (flushed : Bool) (e : RunError) → e ≡ Write → HandedOnAfter flushed e
write_only flushed e is = subst (HandedOnAfter flushed) (sym is) tt
