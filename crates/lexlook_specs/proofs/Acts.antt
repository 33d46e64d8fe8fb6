-- What an action that tells does.
use Rattle.std.proofs.Common.{◌≡◌, ℕ, Bool, true, false, List, [], ◌∷◌, ◌++◌, take, refl, ◌∙◌, ap}
use Rattle.std.specs.Prelude.{if◌then◌else◌}
use Rattle.std.specs.List.{filter}
use Rattle.std.proofs.lemmas.List.{append_assoc}
use Rattle.lex_semantics.specs.Spec.{Statement, Echo, Print, Begin, More, Less, Reject, End, Push, Pop}
use Rattle.lex_semantics.specs.Acting.{Acting, StackFault}
use Rattle.lex_semantics.specs.ActionResults.{ActionResult, Done, Again, Over, act_result, has_room, popped}
use Rattle.lexlook_specs.specs.Traced.{steers, telling, text_end}

-- the same, but for what was written
abbrev pub anew : List ℕ → Acting → Acting
anew w a = record a { written = w }

abbrev pub retold : List ℕ → ActionResult → ActionResult
retold w (Done a) = Done (anew w a)
retold w (Again a) = Again (anew w a)
retold w (Over a e) = Over (anew w a) e

full : (w : List ℕ) (b : Bool) (a : Acting) (r q : ActionResult) → r ≡ retold w q → (if b then r else Over (anew w a) StackFault) ≡ retold w (if b then q else Over a StackFault)
full w true a r q h = h
full w false a r q h = refl

empty : (w cs : List ℕ) (a : Acting) (f g : ℕ → List ℕ → ActionResult) → ((c : ℕ) (rest : List ℕ) → f c rest ≡ retold w (g c rest)) → popped cs (anew w a) f ≡ retold w (popped cs a g)
empty w [] a f g h = refl
empty w (c ∷ cs) a f g h = h c cs

-- what is left of an action does the same, and writes nothing
steering_acts : (w : List ℕ) (ss : List Statement) (a : Acting) → act_result (filter steers ss) (anew w a) ≡ retold w (act_result ss a)
steering_acts w [] a = refl
steering_acts w (Echo ∷ ss) a = steering_acts w ss (record a { written = a.written ++ a.text })
steering_acts w (Print s ∷ ss) a = steering_acts w ss (record a { written = a.written ++ s })
steering_acts w (Begin d ∷ ss) a = steering_acts w ss (record a { condition = d })
steering_acts w (More ∷ ss) a = steering_acts w ss (record a { more = true })
steering_acts w (Less n ∷ ss) a = steering_acts w ss (record a { text = take n a.text })
steering_acts w (Reject ∷ ss) a = refl
steering_acts w (End s ∷ ss) a = refl
steering_acts w (Push d ∷ ss) a =
    let b : Acting = record a { condition = d; stack = a.condition ∷ a.stack } in
    full w (has_room a.stack) a (act_result (filter steers ss) (anew w b)) (act_result ss b) (steering_acts w ss b)
steering_acts w (Pop ∷ ss) a =
    empty w a.stack a (λ c cs. act_result (filter steers ss) (anew w (record a { condition = c; stack = cs }))) (λ c cs. act_result ss (record a { condition = c; stack = cs }))
    (λ c cs. steering_acts w ss (record a { condition = c; stack = cs }))

-- an action that tells writes its line, and does what the action does
pub telling_acts : (w front : List ℕ) (ss : List Statement) (a : Acting) → act_result (telling front ss) (anew w a) ≡ retold (w ++ (front ++ (a.text ++ text_end))) (act_result ss a)
telling_acts w front ss a = steering_acts (((w ++ front) ++ a.text) ++ text_end) ss a ∙ ap (λ z. retold z (act_result ss a)) (append_assoc (w ++ front) a.text text_end ∙ append_assoc w front (a.text ++ text_end))
