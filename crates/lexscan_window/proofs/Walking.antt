-- A walk of a machine, byte by byte.
use Rattle.std.proofs.Common.{◌≡◌, ℕ, ◌+◌, ◌-◌, ◌≤◌, ◌<◌, ◌⊎◌, inl, inr, true, false, List, [], ◌∷◌, ◌++◌, length, take, drop, get_or, refl, sym, ◌∙◌, ap, subst, arith}
use Rattle.std.proofs.lemmas.Bool.{cases_lt}
use Rattle.std.proofs.Math.Seq.{take-append-add}
use Rattle.std.proofs.lemmas.List.{take_more, take-append-le, take-take, length-append, length-take, length-take-le, take_all, drop-append-le}
use Rattle.lex_semantics.specs.Machine.{Machine, walk}
use Rattle.lex_semantics.proofs.MachineLaws.{walk-append}
use Rattle.lex_semantics.specs.Text.{IsText}
use Rattle.lex_semantics.proofs.Texts.{is_text_append, is_text_take}
use Rattle.lex_machine.specs.declared.glance.Way.{Way}
use Rattle.lex_machine.specs.Glances.{Leads}
use Rattle.lexscan_window.specs.declared.walk.Walk.{Walk}
use Rattle.lexscan_window.specs.Walks.{Walked, Filled}

-- no bytes yet
pub walked_none : (M : Machine) (first : ℕ) → Walked M first [] first first
walked_none M first = record {
  text = tt;
  state_is = refl;
  before_is = λ some. absurd (omega (arith, some));
  asked = λ i some less. absurd (omega (arith, some, less));
}

-- the front of a list and one element
front_of : (got : List ℕ) (b : ℕ) → take (length got) (got ++ b ∷ []) ≡ got
front_of got b = take-append-le (length got) got (b ∷ []) (omega arith) ∙ take_all (length got) got (omega arith)

-- one byte more
pub walked_more : (M : Machine) (first : ℕ) (got : List ℕ) (state before b : ℕ) → b < 256 → Walked M first got state before → (1 ≤ length got → M.goes_on state ≡ true) →
    Walked M first (got ++ b ∷ []) (M.next state b) state
walked_more M first got state before b small h live = record {
  text = is_text_append got (b ∷ []) h.text (small, tt);
  state_is = ap (λ s. M.next s b) h.state_is ∙ sym (walk-append M first got (b ∷ []));
  before_is = λ some. h.state_is ∙ ap (walk M first) (sym (ap (λ n. take n (got ++ b ∷ [])) one_less ∙ front_of got b));
  asked = λ i some less. asked i some (elim (cases_lt i (length got)) [ inl y ↦ inl y | inr n ↦ inr (omega (arith, n, less, size)) ]);
}
  where
    size : length (got ++ b ∷ []) ≡ length got + 1
    size = length-append got (b ∷ [])

    one_less : length (got ++ b ∷ []) - 1 ≡ length got
    one_less = omega (arith, size)

    asked : (i : ℕ) → 1 ≤ i → (i < length got) ⊎ (i ≡ length got) → M.goes_on (walk M first (take i (got ++ b ∷ []))) ≡ true
    asked i some (inl less) = ap (λ w. M.goes_on (walk M first w)) (take-append-le i got (b ∷ []) (omega (arith, less))) ∙ h.asked i some less
    asked i some (inr e) =
        ap (λ w. M.goes_on (walk M first w)) (ap (λ n. take n (got ++ b ∷ [])) e ∙ front_of got b) ∙ ap M.goes_on (sym h.state_is) ∙ live (omega (arith, some, e))

-- one more of the bytes that are ready
pub walked_ready : (M : Machine) (first : ℕ) (ready : List ℕ) (count state before b : ℕ) → count < length ready → b < 256 → b ≡ get_or ready count 0 → Walked M first (take count ready) state before → (1 ≤ count → M.goes_on state ≡ true) →
    Walked M first (take (count + 1) ready) (M.next state b) state
walked_ready M first ready count state before b inside small is h live =
    subst (λ l. Walked M first l (M.next state b) state) (sym (take_more ready count 0 inside ∙ ap (λ z. take count ready ++ z ∷ []) (sym is)))
    (walked_more M first (take count ready) state before b small h (λ some. live (omega (arith, some, length-take count ready))))

-- a walk to the first of the bytes after which the machine goes on no more
module _ (M : Machine) (first n : ℕ) (ready : List ℕ) (way : Way) (text : IsText ready) (leads : Leads M first (take n ready) way) where
  pub fits : way.count ≤ n
  fits = omega (arith, leads.inside, length-take n ready)

  pub within : way.count ≤ length ready
  within = omega (arith, leads.inside, length-take n ready)

  size : length (take way.count ready) ≡ way.count
  size = length-take-le way.count ready within

  front : (i : ℕ) → i ≤ way.count → take i (take way.count ready) ≡ take i (take n ready)
  front i le = take-take i way.count ready le ∙ sym (take-take i n ready (omega (arith, le, fits)))

  pub led : Walked M first (take way.count ready) way.state way.before
  led = record {
    text = is_text_take way.count ready text;
    state_is = leads.state_is ∙ ap (walk M first) (take-take way.count n ready fits);
    before_is = λ some. leads.before_is ∙ ap (walk M first) (sym (ap (λ k. take (k - 1) (take way.count ready)) size ∙ front (way.count - 1) (omega arith)));
    asked = λ i some less. ap (λ w. M.goes_on (walk M first w)) (front i (omega (arith, less, size))) ∙ leads.asked i some (omega (arith, less, size));
  }

  pub stops : (1 ≤ length (take way.count ready)) × (M.goes_on way.state ≡ false)
  stops = (omega (arith, size, leads.some), leads.stops)

-- the front of a buffer after a write into its middle
front_after : (n count room : ℕ) (old place post rest : List ℕ) → n ≤ length old → n + count ≤ room → count ≤ length place →
    take (n + count) (take room ((take n old ++ (place ++ post)) ++ rest)) ≡ take n old ++ take count place
front_after n count room old place post rest in_old in_room in_place =
    take-take (n + count) room ((take n old ++ (place ++ post)) ++ rest) in_room
    ∙ take-append-le (n + count) (take n old ++ (place ++ post)) rest (omega (arith, size, in_place, length-append (take n old) (place ++ post), length-append place post))
    ∙ ap (λ k. take (k + count) (take n old ++ (place ++ post))) (sym size) ∙ take-append-add (take n old) (place ++ post) count ∙ ap (λ z. take n old ++ z) (take-append-le count place post in_place)
  where
    size : length (take n old) ≡ n
    size = omega (arith, length-take n old, in_old)

-- a place in the window that a walk has filled, and the window after it
pub filled_on : (M : Machine) (start begin size room most first : ℕ) (old items place post rest bytes ready : List ℕ) (w : Walk) →
    Filled M ready [] (take w.count place) first size w → old ≡ items → start ≤ begin → begin ≤ length items → begin + size ≤ room → size ≤ length place → size ≤ most →
    bytes ≡ drop start (take begin items) → Filled M ready bytes (drop start (take (begin + w.count) (take room ((take begin old ++ (place ++ post)) ++ rest)))) first most w
filled_on M start begin size room most first old items place post rest bytes ready w f same low in_old in_room in_place few view = record {
  held = ap (drop start) (front_after begin w.count room old place post rest (omega (arith, in_old, lengths)) (omega (arith, f.few, in_room)) (omega (arith, f.few, in_place)))
      ∙ drop-append-le start (take begin old) (take w.count place) (omega (arith, length-take begin old, low, in_old, lengths))
      ∙ ap (λ z. z ++ take w.count place) (ap (λ z. drop start (take begin z)) same ∙ sym view) ∙ ap (λ z. bytes ++ z) f.held;
  inside = f.inside;
  few = omega (arith, f.few, few);
  walked = f.walked;
  stops = f.stops;
  reading = f.reading;
}
  where
    lengths : length old ≡ length items
    lengths = ap length same
