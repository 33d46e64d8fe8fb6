-- How far a turn looks, by what its walk looks at.
use Rattle.std.proofs.Common.{◌≡◌, ℕ, zero, suc, ◌+◌, ◌-◌, ◌≤◌, ◌<◌, Bool, true, false, List, [], ◌∷◌, ◌++◌, length, append-nil, take, drop, inl, inr, refl, sym, ap, ◌∙◌, subst, arith, length-drop, length-append, true≢false}
use Rattle.std.specs.Prelude.{cond, option_map, unwrap_or}
use Rattle.std.proofs.lemmas.List.{map-append}
use Rattle.std.proofs.lemmas.Option.{slice_get_past}
use Rattle.lex_semantics.specs.Text.{BeginsWith, IsText, at_line_start}
use Rattle.lex_semantics.specs.Rules.{Rules}
use Rattle.lex_semantics.specs.Demand.{Asks, AsksAt, Consistent}
use Rattle.lex_semantics.specs.Machine.{Machine, rules_of_machine, walk}
use Rattle.lex_semantics.specs.MachineLaws.{MachineLaws}
use Rattle.lex_semantics.specs.Run.{Place}
use Rattle.lex_semantics.proofs.MachineLaws.{machine_laws}
use Rattle.lex_semantics.proofs.Prefix.{asks_front, asks_here, front_asks}
use Rattle.lextab_packed.specs.Machines.{table_machine}
use Rattle.lextab_packed.specs.declared.tables.Tables.{Tables}
use Rattle.lexlook_counts.specs.Costs.{AreCosts, IsCost, LooksAt, TurnCost, begins_at, end_of, tokens_in}
use Rattle.lexlook_counts.specs.Looking.{Looks}
use Rattle.lexlook_counts.specs.declared.looking.Look.{Look}

-- answers that are all bytes
pub looks_at : (R : Rules) (x : List ℕ) (p : Place) (r : ℕ) → p.at + r ≤ length x → Asks R x p r → LooksAt R x p r
looks_at R x p r fits asks i = (λ lt. (omega (arith, fits, lt), ((asks i).0 lt).1), λ (less, a). (asks i).1 (omega (arith, less), a))

module _ (M : Machine) (laws : MachineLaws M) (given : List ℕ) (p : Place) (inside : p.at ≤ length given) (l : Look)
    (h : Looks M (M.start p.condition (at_line_start given p.at)) (drop p.at given) l) where
  -- each byte that is looked at is asked for
  all_asked : (i : ℕ) → i < l.count → AsksAt (rules_of_machine M) given p i
  all_asked zero lt = inl refl
  all_asked (suc i) lt = inr (h.asked (suc i) (omega arith) lt)

  size : length (drop p.at given) ≡ length given - p.at
  size = length-drop p.at given

  -- it stops among the bytes that were given, whatever follows
  pub reach_closed : (rest : List ℕ) → IsText (given ++ rest) → l.whole ≡ false → LooksAt (rules_of_machine M) (given ++ rest) p l.count
  reach_closed rest text closed =
      let stop = h.stops closed in
      let fits : p.at + l.count ≤ length given = (let i = h.inside in let n = size in omega (arith, i, n, inside)) in
      let long : length (given ++ rest) ≡ length given + length rest = length-append given rest in
      looks_at (rules_of_machine M) (given ++ rest) p l.count (omega (arith, fits, long))
      (asks_here (rules_of_machine M) (machine_laws M laws) (given ++ rest) p l.count text (omega (arith, fits, long)) stop.0
      (λ i lt. asks_front (rules_of_machine M) given rest p i (omega (arith, fits, lt)) (all_asked i lt))
      (λ a. no_more stop.0 stop.1 (front_asks (rules_of_machine M) given rest p l.count fits a)))
    where
      no_more : 1 ≤ l.count → M.goes_on (walk M (M.start p.condition (at_line_start given p.at)) (take l.count (drop p.at given))) ≡ false → AsksAt (rules_of_machine M) given p l.count → ⊥
      no_more some stops (inl none) = omega (arith, some, none)
      no_more some stops (inr goes) = true≢false (sym goes ∙ stops)

  -- it looks at all that there is
  pub reach_whole : l.whole ≡ true → LooksAt (rules_of_machine M) given p l.count
  reach_whole whole i =
      let n : l.count ≡ length given - p.at = h.all whole ∙ size in
      (λ lt. (omega (arith, n, lt, inside), all_asked i lt), λ (fits, a). omega (arith, n, fits))

-- what an input is that goes on so
pub begins_so : (given : List ℕ) (at_end : Bool) (x : List ℕ) → Consistent given at_end x → BeginsWith x given
begins_so given true x (text, is) = ([], is ∙ sym (append-nil given))
begins_so given false x (text, begins) = begins

-- what a turn looks at behind its text
pub is_cost : (M : Machine) → MachineLaws M → (given x : List ℕ) (at : ℕ) (finished : Bool) (l : Look) (c : TurnCost) → Consistent given finished x → at ≤ length given
    → Looks M (M.start c.token.condition (at_line_start given at)) (drop at given) l → (l.whole ≡ true → finished ≡ true) → c.beyond ≡ l.count - (c.token.end - at) → IsCost (rules_of_machine M) x at c
is_cost M laws given x at finished l c goes inside h all is = record { looked = l.count; reach = from l.whole refl; beyond_is = is }
  where
    from : (b : Bool) → l.whole ≡ b → LooksAt (rules_of_machine M) x (begins_at at c.token.condition) l.count
    from true e =
        let same : x ≡ given = (subst (λ (b : Bool). Consistent given b x) (all e) goes).1 in
        subst (λ (y : List ℕ). LooksAt (rules_of_machine M) y (begins_at at c.token.condition) l.count) (sym same) (reach_whole M laws given (begins_at at c.token.condition) inside l h e)
    from false e =
        let begins = begins_so given finished x goes in
        subst (λ (y : List ℕ). LooksAt (rules_of_machine M) y (begins_at at c.token.condition) l.count) (sym begins.1)
        (reach_closed M laws given (begins_at at c.token.condition) inside l h begins.0 (subst IsText begins.1 goes.0) e)

-- ---- one turn more

pub costs_more : (R : Rules) (x : List ℕ) (at : ℕ) (cs : List TurnCost) (c : TurnCost) → AreCosts R x at cs → IsCost R x (end_of at cs) c → AreCosts R x at (cs ++ c ∷ [])
costs_more R x at [] c all one = (one, tt)
costs_more R x at (d ∷ cs) c all one = (all.0, costs_more R x d.token.end cs c all.1 one)

pub end_more : (at : ℕ) (cs : List TurnCost) (c : TurnCost) → end_of at (cs ++ c ∷ []) ≡ c.token.end
end_more at [] c = refl
end_more at (d ∷ cs) c = end_more d.token.end cs c

pub tokens_more : (cs : List TurnCost) (c : TurnCost) → tokens_in (cs ++ c ∷ []) ≡ tokens_in cs ++ c.token ∷ []
tokens_more cs c = map-append (λ (d : TurnCost). d.token) cs (c ∷ [])

-- a condition that there is not starts in the dead state
pub no_start : (t : Tables) (c : ℕ) (line : Bool) → (table_machine t).conditions ≤ c → (table_machine t).start c line ≡ 0
no_start t c line past = ap (λ o. unwrap_or (option_map (λ k. cond line k.line_start k.start) o) 0) (slice_get_past _ c past)
