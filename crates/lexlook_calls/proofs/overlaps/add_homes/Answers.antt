use Rattle.std.proofs.Common.{rules, ◌≡◌, ◌<◌, ◌++◌, ◌+◌, ◌∙◌, ℕ, List, [], ◌∷◌, length, map, drop, get_or, Bor, ap, sym, append_assoc, arith}
use Rattle.std.proofs.lemmas.List.{drop_more, get_or-map, length-map}
use Rattle.lexlook_specs.specs.declared.words.overlapping.Home.{Home}
use Rattle.lexlook_specs.specs.declared.words.overlapping.Home.TheVariants.{Nowhere}
use Rattle.lexlook_calls.specs.Overlaps.{in_condition, in_conditions}
use Rattle.lexlook_calls.proofs.overlaps.add_homes.Goals as goal

-- a condition more
one_more : (names : List (List ℕ)) (homes : List Home) (k : ℕ) (d : Home) → k < length names → k < length homes
    → in_conditions (drop k names) (drop k homes) ≡ in_condition (get_or names k []) (get_or homes k d) ++ in_conditions (drop (k + 1) names) (drop (k + 1) homes)
one_more names homes k d known within =
    ap (λ (ns : List (List ℕ)). in_conditions ns (drop k homes)) (drop_more names k [] known)
    ∙ ap (λ (hs : List Home). in_conditions (get_or names k [] ∷ drop (k + 1) names) hs) (drop_more homes k d within)

pub loop-condition-preserved : goal.loop-condition-preserved
loop-condition-preserved c =
    let given = c.args.names.now in
    let names = map (λ (n : Bor (List ℕ)). n.now) given in
    let homes = c.args.homes.now in
    let k = c.loop-condition.condition in
    let text = c.loop-condition.text.items in
    let name = get_or names k [] in
    let home = get_or homes k Nowhere in
    let tail = in_conditions (drop (k + 1) names) (drop (k + 1) homes) in
    let within : k < length homes = first_of (search rules, grind arith) in
    let same = c.requires in
    let size : length names ≡ length given = length-map given (λ (n : Bor (List ℕ)). n.now) in
    let known : k < length given = omega (arith, within, same) in
    let named : name ≡ (get_or given k (record { ref_ptr = (0, 0); now = [] })).now = get_or-map (λ (n : Bor (List ℕ)). n.now) given k (record { ref_ptr = (0, 0); now = [] }) [] known in
    let next = c.in_ok-add_home.ensures ∙ ap (λ (n : List ℕ). text ++ in_condition n home) (sym named) in
    ap (λ (l : List ℕ). l ++ tail) next ∙ append_assoc text (in_condition name home) tail
    ∙ ap (λ (l : List ℕ). text ++ l) (sym (one_more names homes k Nowhere (omega (arith, known, size)) within))
    ∙ c.loop-condition.invariant
