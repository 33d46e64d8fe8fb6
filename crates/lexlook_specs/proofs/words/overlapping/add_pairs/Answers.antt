use Rattle.std.proofs.Common.{rules, ◌≡◌, ◌<◌, ◌≤◌, ◌+◌, ◌∙◌, ℕ, Bool, List, Vec, Global, Option, Some, None, get_or, length, refl, sym, subst, arith}
use Rattle.std.proofs.lemmas.Option.{get_or_from_slice_get, slice_get_read}
use Rattle.lexauto_dfa.specs.Automata.{states_of}
use Rattle.lexauto_dfa.specs.declared.dfa.Parts.{Parts}
use Rattle.lexauto_reports.specs.Searching.{place_of, words_of}
use Rattle.lexlook_specs.specs.Matches.{matches_in}
use Rattle.lexlook_specs.specs.Overlaps.{IsFirstShared}
use Rattle.lexlook_specs.specs.Pairing.{IsUpTo}
use Rattle.lexlook_specs.specs.Placing.{IsLeastOf, SharesAt}
use Rattle.lexlook_specs.specs.declared.words.overlapping.Overlap.{Overlap}
use Rattle.lexlook_specs.proofs.Led.{placed_leads}
use Rattle.lexlook_specs.proofs.Pairs.{pair_passed, row_passed}
use Rattle.lexlook_specs.proofs.Places.{least_there, least_nowhere}
use Rattle.lexlook_specs.proofs.Sharing.{first_shared, not_shared, shared_known, shared_order}
use Rattle.lexlook_specs.proofs.words.overlapping.add_pairs.Goals as goal
use Rattle.lexlook_specs.proofs.words.overlapping.add_pairs.Goals.{in-Some+in_ok-add_pair, in_default}

-- what is read at a place of a list
read_at : (items : List (Option ℕ)) (j : ℕ) (x o : Option ℕ) → j < length items → x ≡ get_or items j x → x ≡ o → place_of items j ≡ o
read_at items j x o low e is = get_or_from_slice_get items j x None (slice_get_read items (length items) j x refl low e) ∙ is

-- the first place at which two rules share a text
there : (p : Parts) (rejects : List Bool) (read places items : List (Option ℕ)) (n i j k : ℕ) → read ≡ places → ((j : ℕ) → IsLeastOf (SharesAt p rejects read n i j) (place_of items j)) → place_of items j ≡ Some k
    → SharesAt p rejects places n i j k × ((l : ℕ) → SharesAt p rejects places n i j l → k ≤ l)
there p rejects read places items n i j k same least e =
    least_there (SharesAt p rejects places n i j) (place_of items j) k (subst (λ (l : List (Option ℕ)). IsLeastOf (SharesAt p rejects l n i j) (place_of items j)) same (least j)) e

nowhere : (p : Parts) (rejects : List Bool) (read places items : List (Option ℕ)) (n i j : ℕ) → read ≡ places → ((j : ℕ) → IsLeastOf (SharesAt p rejects read n i j) (place_of items j)) → place_of items j ≡ None
    → (k : ℕ) → SharesAt p rejects places n i j k → ⊥
nowhere p rejects read places items n i j same least e =
    least_nowhere (SharesAt p rejects places n i j) (place_of items j) (subst (λ (l : List (Option ℕ)). IsLeastOf (SharesAt p rejects l n i j) (place_of items j)) same (least j)) e

pub word-text-requires : goal.word-text-requires
word-text-requires c =
    let d = c.args.dfa.now in
    let rejects = c.args.rejects.now in
    let words = words_of c.args.found.now.groups in
    let places = c.args.found.now.places.items in
    let j = c.loop-second.second in
    let items = c.in_ok-places.places.items in
    let low : j < length items = first_of (search rules, grind arith) in
    let r = there d.parts rejects c.deref.result.now places items (states_of d) c.args.first j c.in-Some.place c.deref.ensures.value c.in_ok-places.ensures.least (read_at items j c.index.result.now (Some c.in-Some.place) low c.index.ensures c.in-Some.is) in
    (placed_leads d.parts words places c.requires.found r.0.0 c.in-Some.place r.0.3).0

pub add_pair-requires-clause-order : goal.add_pair-requires-clause-order
add_pair-requires-clause-order c =
    let d = c.args.dfa.now in
    let rejects = c.args.rejects.now in
    let words = words_of c.args.found.now.groups in
    let places = c.args.found.now.places.items in
    let j = c.loop-second.second in
    let items = c.in_ok-places.places.items in
    let low : j < length items = first_of (search rules, grind arith) in
    let r = there d.parts rejects c.deref.result.now places items (states_of d) c.args.first j c.in-Some.place c.deref.ensures.value c.in_ok-places.ensures.least (read_at items j c.index.result.now (Some c.in-Some.place) low c.index.ensures c.in-Some.is) in
    shared_order d.parts d.lawful rejects words places c.requires.found c.args.first j c.in-Some.place r.0

pub add_pair-requires-clause-shared : goal.add_pair-requires-clause-shared
add_pair-requires-clause-shared c =
    let d = c.args.dfa.now in
    let rejects = c.args.rejects.now in
    let words = words_of c.args.found.now.groups in
    let places = c.args.found.now.places.items in
    let j = c.loop-second.second in
    let items = c.in_ok-places.places.items in
    let low : j < length items = first_of (search rules, grind arith) in
    let r = there d.parts rejects c.deref.result.now places items (states_of d) c.args.first j c.in-Some.place c.deref.ensures.value c.in_ok-places.ensures.least (read_at items j c.index.result.now (Some c.in-Some.place) low c.index.ensures c.in-Some.is) in
    subst (IsFirstShared (matches_in d.parts rejects) c.args.first j) (sym c.word-text.ensures) (first_shared d.parts d.lawful rejects words places c.requires.found c.args.first j c.in-Some.place r.0 r.1)

pub loop-second-preserved : goal.loop-second-preserved
loop-second-preserved c =
    let d = c.args.dfa.now in
    let rejects = c.args.rejects.now in
    let words = words_of c.args.found.now.groups in
    let places = c.args.found.now.places.items in
    let j = c.loop-second.second in
    let items = c.in_ok-places.places.items in
    let low : j < length items = first_of (search rules, grind arith) in
    let m = matches_in d.parts rejects in
    elim c.match-index.branch [
      | in-Some+in_ok-add_pair w ↦ subst (λ (v : Vec Overlap Global). IsUpTo m c.args.most c.args.first (j + 1) v.items) (sym w.overlaps-is) w.in_ok-add_pair.ensures
      | in_default w ↦ (
          let none = nowhere d.parts rejects c.deref.result.now places items (states_of d) c.args.first j c.deref.ensures.value c.in_ok-places.ensures.least (read_at items j c.index.result.now None low c.index.ensures w.in_default.is) in
          subst (λ (v : Vec Overlap Global). IsUpTo m c.args.most c.args.first (j + 1) v.items) (sym w.overlaps-is)
          (pair_passed m c.args.most c.args.first j c.loop-second.overlaps.items (λ text order shared. not_shared d.parts d.lawful rejects words places c.requires.found c.args.first j none text order shared) c.loop-second.invariant))
    ]

pub returns : goal.returns
returns c =
    let d = c.args.dfa.now in
    let rejects = c.args.rejects.now in
    let v = c.loop-second.overlaps.items in
    let m = matches_in d.parts rejects in
    let all : c.loop-second.second ≡ length rejects = first_of (search rules, grind arith) in
    row_passed m c.args.most (shared_known d.parts d.lawful rejects c.requires.rules) c.args.first v
    (subst (λ (k : ℕ). IsUpTo m c.args.most c.args.first k v) all c.loop-second.invariant)
