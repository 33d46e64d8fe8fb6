-- What the entries of a map by rows of bytes stand for.
use Rattle.std.proofs.Common.{◌≡◌, ℕ, List, [], ◌∷◌, true, false, cond, Option, Some, option_map, Vec, refl, sym, ap, ◌∙◌}
use Rattle.std.specs.BTreeMap.{insert_entry, is_at}
use Rattle.std.specs.Cmp.Lexicographic.{slice_cmp, nat_list_cmp_total}
use Rattle.std.specs.FinMap as map
use Rattle.std.specs.FinMap.Entries.{by_order, put, find-put}
use Rattle.std.specs.Map.{lookup}
use Rattle.std.specs.Ordering.{nat_cmp, eq_by_cmp, is_eq, match_ordering}
use Rattle.std.specs.declared.cmp.Ordering.TheVariants.{Less, Equal, Greater}
use Rattle.lexre.specs.Entries.{entries_shown, map_of}

-- the value of a key
abbrev pub value_at : {Y V : Type 0} → List (Vec ℕ Y × V) → List ℕ → Option V
value_at es key = lookup (is_at (λ k. slice_cmp nat_cmp key k.items)) es

find_shown : {Y V W : Type 0} (f : V → W) (es : List (Vec ℕ Y × V)) (key : List ℕ) → map.find (slice_cmp nat_cmp) key (entries_shown f es) ≡ option_map f (value_at es key)
find_shown f [] key = refl
find_shown f (e ∷ es) key =
    elim (is_eq (slice_cmp nat_cmp key e.0.items)) as (λ b. cond b (Some (f e.1)) (map.find (slice_cmp nat_cmp) key (entries_shown f es)) ≡ option_map f (cond b (Some e.1) (value_at es key))) [
      | true ↦ refl
      | false ↦ find_shown f es key
    ]

pub get_shown : {Y V W : Type 0} (f : V → W) (es : List (Vec ℕ Y × V)) (key : List ℕ) → map.get (map_of f es) key ≡ option_map f (value_at es key)
get_shown f es key = map.get-from_entries nat_list_cmp_total (entries_shown f es) key ∙ find_shown f es key

shown_insert : {Y V W : Type 0} (f : V → W) (es : List (Vec ℕ Y × V)) (k : Vec ℕ Y) (v : V)
    → entries_shown f (insert_entry (λ x y. slice_cmp nat_cmp x.items y.items) es k v) ≡ put (slice_cmp nat_cmp) k.items (f v) (entries_shown f es)
shown_insert f [] k v = refl
shown_insert f (e ∷ es) k v =
    elim (slice_cmp nat_cmp k.items e.0.items) as (λ r. entries_shown f (match_ordering r ((k, v) ∷ e ∷ es) ((e.0, v) ∷ es) (e ∷ insert_entry (λ x y. slice_cmp nat_cmp x.items y.items) es k v)) ≡ by_order r ((k.items, f v) ∷ entries_shown f (e ∷ es)) ((e.0.items, f v) ∷ entries_shown f es) ((e.0.items, f e.1) ∷ put (slice_cmp nat_cmp) k.items (f v) (entries_shown f es))) [
      | Less ↦ refl
      | Equal ↦ refl
      | Greater ↦ ap (λ ts. (e.0.items, f e.1) ∷ ts) (shown_insert f es k v)
    ]

-- an entry more is a key more
pub one_more : {Y V W : Type 0} (f : V → W) (es fs : List (Vec ℕ Y × V)) (k : Vec ℕ Y) (v : V)
    → fs ≡ insert_entry (λ x y. slice_cmp nat_cmp x.items y.items) es k v → map_of f fs ≡ map.insert (map_of f es) k.items (f v)
one_more f es fs k v e =
    map.same_map nat_list_cmp_total (map.slice_cmp-IsAntisymmetric map.nat_cmp-IsAntisymmetric) (map_of f fs) (map.insert (map_of f es) k.items (f v)) (λ q.
    map.get-from_entries nat_list_cmp_total (entries_shown f fs) q
    ∙ ap (map.find (slice_cmp nat_cmp) q) (ap (entries_shown f) e ∙ shown_insert f es k v)
    ∙ find-put (slice_cmp nat_cmp) nat_list_cmp_total q k.items (f v) (entries_shown f es)
    ∙ ap (cond (eq_by_cmp (slice_cmp nat_cmp) q k.items) (Some (f v))) (sym (map.get-from_entries nat_list_cmp_total (entries_shown f es) q))
    ∙ sym (map.get-insert nat_list_cmp_total (map_of f es) k.items (f v) q))
