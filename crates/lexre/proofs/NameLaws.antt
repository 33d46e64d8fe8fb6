-- What is known of names.
use Rattle.std.proofs.Common.{◌≡◌, ℕ, zero, suc, ◌≤◌, ◌<◌, nat_le, cond, List, Option, Some, None, refl, sym, ap, ◌∙◌, subst, arith}
use Rattle.std.proofs.lemmas.Bool.{le-leb, lt-leb, leb-true}
use Rattle.std.specs.Cmp.Lexicographic.{slice_cmp, nat_list_cmp_total}
use Rattle.std.specs.FinMap as map
use Rattle.std.specs.Ordering.{nat_cmp, is_eq}
use Rattle.std.specs.declared.cmp.Ordering.{Ordering}
use Rattle.std.specs.declared.cmp.Ordering.TheVariants.{Less, Equal, Greater}
use Rattle.lex_semantics.specs.Shapes.{IsSoundTree, nodes}
use Rattle.lex_semantics.specs.Tree.{Tree}
use Rattle.lexre.specs.Definitions.{Definitions}
use Rattle.lexre.specs.Counting.{capped_nodes}
use Rattle.lexre.specs.Names.{NamedTrees, usable, AreKnown}
use Rattle.lexre.specs.Reading.{StandsIn, NoneWithin}
use Rattle.lexre.specs.declared.options.ReadOptions.{ReadOptions}
use Rattle.lexre.proofs.GrammarLaws.{chosen}
use Rattle.lexre.proofs.OneTree.{some_is}
use Rattle.lexre.proofs.ReaderLaws.{one_stands}

none_some : {A : Type 0} {x : A} → None ≡ Some x → ⊥
none_some e = cc

-- What is kept of a name.

pub usable_where : (left : ℕ) (k : Tree × ℕ) → k.1 ≤ left → usable left (Some k) ≡ Some k
usable_where left k h = rw (le-leb k.1 left h) refl

pub usable_nowhere : (left : ℕ) (k : Tree × ℕ) → left < k.1 → usable left (Some k) ≡ None
usable_nowhere left k h = rw (lt-leb k.1 left h) refl

some_usable : (left : ℕ) (k u : Tree × ℕ) → usable left (Some k) ≡ Some u → (k.1 ≤ left) × (k ≡ u)
some_usable left k u e =
    let (below, same) = chosen (nat_le k.1 left) k u e in
    (leb-true k.1 left below, same)

pub known_usable : (how : ReadOptions) (definitions : Definitions) (trees : NamedTrees) (left : ℕ) (n : List ℕ) (t : Tree) (needed : ℕ) → AreKnown how definitions trees
    → usable left (map.get trees n) ≡ Some (t, needed) → (needed ≤ left) × StandsIn how definitions needed n t × IsSoundTree t
known_usable how definitions trees left n t needed known e = go (map.get trees n) refl e
  where
    go : (k : Option (Tree × ℕ)) → map.get trees n ≡ k → usable left k ≡ Some (t, needed) → (needed ≤ left) × StandsIn how definitions needed n t × IsSoundTree t
    go None here e = absurd (none_some e)
    go (Some k) here e =
        let (below, same) = some_usable left k (t, needed) e in
        let (stands, sound) = known n t needed (here ∙ ap Some same) in
        (subst (λ (x : Tree × ℕ). x.1 ≤ left) same below, stands, sound)

pub nothing_known : (how : ReadOptions) (definitions : Definitions) → AreKnown how definitions map.empty
nothing_known how definitions n t left e = absurd (none_some (sym (map.get-empty (slice_cmp nat_cmp) n) ∙ e))

-- a name stands for a tree, which is sound
abbrev Meant : ReadOptions → Definitions → List ℕ → Tree × ℕ → Type 0
Meant how definitions n k = StandsIn how definitions k.1 n k.0 × IsSoundTree k.0

pub still_known : (how : ReadOptions) (definitions : Definitions) (trees : NamedTrees) (n : List ℕ) (t : Tree) (needed : ℕ) → AreKnown how definitions trees
    → StandsIn how definitions needed n t → IsSoundTree t → AreKnown how definitions (map.insert trees n (t, needed))
still_known how definitions trees n t needed known stands sound q u k e =
    go (slice_cmp nat_cmp q n) refl (sym (map.get-insert nat_list_cmp_total trees n (t, needed) q) ∙ e)
  where
    go : (r : Ordering) → slice_cmp nat_cmp q n ≡ r → cond (is_eq r) (Some (t, needed)) (map.get trees q) ≡ Some (u, k) → Meant how definitions q (u, k)
    go Less same f = known q u k f
    go Equal same f =
        let here : q ≡ n = map.slice_cmp-IsAntisymmetric map.nat_cmp-IsAntisymmetric q n same in
        rw here (subst (Meant how definitions n) (some_is (t, needed) (u, k) f) (stands, sound))
    go Greater same f = known q u k f

-- Refusals.

pub too_many_known : (how : ReadOptions) (definitions : Definitions) (room left : ℕ) (n : List ℕ) (t : Tree) → StandsIn how definitions left n t → room < capped_nodes t → NoneWithin room (StandsIn how definitions left n)
too_many_known how definitions room zero n t stands big u stands' few = stands
too_many_known how definitions room (suc d) n t stands big u stands' few =
    let same : u ≡ t = one_stands how definitions d n u t stands' stands in
    omega (arith, ap nodes same)
