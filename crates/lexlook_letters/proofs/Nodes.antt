-- How many nodes the tree of branches has, and the text of some branches and others behind them.
use Rattle.std.proofs.Common.{◌≡◌, ℕ, ◌+◌, Bool, true, false, if◌then◌else◌, List, [], ◌∷◌, ◌++◌, refl, sym, ap, ◌∙◌, append_assoc, append-nil, arith}
use Rattle.std.specs.Prelude.{codes}
use Rattle.lex_semantics.specs.Shapes.{nodes, nodes_of}
use Rattle.lex_semantics.specs.Tree.{Tree, Cat, Alt, trees}
use Rattle.lexre_bytes.specs.Symbols.{grouped}
use Rattle.lexlook_letters.specs.Text.{Branches, none, last, through, branches_text, choices, class_text, class_tree, no_branch, is_one, parts}
use Rattle.lexlook_letters.specs.declared.sequence.ByteRange.{ByteRange}
use Rattle.lexlook_letters.proofs.Groups.{followed_by}

-- the nodes of the parts of the first branch, and of all branches
abbrev pub part_nodes : Branches → ℕ
part_nodes bs = nodes_of (trees (parts bs))

abbrev pub choice_nodes : Branches → ℕ
choice_nodes bs = nodes_of (trees (choices bs))

-- the bar before branches, and these
abbrev pub barred : Branches → List ℕ
barred bs = if no_branch bs then [] else codes "|" ++ branches_text bs

-- what follows a range
abbrev tail_trees : Branches → List Tree
tail_trees bs = if is_one bs then parts bs else grouped Alt (choices bs) ∷ []

some_tail : (inner : Branches) → no_branch inner ≡ false → (t : Tree) × (ts : List Tree) × (tail_trees inner ≡ t ∷ ts)
some_tail none h = cc
some_tail (last r rs bs) h = go (is_one (last r rs bs))
  where
    go : (b : Bool) → (t : Tree) × (ts : List Tree) × ((if b then parts (last r rs bs) else grouped Alt (choices (last r rs bs)) ∷ []) ≡ t ∷ ts)
    go true = (_, _, refl)
    go false = (_, _, refl)
some_tail (through r inner bs) h = go (is_one (through r inner bs))
  where
    go : (b : Bool) → (t : Tree) × (ts : List Tree) × ((if b then parts (through r inner bs) else grouped Alt (choices (through r inner bs)) ∷ []) ≡ t ∷ ts)
    go true = (_, _, refl)
    go false = (_, _, refl)

series_nodes : (t : Tree) (ts us : List Tree) (u : Tree) → ts ≡ u ∷ us → nodes (grouped Cat (t ∷ ts)) ≡ 1 + nodes_of (trees (t ∷ ts))
series_nodes t ts us u e = rw e refl

-- one branch that goes on
pub through_choice : (r : ByteRange) (inner : Branches) → no_branch inner ≡ false → choice_nodes (through r inner none) ≡ 1 + part_nodes (through r inner none)
through_choice r inner some =
    let (t, ts, e) = some_tail inner some in
    let k = series_nodes (class_tree r []) (tail_trees inner) ts t e in
    omega (arith, k)

-- Some branches, and others behind them.

pub followed_nodes : (bs cs : Branches) → choice_nodes (followed_by bs cs) ≡ choice_nodes bs + choice_nodes cs
followed_nodes none cs = omega arith
followed_nodes (last r rs bs) cs = let h = followed_nodes bs cs in omega (arith, h)
followed_nodes (through r inner bs) cs = let h = followed_nodes bs cs in omega (arith, h)

pub followed_text : (bs cs : Branches) → is_one bs ≡ true → branches_text (followed_by bs cs) ≡ branches_text bs ++ barred cs
followed_text none cs h = cc
followed_text (last r rs none) cs h = ap (λ x. x ++ barred cs) (sym (append-nil (class_text (r ∷ rs))))
followed_text (last r rs (last q qs bs)) cs h = cc
followed_text (last r rs (through q inner bs)) cs h = cc
followed_text (through r inner none) cs h =
    let tail : List ℕ = if is_one inner then branches_text inner else codes "(" ++ (branches_text inner ++ codes ")") in
    ap (λ x. class_text (r ∷ []) ++ (x ++ barred cs)) (sym (append-nil tail)) ∙ sym (append_assoc (class_text (r ∷ [])) (tail ++ []) (barred cs))
followed_text (through r inner (last q qs bs)) cs h = cc
followed_text (through r inner (through q other bs)) cs h = cc

-- The tree.

pub one_tree : (bs : Branches) → is_one bs ≡ true → nodes (grouped Alt (choices bs)) ≡ choice_nodes bs
one_tree none h = cc
one_tree (last r rs none) h = refl
one_tree (last r rs (last q qs bs)) h = cc
one_tree (last r rs (through q inner bs)) h = cc
one_tree (through r inner none) h = omega arith
one_tree (through r inner (last q qs bs)) h = cc
one_tree (through r inner (through q other bs)) h = cc

pub many_trees : (bs : Branches) → no_branch bs ≡ false → is_one bs ≡ false → nodes (grouped Alt (choices bs)) ≡ 1 + choice_nodes bs
many_trees none h k = cc
many_trees (last r rs none) h k = cc
many_trees (last r rs (last q qs bs)) h k = refl
many_trees (last r rs (through q inner bs)) h k = refl
many_trees (through r inner none) h k = cc
many_trees (through r inner (last q qs bs)) h k = refl
many_trees (through r inner (through q other bs)) h k = refl
