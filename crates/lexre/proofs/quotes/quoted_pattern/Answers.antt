use Rattle.std.proofs.Common.{◌≡◌, ◌≤◌, ◌∙◌, length, map, take, take_all, sym, ap, subst, arith}
use Rattle.lex_semantics.specs.Shapes.{IsSoundTree}
use Rattle.lex_semantics.specs.Tree.{Cat, trees}
use Rattle.lexre_bytes.specs.Lexical.{quoted_tree}
use Rattle.lexre.specs.Views.{tree_of}
use Rattle.lexre.proofs.QuotedLaws.{many_bytes, tree_of_many, byte_trees}
use Rattle.lexre.proofs.SoundLaws.{sound_quoted}
use Rattle.lexre.proofs.quotes.quoted_pattern.Goals as goal

pub returns-then-bytes-gt-MAX_QUOTED_BYTES-clause-tree : goal.returns-then-bytes-gt-MAX_QUOTED_BYTES-clause-tree
returns-then-bytes-gt-MAX_QUOTED_BYTES-clause-tree c = many_bytes c.args.fold c.args.bytes.now c.if-bytes-gt-MAX_QUOTED_BYTES.true

pub returns-in_ok-series-in_default-clause-tree : goal.returns-in_ok-series-in_default-clause-tree
returns-in_ok-series-in_default-clause-tree c =
    let bytes = c.args.bytes.now in
    let all : take c.loop-byte.byte-index bytes ≡ bytes = take_all _ _ (omega arith) in
    let many : 2 ≤ length bytes = omega arith in
    let tree : Cat (trees (map tree_of c.loop-byte.parts.items)) ≡ quoted_tree c.args.fold bytes =
    ap (λ ts. Cat (trees ts)) (c.loop-byte.invariant ∙ ap (byte_trees c.args.fold) all) ∙ tree_of_many c.args.fold bytes many in
    c.in_ok-series-in_default.ensures ∙ tree

pub returns-in_ok-series-in_default-clause-sound : goal.returns-in_ok-series-in_default-clause-sound
returns-in_ok-series-in_default-clause-sound c =
    let bytes = c.args.bytes.now in
    let all : take c.loop-byte.byte-index bytes ≡ bytes = take_all _ _ (omega arith) in
    let many : 2 ≤ length bytes = omega arith in
    let tree : Cat (trees (map tree_of c.loop-byte.parts.items)) ≡ quoted_tree c.args.fold bytes =
    ap (λ ts. Cat (trees ts)) (c.loop-byte.invariant ∙ ap (byte_trees c.args.fold) all) ∙ tree_of_many c.args.fold bytes many in
    let h : IsSoundTree (Cat (trees (map tree_of c.loop-byte.parts.items))) = subst IsSoundTree (sym tree) (sound_quoted c.args.fold bytes (λ k. let f = c.type_inv.bytes k in omega arith)) in
    subst IsSoundTree (sym c.in_ok-series-in_default.ensures) h
