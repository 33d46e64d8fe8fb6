use Rattle.std.proofs.Common.{◌≡◌, ◌+◌, ◌∙◌, List, ℕ, ◌++◌, ap, arith}
use Rattle.std.proofs.lemmas.Result.{err_from_is_err_and}
use Rattle.lex_semantics.specs.Shapes.{nodes}
use Rattle.lexre.specs.Limits.{max_nodes}
use Rattle.lexlook_letters.specs.Text.{branches_at, letters_text, letters_tree}
use Rattle.lexlook_letters.proofs.Nodes.{choice_nodes}
use Rattle.lexlook_letters.proofs.Spelled.{spelled}
use Rattle.lexlook_letters.proofs.Words.{letters_words}
use Rattle.lexlook_letters.proofs.Written.{some_as, too_big, total_as}
use Rattle.lexlook_letters.proofs.spelling.spell.Goals.{then-run_length-sequences, else-run_length-sequences}
use Rattle.lexlook_letters.proofs.spelling.spell.Goals as goal

pub returns-in_err-add_branches-clause-big : goal.returns-in_err-add_branches-clause-big
returns-in_err-add_branches-clause-big c =
    let all = total_as c.run_length.result c.in-Some.first.now c.in-Some.more.now c.args.sequences.now c.in-Some.ensures.cases.0 c.run_length.ensures in
    let counted : c.if-run_length-sequences.left + nodes (letters_tree c.args.sequences.now) ≡ max_nodes + choice_nodes (branches_at 0 c.args.sequences.now) =
    elim c.if-run_length-sequences.branch [
      | then-run_length-sequences w ↦ (let k = all.0 w.if-run_length-sequences.true in omega (arith, k, w.left-is))
      | else-run_length-sequences w ↦ (let k = all.1 w.if-run_length-sequences.false in omega (arith, k, w.left-is))
    ] in
    let p = err_from_is_err_and c.from_residual.result c.from_residual.ensures.1 in
    rw (p.1, p.2) (too_big _ c.if-run_length-sequences.left (choice_nodes (branches_at 0 c.args.sequences.now)) _ max_nodes counted c.in_err-add_branches.ensures.refused)

pub returns-clause-spelled : goal.returns-clause-spelled
returns-clause-spelled c =
    let all = total_as c.run_length.result c.in-Some.first.now c.in-Some.more.now c.args.sequences.now c.in-Some.ensures.cases.0 c.run_length.ensures in
    let counted : c.if-run_length-sequences.left + nodes (letters_tree c.args.sequences.now) ≡ max_nodes + choice_nodes (branches_at 0 c.args.sequences.now) =
    elim c.if-run_length-sequences.branch [
      | then-run_length-sequences w ↦ (let k = all.0 w.if-run_length-sequences.true in omega (arith, k, w.left-is))
      | else-run_length-sequences w ↦ (let k = all.1 w.if-run_length-sequences.false in omega (arith, k, w.left-is))
    ] in
    spelled c.args.sequences.now c.add_branches.new.text.items c.requires (some_as _ _ _ c.in-Some.ensures.cases.0) (omega (arith, counted, c.in_ok-add_branches.ensures.nodes))
    (c.in_ok-add_branches.ensures.text ∙ ap (λ (t : List ℕ). t ++ letters_text c.args.sequences.now) c.new-text.ensures.items)

pub returns-clause-words : goal.returns-clause-words
returns-clause-words c = letters_words c.args.sequences.now c.requires (some_as _ _ _ c.in-Some.ensures.cases.0)
