use Rattle.std.proofs.Common.{rules, ◌≡◌, ◌<◌, ◌∙◌, ℕ, List, [], ◌∷◌, ◌++◌, length, codes, flat_map, refl, ap, arith}
use Rattle.std.proofs.lemmas.List.{take_all}
use Rattle.lexlook_specs.proofs.Joining.{among_read, in_three}
use Rattle.lexlook_calls.specs.Words.{line_words, never_words}
use Rattle.lexlook_calls.proofs.words.add_takers.Goals as goal

some_takers : (lines rules : List ℕ) → 0 < length rules → codes ": rule cannot be matched, its texts are taken at" ++ (flat_map (line_words lines) rules ++ (codes "\n" ++ [])) ≡ never_words lines rules
some_takers lines [] h = absurd (omega (arith, h))
some_takers lines (j ∷ js) h = refl

pub add_line-requires : goal.add_line-requires
add_line-requires c = c.requires _ (among_read c.args.rules.now c.loop-rule.rule-index c.loop-rule-test.true)

pub returns : goal.returns
returns c =
    let lines = c.args.lines.now in
    let is = c.args.rules.now in
    let some : 0 < length is = first_of (search rules, grind arith) in
    let all : c.loop-rule.text.items ≡ (c.args.text.now.items ++ codes ": rule cannot be matched, its texts are taken at") ++ flat_map (line_words lines) is =
    c.loop-rule.invariant ∙ ap (λ l. (c.args.text.now.items ++ codes ": rule cannot be matched, its texts are taken at") ++ flat_map (line_words lines) l) (take_all c.loop-rule.rule-index is c.loop-rule-test.false) in
    in_three c.args.text.now.items (codes ": rule cannot be matched, its texts are taken at") (flat_map (line_words lines) is) (codes "\n") _ _ _ refl all c.in_ok-add-2.ensures ∙ ap (λ l. c.args.text.now.items ++ l) (some_takers lines is some)
