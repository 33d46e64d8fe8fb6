use Rattle.std.proofs.Common.{◌≡◌, ◌∙◌, ◌++◌, ℕ, Bool, List, Option, ap, map}
use Rattle.std.specs.Borrow.{Bor}
use Rattle.lex_semantics.specs.Spec.{rejects}
use Rattle.lexspec.specs.Views.{conditions_in, rules_in, spec_of}
use Rattle.lexkit.specs.Generated.{lines_of}
use Rattle.lexlook_counts.specs.CountLines.{count_lines, ended_line}
use Rattle.lexlook_counts.proofs.telling.lines_for.Goals as goal

pub returns : goal.returns
returns c =
    let S = spec_of c.args.spec.now in
    let names : List (List ℕ) = map (λ k. k.name) (conditions_in S) in
    let first : map (λ (n : Bor (List ℕ)). n.now) c.deref-2.result.now ≡ names =
    ap (map (λ (n : Bor (List ℕ)). n.now)) c.deref-2.ensures.value ∙ c.in_ok-names.ensures ∙ ap (map (λ k. k.name)) c.conditions.ensures.conditions in
    let second : map (λ (n : Bor (List ℕ)). n.now) c.deref-3.result.now ≡ names =
    ap (map (λ (n : Bor (List ℕ)). n.now)) c.deref-3.ensures.value ∙ c.in_ok-names.ensures ∙ ap (map (λ k. k.name)) c.conditions.ensures.conditions in
    let lines : c.deref.result.now ≡ lines_of (rules_in S) = c.deref.ensures.value ∙ c.in_ok-lines.ensures ∙ ap lines_of c.rules.ensures.rules in
    let told = c.args.counted.now in
    let text : c.in_ok-text.text.items ≡ count_lines c.args.form (rejects S) (lines_of (rules_in S)) names told =
    c.in_ok-text.ensures
    ∙ ap (λ (b : Bool). count_lines c.args.form b c.deref.result.now (map (λ (n : Bor (List ℕ)). n.now) c.deref-2.result.now) told) c.rejects.ensures
    ∙ ap (λ (l : List ℕ). count_lines c.args.form (rejects S) l (map (λ (n : Bor (List ℕ)). n.now) c.deref-2.result.now) told) lines
    ∙ ap (λ (n : List (List ℕ)). count_lines c.args.form (rejects S) (lines_of (rules_in S)) n told) first in
    c.in_ok-add_end.ensures
    ∙ ap (λ l. l ++ ended_line c.args.form (map (λ (n : Bor (List ℕ)). n.now) c.deref-3.result.now) c.ended_by.result) text
    ∙ ap (λ (n : List (List ℕ)). count_lines c.args.form (rejects S) (lines_of (rules_in S)) names told ++ ended_line c.args.form n c.ended_by.result) second
    ∙ ap (λ (o : Option ℕ). count_lines c.args.form (rejects S) (lines_of (rules_in S)) names told ++ ended_line c.args.form names o) c.ended_by.ensures
