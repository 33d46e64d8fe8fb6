use Rattle.std.proofs.Common.{◌≡◌, ◌∙◌, ℕ, List, map, ap, subst}
use Rattle.std.specs.Borrow.{Bor}
use Rattle.lex_io.specs.Sink.{Appended}
use Rattle.lexspec.specs.Views.{conditions_in, rules_in, spec_of}
use Rattle.lexlook_specs.specs.Pictures.{picture}
use Rattle.lexkit.specs.Generated.{lines_of}
use Rattle.lexlook_calls.specs.Looks.{names_of}
use Rattle.lexlook_calls.proofs.picture.draw_automaton.Goals as goal

pub returns-clause-bytes : goal.returns-clause-bytes
returns-clause-bytes g c =
    let S = spec_of c.args.spec.now in
    let names : map (λ (n : Bor (List ℕ)). n.now) c.deref.result.now ≡ names_of (conditions_in S) =
    ap (map (λ (n : Bor (List ℕ)). n.now)) c.deref.ensures.value ∙ c.in_ok-names.ensures ∙ ap names_of c.conditions.ensures.conditions in
    let lines : c.deref-2.result.now ≡ lines_of (rules_in S) = c.deref-2.ensures.value ∙ c.in_ok-lines.ensures ∙ ap lines_of c.rules.ensures.rules in
    subst (λ (l : List ℕ). Appended (λ xs. g.K.Sink.wrote c.args.sink.now xs c.write_picture.new.sink) (picture c.args.dfa.now (names_of (conditions_in S)) l) c.write_picture.result) lines
    (subst (λ (n : List (List ℕ)). Appended (λ xs. g.K.Sink.wrote c.args.sink.now xs c.write_picture.new.sink) (picture c.args.dfa.now n c.deref-2.result.now) c.write_picture.result) names
    c.write_picture.ensures.bytes)
