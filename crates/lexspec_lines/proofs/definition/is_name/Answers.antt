use Rattle.std.proofs.Common.{rules, ◌≡◌, ◌==◌, List, ℕ, length, ap, sym, ◌∙◌}
use Rattle.std.specs.List.{list_all}
use Rattle.lex_semantics.specs.Reading.{is_empty, goes_on_name}
use Rattle.lex_semantics.proofs.ReadingLaws.{empty_test}
use Rattle.lexspec_lines.proofs.TextLaws.{run_all}
use Rattle.lexspec_lines.proofs.definition.is_name.Goals as goal

pub returns-then-starts_name : goal.returns-then-starts_name
returns-then-starts_name c =
    let word = c.args.word.now in
    let empty : (length c.split_name.result.1.now == 0) ≡ list_all goes_on_name word =
    empty_test c.split_name.result.1.now ∙ ap (λ (s : List ℕ × List ℕ). is_empty s.1) (sym c.split_name.ensures) ∙ run_all goes_on_name word in
    search rules
