use Rattle.std.proofs.Common.{◌≡◌, ◌∙◌, ℕ, List, ◌++◌, ap, map, sym}
use Rattle.lexlook_text.specs.DefinitionLines.{section_lines}
use Rattle.lexlook_text.specs.Known.{argument_names, condition_names, definition_names, statement_words}
use Rattle.lexlook_text.specs.LineViews.{line_of}
use Rattle.lexlook_text.specs.declared.definitions.LineKind.TheVariants.{Declaration, Definition}
use Rattle.lexlook_text.proofs.known.names_of.Goals as goal

pub argument_names-requires : goal.argument_names-requires
argument_names-requires c =
    c.as_slice-3.ensures.value ∙ c.in_ok-conditions.ensures
    ∙ ap (λ z. condition_names (map line_of z)) (c.as_slice.ensures.value ∙ sym c.as_slice-2.ensures.value)

pub returns : goal.returns
returns c =
    let declared : List (ℕ × List ℕ) = section_lines Declaration (map line_of c.args.lines.now) in
    let first : map line_of c.as_slice.result.now ≡ declared = ap (map line_of) c.as_slice.ensures.value ∙ c.in_ok-declarations.ensures in
    let second : map line_of c.as_slice-2.result.now ≡ declared = ap (map line_of) c.as_slice-2.ensures.value ∙ c.in_ok-declarations.ensures in
    let third : map line_of c.as_slice-5.result.now ≡ section_lines Definition (map line_of c.args.lines.now) =
    ap (map line_of) c.as_slice-5.ensures.value ∙ c.in_ok-defining.ensures in
    let arguments : c.in_ok-arguments.arguments.items ≡ argument_names declared = c.in_ok-arguments.ensures ∙ ap argument_names second in
    record {
      conditions = c.in_ok-conditions.ensures ∙ ap condition_names first;
      arguments = arguments;
      words = c.in_ok-words.ensures ∙ ap (λ (z : List ℕ). statement_words ++ z) (c.as_slice-4.ensures.value ∙ arguments);
      definitions = c.in_ok-definitions.ensures ∙ ap definition_names third;
    }
