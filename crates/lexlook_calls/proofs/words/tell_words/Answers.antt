use Rattle.std.proofs.Common.{◌≡◌, ◌∙◌, ℕ, List, Err, subst}
use Rattle.lex_io.specs.Sink.{Appended}
use Rattle.lexspec.specs.Views.{conditions_in, rules_in, spec_of}
use Rattle.lexkit.specs.Generated.{lines_of}
use Rattle.lexlook_calls.specs.Looks.{names_of}
use Rattle.lexlook_calls.specs.Words.{word_lines}
use Rattle.lexlook_calls.specs.declared.error.LookError.TheVariants.{Write}
use Rattle.lexlook_calls.proofs.Shown.{labelled_by, lines_shown}
use Rattle.lexlook_calls.proofs.words.tell_words.Goals as goal

pub found_lines-requires : goal.found_lines-requires
found_lines-requires g c = labelled_by (spec_of c.in_ok-spec.spec) (spec_of c.in_ok-found.found.spec) c.in_ok-found.found.words c.in_ok-found.ensures.same c.in_ok-found.ensures.words.words

pub returns-in-Err-put-clause-told : goal.returns-in-Err-put-clause-told
returns-in-Err-put-clause-told g c =
    let S = spec_of c.in_ok-spec.spec in
    let T = spec_of c.in_ok-found.found.spec in
    let lines : c.as_slice.result.now ≡ word_lines (names_of (conditions_in S)) (lines_of (rules_in S)) c.in_ok-found.found.words =
    c.as_slice.ensures.value ∙ c.in-Ok.ensures ∙ lines_shown S T c.in_ok-found.found.words c.in_ok-found.ensures.same in
    record {
      spec = S;
      spells = c.in_ok-spec.ensures.spells;
      found = c.in_ok-found.found.words;
      are_words = c.in_ok-found.ensures.words;
      written = subst (λ (bytes : List ℕ). Appended {T = Unit {0}} (λ xs. g.K.Sink.wrote c.args.sink.now xs c.put.new.self) bytes (Err Write)) lines c.in-Err-put.ensures.bytes;
    }

pub returns-clause-told : goal.returns-clause-told
returns-clause-told g c =
    let S = spec_of c.in_ok-spec.spec in
    let T = spec_of c.in_ok-found.found.spec in
    let lines : c.as_slice.result.now ≡ word_lines (names_of (conditions_in S)) (lines_of (rules_in S)) c.in_ok-found.found.words =
    c.as_slice.ensures.value ∙ c.in-Ok.ensures ∙ lines_shown S T c.in_ok-found.found.words c.in_ok-found.ensures.same in
    record {
      spec = S;
      spells = c.in_ok-spec.ensures.spells;
      found = c.in_ok-found.found.words;
      are_words = c.in_ok-found.ensures.words;
      written = subst (λ (bytes : List ℕ). g.K.Sink.wrote c.args.sink.now bytes c.put.new.self) lines c.in-Ok-put.ensures.bytes;
    }
