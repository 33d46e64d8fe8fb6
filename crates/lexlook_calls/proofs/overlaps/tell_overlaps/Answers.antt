use Rattle.std.proofs.Common.{◌≡◌, ◌∙◌, ℕ, List, Err, subst}
use Rattle.lex_io.specs.Sink.{Appended}
use Rattle.lexspec.specs.Views.{conditions_in, rules_in, spec_of}
use Rattle.lexkit.specs.Generated.{lines_of}
use Rattle.lexlook_calls.specs.Looks.{names_of}
use Rattle.lexlook_calls.specs.Overlaps.{overlap_lines}
use Rattle.lexlook_calls.specs.declared.error.LookError.TheVariants.{Write}
use Rattle.lexlook_calls.proofs.Shown.{pair_labelled_by, pair_lines_shown}
use Rattle.lexlook_calls.proofs.overlaps.tell_overlaps.Goals as goal

pub found_lines-requires : goal.found_lines-requires
found_lines-requires g c = pair_labelled_by (spec_of c.in_ok-spec.spec) (spec_of c.in_ok-found.found.spec) c.in_ok-found.found.overlaps.items c.in_ok-found.ensures.same c.in_ok-found.ensures.overlaps.overlaps

pub returns-in-Err-put-clause-told : goal.returns-in-Err-put-clause-told
returns-in-Err-put-clause-told g c =
    let S = spec_of c.in_ok-spec.spec in
    let T = spec_of c.in_ok-found.found.spec in
    let found = c.in_ok-found.found.overlaps.items in
    let lines : c.as_slice.result.now ≡ overlap_lines (names_of (conditions_in S)) (lines_of (rules_in S)) found =
    c.as_slice.ensures.value ∙ c.in-Ok.ensures ∙ pair_lines_shown S T found c.in_ok-found.ensures.same in
    record {
      spec = S;
      spells = c.in_ok-spec.ensures.spells;
      found = found;
      are_overlaps = c.in_ok-found.ensures.overlaps;
      written = subst (λ (bytes : List ℕ). Appended {T = Unit {0}} (λ xs. g.K.Sink.wrote c.args.sink.now xs c.put.new.self) bytes (Err Write)) lines c.in-Err-put.ensures.bytes;
    }

pub returns-clause-told : goal.returns-clause-told
returns-clause-told g c =
    let S = spec_of c.in_ok-spec.spec in
    let T = spec_of c.in_ok-found.found.spec in
    let found = c.in_ok-found.found.overlaps.items in
    let lines : c.as_slice.result.now ≡ overlap_lines (names_of (conditions_in S)) (lines_of (rules_in S)) found =
    c.as_slice.ensures.value ∙ c.in-Ok.ensures ∙ pair_lines_shown S T found c.in_ok-found.ensures.same in
    record {
      spec = S;
      spells = c.in_ok-spec.ensures.spells;
      found = found;
      are_overlaps = c.in_ok-found.ensures.overlaps;
      written = subst (λ (bytes : List ℕ). g.K.Sink.wrote c.args.sink.now bytes c.put.new.self) lines c.in-Ok-put.ensures.bytes;
    }
