use Rattle.std.proofs.Common.{◌≡◌, ◌++◌, [], false, codes, decimal, sym, ap, ◌∙◌, rules}
use Rattle.lexspec.specs.Refusals.{kind_name}
use Rattle.lexkit.specs.Faults.{lacks_memory, place_words}
use Rattle.lexkit.proofs.FaultWords.{place_words-other}
use Rattle.lexkit.proofs.faults.write_spec_error.Goals as goal

pub returns-in-Pattern-clause-bytes : goal.returns-in-Pattern-clause-bytes
returns-in-Pattern-clause-bytes g c =
    let spelled : lacks_memory c.args.error.kind ≡ false = search rules in
    let name : kind_name c.args.error.kind ≡ c.name-name.result.now = sym c.name-name.ensures in
    let line : decimal c.args.error.line ≡ c.format-line.result.now = sym c.format-line.ensures.text in
    let place : place_words c.args.error.kind ≡ codes " at " ++ c.format-at.result.now = ap place_words c.in-Pattern.is ∙ ap (λ l. codes " at " ++ l) (sym c.format-at.ensures.text) in
    rw (spelled, name, line, place) c.write_line-in-Pattern.ensures.bytes

pub returns-in_default-clause-bytes : goal.returns-in_default-clause-bytes
returns-in_default-clause-bytes g c =
    let spelled : lacks_memory c.args.error.kind ≡ false = search rules in
    let name : kind_name c.args.error.kind ≡ c.name-name.result.now = sym c.name-name.ensures in
    let line : decimal c.args.error.line ≡ c.format-line.result.now = sym c.format-line.ensures.text in
    let place : place_words c.args.error.kind ≡ [] = place_words-other c.args.error.kind c.in_default.not-Pattern in
    rw (spelled, name, line, place) c.write_line-in_default.ensures.bytes
