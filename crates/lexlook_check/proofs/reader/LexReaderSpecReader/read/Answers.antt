use Rattle.std.proofs.Common.{Result, sym, subst}
use Rattle.lexre_bytes.specs.declared.refusals.SpecError.{SpecError}
use Rattle.lexlook_check.specs.Finding.{ReadsSpec}
use Rattle.lexlook_check.proofs.Reading.{all_unless}
use Rattle.lexlook_check.proofs.reader.LexReaderSpecReader.read.Goals as goal
use Rattle.lexlook_check.proofs.reader.LexReaderSpecReader.read.Goals.{in-Ok, in-Err}

pub returns : goal.returns
returns c =
    elim c.match-read_spec.branch [
      | in-Ok w ↦ subst (λ (r : Result (Unit {0}) SpecError). ReadsSpec c.args.self.now.options c.args.text.now r) (sym w.result-is) (_, w.in-Ok.ensures.found)
      | in-Err w ↦ subst (λ (r : Result (Unit {0}) SpecError). ReadsSpec c.args.self.now.options c.args.text.now r) (sym w.result-is)
          (all_unless _ _ _ _ _ w.in-Err.ensures.none w.in-Err.ensures.too_long w.in-Err.ensures.definitions w.in-Err.ensures.rules)
    ]
