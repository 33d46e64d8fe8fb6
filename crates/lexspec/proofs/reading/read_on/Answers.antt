use Rattle.lexre.proofs.NameLaws.{nothing_known}
use Rattle.std.proofs.Common.{ℕ, List, [], sym, ap}
use Rattle.lexspec_lines.proofs.CodeLaws.{tells_new}
use Rattle.lexspec.proofs.ReadingLaws.{sections_pass, rest_skipped, rest_refused}
use Rattle.lexspec.proofs.reading.read_on.Goals as goal

pub join-requires-clause-sound : goal.join-requires-clause-sound
join-requires-clause-sound c = sections_pass c.args.section.declarations _ _ c.in-Ok.found c.requires.some c.requires.few c.in-Ok.ensures.found

pub read_rules-requires-clause-known_so_far : goal.read_rules-requires-clause-known_so_far
read_rules-requires-clause-known_so_far c = rw c.new-names.ensures (nothing_known c.args.section.declarations.options c.args.section.declarations.definitions)

pub returns-in-Ok-clause-skipped : goal.returns-in-Ok-clause-skipped
returns-in-Ok-clause-skipped c =
    rest_skipped c.join.result c.args.section c.in-Ok.found _ c.split_line.result.1.now (ap (λ (x : List ℕ × List ℕ). x.1) (sym c.split_line.ensures.line)) (c.in-Ok.ensures.code [] (tells_new _ c.new-skipped.ensures.lines c.new-skipped.ensures.next)) c.in-Ok.ensures.found.stops c.in-Ok.ensures.line c.join.ensures.skipped

pub returns-in-Err-clause-refused : goal.returns-in-Err-clause-refused
returns-in-Err-clause-refused c = rest_refused c.args.section c.split_line.result.1.now c.in-Err.fault (ap (λ (x : List ℕ × List ℕ). x.1) (sym c.split_line.ensures.line)) c.in-Err.ensures.refused
