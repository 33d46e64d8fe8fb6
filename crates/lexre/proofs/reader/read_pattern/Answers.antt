use Rattle.lexre.proofs.NameLaws.{nothing_known}
use Rattle.lexre.proofs.reader.read_pattern.Goals as goal

pub read_with_names-requires : goal.read_with_names-requires
read_with_names-requires c = record { known_so_far = rw c.new-names.ensures (nothing_known c.args.options c.args.definitions.now) }
