use Rattle.lexre.specs.Names.{tree_kept}
use Rattle.lexre.proofs.EntryLaws.{one_more}
use Rattle.lexre.proofs.name_cache.NameCache.keep.Goals as goal

pub returns-clause-trees : goal.returns-clause-trees
returns-clause-trees c =
    rw (← c.in_ok-name.ensures.items)
    (one_more tree_kept c.args.self.now.kept.entries c.insert.new.self.entries c.in_ok-name.name
    (record { tree = c.args.tree; needed = c.args.needed }) c.in_ok-insert.ensures.entries)
