use Rattle.lexauto_dfa.proofs.Leads.{split_none}
use Rattle.lexauto_dfa.proofs.alike.split.Goals as goal

pub returns-then-keeps_classes : goal.returns-then-keeps_classes
returns-then-keeps_classes c = split_none c.args.lead.now c.args.row.now c.requires.heads (c.keeps_classes.ensures c.if-keeps_classes.true)
