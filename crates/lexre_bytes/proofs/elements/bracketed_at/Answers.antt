use Rattle.lexre_bytes.proofs.ShorterLaws.{named_is}
use Rattle.lexre_bytes.proofs.elements.bracketed_at.Goals as goal

pub returns-in-Some-clause-found : goal.returns-in-Some-clause-found
returns-in-Some-clause-found c = named_is c.args.text.now (c.in-Some.letters.now, c.in-Some.rest.now) c.in-Some.ensures
