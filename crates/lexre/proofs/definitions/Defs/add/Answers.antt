use Rattle.std.proofs.Common.{◌∙◌, sym}
use Rattle.std.proofs.lemmas.Result.{err_from_is_err_and}
use Rattle.lexre.proofs.DefinitionLaws.{one_more, when_taken, when_added, when_refused}
use Rattle.lexre.proofs.definitions.Defs.add.Goals as goal

pub returns-then-contains_key-clause-duplicate : goal.returns-then-contains_key-clause-duplicate
returns-then-contains_key-clause-duplicate c =
    when_taken c.self.inside.texts.entries c.args.self.now c.args.name.now c.self.view_is (sym c.contains_key.ensures ∙ c.if-contains_key.true)

pub returns-in_err-name-clause-duplicate : goal.returns-in_err-name-clause-duplicate
returns-in_err-name-clause-duplicate c =
    let p = err_from_is_err_and c.from_residual.result c.from_residual.ensures.1 in
    rw (p.1, p.2) (when_refused c.self.inside.texts.entries c.args.self.now c.args.name.now c.self.view_is (sym c.contains_key.ensures ∙ c.if-contains_key.false))

pub returns-in_err-text-clause-duplicate : goal.returns-in_err-text-clause-duplicate
returns-in_err-text-clause-duplicate c =
    let p = err_from_is_err_and c.from_residual-in_err-text.result c.from_residual-in_err-text.ensures.1 in
    rw (p.1, p.2) (when_refused c.self.inside.texts.entries c.args.self.now c.args.name.now c.self.view_is (sym c.contains_key.ensures ∙ c.if-contains_key.false))

pub returns-in_err-insert-clause-duplicate : goal.returns-in_err-insert-clause-duplicate
returns-in_err-insert-clause-duplicate c =
    let p = err_from_is_err_and c.from_residual-in_err-insert.result c.from_residual-in_err-insert.ensures.1 in
    rw (p.1, p.2) (when_refused c.self.inside.texts.entries c.args.self.now c.args.name.now c.self.view_is (sym c.contains_key.ensures ∙ c.if-contains_key.false))

pub returns-clause-ok : goal.returns-clause-ok
returns-clause-ok c =
    rw (← c.self.view_is, ← c.in_ok-name.ensures.items, ← c.in_ok-text.ensures.items)
    (one_more c.self.inside.texts.entries c.insert.new.self.entries c.in_ok-name.name c.in_ok-text.text c.in_ok-insert.ensures.entries)

pub returns-clause-duplicate : goal.returns-clause-duplicate
returns-clause-duplicate c =
    when_added c.self.inside.texts.entries c.args.self.now c.args.name.now c.self.view_is (sym c.contains_key.ensures ∙ c.if-contains_key.false)
