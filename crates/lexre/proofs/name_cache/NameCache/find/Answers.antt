use Rattle.std.proofs.Common.{◌∙◌, sym, ap, option_map}
use Rattle.lexre.specs.Names.{tree_kept, usable}
use Rattle.lexre.proofs.EntryLaws.{get_shown}
use Rattle.lexre.proofs.NameLaws.{usable_where, usable_nowhere}
use Rattle.lexre.proofs.name_cache.NameCache.find.Goals as goal

pub returns-in_err-kept : goal.returns-in_err-kept
returns-in_err-kept c =
    rw (c.from_residual.ensures, get_shown) (ap (λ o. usable c.args.left (option_map tree_kept o)) c.in_err-kept.ensures.value)

pub returns-then-kept-left : goal.returns-then-kept-left
returns-then-kept-left c =
    sym (usable_where c.args.left (tree_kept c.in_ok-kept.kept.now) c.if-kept-left.true)
    ∙ ap (λ o. usable c.args.left (option_map tree_kept o)) c.in_ok-kept.ensures.value
    ∙ ap (usable c.args.left) (sym (get_shown tree_kept c.args.self.now.kept.entries c.args.name.now))

pub returns-else-kept-left : goal.returns-else-kept-left
returns-else-kept-left c =
    sym (usable_nowhere c.args.left (tree_kept c.in_ok-kept.kept.now) c.if-kept-left.false)
    ∙ ap (λ o. usable c.args.left (option_map tree_kept o)) c.in_ok-kept.ensures.value
    ∙ ap (usable c.args.left) (sym (get_shown tree_kept c.args.self.now.kept.entries c.args.name.now))
