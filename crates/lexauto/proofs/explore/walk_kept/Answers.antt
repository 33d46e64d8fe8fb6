use Rattle.std.proofs.Common.{sym, subst, ◌∙◌}
use Rattle.lexauto_positions.specs.Cursors.{Increases}
use Rattle.lexauto.specs.Sets.{lasts_in}
use Rattle.lexauto.specs.Keys.{Key}
use Rattle.lexauto.proofs.explore.walk_kept.Goals as goal

pub walk-requires-2 : goal.walk-requires-2
walk-requires-2 g c = λ h. subst (λ (k : Key). Increases (lasts_in k)) (sym (c.deref.ensures.value ∙ c.in_ok-key.ensures)) (c.is_bits.ensures h)
