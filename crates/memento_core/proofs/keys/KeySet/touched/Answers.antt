use Rattle.std.proofs.Common.{sym, ap, ◌∙◌}
use Rattle.std.specs.FinSet as set
use Rattle.geom_core.specs.Touches.{bound_of}
use Rattle.geom_core.proofs.Rounds.{touched_by}
use Rattle.memento_core.proofs.Sets.{len_sorted}
use Rattle.memento_core.proofs.keys.KeySet.touched.Goals as goal

pub returns : goal.returns
returns c = touched_by _ _
    (c.len.ensures.len ∙ sym (len_sorted c.self.inside.tiles.keys c.len.ensures.ordered) ∙ ap set.len c.self.view_is)
    (c.bound_of.ensures ∙ ap (λ s. bound_of (set.items s)) c.self.view_is)
