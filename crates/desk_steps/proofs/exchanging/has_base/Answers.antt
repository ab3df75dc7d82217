use Rattle.std.proofs.Common.{ap, ◌∙◌}
use Rattle.tile_core.specs.Shots.{sight_at}
use Rattle.doc_model.specs.Shots.{in_tile}
use Rattle.desk_steps.proofs.exchanging.has_base.Goals as goal

pub returns-in-Known-clause-value : goal.returns-in-Known-clause-value
returns-in-Known-clause-value c h = c.requires c.in-Known.is

pub returns-in-Compared-clause-value : goal.returns-in-Compared-clause-value
returns-in-Compared-clause-value c h p inside = c.stands_as.ensures h p (ap (λ k. in_tile k p) c.key-key.ensures.value ∙ inside) ∙ ap (λ b. sight_at b p) c.base.ensures
