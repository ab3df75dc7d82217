use Rattle.std.proofs.Common.{ap, ◌∙◌}
use Rattle.std.specs.FinSet.{FinSet}
use Rattle.geom_core.specs.Grid.{key_cmp}
use Rattle.trace_state.specs.Painting.{Painting}
use Rattle.trace_state.proofs.Noting.{same_tiles}
use Rattle.trace_state.proofs.job.OutlinedJob.publish.Goals as goal

pub returns-clause-same : goal.returns-clause-same
returns-clause-same c h =
    let with : FinSet key_cmp → Painting = λ s. record { index = c.self.inside.index; job = c.self.inside.job; published = s } in
    ap with (same_tiles c.insert.result c.self.inside.published c.insert.new.self c.args.key c.insert.ensures.ok c.insert.ensures.new h) ∙ c.self.view_is
