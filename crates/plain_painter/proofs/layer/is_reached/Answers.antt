use Rattle.std.proofs.Common.{◌≡◌, true, ◌&&◌, ◌∙◌, to_z, of_z, w32, arith}
use borrow.Author.Differences.{ints}
use Rattle.geom_core.specs.Areas.{lies_in, moved, world}
use Rattle.geom_core.proofs.Tests.{and_left}
use Rattle.doc_model.specs.Jobs.{checks}
use Rattle.doc_model.specs.declared.job.Job.TheVariants.{Move}
use Rattle.plain_painter.proofs.layer.is_reached.Goals as goal

pub writes-writes-requires : goal.writes-writes-requires
writes-writes-requires c =
    let x : to_z w32 (of_z w32 c.args.dx) ≡ c.args.dx = omega (arith, ints) in
    let y : to_z w32 (of_z w32 c.args.dy) ≡ c.args.dy = omega (arith, ints) in
    (λ i. lies_in c.args.rect world && (lies_in (moved c.args.rect (x i) (y i)) world && true)) ∙ and_left (checks (Move c.args.rect c.args.dx c.args.dy)) _ c.requires
