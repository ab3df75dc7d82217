use Rattle.std.proofs.Common.{◌≡◌, ◌≤◌, ◌+◌, ◌*◌, length, get_or, sym, ap, ◌∙◌, arith}
use Rattle.pixel_core.specs.Rgba.{clear}
use Rattle.frame_core.specs.OpenRows.{column, laid_on}
use Rattle.frame_core.proofs.OpenedRows.{laid_in, row_long, how_many}
use Rattle.frame_core.proofs.open_rows.OpenRows.lay.Goals as goal

pub returns-clause-laid : goal.returns-clause-laid
returns-clause-laid c k h =
    let fits : 64 * c.self.inside.last + 64 ≤ length c.self.inside.pixels = omega (arith, c.self.invariant) in
    let many : length c.lay_sources.new.backdrop ≡ 64 = c.lay_sources.auto.backdrop ∙ row_long c.self.inside.pixels c.self.inside.last fits in
    laid_in c.self.inside.pixels c.lay_sources.new.backdrop c.self.inside.last k c.args.op (get_or c.args.sources.now k clear) c.args.opacity fits many h (c.lay_sources.ensures k (omega (arith, h, row_long c.self.inside.pixels c.self.inside.last fits)))
    ∙ ap (λ v. laid_on c.args.op c.args.opacity (get_or c.args.sources.now k clear) (column k v)) c.self.view_is

pub returns-clause-many : goal.returns-clause-many
returns-clause-many c = how_many _ c.self.inside.last ∙ sym (how_many c.self.inside.pixels c.self.inside.last) ∙ ap length c.self.view_is
