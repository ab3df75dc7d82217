use Rattle.std.proofs.Common.{◌≤◌, ◌-◌, length, get_or, sym, ap, ◌∙◌, arith}
use Rattle.pixel_core.specs.Rgba.{clear}
use Rattle.frame_core.specs.OpenRows.{column, ended}
use Rattle.frame_core.proofs.OpenedRows.{closed, how_many}
use Rattle.frame_core.proofs.open_rows.OpenRows.end.Goals as goal

pub returns-clause-ended : goal.returns-clause-ended
returns-clause-ended c k h =
    let some : 1 ≤ c.self.inside.last = omega (arith, how_many c.self.inside.pixels c.self.inside.last, ap length c.self.view_is, c.requires) in
    c.lay.ensures.laid k h
    ∙ closed c.self.inside.pixels c.self.inside.last k c.args.op (get_or c.innermost-sources.result k clear) c.args.opacity some (c.innermost-sources.ensures k h ∙ ap (λ v. get_or (column k v) 0 clear) (sym c.self.view_is))
    ∙ ap (λ v. ended c.args.op c.args.opacity (column k v)) c.self.view_is

pub returns-clause-many : goal.returns-clause-many
returns-clause-many c = omega (arith, c.lay.ensures.many, how_many c.self.inside.pixels (c.self.inside.last - 1), how_many c.self.inside.pixels c.self.inside.last, ap length c.self.view_is, c.requires)
