use Rattle.std.proofs.Common.{get_or, ap, ◌∙◌}
use Rattle.pixel_core.specs.Rgba.{clear}
use Rattle.frame_core.specs.OpenRows.{column}
use Rattle.frame_core.proofs.OpenedRows.{front_is}
use Rattle.frame_core.proofs.open_rows.OpenRows.innermost.Goals as goal

pub returns : goal.returns
returns c k h = front_is c.self.inside.pixels c.copy_from_slice.new.self c.self.inside.last k c.copy_from_slice.ensures.after h ∙ ap (λ v. get_or (column k v) 0 clear) c.self.view_is
