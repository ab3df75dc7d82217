use Rattle.std.proofs.Common.{arith, ◌≡◌, ap}
use Rattle.frame_core.specs.Frames.{Scene}
use Rattle.frame_core.proofs.FrameRows.{row_whole}
use Rattle.frame_core.proofs.frame.Frame.row_into.Goals as goal

pub returns : goal.returns
returns c =
    let w : c.self.inside.width ≡ c.args.self.now.width = ap (λ (s : Scene). s.width) c.self.view_is in
    row_whole c.args.self.now c.args.y c.div_ceil.result c.args.row.now c.columns_into.new.row (omega (arith, w, c.div_ceil.ensures)) c.columns_into.ensures
