use Rattle.std.proofs.Common.{◌≡◌, Some, subst}
use Rattle.std.specs.Prelude.{slice_get}
use Rattle.frame_core.specs.Scenes.{HasSides, colours_of}
use Rattle.machine_model.specs.State.{State}
use Rattle.host_desk.proofs.CopiedRows.{of_frame}
use Rattle.host_desk.proofs.host.Host.frame_row.Goals as goal

pub returns : goal.returns
returns c = of_frame c.args.self.now c.args.frame c.args.y c.args.out.now c.row_of.new.out c.row_of.result (
  c.frame.result.now,
  subst (λ (s : State). slice_get s.frames c.args.frame ≡ Some (colours_of c.frame.result.now)) c.self.view_is c.frame.ensures.colours,
  subst (λ (s : State). HasSides s.canvas.w s.canvas.h c.frame.result.now) c.self.view_is c.frame.ensures.sides,
  c.row_of.ensures,
)
