use Rattle.std.proofs.Common.{◌∙◌, sym, subst}
use Rattle.std.proofs.lemmas.Result.{IfOk-weaker}
use Rattle.strokes_top.specs.Room.{HasRoom, rows_of}
use Rattle.strokes_top.proofs.Outputs.{room_has}
use Rattle.strokes_top.proofs.writing.room_for.Goals as goal

pub returns : goal.returns
returns c =
    let p = c.args.painting.now in
    let canvas = c.canvas-canvas.result in
    IfOk-weaker c.vec.result _ _
    (λ v len. subst (λ cv. HasRoom (rows_of p.output cv.h) cv v.items) c.canvas-canvas.ensures (room_has canvas (rows_of p.output canvas.h) c.rows_of-rows.result v.items c.rows_of-rows.ensures (sym v.ok.0 ∙ len))) c.vec.ensures.len
