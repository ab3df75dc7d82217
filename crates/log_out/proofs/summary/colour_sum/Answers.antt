use Rattle.std.proofs.Common.{◌≡◌, ◌*◌, take, arith}
use Rattle.frame_core.specs.Frames.{row_colours}
use Rattle.ppm_out.proofs.Lines.{row_at_front}
use Rattle.log_out.proofs.Sheets.{sum_more}
use Rattle.log_out.proofs.summary.colour_sum.Goals as goal

pub loop-y-preserved : goal.loop-y-preserved
loop-y-preserved c =
    let s = c.args.frame.now in
    let y = c.loop-y.y in
    let shown : take (3 * c.width-w.result) c.row_into.new.row ≡ row_colours s y = rw (c.width-w.ensures.value) (row_at_front s y c.loop-y.row c.row_into.new.row c.row_into.ensures) in
    record {
      so_far = sum_more s y c.loop-y.total c.byte_sum-total.result (take (3 * c.width-w.result) c.row_into.new.row) c.loop-y.invariant.so_far c.byte_sum-total.ensures.value shown;
      bound = omega (arith, c.loop-y.invariant.bound, c.byte_sum-total.ensures.bound);
    }
