use Rattle.std.proofs.Common.{◌+◌, [], drop, map, refl, arith}
use Rattle.std.proofs.KnownBytes.{Appends-nil}
use Rattle.io_edge.proofs.Written.{prefix_behind, on_err_any}
use Rattle.log_out.specs.Summary.{sheet_of}
use Rattle.log_out.specs.Log.{counts, frame_line, frame_lines, sum_text}
use Rattle.log_out.proofs.Begun.{begun_is, begun_next, begun_fails}
use Rattle.log_out.proofs.Sheets.{sheets_at}
use Rattle.log_out.proofs.summary.write_sum.Goals as goal

pub returns-in_err-write_counts-clause-err : goal.returns-in_err-write_counts-clause-err
returns-in_err-write_counts-clause-err g c =
    let sheets = map sheet_of c.args.frames.now in
    let os = c.args.outcomes.now in
    on_err_any c.from_residual.result
    (prefix_behind _ _ _ [] (counts os) (frame_lines 1 sheets) (sum_text sheets os) (Appends-nil _) c.in_err-write_counts.ensures.err refl)

pub returns-in_err-write_frame_line-clause-err : goal.returns-in_err-write_frame_line-clause-err
returns-in_err-write_frame_line-clause-err g c =
    let frames = c.args.frames.now in
    let i = c.loop-i.i in
    let f = c.index-frames-i.result in
    let whole = sum_text (map sheet_of frames) c.args.outcomes.now in
    on_err_any c.from_residual-in_err-write_frame_line.result
    (begun_fails _ _ _ (frame_line (i + 1) (sheet_of f)) (frame_lines (i + 1 + 1) (map sheet_of (drop (i + 1) frames))) whole
    (begun_is _ _ _ _ whole c.loop-i.invariant.begun (sheets_at frames i f c.loop-i-test.true c.index-frames-i.is)) c.in_err-write_frame_line.ensures.err)

pub loop-i-preserved : goal.loop-i-preserved
loop-i-preserved g c =
    let frames = c.args.frames.now in
    let i = c.loop-i.i in
    let f = c.index-frames-i.result in
    let whole = sum_text (map sheet_of frames) c.args.outcomes.now in
    record {
      later = omega (arith, c.loop-i.invariant.later, c.write_frame_line.ensures.cause.later);
      begun = begun_next _ _ _ (frame_line (i + 1) (sheet_of f)) (frame_lines (i + 1 + 1) (map sheet_of (drop (i + 1) frames))) whole
          (begun_is _ _ _ _ whole c.loop-i.invariant.begun (sheets_at frames i f c.loop-i-test.true c.index-frames-i.is)) c.in_ok-write_frame_line.ensures.ok;
    }
