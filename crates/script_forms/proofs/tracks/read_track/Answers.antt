use Rattle.std.proofs.Common.{◌≡◌, Err, ◌∙◌, rules}
use Rattle.script_forms.proofs.Polylines.{not_counted, not_points, track_told, too_many}
use Rattle.script_forms.proofs.tracks.read_track.Goals as goal

pub returns-clause-value : goal.returns-clause-value
returns-clause-value c = track_told c.args.points.now c.args.gap c.args.stamp _ c.new-track.result c.track_len.result c.if-not-are_points.ensures c.in_ok-points.ensures.0 c.new-track.ensures c.track_len.ensures c.if-track_len-gt4096.false

pub returns-then-track_len-gt4096-clause-value : goal.returns-then-track_len-gt4096-clause-value
returns-then-track_len-gt4096-clause-value c = too_many c.args.points.now c.args.gap c.args.stamp _ c.new-track.result c.track_len.result c.if-not-are_points.ensures c.in_ok-points.ensures.0 c.new-track.ensures c.track_len.ensures c.if-track_len-gt4096.true

pub returns-in_err-points-clause-value : goal.returns-in_err-points-clause-value
returns-in_err-points-clause-value c =
    let e : c.from_residual.result ≡ Err c.in_err-points.field-0.0 = search rules in
    e ∙ not_points c.args.points.now c.args.gap c.args.stamp c.in_err-points.field-0.0 c.if-not-are_points.ensures c.in_err-points.ensures

pub returns-then-not-are_points-clause-value : goal.returns-then-not-are_points-clause-value
returns-then-not-are_points-clause-value c = not_counted c.args.points.now c.args.gap c.args.stamp c.if-not-are_points.ensures
