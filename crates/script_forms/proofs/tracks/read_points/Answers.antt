use Rattle.std.proofs.Common.{◌≡◌, ℤ, Err, sym, subst, List, rules, arith}
use Rattle.std.specs.Prelude.{Result}
use Rattle.script_lines.specs.declared.cause.Cause.{Cause}
use Rattle.script_lines.specs.Fronts.{pointed}
use Rattle.script_forms.specs.Jobs.{points_at}
use Rattle.script_forms.specs.Points.{ReadsPoints}
use Rattle.script_forms.proofs.Polylines.{pair_read, pair_failed, all_read}
use Rattle.script_forms.proofs.tracks.read_points.Goals as goal

pub returns-in_err-points : goal.returns-in_err-points
returns-in_err-points c =
    let e : c.from_residual.result ≡ Err c.in_err-points.field-0.0 = search rules in
    subst (λ (r : Result (List (ℤ × ℤ)) Cause). ReadsPoints (points_at (pointed c.args.fields.now)) c.args.count r) (sym e)
    (pair_failed c.args.fields.now c.loop-i.i c.loop-i.points c.in_err-points.field-0.0 _ (omega (arith, c.requires.all)) c.in_err-points.ensures c.loop-i.invariant)

pub loop-i-preserved : goal.loop-i-preserved
loop-i-preserved c = pair_read c.args.fields.now c.loop-i.i c.loop-i.points c.in_ok-points.field-0 _ (omega (arith, c.requires.few)) (omega (arith, c.requires.all)) c.in_ok-points.ensures.0 c.in_ok-points.ensures.1 c.loop-i.invariant
