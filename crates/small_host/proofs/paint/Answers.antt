use Rattle.std.proofs.Common.{refl}
use Rattle.desk_state.proofs.SettlingRuns.{settles_none}
use Rattle.small_host.proofs.paint.Goals as goal

pub returns-in_err-painting : goal.returns-in_err-painting
returns-in_err-painting c = settles_none c.args.desk.now c.args.desk.now refl

pub returns-in_err-paint_like : goal.returns-in_err-paint_like
returns-in_err-paint_like c = settles_none c.args.desk.now c.args.desk.now refl

pub returns-in_err-push : goal.returns-in_err-push
returns-in_err-push c = settles_none c.args.desk.now c.args.desk.now refl
