use Rattle.desk_steps.proofs.WholeTiles.{tiles_stand}
use Rattle.desk_steps.proofs.exchanging.stands_as.Goals as goal

pub returns-in-Some-Some : goal.returns-in-Some-Some
returns-in-Some-Some c same = tiles_stand c.args.device.now c.args.base.now c.args.key c.rect.result c.in-Some-Some.now.now c.in-Some-Some.before.now c.rect.ensures c.in-Some-Some.ensures c.in-Some-Some.ensures' (c.same_in.ensures.0 same)
