use Rattle.frame_core.proofs.DamagedParts.{all_parts}
use Rattle.frame_core.proofs.damage.Damage.all.Goals as goal

pub returns : goal.returns
returns c = all_parts c.largest.result c.none-damage.result c.add.new.self c.largest.ensures c.none-damage.ensures c.add.ensures
