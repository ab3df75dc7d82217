use Rattle.group_caches.proofs.Layers.{plain_stands}
use Rattle.group_caches.proofs.painting.tile_of.Goals as goal

pub returns-in_ok-plain-in-Plain : goal.returns-in_ok-plain-in-Plain
returns-in_ok-plain-in-Plain c = plain_stands c.args.given.now c.in_ok-plain-in-Plain.field-0 c.in-Plain.pixel c.in-Plain.is c.in_ok-plain-in-Plain.ensures c.if-eq.ensures
