use Rattle.std.proofs.lemmas.Result.{IfOk-weaker}
use Rattle.tile_core.specs.Maps.{PutsUnder}
use Rattle.paint_device.proofs.Kept.{put-view, put_or_kept}
use Rattle.paint_device.proofs.device.Device.put.Goals as goal

pub returns-clause-ok : goal.returns-clause-ok
returns-clause-ok c = rw (← c.self.view_is) (IfOk-weaker c.put_under.result (λ _. PutsUnder c.self.inside.tiles c.put_under.new.tiles c.args.key c.args.tile) _
    (λ _ p. put-view c.self.inside.ground c.self.inside.tiles c.put_under.new.tiles c.args.key c.args.tile p) c.put_under.ensures.ok)

pub invariant_of-self : goal.invariant_of-self
invariant_of-self c = put_or_kept c.self.inside.ground c.self.inside.tiles c.put_under.new.tiles c.args.key c.args.tile c.put_under.result c.put_under.ensures.ok c.put_under.ensures.err c.requires c.self.invariant
