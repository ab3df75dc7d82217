use Rattle.std.proofs.Common.{ap, ◌∙◌, None}
use Rattle.std.specs.FinMap as map
use Rattle.std.specs.Option.{unwrap_or}
use Rattle.paint_device.specs.Sheets.{Sheet}
use Rattle.paint_device.proofs.Kept.{put-view, put_kept, has-view, tile-view}
use Rattle.paint_device.proofs.device.Device.swap.Goals as goal

pub swap_under-requires : goal.swap_under-requires
swap_under-requires c = has-view c.self.inside.tiles c.args.self.now c.args.key (ap (λ (s : Sheet). s.tiles) c.self.view_is) c.requires

pub returns-clause-old : goal.returns-clause-old
returns-clause-old c = rw (← c.self.view_is) (ap (λ o. unwrap_or o None) c.swap_under.ensures.old ∙ tile-view c.self.inside.tiles c.args.key)

pub returns-clause-new : goal.returns-clause-new
returns-clause-new c = rw (← c.self.view_is) (put-view c.self.inside.ground c.self.inside.tiles c.swap_under.new.tiles c.args.key c.args.tile c.swap_under.ensures.new)

pub invariant_of-self : goal.invariant_of-self
invariant_of-self c = put_kept c.self.inside.ground c.self.inside.tiles c.swap_under.new.tiles c.args.key c.args.tile c.swap_under.ensures.new
    (c.self.invariant c.args.key (ap (λ (s : Sheet). map.contains_key s.tiles c.args.key) c.self.view_is ∙ c.requires)) c.self.invariant
