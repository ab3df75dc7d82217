use Rattle.std.proofs.Common.{sym, ap, ◌∙◌, is_some}
use Rattle.tile_core.proofs.MapViews.{get-view}
use Rattle.paint_device.proofs.device.Device.has.Goals as goal

pub returns-clause-value : goal.returns-clause-value
returns-clause-value c = rw (← c.self.view_is) (c.contains_key.ensures ∙ ap is_some (sym (get-view c.self.inside.tiles c.args.key)))
