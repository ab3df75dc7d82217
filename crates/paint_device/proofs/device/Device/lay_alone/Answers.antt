use Rattle.std.proofs.Common.{ap, ◌∙◌}
use Rattle.paint_device.specs.Sheets.{sheet}
use Rattle.paint_device.proofs.SameMaps.{same_view}
use Rattle.paint_device.proofs.InPlace.{laid_lays, laid_kept}
use Rattle.paint_device.proofs.device.Device.lay_alone.Goals as goal

pub invariant_of-self : goal.invariant_of-self
invariant_of-self g c = laid_kept (g.L.Lays.laid c.args.change.now) c.self.inside.ground c.self.inside.tiles c.lay_alone_under.new.tiles c.args.key c.lay_alone_under.result c.lay_alone_under.ensures.laid c.lay_alone_under.ensures.kept c.self.invariant

pub returns-clause-laid : goal.returns-clause-laid
returns-clause-laid g c = λ e. rw (← c.self.view_is) (laid_lays (g.L.Lays.laid c.args.change.now) c.self.inside.ground c.self.inside.tiles c.lay_alone_under.new.tiles c.args.key (c.lay_alone_under.ensures.laid e))

pub returns-clause-kept : goal.returns-clause-kept
returns-clause-kept g c = λ e. ap (sheet c.self.inside.ground) (same_view c.self.inside.tiles c.lay_alone_under.new.tiles (c.lay_alone_under.ensures.kept e)) ∙ c.self.view_is
