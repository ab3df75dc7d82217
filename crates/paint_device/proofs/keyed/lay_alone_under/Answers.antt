use Rattle.std.proofs.Common.{rules}
use Rattle.tile_core.specs.Maps.{PutsUnder}
use Rattle.paint_device.proofs.InPlace.{same_written}
use Rattle.paint_device.proofs.keyed.lay_alone_under.Goals as goal

pub returns-in-Some-clause-kept : goal.returns-in-Some-clause-kept
returns-in-Some-clause-kept g c =
    let puts : PutsUnder c.args.tiles.now (c.get_mut.follows.lender c.lay_alone.new.place) c.args.key c.lay_alone.new.place = search rules in
    λ e. same_written c.args.tiles.now (c.get_mut.follows.lender c.lay_alone.new.place) c.args.key c.in-Some.place.now c.lay_alone.new.place c.in-Some.ensures.value (c.lay_alone.ensures.kept e) puts
