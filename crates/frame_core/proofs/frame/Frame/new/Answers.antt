use Rattle.std.proofs.Common.{◌∙◌, ap, ◌+◌}
use Rattle.frame_core.specs.Frames.{scene}
use Rattle.frame_core.specs.Placed.{tiles_from}
use Rattle.frame_core.proofs.PlacedTiles.{no_place}
use Rattle.frame_core.proofs.frame.Frame.new.Goals as goal

pub returns : goal.returns
returns c = ap (scene c.args.w c.args.h c.args.paper) (ap (tiles_from 0) c.in_ok-no_tiles.ensures ∙ no_place 0 (c.place.result + 1))
