use Rattle.std.proofs.Common.{◌≡◌, None, sym, ap, ◌∙◌, replicate}
use Rattle.std.specs.Option.{option_copied}
use Rattle.memento_core.specs.Planes.{tile_under}
use Rattle.desk_steps.proofs.Lain.{plain_adds_nothing}
use Rattle.desk_steps.proofs.laying.adds_nothing.Goals as goal

pub returns-in-None : goal.returns-in-None
returns-in-None c plain =
    let nothing : tile_under c.args.device.now.tiles c.args.key ≡ None = sym c.tile.ensures ∙ ap option_copied c.in-None.is in
    plain_adds_nothing c.args.device.now c.args.key c.args.tile.now nothing (c.is_plain.ensures.0 plain ∙ ap (replicate 4096) c.ground.ensures)
