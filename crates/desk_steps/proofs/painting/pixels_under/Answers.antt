use Rattle.std.proofs.Common.{sym, ap, ◌∙◌, replicate}
use Rattle.std.specs.Option.{option_copied}
use Rattle.paint_device.specs.Sheets.{tile_or}
use Rattle.desk_steps.proofs.painting.pixels_under.Goals as goal

pub returns-in_ok-vec-in-None-clause-value : goal.returns-in_ok-vec-in-None-clause-value
returns-in_ok-vec-in-None-clause-value c = c.in_ok-vec-in-None.ensures.items_if_clones_equal (λ _ h. h) ∙ ap (replicate 4096) c.ground.ensures
    ∙ ap (λ o. tile_or o c.args.device.now.default_pixel) (sym (ap option_copied c.in-None.is) ∙ c.tile.ensures)
