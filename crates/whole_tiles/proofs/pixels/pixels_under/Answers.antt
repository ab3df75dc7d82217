use Rattle.std.proofs.Common.{sym, ap, ◌∙◌, replicate}
use Rattle.std.specs.Option.{option_copied, unwrap_or}
use Rattle.whole_tiles.proofs.pixels.pixels_under.Goals as goal

pub returns-in_ok-vec-in-None-clause-value : goal.returns-in_ok-vec-in-None-clause-value
returns-in_ok-vec-in-None-clause-value c = c.in_ok-vec-in-None.ensures.items_if_clones_equal (λ _ h. h) ∙ ap (replicate 4096) c.ground.ensures
    ∙ ap (λ o. unwrap_or o (replicate 4096 c.args.shot.now.default_pixel)) (sym (ap option_copied c.in-None.is) ∙ c.tile.ensures)
