use Rattle.std.proofs.Common.{◌*◌, ◌++◌, ◌∙◌, drop, sym, ap}
use Rattle.std.specs.List.{flat_map}
use Rattle.std.specs.Option.{option_copied}
use Rattle.std.proofs.lemmas.List.{length-take-le}
use Rattle.pixel_core.specs.Words.{bytes_of}
use Rattle.host_desk.specs.Tiles.{pixels_of}
use Rattle.host_desk.proofs.tiles.copy_tile.Goals as goal

pub copy_pixels-requires : goal.copy_pixels-requires
copy_pixels-requires c = record { room = length-take-le 16384 c.args.out.now c.requires.room ∙ sym (ap (λ n. 4 * n) c.pixels.ensures.all) }

pub returns-in-None : goal.returns-in-None
returns-in-None c =
    ap (λ b. b ++ drop 16384 c.args.out.now) c.copy_clear.ensures
    ∙ ap (λ o. flat_map bytes_of (pixels_of (option_copied o)) ++ drop 16384 c.args.out.now) (sym c.in-None.is)
