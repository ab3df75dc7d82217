use Rattle.std.proofs.Common.{◌≡◌, sym, ap, ◌∙◌, arith}
use Rattle.std.proofs.lemmas.List.{get_or_default}
use Rattle.pixel_core.specs.Rgba.{clear}
use Rattle.tile_core.specs.Pixels.{pixel_of}
use Rattle.frame_core.specs.Plies.{Content, made_at}
use Rattle.frame_core.specs.Cells.{content}
use Rattle.frame_core.proofs.MadePixels.{made_here}
use Rattle.frame_core.proofs.cell.Cell.pixel.Goals as goal

pub returns-in-Plies : goal.returns-in-Plies
returns-in-Plies c =
    let plies = c.in-Plies.plies.value.items in
    let read : c.as_slice.result.now ≡ plies = cc (c.as_slice.ensures.value, c.deref.ensures) in
    get_or_default c.made_row-made.result c.args.col c.index-made-col.result clear (omega arith)
    ∙ c.made_row-made.ensures c.args.col c.requires.col
    ∙ ap (λ ps. made_at ps c.args.col c.args.row) read
    ∙ sym (made_here plies c.args.col c.args.row c.requires.col c.requires.row)
    ∙ ap (λ (k : Content). pixel_of k.pixels c.args.col c.args.row) (sym (ap content c.in-Plies.is) ∙ c.self.view_is)
