use Rattle.std.proofs.Common.{◌≡◌, ◌*◌, take, drop, length, sym, ap, ◌∙◌, arith}
use Rattle.std.proofs.lemmas.List.{length-take-le}
use Rattle.frame_core.specs.Plies.{Content, made_at, made_pixels}
use Rattle.frame_core.specs.Cells.{content}
use Rattle.frame_core.proofs.LaidColours.{row_laid}
use Rattle.frame_core.proofs.MadePixels.{length-made, row_made}
use Rattle.frame_core.proofs.cell.Cell.lay_row.Goals as goal

pub returns-in-Plies-clause-laid : goal.returns-in-Plies-clause-laid
returns-in-Plies-clause-laid c =
    let r = c.args.row in
    let n = c.args.n in
    let made = c.made_row-made.result in
    let plies = c.in-Plies.plies.value.items in
    let read : c.as_slice.result.now ≡ plies = cc (c.as_slice.ensures.value, c.deref.ensures) in
    let whole : length made ≡ 64 = omega arith in
    let same : made_pixels plies ≡ c.args.self.now.pixels = ap (λ (k : Content). k.pixels) (sym (ap content c.in-Plies.is) ∙ c.self.view_is) in
    let part : take n made ≡ take n (drop (64 * r) c.args.self.now.pixels) = row_made plies r n made c.requires.row c.requires.few whole (λ k l. c.made_row-made.ensures k l ∙ ap (λ ps. made_at ps k r) read) ∙ ap (λ t. take n (drop (64 * r) t)) same in
    let many : length (take n made) ≡ n = length-take-le n made (omega (arith, whole, c.requires.few)) in
    row_laid c.args.bytes.now c.lay_colours-in-Plies.new.row c.args.at n c.args.paper (take n made) (take n (drop (64 * r) c.args.self.now.pixels)) part many c.lay_colours-in-Plies.ensures

pub returns-in-Plies-clause-all : goal.returns-in-Plies-clause-all
returns-in-Plies-clause-all c = ap (λ (k : Content). length k.pixels) (sym c.self.view_is ∙ ap content c.in-Plies.is) ∙ length-made c.in-Plies.plies.value.items
