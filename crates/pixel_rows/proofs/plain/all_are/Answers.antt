use Rattle.std.proofs.Common.{sym, ◌∙◌, length, replicate}
use Rattle.std.proofs.lemmas.List.{get_or-replicate, length-replicate}
use Rattle.pixel_core.specs.Rgba.{Rgba}
use Rattle.pixel_core.proofs.SamePixels.{same_pixel-Decides}
use Rattle.pixel_rows.proofs.SameRows.{same_more}
use Rattle.pixel_rows.proofs.plain.all_are.Goals as goal

pub loop-i-preserved : goal.loop-i-preserved
loop-i-preserved c =
    let n = length c.args.pixels.now in
    let p : Rgba = c.index-pixels-i.result in
    let q : Rgba = c.args.p in
    same_more c.args.pixels.now (replicate n q) c.loop-i.i c.loop-i.all c.eq-all.result p q c.loop-i-test.true (length-replicate n q) c.index-pixels-i.is (sym (get_or-replicate n c.loop-i.i q q c.loop-i-test.true))
    ((λ t. (same_pixel-Decides p q).0 (sym c.eq-all.ensures ∙ t)), (λ e. c.eq-all.ensures ∙ (same_pixel-Decides p q).1 e))
    c.loop-i.invariant
