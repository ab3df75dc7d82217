use Rattle.std.proofs.Common.{◌≡◌, ◌*◌, sym, ap, refl, ◌∙◌}
use Rattle.frame_core.specs.Frames.{Scene}
use Rattle.ppm_out.specs.Rows.{scene_of}
use Rattle.ppm_out.proofs.Halves.{picture_before}
use Rattle.ppm_out.proofs.picture.lay_picture.Goals as goal

pub lay_rows-requires-clause-before : goal.lay_rows-requires-clause-before
lay_rows-requires-clause-before g c = λ κs lives.
    let s : Scene = scene_of c.args.rows in
    let w = c.width-width.result in
    let h = c.height-height.result in
    let width : w ≡ s.width = c.width-width.ensures.value ∙ ap (λ (v : Scene). v.width) (sym c.requires.of) in
    let height : h ≡ s.height = c.height-height.ensures.value ∙ ap (λ (v : Scene). v.height) (sym c.requires.of) in
    picture_before c.args.rows h (3 * (w * h)) c.args.picture.now _ c.requires.there c.requires.before height (ap (λ i. 3 * (i * h)) width) refl
