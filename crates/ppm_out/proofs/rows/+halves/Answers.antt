use Rattle.std.proofs.Common.{◌≡◌, ◌+◌, ◌-◌, ◌*◌, ◌++◌, ap, ap₂, sym, ◌∙◌, arith}
use Rattle.frame_core.specs.Frames.{rows_colours}
use Rattle.frame_core.proofs.PictureRows.{rows_more, bytes_of_rows}
use Rattle.ppm_out.specs.Rows.{scene_of}
use Rattle.ppm_out.proofs.Bands.{below_len}
use Rattle.ppm_out.proofs.Halves.{above_before, below_before}
use Rattle.ppm_out.proofs.rows.+halves.Goals as goal

pub lay_rows-lay_both-requires-clause-below : goal.lay_rows-lay_both-requires-clause-below
lay_rows-lay_both-requires-clause-below g t c κs within =
    let w = c.width.result in
    let m = c.half-high.result in
    let n = c.args.n - m in
    let all : m + n ≡ c.args.n = omega (arith, c.half-high.ensures.fewer) in
    below_len w m n c.args.n _ (c.split_at_mut-above.ensures.back_len ∙ c.requires.whole ∙ ap (λ i. 3 * (i * c.args.n)) (sym c.width.ensures.value)) all ∙ ap (λ i. 3 * (i * n)) c.width.ensures.value

pub lay_rows-lay_both-requires-clause-before_above : goal.lay_rows-lay_both-requires-clause-before_above
lay_rows-lay_both-requires-clause-before_above g t c κs within =
    let m = c.half-high.result in
    let n = c.args.n - m in
    let all : m + n ≡ c.args.n = omega (arith, c.half-high.ensures.fewer) in
    above_before c.args.rows c.args.top m n c.args.n (3 * c.width.result * m) c.args.band.now _ c.requires.there c.requires.before all (bytes_of_rows c.width.result (scene_of c.args.rows).width m c.width.ensures.value) c.split_at_mut-above.ensures.front

pub lay_rows-lay_both-requires-clause-before_below : goal.lay_rows-lay_both-requires-clause-before_below
lay_rows-lay_both-requires-clause-before_below g t c κs within =
    let m = c.half-high.result in
    let n = c.args.n - m in
    let all : m + n ≡ c.args.n = omega (arith, c.half-high.ensures.fewer) in
    below_before c.args.rows c.args.top m n c.args.n (3 * c.width.result * m) c.args.band.now _ c.requires.there c.requires.before all c.half-high.ensures.whole (bytes_of_rows c.width.result (scene_of c.args.rows).width m c.width.ensures.value) c.split_at_mut-above.ensures.back

pub lay_rows-returns : goal.lay_rows-returns
lay_rows-returns g t c =
    let s = scene_of c.args.rows in
    let y = c.args.top in
    let m = c.half-high.result in
    let n = c.args.n - m in
    let all : m + n ≡ c.args.n = omega (arith, c.half-high.ensures.fewer) in
    ap₂ ◌++◌ c.lay_both.ensures.above c.lay_both.ensures.below ∙ rows_more s y m n ∙ ap (rows_colours s y) all
