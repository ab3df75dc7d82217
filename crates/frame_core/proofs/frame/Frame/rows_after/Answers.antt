use Rattle.std.proofs.Common.{◌≡◌, ◌≤◌, ◌+◌, ◌-◌, ◌*◌, ◌/◌, ℕ, min, ap, subst, arith, length, take, ◌∙◌}
use borrow.Rule.Slice.PartMut.{put_mid}
use Rattle.std.proofs.lemmas.List.{take_all}
use Rattle.frame_core.specs.Frames.{rows_colours}
use Rattle.frame_core.proofs.PictureRows.{PictureSoFar, rows_next, rows_before, rows_fit, bytes_of_rows, band_shown}
use Rattle.frame_core.proofs.frame.Frame.rows_after.Goals as goal

pub slice_bounds-band_after-end : goal.slice_bounds-band_after-end
slice_bounds-band_after-end c =
    let m : ℕ = min (64 * c.loop-row.row) c.args.n in
    let bytes : 3 * c.width.result * c.min-count.result ≡ 3 * (c.args.self.now.width * c.min-count.result) = bytes_of_rows c.width.result c.args.self.now.width c.min-count.result c.width.ensures.value in
    let inside : m + c.min-count.result ≤ c.args.n = omega (arith, c.min-count.ensures, c.div_ceil-row-end.ensures) in
    let fits : c.loop-row.at + 3 * c.width.result * c.min-count.result ≤ length c.loop-row.band = omega (arith, rows_fit c.args.self.now.width m c.min-count.result c.args.n inside, c.loop-row.invariant.at_is, bytes, c.loop-row.auto.band, c.requires.whole) in
    fits

pub band_after-requires-clause-shown : goal.band_after-requires-clause-shown
band_after-requires-clause-shown c =
    let m : ℕ = min (64 * c.loop-row.row) c.args.n in
    let bytes : 3 * c.width.result * c.min-count.result ≡ 3 * (c.args.self.now.width * c.min-count.result) = bytes_of_rows c.width.result c.args.self.now.width c.min-count.result c.width.ensures.value in
    let inside : m + c.min-count.result ≤ c.args.n = omega (arith, c.min-count.ensures, c.div_ceil-row-end.ensures) in
    let here : 64 * (c.args.top / 64 + c.loop-row.row) ≡ c.args.top + m = omega (arith, c.requires.first, c.div_ceil-row-end.ensures) in
    let shown : take (3 * (c.args.self.now.width * c.args.n)) c.args.band.now ≡ rows_colours c.args.before.now c.args.top c.args.n = take_all (3 * (c.args.self.now.width * c.args.n)) c.args.band.now (omega (arith, c.requires.whole)) ∙ c.requires.shown in
    rows_before c.args.self.now c.args.before.now c.args.top c.args.n c.args.band.now c.loop-row.band m c.min-count.result (64 * (c.args.top / 64 + c.loop-row.row)) c.loop-row.at (c.loop-row.at + 3 * c.width.result * c.min-count.result)
    c.loop-row.invariant c.requires.after.alike shown inside (ap (λ i. c.loop-row.at + i) bytes) here

pub loop-row-preserved : goal.loop-row-preserved
loop-row-preserved c =
    let m : ℕ = min (64 * c.loop-row.row) c.args.n in
    let bytes : 3 * c.width.result * c.min-count.result ≡ 3 * (c.args.self.now.width * c.min-count.result) = bytes_of_rows c.width.result c.args.self.now.width c.min-count.result c.width.ensures.value in
    let here : 64 * (c.args.top / 64 + c.loop-row.row) ≡ c.args.top + m = omega (arith, c.requires.first, c.div_ceil-row-end.ensures) in
    let next : m + c.min-count.result ≡ min (64 * (c.loop-row.row + 1)) c.args.n = omega (arith, c.min-count.ensures, c.div_ceil-row-end.ensures) in
    subst (λ i. PictureSoFar c.args.self.now c.args.top c.args.band.now (put_mid c.loop-row.at (c.loop-row.at + 3 * c.width.result * c.min-count.result - c.loop-row.at) c.loop-row.band c.band_after.new.band) i (c.loop-row.at + 3 * c.width.result * c.min-count.result)) next
    (rows_next c.args.self.now c.args.top c.args.band.now c.loop-row.band c.band_after.new.band m c.min-count.result (64 * (c.args.top / 64 + c.loop-row.row)) c.loop-row.at (c.loop-row.at + 3 * c.width.result * c.min-count.result) c.loop-row.invariant (ap (λ i. c.loop-row.at + i) bytes) here c.band_after.ensures)

pub returns : goal.returns
returns c =
    let all : min (64 * c.loop-row.row) c.args.n ≡ c.args.n = omega (arith, c.div_ceil-row-end.ensures) in
    band_shown c.args.self.now c.args.top c.args.band.now c.loop-row.band c.args.n c.loop-row.at (subst (λ i. PictureSoFar c.args.self.now c.args.top c.args.band.now c.loop-row.band i c.loop-row.at) all c.loop-row.invariant) c.requires.whole
