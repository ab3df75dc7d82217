-- A picture's rows, by bands of as many as there is room for.
use Rattle.std.proofs.Common.{◌≡◌, ℕ, ◌+◌, ◌-◌, ◌*◌, ◌≤◌, ◌++◌, sym, ap, ◌∙◌, append_assoc, arith}
use Rattle.std.specs.Prelude.{pos}
use Rattle.std.specs.List.{concat}
use Rattle.geom_core.specs.Areas.{area, points_of}
use Rattle.frame_core.specs.Frames.{Scene, colours_at, rows_colours}
use Rattle.frame_core.proofs.PictureRows.{rows_more}
use Rattle.ppm_out.specs.Pictures.{header, frame_bytes}
use Rattle.frame_core.specs.Scenes.{colours_of}
use Rattle.ppm_out.proofs.Series.{concat_is}

-- the rows so far and those of the next band
pub band_more : (s : Scene) (y n : ℕ) → rows_colours s 0 y ++ rows_colours s y n ≡ rows_colours s 0 (y + n)
band_more s y n =
    let z : y ≡ 0 + y = omega arith in
    ap (λ i. rows_colours s 0 y ++ rows_colours s i n) z ∙ rows_more s 0 y n

-- all rows are the whole picture
pub bands_all : (s : Scene) (y : ℕ) → y ≡ s.height → rows_colours s 0 y ≡ concat (colours_of s)
bands_all s y e = ap (rows_colours s 0) e ∙ concat_is (colours_at s) (points_of (area (pos 0) (pos 0) s.width s.height))

-- a band in the middle of a pixmap
pub band_at : (s : Scene) (y n : ℕ) → y + n ≤ s.height
    → frame_bytes s.width s.height (colours_of s) ≡ (header s.width s.height ++ rows_colours s 0 y) ++ (rows_colours s y n ++ rows_colours s (y + n) (s.height - (y + n)))
band_at s y n h =
    let front = header s.width s.height in
    let below = rows_colours s (y + n) (s.height - (y + n)) in
    let e : y + n + (s.height - (y + n)) ≡ s.height = omega arith in
    ap (λ l. front ++ l) (sym (bands_all s (y + n + (s.height - (y + n))) e) ∙ sym (band_more s (y + n) (s.height - (y + n))) ∙ ap (λ l. l ++ below) (sym (band_more s y n)) ∙ append_assoc (rows_colours s 0 y) (rows_colours s y n) below)
    ∙ sym (append_assoc front (rows_colours s 0 y) (rows_colours s y n ++ below))

-- how long the lower rows of a band are
pub below_len : (w m n k b : ℕ) → b + 3 * w * m ≡ 3 * (w * k) → m + n ≡ k → b ≡ 3 * (w * n)
below_len w m n k b e all =
    let whole : 3 * (w * (m + n)) ≡ 3 * w * m + 3 * (w * n) = grind arith in
    let same : 3 * (w * k) ≡ 3 * (w * (m + n)) = ap (λ i. 3 * (w * i)) (sym all) in
    omega (arith, e, whole, same)
