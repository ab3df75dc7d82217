-- Lines of frames, and sums of rows.
use Rattle.std.proofs.Common.{◌≡◌, ℕ, suc, ◌+◌, ◌<◌, List, ◌++◌, length, drop, map, get_or, sym, ap, ◌∙◌, arith}
use Rattle.std.specs.List.{sum}
use Rattle.std.proofs.Math.Seq.{drop-cons}
use Rattle.std.proofs.lemmas.List.Sums.{sum_by-append}
use Rattle.frame_core.specs.Frames.{Scene, row_colours}
use Rattle.ppm_out.proofs.Lines.{lines, lines_more}
use Rattle.log_out.specs.Summary.{sheet_of}
use Rattle.log_out.specs.Log.{frame_line, frame_lines}

-- the next line
pub sheets_at : (frames : List Scene) (i : ℕ) (f : Scene) → i < length frames → f ≡ get_or frames i f
    → frame_lines (i + 1) (map sheet_of (drop i frames)) ≡ frame_line (i + 1) (sheet_of f) ++ frame_lines (i + 1 + 1) (map sheet_of (drop (i + 1) frames))
sheets_at frames i f h e =
    let next : suc i ≡ i + 1 = omega arith in
    ap (λ l. frame_lines (i + 1) (map sheet_of l)) (drop-cons frames i f h) ∙ ap (λ x. frame_line (i + 1) (sheet_of x) ++ frame_lines (i + 1 + 1) (map sheet_of (drop (suc i) frames))) (sym e)
    ∙ ap (λ j. frame_line (i + 1) (sheet_of f) ++ frame_lines (i + 1 + 1) (map sheet_of (drop j frames))) next

-- one row's colours more
pub sum_more : (s : Scene) (y total n : ℕ) (row : List ℕ) → total ≡ sum (lines s 0 y) → n ≡ sum row → row ≡ row_colours s y → total + n ≡ sum (lines s 0 (y + 1))
sum_more s y total n row t e shown =
    ap (λ k. k + n) t ∙ ap (λ k. sum (lines s 0 y) + k) (e ∙ ap sum shown) ∙ sym (sum_by-append (λ x. x) (lines s 0 y) (row_colours s y)) ∙ ap sum (lines_more s y)
