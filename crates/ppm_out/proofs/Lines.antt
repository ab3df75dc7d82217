-- A picture's rows, one after another.
use Rattle.std.proofs.Common.{◌≡◌, ℕ, zero, suc, ◌+◌, ◌-◌, ◌*◌, ◌<◌, List, [], ◌∷◌, ◌++◌, length, take, drop, map, refl, sym, ap, ◌∙◌, append_assoc, arith}
use Rattle.std.specs.Prelude.{ℤ, pos}
use Rattle.std.specs.List.{concat, flat_map}
use Rattle.std.proofs.Math.Seq.{take-append_seam}
use Rattle.std.proofs.lemmas.List.{append-nil}
use Rattle.std.proofs.lemmas.Grind.{common_steps}
use Rattle.geom_core.specs.Areas.{row, rows, Point}
use Rattle.frame_core.specs.Frames.{Scene, colours_at, row_colours}

-- the colours of n rows from row b on
abbrev pub lines : Scene → ℕ → ℕ → List ℕ
lines s b n = concat (map (colours_at s) (rows (pos 0) (pos b) s.width n))

concat_map : (f : Point → List ℕ) (ps qs : List Point) → concat (map f (ps ++ qs)) ≡ flat_map f ps ++ concat (map f qs)
concat_map f [] qs = refl
concat_map f (p ∷ ps) qs = ap (λ l. f p ++ l) (concat_map f ps qs) ∙ sym (append_assoc (f p) _ _)

lines_from : (s : Scene) (b i n : ℕ) → lines s b (i + suc n) ≡ lines s b i ++ (row_colours s (b + i) ++ lines s (b + suc i) n)
lines_from s b zero n =
    let e : 0 + suc n ≡ suc n = omega arith in
    let z : b + 0 ≡ b = omega arith in
    let t : b + 1 ≡ b + suc 0 = omega arith in
    ap (λ k. lines s b k) e ∙ concat_map (colours_at s) (row (pos 0) (pos b) s.width) (rows (pos 0) (pos (b + 1)) s.width n)
    ∙ ap (λ k. row_colours s k ++ lines s (b + 1) n) (sym z) ∙ ap (λ k. row_colours s (b + 0) ++ lines s k n) t
lines_from s b (suc i) n =
    let e : suc i + suc n ≡ suc (i + suc n) = omega arith in
    let z : b + 1 + i ≡ b + suc i = omega arith in
    let t : b + 1 + suc i ≡ b + suc (suc i) = omega arith in
    ap (λ k. lines s b k) e ∙ concat_map (colours_at s) (row (pos 0) (pos b) s.width) (rows (pos 0) (pos (b + 1)) s.width (i + suc n))
    ∙ ap (λ l. row_colours s b ++ l) (lines_from s (b + 1) i n)
    ∙ sym (append_assoc (row_colours s b) _ _)
    ∙ ap (λ l. l ++ (row_colours s (b + 1 + i) ++ lines s (b + 1 + suc i) n)) (sym (concat_map (colours_at s) (row (pos 0) (pos b) s.width) (rows (pos 0) (pos (b + 1)) s.width i)))
    ∙ ap (λ k. lines s b (suc i) ++ (row_colours s k ++ lines s (b + 1 + suc i) n)) z ∙ ap (λ k. lines s b (suc i) ++ (row_colours s (b + suc i) ++ lines s k n)) t

-- one row in the middle
lines_at : (s : Scene) (y n : ℕ) → y < n → lines s 0 n ≡ lines s 0 y ++ (row_colours s y ++ lines s (suc y) (n - suc y))
lines_at s y n h =
    let e : n ≡ y + suc (n - suc y) = omega arith in
    let z : 0 + y ≡ y = omega arith in
    let t : 0 + suc y ≡ suc y = omega arith in
    ap (λ k. lines s 0 k) e ∙ lines_from s 0 y (n - suc y) ∙ ap (λ k. lines s 0 y ++ (row_colours s k ++ lines s (0 + suc y) (n - suc y))) z ∙ ap (λ k. lines s 0 y ++ (row_colours s y ++ lines s k (n - suc y))) t

-- one row more
pub lines_more : (s : Scene) (y : ℕ) → lines s 0 y ++ row_colours s y ≡ lines s 0 (y + 1)
lines_more s y =
    let e : y + 1 ≡ suc y = omega arith in
    let z : suc y - suc y ≡ 0 = omega arith in
    sym (ap (λ k. lines s 0 k) e ∙ lines_at s y (suc y) (omega arith) ∙ ap (λ k. lines s 0 y ++ (row_colours s y ++ lines s (suc y) k)) z ∙ ap (λ l. lines s 0 y ++ l) (append-nil (row_colours s y)))

colours_length : (s : Scene) (x : ℕ) (y : ℤ) (n : ℕ) → length (flat_map (colours_at s) (row (pos x) y n)) ≡ 3 * n
colours_length s x y zero = refl
colours_length s x y (suc n) = let h = colours_length s (x + 1) y n in grind (arith, common_steps, h)

-- a row's colours at the front of a buffer
pub row_at_front : (s : Scene) (y : ℕ) (old new : List ℕ) → new ≡ row_colours s y ++ drop (3 * s.width) old → take (3 * s.width) new ≡ row_colours s y
row_at_front s y old new e =
    ap (take (3 * s.width)) e ∙ ap (λ k. take k (row_colours s y ++ drop (3 * s.width) old)) (sym (colours_length s 0 (pos y) s.width)) ∙ take-append_seam (row_colours s y) (drop (3 * s.width) old)
