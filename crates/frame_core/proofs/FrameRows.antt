-- Rows of a frame, tile by tile.
use Rattle.std.proofs.Common.{◌≡◌, ℕ, suc, zero, ◌+◌, ◌-◌, ◌*◌, ◌/◌, ◌%◌, ◌≤◌, ◌<◌, List, [], ◌∷◌, ◌++◌, length, get_or, take, drop, map, replicate, min, Option, Some, None, refl, sym, ap, subst, ◌∙◌, arith, length-append, append_assoc, append-nil}
use Rattle.std.specs.List.{flat_map}
use Rattle.std.specs.FinMap as finite
use Rattle.std.specs.Prelude.{ℤ, pos, ◌+ℤ◌}
use Rattle.std.proofs.Math.Seq.{take-append_seam, drop-append-add, drop-cons}
use Rattle.std.proofs.lemmas.List.{drop-append-le, length-drop, length-take-le, take-append-drop, take-append-le}
use Rattle.std.proofs.lemmas.List.Folds.{flat_map-map}
use Rattle.std.proofs.lemmas.Slice.{drop-append-drop}
use Rattle.std.proofs.lemmas.Grind.{flat_map-append}
use Rattle.pixel_core.specs.Rgba.{Rgba, clear}
use Rattle.pixel_core.specs.Compose.{on_paper}
use Rattle.geom_core.specs.Areas.{row, Point, point}
use Rattle.geom_core.specs.Grid.{key, key_of}
use Rattle.tile_core.specs.Pixels.{Pixels, pixel_or}
use Rattle.frame_core.specs.Frames.{Scene, put_at, colours_at, row_colours, LaysPoints}

-- a list is written from the front: ys stands there, and then zs is written behind it
pub written : (old mid new ys zs : List ℕ) (k m : ℕ) → mid ≡ ys ++ drop k old → length ys ≡ k → new ≡ take k mid ++ zs ++ drop (k + m) mid → new ≡ (ys ++ zs) ++ drop (k + m) old
written old mid new ys zs k m e n w =
    let front : take k mid ≡ ys = ap (λ v. take k v) e ∙ ap (λ i. take i (ys ++ drop k old)) (sym n) ∙ take-append_seam ys (drop k old) in
    let back : drop (k + m) mid ≡ drop (k + m) old = ap (λ v. drop (k + m) v) e ∙ drop-append-drop k old ys (k + m) (omega arith) n in
    w ∙ ap (λ v. v ++ zs ++ drop (k + m) mid) front ∙ ap (λ v. ys ++ zs ++ v) back

-- how many colours n pixels have
pub many_colours : {X : Type 0} (f : X → List ℕ) (xs : List X) → ((x : X) → length (f x) ≡ 3) → length (flat_map f xs) ≡ 3 * length xs
many_colours f [] h = refl
many_colours f (x ∷ xs) h = length-append (f x) (flat_map f xs) ∙ ap (λ n. n + length (flat_map f xs)) (h x) ∙ ap (λ n. 3 + n) (many_colours f xs h) ∙ (omega arith)

pub length-row : (x y : ℤ) (n : ℕ) → length (row x y n) ≡ n
length-row x y zero = refl
length-row x y (suc n) = ap (λ i. suc i) (length-row (x +ℤ pos 1) y n)

-- the pixel put at a point of a row
pub point_pixel : (s : Scene) (o : Option Pixels) (i y c : ℕ) → finite.get s.tiles (key (pos i) (pos (y / 64))) ≡ o → c < 64 → put_at s (point (pos (64 * i + c)) (pos y)) ≡ pixel_or o clear (point (pos (64 * i + c)) (pos y))
point_pixel s o i y c e h =
    let q : (64 * i + c) / 64 ≡ i = omega arith in
    ap (λ n. pixel_or (finite.get s.tiles (key (pos n) (pos (y / 64)))) clear (point (pos (64 * i + c)) (pos y))) q ∙ ap (λ v. pixel_or v clear (point (pos (64 * i + c)) (pos y))) e

place_of : (i y c : ℕ) → c < 64 → 64 * ((y + 16384) % 64) + (64 * i + c + 16384) % 64 ≡ 64 * (y % 64) + c
place_of i y c h = omega arith

pub tile_pixels : (s : Scene) (t : Pixels) (i y c n : ℕ) → finite.get s.tiles (key (pos i) (pos (y / 64))) ≡ Some t → length t ≡ 4096 → c + n ≤ 64 → map (put_at s) (row (pos (64 * i + c)) (pos y) n) ≡ take n (drop (64 * (y % 64) + c) t)
tile_pixels s t i y c zero e all h = refl
tile_pixels s t i y c (suc n) e all h =
    let first : put_at s (point (pos (64 * i + c)) (pos y)) ≡ get_or t (64 * (y % 64) + c) clear = point_pixel s (Some t) i y c e (omega arith) ∙ ap (λ m. get_or t m clear) (place_of i y c (omega arith)) in
    let rest : map (put_at s) (row (pos (64 * i + (c + 1))) (pos y) n) ≡ take n (drop (64 * (y % 64) + (c + 1)) t) = tile_pixels s t i y (c + 1) n e all (omega arith) in
    let next : 64 * i + (c + 1) ≡ 64 * i + c + 1 = omega arith in
    let below : 64 * (y % 64) + (c + 1) ≡ suc (64 * (y % 64) + c) = omega arith in
    let small : 64 * (y % 64) + c < length t = omega arith in
    ap (λ v. v ∷ map (put_at s) (row (pos (64 * i + c + 1)) (pos y) n)) first
    ∙ ap (λ v. get_or t (64 * (y % 64) + c) clear ∷ v) (ap (λ m. map (put_at s) (row (pos m) (pos y) n)) (sym next) ∙ rest ∙ ap (λ m. take n (drop m t)) below)
    ∙ sym (ap (take (suc n)) (drop-cons t (64 * (y % 64) + c) clear small))

pub clear_pixels : (s : Scene) (i y c n : ℕ) → finite.get s.tiles (key (pos i) (pos (y / 64))) ≡ None → c + n ≤ 64 → map (put_at s) (row (pos (64 * i + c)) (pos y) n) ≡ replicate n clear
clear_pixels s i y c zero e h = refl
clear_pixels s i y c (suc n) e h =
    let next : 64 * i + (c + 1) ≡ 64 * i + c + 1 = omega arith in
    ap (λ v. v ∷ map (put_at s) (row (pos (64 * i + c + 1)) (pos y) n)) (point_pixel s None i y c e (omega arith))
    ∙ ap (λ v. clear ∷ v) (ap (λ m. map (put_at s) (row (pos m) (pos y) n)) (sym next) ∙ clear_pixels s i y (c + 1) n e (omega arith))

-- a row's pixels in one tile, from the tile's first column on
row_in_tile : (s : Scene) (t : Pixels) (i y n : ℕ) → finite.get s.tiles (key (pos i) (pos (y / 64))) ≡ Some t → length t ≡ 4096 → n ≤ 64 → map (put_at s) (row (pos (64 * i)) (pos y) n) ≡ take n (drop (64 * (y % 64)) t)
row_in_tile s t i y n e all h =
    let x : 64 * i ≡ 64 * i + 0 = omega arith in
    let j : 64 * (y % 64) + 0 ≡ 64 * (y % 64) = omega arith in
    ap (λ m. map (put_at s) (row (pos m) (pos y) n)) x ∙ tile_pixels s t i y 0 n e all (omega arith) ∙ ap (λ m. take n (drop m t)) j

row_in_none : (s : Scene) (i y n : ℕ) → finite.get s.tiles (key (pos i) (pos (y / 64))) ≡ None → n ≤ 64 → map (put_at s) (row (pos (64 * i)) (pos y) n) ≡ replicate n clear
row_in_none s i y n e h = let x : 64 * i ≡ 64 * i + 0 = omega arith in ap (λ m. map (put_at s) (row (pos m) (pos y) n)) x ∙ clear_pixels s i y 0 n e (omega arith)

-- the key of a row's points in a column of tiles
pub key_at : (i y : ℕ) → key_of (point (pos (64 * i)) (pos y)) ≡ key (pos i) (pos (y / 64))
key_at i y = let e : 64 * i / 64 ≡ i = omega arith in ap (λ n. key (pos n) (pos (y / 64))) e

-- the colours of the pixels are those of the points
lays_points : (s : Scene) (paper : Rgba) (y x n at : ℕ) (old new : List ℕ) (ps : List Rgba) → paper ≡ s.paper → map (put_at s) (row (pos x) (pos y) n) ≡ ps → at ≡ 3 * x
    → new ≡ take at old ++ flat_map (λ q. on_paper q paper) ps ++ drop (at + 3 * n) old → LaysPoints s y old new x n
lays_points s paper y x n at old new ps ep es ea w =
    let colours : flat_map (λ q. on_paper q paper) ps ≡ flat_map (colours_at s) (row (pos x) (pos y) n) =
    ap (λ v. flat_map (λ q. on_paper q v) ps) ep ∙ sym (ap (flat_map (λ q. on_paper q s.paper)) es) ∙ flat_map-map (λ q. on_paper q s.paper) (put_at s) (row (pos x) (pos y) n) in
    let end : at + 3 * n ≡ 3 * (x + n) = omega arith in
    w ∙ ap (λ v. take v old ++ flat_map (λ q. on_paper q paper) ps ++ drop (at + 3 * n) old) ea
    ∙ ap (λ v. take (3 * x) old ++ v ++ drop (at + 3 * n) old) colours
    ∙ ap (λ v. take (3 * x) old ++ flat_map (colours_at s) (row (pos x) (pos y) n) ++ drop v old) end

pub lays_tile : (s : Scene) (paper : Rgba) (t : Pixels) (i y n n' at : ℕ) (old new : List ℕ) → paper ≡ s.paper → finite.get s.tiles (key (pos i) (pos (y / 64))) ≡ Some t → length t ≡ 4096 → n ≡ n' → n ≤ 64 → at ≡ 3 * (64 * i)
    → new ≡ take at old ++ flat_map (λ q. on_paper q paper) (take n (drop (64 * (y % 64)) t)) ++ drop (at + 3 * n) old → LaysPoints s y old new (64 * i) n'
lays_tile s paper t i y n n' at old new ep e all en small ea w =
    subst (λ m. LaysPoints s y old new (64 * i) m) en (lays_points s paper y (64 * i) n at old new (take n (drop (64 * (y % 64)) t)) ep (row_in_tile s t i y n e all small) ea w)

pub lays_none : (s : Scene) (paper : Rgba) (i y n n' at : ℕ) (old new : List ℕ) → paper ≡ s.paper → finite.get s.tiles (key (pos i) (pos (y / 64))) ≡ None → n ≡ n' → n ≤ 64 → at ≡ 3 * (64 * i)
    → new ≡ take at old ++ flat_map (λ q. on_paper q paper) (replicate n clear) ++ drop (at + 3 * n) old → LaysPoints s y old new (64 * i) n'
lays_none s paper i y n n' at old new ep e en small ea w = subst (λ m. LaysPoints s y old new (64 * i) m) en (lays_points s paper y (64 * i) n at old new (replicate n clear) ep (row_in_none s i y n e small) ea w)

-- a row in two parts
pub row-add : (a m n b : ℕ) (y : ℤ) → a + m ≡ b → row (pos a) y (m + n) ≡ row (pos a) y m ++ row (pos b) y n
row-add a zero n b y e = let f : a ≡ b = omega arith in let g : 0 + n ≡ n = omega arith in ap (λ i. row (pos a) y i) g ∙ ap (λ i. row (pos i) y n) f
row-add a (suc m) n b y e =
    let f : a + 1 + m ≡ b = omega arith in
    let g : suc m + n ≡ suc (m + n) = omega arith in
    ap (λ i. row (pos a) y i) g ∙ ap (λ v. point (pos a) y ∷ v) (row-add (a + 1) m n b y f)

-- the row's points so far
pub record RowSoFar (s : Scene) (y : ℕ) (old new : List ℕ) (cols : ℕ) : Type 0 where
  pub laid : new ≡ flat_map (colours_at s) (row (pos 0) (pos y) (min (64 * cols) s.width)) ++ drop (3 * min (64 * cols) s.width) old

row_more : (s : Scene) (y m n : ℕ) (old mid new : List ℕ) → mid ≡ flat_map (colours_at s) (row (pos 0) (pos y) m) ++ drop (3 * m) old → LaysPoints s y mid new m n
    → new ≡ flat_map (colours_at s) (row (pos 0) (pos y) (m + n)) ++ drop (3 * (m + n)) old
row_more s y m n old mid new e w =
    let f : Point → List ℕ = colours_at s in
    let ys : List ℕ = flat_map f (row (pos 0) (pos y) m) in
    let zs : List ℕ = flat_map f (row (pos m) (pos y) n) in
    let len : length (flat_map f (row (pos 0) (pos y) m)) ≡ 3 * m = many_colours f (row (pos 0) (pos y) m) (λ _. refl) ∙ ap (λ i. 3 * i) (length-row (pos 0) (pos y) m) in
    let end : 3 * (m + n) ≡ 3 * m + 3 * n = omega arith in
    let w' : new ≡ take (3 * m) mid ++ zs ++ drop (3 * m + 3 * n) mid = w ∙ ap (λ i. take (3 * m) mid ++ zs ++ drop i mid) end in
    written old mid new ys zs (3 * m) (3 * n) e len w'
    ∙ ap (λ v. v ++ drop (3 * m + 3 * n) old) (sym (flat_map-append f (row (pos 0) (pos y) m) (row (pos m) (pos y) n)) ∙ ap (flat_map f) (sym (row-add 0 m n m (pos y) (let e : 0 + m ≡ m = omega arith in e))))
    ∙ ap (λ i. flat_map f (row (pos 0) (pos y) (m + n)) ++ drop i old) (sym end)

pub row_next : (s : Scene) (y i : ℕ) (old mid new : List ℕ) → RowSoFar s y old mid i → 64 * i < s.width → LaysPoints s y mid new (64 * i) (min 64 (s.width - 64 * i)) → RowSoFar s y old new (i + 1)
row_next s y i old mid new so h w =
    let here : min (64 * i) s.width ≡ 64 * i = omega arith in
    let there : 64 * i + min 64 (s.width - 64 * i) ≡ min (64 * (i + 1)) s.width = omega arith in
    let so' : mid ≡ flat_map (colours_at s) (row (pos 0) (pos y) (64 * i)) ++ drop (3 * (64 * i)) old = so.laid ∙ ap (λ m. flat_map (colours_at s) (row (pos 0) (pos y) m) ++ drop (3 * m) old) here in
    record { laid = row_more s y (64 * i) (min 64 (s.width - 64 * i)) old mid new so' w ∙ ap (λ m. flat_map (colours_at s) (row (pos 0) (pos y) m) ++ drop (3 * m) old) there }

pub row_all : (s : Scene) (y i : ℕ) (old new : List ℕ) → RowSoFar s y old new i → s.width ≤ 64 * i → new ≡ row_colours s y ++ drop (3 * s.width) old
row_all s y i old new so h =
    let end : min (64 * i) s.width ≡ s.width = omega arith in
    so.laid ∙ ap (λ m. flat_map (colours_at s) (row (pos 0) (pos y) m) ++ drop (3 * m) old) end

-- the points of two parts of a row, one behind the other
points_more : (s : Scene) (y x m n : ℕ) (old mid new : List ℕ) → 3 * x ≤ length old → LaysPoints s y old mid x m → LaysPoints s y mid new (x + m) n → LaysPoints s y old new x (m + n)
points_more s y x m n old mid new room e w =
    let f : Point → List ℕ = colours_at s in
    let front : List ℕ = take (3 * x) old in
    let ys : List ℕ = flat_map f (row (pos x) (pos y) m) in
    let zs : List ℕ = flat_map f (row (pos (x + m)) (pos y) n) in
    let many : length ys ≡ 3 * m = many_colours f (row (pos x) (pos y) m) (λ _. refl) ∙ ap (λ i. 3 * i) (length-row (pos x) (pos y) m) in
    let len : length (front ++ ys) ≡ 3 * (x + m) = length-append front ys ∙ ap (λ i. i + length ys) (length-take-le (3 * x) old room) ∙ ap (λ i. 3 * x + i) many ∙ (omega arith) in
    let behind : mid ≡ front ++ ys ++ drop (3 * (x + m)) old = e in
    let end : 3 * (x + m + n) ≡ 3 * (x + m) + 3 * n = omega arith in
    let there : new ≡ take (3 * (x + m)) mid ++ zs ++ drop (3 * (x + m) + 3 * n) mid = w ∙ ap (λ i. take (3 * (x + m)) mid ++ zs ++ drop i mid) end in
    let last : 3 * (x + m) + 3 * n ≡ 3 * (x + (m + n)) = omega arith in
    written old mid new (front ++ ys) zs (3 * (x + m)) (3 * n) behind len there
    ∙ ap (λ v. v ++ drop (3 * (x + m) + 3 * n) old) (append_assoc front ys zs)
    ∙ ap (λ v. front ++ v ++ drop (3 * (x + m) + 3 * n) old) (sym (flat_map-append f (row (pos x) (pos y) m) (row (pos (x + m)) (pos y) n)) ∙ ap (flat_map f) (sym (row-add x m n (x + m) (pos y) refl)))
    ∙ ap (λ i. front ++ flat_map f (row (pos x) (pos y) (m + n)) ++ drop i old) last

-- the points in the tiles of columns from the first one up to another
abbrev pub ColumnsSoFar : Scene → ℕ → ℕ → List ℕ → List ℕ → ℕ → Type 0
ColumnsSoFar s y first old new col = LaysPoints s y old new (64 * first) (min (64 * col) s.width - 64 * first)

pub columns_start : (s : Scene) (y first : ℕ) (old : List ℕ) → ColumnsSoFar s y first old old first
columns_start s y first old =
    let none : 0 ≡ min (64 * first) s.width - 64 * first = omega arith in
    let same : 3 * (64 * first) ≡ 3 * (64 * first + 0) = omega arith in
    subst (λ n. LaysPoints s y old old (64 * first) n) none (sym (take-append-drop (3 * (64 * first)) old) ∙ ap (λ i. take (3 * (64 * first)) old ++ drop i old) same ∙ ap (λ v. v ++ drop (3 * (64 * first + 0)) old) (sym (append-nil (take (3 * (64 * first)) old))))

pub columns_next : (s : Scene) (y first col : ℕ) (old mid new : List ℕ) → first ≤ col → 64 * col < s.width → 3 * s.width ≤ length old → ColumnsSoFar s y first old mid col → LaysPoints s y mid new (64 * col) (min 64 (s.width - 64 * col)) → ColumnsSoFar s y first old new (col + 1)
columns_next s y first col old mid new l inside room so w =
    let here : 64 * col ≡ 64 * first + (min (64 * col) s.width - 64 * first) = omega arith in
    let there : (min (64 * col) s.width - 64 * first) + min 64 (s.width - 64 * col) ≡ min (64 * (col + 1)) s.width - 64 * first = omega arith in
    subst (λ n. LaysPoints s y old new (64 * first) n) there
    (points_more s y (64 * first) (min (64 * col) s.width - 64 * first) (min 64 (s.width - 64 * col)) old mid new (omega arith) so (subst (λ i. LaysPoints s y mid new i (min 64 (s.width - 64 * col))) here w))

-- what stands in the middle of a list
middle : (a c b : List ℕ) (k j m : ℕ) → length a ≡ k → j + m ≤ length c → take m (drop (k + j) (a ++ c ++ b)) ≡ take m (drop j c)
middle a c b k j m e h =
    let many : length (drop j c) ≡ length c - j = length-drop j c in
    ap (λ v. take m (drop (k + j) v)) (append_assoc a c b)
    ∙ ap (λ i. take m (drop (i + j) (a ++ (c ++ b)))) (sym e)
    ∙ ap (take m) (drop-append-add a (c ++ b) j)
    ∙ ap (take m) (drop-append-le j c b (omega arith))
    ∙ take-append-le m (drop j c) b (omega (arith, many))

-- where points of a row are written, some of them have the colours that they have in the whole row
pub part_shown : (s : Scene) (y x w start n : ℕ) (old new : List ℕ) → LaysPoints s y old new start n → start ≤ x → x + w ≤ start + n → start + n ≤ s.width → 3 * start ≤ length old → take (3 * w) (drop (3 * x) new) ≡ take (3 * w) (drop (3 * x) (row_colours s y))
part_shown s y x w start n old new lays l r inside room =
    let f : Point → List ℕ = colours_at s in
    let a : List ℕ = flat_map f (row (pos 0) (pos y) start) in
    let c : List ℕ = flat_map f (row (pos start) (pos y) n) in
    let b : List ℕ = flat_map f (row (pos (start + n)) (pos y) (s.width - (start + n))) in
    let many : length c ≡ 3 * n = many_colours f (row (pos start) (pos y) n) (λ _. refl) ∙ ap (λ i. 3 * i) (length-row (pos start) (pos y) n) in
    let front : length a ≡ 3 * start = many_colours f (row (pos 0) (pos y) start) (λ _. refl) ∙ ap (λ i. 3 * i) (length-row (pos 0) (pos y) start) in
    let at : 3 * x ≡ 3 * start + 3 * (x - start) = omega arith in
    let fits : 3 * (x - start) + 3 * w ≤ length c = omega (arith, many) in
    let wide : s.width ≡ start + (n + (s.width - (start + n))) = omega arith in
    let cut : row (pos 0) (pos y) (start + (n + (s.width - (start + n)))) ≡ row (pos 0) (pos y) start ++ (row (pos start) (pos y) n ++ row (pos (start + n)) (pos y) (s.width - (start + n)))
    = row-add 0 start (n + (s.width - (start + n))) start (pos y) (omega arith) ∙ ap (λ v. row (pos 0) (pos y) start ++ v) (row-add start n (s.width - (start + n)) (start + n) (pos y) refl) in
    let whole : row_colours s y ≡ a ++ c ++ b
    = ap (λ i. flat_map f (row (pos 0) (pos y) i)) wide ∙ ap (flat_map f) cut
    ∙ flat_map-append f (row (pos 0) (pos y) start) (row (pos start) (pos y) n ++ row (pos (start + n)) (pos y) (s.width - (start + n)))
    ∙ ap (λ v. a ++ v) (flat_map-append f (row (pos start) (pos y) n) (row (pos (start + n)) (pos y) (s.width - (start + n))))
    ∙ sym (append_assoc a c b) in
    ap (λ v. take (3 * w) (drop (3 * x) v)) lays
    ∙ ap (λ i. take (3 * w) (drop i (take (3 * start) old ++ c ++ drop (3 * (start + n)) old))) at
    ∙ middle (take (3 * start) old) c (drop (3 * (start + n)) old) (3 * start) (3 * (x - start)) (3 * w) (length-take-le (3 * start) old room) fits
    ∙ sym (ap (λ v. take (3 * w) (drop (3 * x) v)) whole ∙ ap (λ i. take (3 * w) (drop i (a ++ c ++ b))) at ∙ middle a c b (3 * start) (3 * (x - start)) (3 * w) front fits)

-- the points in the tiles of all columns are the row
pub row_whole : (s : Scene) (y end : ℕ) (old new : List ℕ) → s.width ≤ 64 * end → ColumnsSoFar s y 0 old new end → new ≡ row_colours s y ++ drop (3 * s.width) old
row_whole s y end old new h w =
    let all : min (64 * end) s.width - 64 * 0 ≡ s.width = omega arith in
    let last : 64 * 0 + s.width ≡ s.width = omega arith in
    w ∙ ap (λ m. take (3 * (64 * 0)) old ++ flat_map (colours_at s) (row (pos (64 * 0)) (pos y) m) ++ drop (3 * (64 * 0 + m)) old) all
    ∙ ap (λ i. row_colours s y ++ drop (3 * i) old) last
