-- Pictures of frames, row by row, and what stays of the picture of the frame before.
use Rattle.std.proofs.Common.{◌≡◌, ℕ, suc, zero, ◌+◌, ◌-◌, ◌*◌, ◌/◌, ◌≤◌, ◌<◌, false, List, [], ◌∷◌, ◌++◌, length, take, drop, map, min, refl, sym, ap, subst, ◌∙◌, arith, append_assoc, append-nil, length-append}
use Rattle.std.specs.List.{flat_map}
use Rattle.std.specs.Prelude.{ℤ, pos, slice_range}
use Rattle.std.proofs.Math.ListN.{drop_of_length-le}
use borrow.Rule.Slice.PartMut.{put_mid}
use Rattle.std.proofs.Math.Seq.{take-append_seam, drop-append_seam}
use Rattle.std.proofs.lemmas.List.{drop-take}
use Rattle.std.proofs.lemmas.List.Folds.{flat_map-map}
use Rattle.std.proofs.lemmas.Slice.{drop-append-drop}
use Rattle.std.proofs.lemmas.Grind.{flat_map-append}
use Rattle.pixel_core.specs.Compose.{on_paper}
use Rattle.geom_core.specs.Areas.{row, rows, Point, point}
use Rattle.frame_core.specs.Frames.{Scene, put_at, colours_at, row_colours, rows_colours, band_row, SameCanvas, LaysPoints}
use Rattle.frame_core.specs.Marks.{Grid, mark_at, place_at}
use Rattle.frame_core.specs.Films.{Renews}
use Rattle.frame_core.proofs.LaidColours.{put_row}
use Rattle.frame_core.proofs.FrameRows.{written, many_colours, length-row, row-add, RowSoFar}

rows-add : (b w m n : ℕ) → rows (pos 0) (pos b) w (m + n) ≡ rows (pos 0) (pos b) w m ++ rows (pos 0) (pos (b + m)) w n
rows-add b w zero n =
    let e : 0 + n ≡ n = omega arith in
    let z : b ≡ b + 0 = omega arith in
    ap (λ i. rows (pos 0) (pos b) w i) e ∙ ap (λ i. rows (pos 0) (pos i) w n) z
rows-add b w (suc m) n =
    let e : suc m + n ≡ suc (m + n) = omega arith in
    let z : b + 1 + m ≡ b + suc m = omega arith in
    ap (λ i. rows (pos 0) (pos b) w i) e ∙ ap (λ l. row (pos 0) (pos b) w ++ l) (rows-add (b + 1) w m n)
    ∙ sym (append_assoc (row (pos 0) (pos b) w) (rows (pos 0) (pos (b + 1)) w m) (rows (pos 0) (pos (b + 1 + m)) w n))
    ∙ ap (λ i. rows (pos 0) (pos b) w (suc m) ++ rows (pos 0) (pos i) w n) z

length-rows : (b w n : ℕ) → length (rows (pos 0) (pos b) w n) ≡ w * n
length-rows b w zero = grind arith
length-rows b w (suc n) =
    let h : length (rows (pos 0) (pos (b + 1)) w n) ≡ w * n = length-rows (b + 1) w n in
    let m : w + w * n ≡ w * suc n = grind arith in
    length-append (row (pos 0) (pos b) w) (rows (pos 0) (pos (b + 1)) w n) ∙ ap (λ i. i + length (rows (pos 0) (pos (b + 1)) w n)) (length-row (pos 0) (pos b) w) ∙ ap (λ i. w + i) h ∙ m

-- how many bytes the colours of some rows are
pub length-rows_colours : (s : Scene) (y n : ℕ) → length (rows_colours s y n) ≡ 3 * (s.width * n)
length-rows_colours s y n = many_colours (colours_at s) (rows (pos 0) (pos y) s.width n) (λ _. refl) ∙ ap (λ i. 3 * i) (length-rows y s.width n)

-- more rows
pub rows_more : (s : Scene) (y m n : ℕ) → rows_colours s y m ++ rows_colours s (y + m) n ≡ rows_colours s y (m + n)
rows_more s y m n = sym (ap (flat_map (colours_at s)) (rows-add y s.width m n) ∙ flat_map-append (colours_at s) (rows (pos 0) (pos y) s.width m) (rows (pos 0) (pos (y + m)) s.width n))

pub one_row : (s : Scene) (y : ℕ) → row_colours s y ≡ rows_colours s y 1
one_row s y = sym (ap (flat_map (colours_at s)) (append-nil (row (pos 0) (pos y) s.width)))

-- how far the rows from the top on have come
pub record PictureSoFar (s : Scene) (top : ℕ) (old new : List ℕ) (n at : ℕ) : Type 0 where
  pub laid : new ≡ rows_colours s top n ++ drop at old
  pub at_is : at ≡ 3 * (s.width * n)

-- the next rows are written
pub rows_next : (s : Scene) (top : ℕ) (old mid colours : List ℕ) (m n y at end : ℕ) → PictureSoFar s top old mid m at → end ≡ at + 3 * (s.width * n) → y ≡ top + m → colours ≡ rows_colours s y n
    → PictureSoFar s top old (put_mid at (end - at) mid colours) (m + n) end
rows_next s top old mid colours m n y at end so ee ey ec =
    let k : length (rows_colours s top m) ≡ at = length-rows_colours s top m ∙ sym so.at_is in
    let w : s.width * m + s.width * n ≡ s.width * (m + n) = grind arith in
    let e : colours ≡ rows_colours s (top + m) n = ec ∙ ap (λ i. rows_colours s i n) ey in
    record {
      laid = written old mid _ (rows_colours s top m) colours at (3 * (s.width * n)) so.laid k (put_row mid colours at end (3 * (s.width * n)) ee) ∙ ap (λ l. (rows_colours s top m ++ l) ++ drop (at + 3 * (s.width * n)) old) e
          ∙ ap (λ l. l ++ drop (at + 3 * (s.width * n)) old) (rows_more s top m n) ∙ ap (λ i. rows_colours s top (m + n) ++ drop i old) (sym ee);
      at_is = omega (arith, so.at_is, ee, w);
    }

-- a band that is written to its end
pub band_shown : (s : Scene) (top : ℕ) (old new : List ℕ) (n at : ℕ) → PictureSoFar s top old new n at → length old ≡ 3 * (s.width * n) → new ≡ rows_colours s top n
band_shown s top old new n at so all =
    let over : length old ≤ at = omega (arith, so.at_is, all) in
    so.laid ∙ ap (λ l. rows_colours s top n ++ l) (drop_of_length-le old over) ∙ append-nil (rows_colours s top n)

-- rows end where the canvas does, or before
pub rows_fit : (w m n h : ℕ) → m + n ≤ h → 3 * (w * m) + 3 * (w * n) ≤ 3 * (w * h)
rows_fit w m n h l =
    let k : h ≡ m + n + (h - (m + n)) = omega arith in
    let e : w * h ≡ w * (m + n + (h - (m + n))) = ap (λ i. w * i) k in
    let f : w * (m + n + (h - (m + n))) ≡ w * m + w * n + w * (h - (m + n)) = grind arith in
    omega (arith, e, f)

take_front : (n m : ℕ) (xs : List ℕ) → n ≤ m → take n (take m xs) ≡ take n xs
take_front zero m xs h = refl
take_front (suc n) zero xs h = absurd (omega arith)
take_front (suc n) (suc m) [] h = refl
take_front (suc n) (suc m) (x ∷ xs) h = ap (λ l. x ∷ l) (take_front n m xs (omega arith))

pub bytes_of_rows : (w v n : ℕ) → w ≡ v → 3 * w * n ≡ 3 * (v * n)
bytes_of_rows w v n e = ap (λ i. 3 * i * n) e ∙ (grind arith)

-- rows of a picture
rows_shown : (s : Scene) (bytes : List ℕ) (top h m n at many : ℕ) → take (3 * (s.width * h)) bytes ≡ rows_colours s top h → m + n ≤ h → at ≡ 3 * (s.width * m) → many ≡ 3 * (s.width * n) → take many (drop at bytes) ≡ rows_colours s (top + m) n
rows_shown s bytes top h m n at many shows l e f =
    let fits : at + many ≤ 3 * (s.width * h) = omega (arith, rows_fit s.width m n h l, e, f) in
    let k : h ≡ (m + n) + (h - (m + n)) = omega arith in
    let z : rows_colours s top h ≡ rows_colours s top (m + n) ++ rows_colours s (top + (m + n)) (h - (m + n)) = ap (rows_colours s top) k ∙ sym (rows_more s top (m + n) (h - (m + n))) in
    let w : s.width * m + s.width * n ≡ s.width * (m + n) = grind arith in
    let both : length (rows_colours s top (m + n)) ≡ at + many = length-rows_colours s top (m + n) ∙ omega (arith, e, f, w) in
    let first : length (rows_colours s top m) ≡ at = length-rows_colours s top m ∙ sym e in
    let front : take (at + many) bytes ≡ rows_colours s top (m + n) = sym (take_front (at + many) (3 * (s.width * h)) bytes fits) ∙ ap (take (at + many)) (shows ∙ z)
    ∙ ap (λ i. take i (rows_colours s top (m + n) ++ rows_colours s (top + (m + n)) (h - (m + n)))) (sym both) ∙ take-append_seam (rows_colours s top (m + n)) _ in
    sym (drop-take at many bytes) ∙ ap (drop at) (front ∙ sym (rows_more s top m n)) ∙ ap (λ i. drop i (rows_colours s top m ++ rows_colours s (top + m) n)) (sym first) ∙ drop-append_seam (rows_colours s top m) (rows_colours s (top + m) n)

-- a row of a band that shows the frame before
pub row_shown : (s b : Scene) (band : List ℕ) (top n k : ℕ) → SameCanvas s b → take (3 * (s.width * n)) band ≡ rows_colours b top n → k < n → band_row s k band ≡ row_colours b (top + k)
row_shown s b band top n k alike shown l =
    let one : 3 * s.width ≡ 3 * (b.width * 1) = omega (arith, alike.width, grind-one) in
    rows_shown b band top n k 1 (3 * (s.width * k)) (3 * s.width) (ap (λ i. take (3 * (i * n)) band) alike.width ∙ shown) (omega arith) (ap (λ i. 3 * (i * k)) (sym alike.width)) one ∙ sym (one_row b (top + k))
  where
    grind-one : b.width * 1 ≡ b.width
    grind-one = grind arith

-- the next rows are still those of the frame before
pub rows_before : (s b : Scene) (top h : ℕ) (old mid : List ℕ) (m n y at end : ℕ) → PictureSoFar s top old mid m at → SameCanvas s b → take (3 * (s.width * h)) old ≡ rows_colours b top h → m + n ≤ h → end ≡ at + 3 * (s.width * n) → y ≡ top + m
    → slice_range mid at end ≡ rows_colours b y n
rows_before s b top h old mid m n y at end so alike shows l ee ey =
    let k : length (rows_colours s top m) ≡ at = length-rows_colours s top m ∙ sym so.at_is in
    let many : end - at ≡ 3 * (s.width * n) = omega arith in
    let e : at ≡ 3 * (b.width * m) = so.at_is ∙ ap (λ i. 3 * (i * m)) (sym alike.width) in
    ap (λ i. take i (drop at mid)) many ∙ ap (λ v. take (3 * (s.width * n)) (drop at v)) so.laid ∙ ap (λ i. take (3 * (s.width * n)) (drop i (rows_colours s top m ++ drop at old))) (sym k)
    ∙ ap (take (3 * (s.width * n))) (drop-append_seam (rows_colours s top m) (drop at old))
    ∙ rows_shown b old top h m n at (3 * (s.width * n)) (ap (λ i. take (3 * (i * h)) old) alike.width ∙ shows) l e (ap (λ i. 3 * (i * n)) (sym alike.width)) ∙ ap (λ i. rows_colours b i n) (sym ey)

-- both frames have the same pixel at n points of a row, from x on
abbrev SamePoints : Scene → Scene → ℕ → ℕ → ℕ → Type 0
SamePoints s b y x n = (k : ℕ) → x ≤ k → k < x + n → put_at s (point (pos k) (pos y)) ≡ put_at b (point (pos k) (pos y))

same_pixels : (s b : Scene) (y x n : ℕ) → SamePoints s b y x n → map (put_at b) (row (pos x) (pos y) n) ≡ map (put_at s) (row (pos x) (pos y) n)
same_pixels s b y x zero same = refl
same_pixels s b y x (suc n) same =
    ap (λ v. v ∷ map (put_at b) (row (pos (x + 1)) (pos y) n)) (sym (same x (omega arith) (omega arith)))
    ∙ ap (λ v. put_at s (point (pos x) (pos y)) ∷ v) (same_pixels s b y (x + 1) n (λ k h l. same k (omega arith) (omega arith)))

same_colours : (s b : Scene) (y x n : ℕ) → SameCanvas s b → SamePoints s b y x n → flat_map (colours_at b) (row (pos x) (pos y) n) ≡ flat_map (colours_at s) (row (pos x) (pos y) n)
same_colours s b y x n alike same =
    let ps : List Point = row (pos x) (pos y) n in
    sym (flat_map-map (λ q. on_paper q b.paper) (put_at b) ps) ∙ ap (λ v. flat_map (λ q. on_paper q v) (map (put_at b) ps)) alike.paper ∙ ap (flat_map (λ q. on_paper q s.paper)) (same_pixels s b y x n same) ∙ flat_map-map (λ q. on_paper q s.paper) (put_at s) ps

length-colours : (s : Scene) (x y : ℤ) (n : ℕ) → length (flat_map (colours_at s) (row x y n)) ≡ 3 * n
length-colours s x y n = many_colours (colours_at s) (row x y n) (λ _. refl) ∙ ap (λ i. 3 * i) (length-row x y n)

-- a row's colours from x on, where those of the n points there are known
behind : (s b : Scene) (y x n : ℕ) (old : List ℕ) → old ≡ row_colours b y → x + n ≤ b.width → flat_map (colours_at b) (row (pos x) (pos y) n) ≡ flat_map (colours_at s) (row (pos x) (pos y) n)
    → drop (3 * x) old ≡ flat_map (colours_at s) (row (pos x) (pos y) n) ++ drop (3 * x + 3 * n) old
behind s b y x n old shown h same =
    let f : Point → List ℕ = colours_at b in
    let p : List ℕ = flat_map (colours_at b) (row (pos 0) (pos y) x) in
    let q : List ℕ = flat_map (colours_at b) (row (pos x) (pos y) n) in
    let r : List ℕ = flat_map (colours_at b) (row (pos (x + n)) (pos y) (b.width - (x + n))) in
    let w : b.width ≡ x + (n + (b.width - (x + n))) = omega arith in
    let np : length (flat_map (colours_at b) (row (pos 0) (pos y) x)) ≡ 3 * x = length-colours b (pos 0) (pos y) x in
    let nq : length (flat_map (colours_at b) (row (pos x) (pos y) n)) ≡ 3 * n = length-colours b (pos x) (pos y) n in
    let split : old ≡ p ++ (q ++ r) = shown ∙ ap (λ i. flat_map f (row (pos 0) (pos y) i)) w ∙ ap (flat_map f) (row-add 0 x (n + (b.width - (x + n))) x (pos y) (let z : 0 + x ≡ x = omega arith in z))
    ∙ flat_map-append f (row (pos 0) (pos y) x) (row (pos x) (pos y) (n + (b.width - (x + n)))) ∙ ap (λ l. p ++ l) (ap (flat_map f) (row-add x n (b.width - (x + n)) (x + n) (pos y) refl) ∙ flat_map-append f (row (pos x) (pos y) n) (row (pos (x + n)) (pos y) (b.width - (x + n)))) in
    let rest : drop (3 * x) old ≡ q ++ r = ap (drop (3 * x)) split ∙ ap (λ i. drop i (p ++ (q ++ r))) (sym np) ∙ drop-append_seam p (q ++ r) in
    let npq : length (p ++ q) ≡ 3 * x + 3 * n = length-append p q ∙ ap (λ i. i + length q) np ∙ ap (λ i. 3 * x + i) nq in
    let end : drop (3 * x + 3 * n) old ≡ r = ap (drop (3 * x + 3 * n)) (split ∙ sym (append_assoc p q r)) ∙ ap (λ i. drop i ((p ++ q) ++ r)) (sym npq) ∙ drop-append_seam (p ++ q) r in
    rest ∙ ap (λ l. l ++ r) same ∙ ap (λ l. flat_map (colours_at s) (row (pos x) (pos y) n) ++ l) (sym end)

stays : (s : Scene) (y x n : ℕ) (old mid : List ℕ) → mid ≡ flat_map (colours_at s) (row (pos 0) (pos y) x) ++ drop (3 * x) old
    → drop (3 * x) old ≡ flat_map (colours_at s) (row (pos x) (pos y) n) ++ drop (3 * x + 3 * n) old → LaysPoints s y mid mid x n
stays s y x n old mid e d =
    let a : List ℕ = flat_map (colours_at s) (row (pos 0) (pos y) x) in
    let f : List ℕ = flat_map (colours_at s) (row (pos x) (pos y) n) in
    let na : length (flat_map (colours_at s) (row (pos 0) (pos y) x)) ≡ 3 * x = length-colours s (pos 0) (pos y) x in
    let front : take (3 * x) mid ≡ a = ap (take (3 * x)) e ∙ ap (λ i. take i (a ++ drop (3 * x) old)) (sym na) ∙ take-append_seam a (drop (3 * x) old) in
    let sum : 3 * (x + n) ≡ 3 * x + 3 * n = omega arith in
    let back : drop (3 * (x + n)) mid ≡ drop (3 * x + 3 * n) old = ap (λ i. drop i mid) sum ∙ ap (drop (3 * x + 3 * n)) e ∙ drop-append-drop (3 * x) old a (3 * x + 3 * n) (omega arith) na in
    e ∙ ap (λ l. a ++ l) d ∙ sym (append_assoc a f (drop (3 * x + 3 * n) old)) ∙ ap (λ l. (l ++ f) ++ drop (3 * x + 3 * n) old) (sym front) ∙ ap (λ l. (take (3 * x) mid ++ f) ++ l) (sym back)

-- a column of tiles whose points are the same stays
pub column_stays : (s b : Scene) (y i : ℕ) (old mid : List ℕ) → RowSoFar s y old mid i → 64 * i < s.width → SameCanvas s b → old ≡ row_colours b y
    → SamePoints s b y (64 * i) (min 64 (s.width - 64 * i)) → LaysPoints s y mid mid (64 * i) (min 64 (s.width - 64 * i))
column_stays s b y i old mid so h alike shown same =
    let here : min (64 * i) s.width ≡ 64 * i = omega arith in
    let fits : 64 * i + min 64 (s.width - 64 * i) ≤ b.width = omega (arith, alike.width) in
    stays s y (64 * i) (min 64 (s.width - 64 * i)) old mid (so.laid ∙ ap (λ m. flat_map (colours_at s) (row (pos 0) (pos y) m) ++ drop (3 * m) old) here)
    (behind s b y (64 * i) (min 64 (s.width - 64 * i)) old shown fits (same_colours s b y (64 * i) (min 64 (s.width - 64 * i)) alike same))

-- a tile that isn't marked has the pixels of the frame before
pub tile_stays : (s b : Scene) (fresh : Grid) (col y : ℕ) → SameCanvas s b → Renews s b fresh → y < s.height → mark_at fresh (place_at (pos col) (pos (y / 64))) ≡ false → SamePoints s b y (64 * col) (min 64 (s.width - 64 * col))
tile_stays s b fresh col y alike renews h unmarked k from to =
    let small : min 64 (s.width - 64 * col) ≤ 64 = omega arith in
    let inside : k < s.width = omega arith in
    let e : k / 64 ≡ col = omega arith in
    renews k y inside h (omega (arith, alike.width)) (omega (arith, alike.height)) (subst (λ c. mark_at fresh (place_at (pos c) (pos (y / 64))) ≡ false) (sym e) unmarked)
