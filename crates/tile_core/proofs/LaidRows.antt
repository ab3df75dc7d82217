-- Rows laid over a tile.
use Rattle.std.proofs.Common.{◌≡◌, ℕ, ◌+◌, ◌-◌, ◌*◌, ◌≤◌, ◌<◌, true, false, ◌&&◌, cond, List, ◌++◌, length, get_or, take, drop, ap, ◌∙◌, arith, ltb, leb, ◌⊎◌, inl, inr}
use Rattle.std.proofs.Common.{length-append, length-drop}
use Rattle.std.proofs.lemmas.Bool.Decides.{nat_tests}
use Rattle.std.proofs.lemmas.List.{get_or-drop, get_or-take, get_or_append_left, length-take-le, get_or-append_right}
use Rattle.std.specs.Prelude.{slice_range}
use Rattle.pixel_core.specs.Rgba.{Rgba, clear}
use Rattle.tile_core.specs.Pixels.{pixel_of}
use Rattle.tile_core.specs.Parts.{in_part, pixel_in}
use Rattle.tile_core.proofs.SoFar.{LaidSoFar, TakenSoFar, TileSoFar}

-- a row of ys laid over xs from place a on
pub get_or-laid : {X : Type 0} (xs ys : List X) (a k : ℕ) (d : X) → a + length ys ≤ length xs
    → get_or (take a xs ++ ys ++ drop (a + length ys) xs) k d ≡ cond (leb a k && ltb k (a + length ys)) (get_or ys (k - a) d) (get_or xs k d)
get_or-laid {X = X} xs ys a k d h =
    let n : length (take a xs) ≡ a = length-take-le a xs (omega arith) in
    let m : length (take a xs ++ ys) ≡ a + length ys = length-append (take a xs) ys ∙ ap (λ i. i + length ys) n in
    elim (by_place k a (length ys)) as (λ _. get_or (take a xs ++ ys ++ drop (a + length ys) xs) k d ≡ cond (leb a k && ltb k (a + length ys)) (get_or ys (k - a) d) (get_or xs k d)) [
      | inl p ↦ let t : (leb a k && ltb k (a + length ys)) ≡ false = grind (arith, nat_tests) in
          rw t (get_or_append_left (take a xs ++ ys) _ d k (omega arith) ∙ get_or_append_left (take a xs) ys d k (omega arith) ∙ get_or-take a xs k d p)
      | inr q ↦ elim q as (λ _. get_or (take a xs ++ ys ++ drop (a + length ys) xs) k d ≡ cond (leb a k && ltb k (a + length ys)) (get_or ys (k - a) d) (get_or xs k d)) [
        | inl p ↦ let t : (leb a k && ltb k (a + length ys)) ≡ true = grind (arith, nat_tests) in
            rw t (get_or_append_left (take a xs ++ ys) _ d k (omega arith) ∙ get_or-append_right (take a xs) ys a k d n (omega arith))
        | inr p ↦ let t : (leb a k && ltb k (a + length ys)) ≡ false = grind (arith, nat_tests) in
            let e : (a + length ys) + (k - (a + length ys)) ≡ k = omega arith in
            rw t (get_or-append_right (take a xs ++ ys) _ (a + length ys) k d m p ∙ get_or-drop (a + length ys) xs (k - (a + length ys)) d ∙ ap (λ i. get_or xs i d) e)
      ]
    ]
  where
    by_place : (k a n : ℕ) → (k < a) ⊎ (((a ≤ k) × (k < a + n)) ⊎ (a + n ≤ k))
    by_place k a n = grind arith

-- one more row at place `to`, read along that row and along the others
row_laid : (to w left top rows col row : ℕ) → to ≡ 64 * (top + rows) + left → left + w ≤ 64 → col < 64
    → (leb to (64 * row + col) && ltb (64 * row + col) (to + w)) ≡ ((leb left col && ltb col (left + w)) && (leb (top + rows) row && ltb row (top + rows + 1)))
row_laid to w left top rows col row e h k = grind (arith, nat_tests)

one_more : {X : Type 0} (left top w rows col row : ℕ) (x y z u : X)
    → (in_part left (top + rows) w 1 col row ≡ true → x ≡ y)
    → u ≡ cond (in_part left top w rows col row) y z
    → cond (in_part left (top + rows) w 1 col row) x u ≡ cond (in_part left top w (rows + 1) col row) y z
one_more left top w rows col row x y z u same e = grind (arith, nat_tests)

-- the place in the row is the place in the part
place : (left top w rows col row to from : ℕ) → to ≡ 64 * (top + rows) + left → from ≡ rows * w → left + w ≤ 64 → in_part left (top + rows) w 1 col row ≡ true
    → (from + ((64 * row + col) - to) ≡ (row - top) * w + (col - left)) × ((64 * row + col) - to < w)
place left top w rows col row to from e f h t =
    let r : row ≡ top + rows = grind (arith, nat_tests) in
    let p : left ≤ col = grind (arith, nat_tests) in
    let q : col < left + w = grind (arith, nat_tests) in
    let s : row - top ≡ rows = omega arith in
    rw s (omega arith, omega arith)

pub length_range : (src : List Rgba) (from w : ℕ) → from + w ≤ length src → length (slice_range src from (from + w)) ≡ w
length_range src from w h = let m : from + w - from ≤ length (drop from src) = omega (arith, length-drop from src) in length-take-le (from + w - from) (drop from src) m ∙ omega arith

pub next_fits : (rows h w : ℕ) → rows < h → rows * w + w ≤ h * w
next_fits rows h w l = grind arith

pub lays_next : (old mid src : List Rgba) (left top w rows from to : ℕ) → LaidSoFar old mid left top w rows src from to → left + w ≤ 64 → to + w ≤ length mid → from + w ≤ length src
    → LaidSoFar old (take to mid ++ slice_range src from (from + w) ++ drop (to + length (slice_range src from (from + w))) mid) left top w (rows + 1) src (from + w) (to + 64)
lays_next old mid src left top w rows from to so across fits has =
    let n : length (slice_range src from (from + w)) ≡ w = length_range src from w has in
    record {
      laid = λ col row k.
          let r : Rgba = get_or (slice_range src from (from + w)) ((64 * row + col) - to) clear in
          let o : Rgba = pixel_of mid col row in
          get_or-laid mid (slice_range src from (from + w)) to (64 * row + col) clear (rw n fits)
          ∙ ap (λ m. cond (leb to (64 * row + col) && ltb (64 * row + col) (to + m)) r o) n
          ∙ ap (λ b. cond b r o) (row_laid to w left top rows col row so.to_is across k)
          ∙ one_more left top w rows col row r (pixel_in left top w src col row) (pixel_of old col row) o
          (λ t. let q : (from + ((64 * row + col) - to) ≡ (row - top) * w + (col - left)) × ((64 * row + col) - to < w) = place left top w rows col row to from so.to_is so.from_is across t in
          get_or-take (from + w - from) (drop from src) ((64 * row + col) - to) clear (omega arith) ∙ get_or-drop from src ((64 * row + col) - to) clear ∙ ap (λ i. get_or src i clear) q.0)
          (so.laid col row k);
      from_is = omega (arith, so.from_is);
      to_is = omega (arith, so.to_is);
    }

-- one more row is taken
pub takes_next : (tile ps : List Rgba) (left top w rows from : ℕ) → TakenSoFar tile left top w rows ps from → from + w ≤ length tile
    → TakenSoFar tile left top w (rows + 1) (ps ++ slice_range tile from (from + w)) (from + 64)
takes_next tile ps left top w rows from so fits =
    record {
      taken = λ col row p q. elim (either row rows q) as (λ _. get_or (ps ++ slice_range tile from (from + w)) (row * w + col) clear ≡ pixel_of tile (left + col) (top + row)) [
        | inl l ↦ get_or_append_left ps _ clear (row * w + col) (omega (arith, next_fits row rows w l, so.many)) ∙ so.taken col row p l
        | inr e ↦ get_or-append_right ps (slice_range tile from (from + w)) (rows * w) (row * w + col) clear so.many (rw e (omega arith))
            ∙ ap (λ i. get_or (slice_range tile from (from + w)) i clear) (rest row rows w col e)
            ∙ get_or-take (from + w - from) (drop from tile) col clear (omega arith) ∙ get_or-drop from tile col clear
            ∙ ap (λ i. get_or tile i clear) (there row rows top left from col e so.from_is)
      ];
      many = length-append ps (slice_range tile from (from + w)) ∙ ap (λ i. length ps + i) (length_range tile from w fits) ∙ omega (arith, so.many);
      from_is = omega (arith, so.from_is);
    }
  where
    either : (row rows : ℕ) → row < rows + 1 → (row < rows) ⊎ (row ≡ rows)
    either row rows q = grind arith

    rest : (row rows w col : ℕ) → row ≡ rows → (row * w + col) - rows * w ≡ col
    rest row rows w col e = rw e (omega arith)

    there : (row rows top left from col : ℕ) → row ≡ rows → from ≡ 64 * (top + rows) + left → from + col ≡ 64 * (top + row) + (left + col)
    there row rows top left from col e f = omega arith

-- places in rows of some width: one row's stretch, read along that row and along the others
pub stretch : (width left w at row col : ℕ) → left + w ≤ width → col < width
    → (leb (at * width + left) (row * width + col) && ltb (row * width + col) (at * width + left + w)) ≡ ((leb left col && ltb col (left + w)) && (leb at row && ltb row (at + 1)))
stretch width left w at row col h k = elim (three row at) [
  | inl l ↦ before width left w at row col l (next_fits row at width l) k
  | inr q ↦ elim q [
    | inl l ↦ after width left w at row col l (next_fits at row width l) h
    | inr e ↦ same width left w at row col e (ap (λ i. i * width) e)
  ]
]
  where
    three : (a b : ℕ) → (a < b) ⊎ ((b < a) ⊎ (a ≡ b))
    three a b = grind arith

    before : (width left w at row col : ℕ) → row < at → row * width + width ≤ at * width → col < width → (leb (at * width + left) (row * width + col) && ltb (row * width + col) (at * width + left + w)) ≡ ((leb left col && ltb col (left + w)) && (leb at row && ltb row (at + 1)))
    before width left w at row col l m k = grind (arith, nat_tests)

    after : (width left w at row col : ℕ) → at < row → at * width + width ≤ row * width → left + w ≤ width → (leb (at * width + left) (row * width + col) && ltb (row * width + col) (at * width + left + w)) ≡ ((leb left col && ltb col (left + w)) && (leb at row && ltb row (at + 1)))
    after width left w at row col l m h = grind (arith, nat_tests)

    same : (width left w at row col : ℕ) → row ≡ at → row * width ≡ at * width → (leb (at * width + left) (row * width + col) && ltb (row * width + col) (at * width + left + w)) ≡ ((leb left col && ltb col (left + w)) && (leb at row && ltb row (at + 1)))
    same width left w at row col e m = grind (arith, nat_tests)

-- the place in the tile
tile_place : (width left top w rows col row to from tile_left tile_top : ℕ) → to ≡ (top + rows) * width + left → from ≡ 64 * (tile_top + rows) + tile_left → in_part left (top + rows) w 1 col row ≡ true
    → (from + ((row * width + col) - to) ≡ 64 * (tile_top + (row - top)) + (tile_left + (col - left))) × ((row * width + col) - to < w)
tile_place width left top w rows col row to from tile_left tile_top e f t =
    let r : row ≡ top + rows = grind (arith, nat_tests) in
    let p : left ≤ col = grind (arith, nat_tests) in
    let q : col < left + w = grind (arith, nat_tests) in
    let m : row * width ≡ (top + rows) * width = ap (λ i. i * width) r in
    (omega arith, omega arith)

pub tile_next : (old mid tile : List Rgba) (width left top w rows tile_left tile_top from to : ℕ) → TileSoFar old mid width left top w rows tile tile_left tile_top from to → left + w ≤ width → to + w ≤ length mid → from + w ≤ length tile
    → TileSoFar old (take to mid ++ slice_range tile from (from + w) ++ drop (to + length (slice_range tile from (from + w))) mid) width left top w (rows + 1) tile tile_left tile_top (from + 64) (to + width)
tile_next old mid tile width left top w rows tile_left tile_top from to so across fits has =
    let n : length (slice_range tile from (from + w)) ≡ w = length_range tile from w has in
    record {
      laid = λ col row k.
          let r : Rgba = get_or (slice_range tile from (from + w)) ((row * width + col) - to) clear in
          let o : Rgba = get_or mid (row * width + col) clear in
          get_or-laid mid (slice_range tile from (from + w)) to (row * width + col) clear (rw n fits)
          ∙ ap (λ m. cond (leb to (row * width + col) && ltb (row * width + col) (to + m)) r o) n
          ∙ ap (λ t. cond (leb t (row * width + col) && ltb (row * width + col) (t + w)) r o) so.to_is
          ∙ ap (λ b. cond b r o) (stretch width left w (top + rows) row col across k)
          ∙ one_more left top w rows col row r (pixel_of tile (tile_left + (col - left)) (tile_top + (row - top))) (get_or old (row * width + col) clear) o
          (λ t. let q : (from + ((row * width + col) - to) ≡ 64 * (tile_top + (row - top)) + (tile_left + (col - left))) × ((row * width + col) - to < w) = tile_place width left top w rows col row to from tile_left tile_top so.to_is so.from_is t in
          get_or-take (from + w - from) (drop from tile) ((row * width + col) - to) clear (omega arith) ∙ get_or-drop from tile ((row * width + col) - to) clear ∙ ap (λ i. get_or tile i clear) q.0)
          (so.laid col row k);
      from_is = omega (arith, so.from_is);
      to_is = further top rows width left to so.to_is;
    }
  where
    further : (top rows width left to : ℕ) → to ≡ (top + rows) * width + left → to + width ≡ (top + (rows + 1)) * width + left
    further top rows width left to e = omega arith
