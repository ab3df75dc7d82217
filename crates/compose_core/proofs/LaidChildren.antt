-- Children laid on a part of a tile, one on another.
use Rattle.std.proofs.Common.{◌≡◌, ℕ, ◌+◌, ◌-◌, ◌*◌, ◌≤◌, ◌<◌, Bool, true, false, ◌&&◌, cond, List, [], ◌++◌, length, get_or, take, drop, refl, sym, ap, ◌∙◌, arith, ltb, leb, length-drop}
use Rattle.std.specs.Prelude.{pos, ◌+ℤ◌, int_le, int_lt, fold}
use borrow.Author.Differences.{ints}
use borrow.Rule.Slice.PartMut.{put_mid}
use Rattle.std.proofs.lemmas.Bool.Decides.{nat_tests}
use Rattle.std.proofs.lemmas.List.{get_or-take, get_or-drop, drop-drop, append_assoc, length-take-le, drop_all}
use Rattle.pixel_core.specs.Rgba.{Rgba, clear}
use Rattle.pixel_core.specs.Compose.{compose}
use Rattle.pixel_rows.specs.Rows.{LaysRow}
use Rattle.geom_core.specs.Areas.{Area, holds, point}
use Rattle.tile_core.specs.Pixels.{Pixels, pixel_of}
use Rattle.tile_core.specs.Parts.{in_part}
use Rattle.tile_core.proofs.LaidRows.{get_or-laid}
use Rattle.doc_model.specs.declared.tree.Look.{Look}
use Rattle.doc_model.specs.Picture.{with_look}
use Rattle.compose_core.specs.declared.children.Given.{Given}
use Rattle.compose_core.specs.declared.children.Given.TheVariants.{Held}
use Rattle.compose_core.specs.Children.{given_at, with_child, laid_children, children_on, IsComposed}
use Rattle.compose_core.specs.Laid.{LaysChild}

-- ---- one row of a child

put_row : (old ys : List Rgba) (at k : ℕ) → length ys ≡ k → put_mid at k old ys ≡ take at old ++ ys ++ drop (at + length ys) old
put_row old ys at k e =
    ap (λ zs. take at old ++ (ys ++ zs)) (drop-drop k at old ∙ ap (λ n. drop (at + n) old) (sym e))
    ∙ sym (append_assoc (take at old) ys (drop (at + length ys) old))

row_tests : (at w left row col r : ℕ) → at ≡ 64 * row + left → left + w ≤ 64 → col < 64
    → (leb at (64 * r + col) && ltb (64 * r + col) (at + w)) ≡ in_part left row w 1 col r
row_tests at w left row col r e h k = grind (arith, nat_tests)

-- a column of the row
record InRow (at w left row col r : ℕ) : Type 0 where
  same : r ≡ row
  place : 64 * r + col - at ≡ col - left
  there : at + (col - left) ≡ 64 * r + col
  from : left ≤ col
  few : col - left < w

in_row : (at w left row col r : ℕ) → at ≡ 64 * row + left → in_part left row w 1 col r ≡ true → InRow at w left row col r
in_row at w left row col r e t =
    let p : left ≤ col = grind (arith, nat_tests) in
    let q : col < left + w = grind (arith, nat_tests) in
    let s : r ≡ row = grind (arith, nat_tests) in
    record { same = s; place = omega arith; there = omega arith; from = p; few = omega arith }

chosen : (t : Bool) (x y z : Rgba) → (t ≡ true → x ≡ y) → cond t x z ≡ cond t y z
chosen true x y z e = e refl
chosen false x y z e = refl

seen : (look : Look) (p b : Rgba) → look.visible ≡ true → compose look.op p b look.opacity ≡ with_look look p b
seen look p b v = rw v refl

pub row_lays : (look : Look) (given : Given) (source : ℕ → Rgba) (old ys : Pixels) (at k w left row : ℕ) → look.visible ≡ true → at ≡ 64 * row + left → left + w ≤ 64 → row < 64 → length old ≡ 4096 → k ≡ w → length ys ≡ w
    → ((col : ℕ) → left ≤ col → col - left < w → source (col - left) ≡ given_at col row given)
    → LaysRow look.op source (λ _. look.opacity) (take k (drop at old)) ys → LaysChild left row w 1 look given old (put_mid at k old ys)
row_lays look given source old ys at k w left row v e across down whole ek many sources laid col r small =
    ap (λ zs. get_or zs (64 * r + col) clear) (put_row old ys at k (many ∙ sym ek))
    ∙ get_or-laid old ys at (64 * r + col) clear (omega (arith, many))
    ∙ ap (λ n. cond (leb at (64 * r + col) && ltb (64 * r + col) (at + n)) (get_or ys (64 * r + col - at) clear) (pixel_of old col r)) many
    ∙ ap (λ t. cond t (get_or ys (64 * r + col - at) clear) (pixel_of old col r)) (row_tests at w left row col r e across small)
    ∙ chosen (in_part left row w 1 col r) (get_or ys (64 * r + col - at) clear) (with_look look (given_at col r given) (pixel_of old col r)) (pixel_of old col r) (λ t.
    let i : InRow at w left row col r = in_row at w left row col r e t in
    let part : get_or (take k (drop at old)) (col - left) clear ≡ pixel_of old col r = get_or-take k (drop at old) (col - left) clear (omega (arith, i.few)) ∙ get_or-drop at old (col - left) clear ∙ ap (λ n. get_or old n clear) i.there in
    ap (λ n. get_or ys n clear) i.place
    ∙ laid (col - left) (long (col - left) i.few)
    ∙ ap (λ p. compose look.op p (get_or (take k (drop at old)) (col - left) clear) look.opacity) (sources col i.from i.few ∙ ap (λ n. given_at col n given) (sym i.same))
    ∙ ap (λ p. compose look.op (given_at col r given) p look.opacity) part
    ∙ seen look (given_at col r given) (pixel_of old col r) v)
  where
    long : (n : ℕ) → n < w → n < length (take k (drop at old))
    long n h = omega (arith, length-take-le k (drop at old) (omega (arith, length-drop at old)))

-- the pixels of a tile along one row
pub held_sources : (given : Given) (tile pixels : Pixels) (at k w left row : ℕ) → given ≡ Held tile → pixels ≡ tile → at ≡ 64 * row + left → k ≡ w
    → (col : ℕ) → left ≤ col → col - left < w → get_or (take k (drop at pixels)) (col - left) clear ≡ given_at col row given
held_sources given tile pixels at k w left row eg et e ek col from few =
    get_or-take k (drop at pixels) (col - left) clear (omega arith)
    ∙ get_or-drop at pixels (col - left) clear
    ∙ ap (λ n. get_or pixels n clear) (place col from)
    ∙ ap (λ t. pixel_of t col row) et
    ∙ ap (given_at col row) (sym eg)
  where
    place : (col : ℕ) → left ≤ col → at + (col - left) ≡ 64 * row + col
    place col from = omega arith

-- ---- the children of a group

-- what the children from the ith on make of the tile is the group's picture
pub record GroupSoFar (left top w h : ℕ) (looks : List Look) (tiles : List Given) (tile : Pixels) (i : ℕ) : Type 0 where
  pub whole : length tile ≡ 4096
  pub laid : (col row : ℕ) → col < 64 → row < 64
      → cond (in_part left top w h col row) (fold with_child (pixel_of tile col row) (children_on (drop i looks) (drop i tiles) col row)) (pixel_of tile col row) ≡ cond (in_part left top w h col row) (laid_children (children_on looks tiles col row)) clear

-- a part of the tile as a rectangle
part_held : (left top w h col row : ℕ) (rect : Area) → pos left ≡ rect.x → pos top ≡ rect.y → w ≡ rect.w → h ≡ rect.h → in_part left top w h col row ≡ holds rect (point (pos col) (pos row))
part_held left top w h col row rect ex ey ew eh = rw (← ex, ← ey, ← ew, ← eh) (at left top w h col row)
  where
    at : (left top w h col row : ℕ) → in_part left top w h col row ≡ ((int_le (pos left) (pos col) && int_lt (pos col) (pos left +ℤ pos w)) && (int_le (pos top) (pos row) && int_lt (pos row) (pos top +ℤ pos h)))
    at left top w h col row = grind (arith, ints)

pub group_all : (left top w h : ℕ) (rect : Area) (looks : List Look) (tiles : List Given) (tile : Pixels) (i : ℕ) → pos left ≡ rect.x → pos top ≡ rect.y → w ≡ rect.w → h ≡ rect.h
    → GroupSoFar left top w h looks tiles tile i → length looks ≤ i → IsComposed rect looks tiles tile
group_all left top w h rect looks tiles tile i ex ey ew eh so l col row p q =
    let none_left : children_on (drop i looks) (drop i tiles) col row ≡ [] = ap (λ xs. children_on xs (drop i tiles) col row) (drop_all i looks l) in
    sym (ap (λ cs. cond (in_part left top w h col row) (fold with_child (pixel_of tile col row) cs) (pixel_of tile col row)) none_left ∙ either (in_part left top w h col row) (pixel_of tile col row))
    ∙ so.laid col row p q
    ∙ ap (λ t. cond t (laid_children (children_on looks tiles col row)) clear) (part_held left top w h col row rect ex ey ew eh)
  where
    either : (t : Bool) (b : Rgba) → cond t b b ≡ b
    either true b = refl
    either false b = refl
