-- A block laid over a tile, point by point.
use Rattle.std.proofs.Common.{◌≡◌, ℕ, ◌+◌, ◌-◌, ◌*◌, ◌%◌, ◌≤◌, ◌<◌, Bool, true, false, ◌&&◌, cond, List, get_or, refl, sym, ap, ◌∙◌, arith, ltb, leb}
use Rattle.std.specs.Prelude.{ℤ, pos, ◌+ℤ◌, ◌-ℤ◌, ◌*ℤ◌, int_le, int_lt, nat_abs, ◌≤ℤ◌}
use borrow.Author.Differences.{ints}
use Rattle.std.proofs.lemmas.Bool.Decides.{nat_tests}
use Rattle.pixel_core.specs.Rgba.{Rgba, clear}
use Rattle.geom_core.specs.Areas.{Area, area, holds, point}
use Rattle.geom_core.specs.Place.{IsOffset}
use Rattle.geom_core.proofs.Spots.{TileSpot, tile_spot, le_shifted, lt_end_shifted, nat_abs-back}
use Rattle.tile_core.specs.Pixels.{Pixels, pixel_of}
use Rattle.tile_core.specs.Parts.{in_part, pixel_in, LaysPart}
use Rattle.tile_core.specs.Blocks.{Piece, IsPiece, piece_at, LaysBlock}

-- along one axis: the part begins at `left` of the world, x is the cth of the nth tile
pub record Axis (a x : ℤ) (c left w : ℕ) : Type 0 where
  pub inside : (leb (left % 64) c && ltb c (left % 64 + w)) ≡ (int_le a x && int_lt x (a +ℤ pos w))
  pub apart : (int_le a x && int_lt x (a +ℤ pos w)) ≡ true → c - left % 64 ≡ nat_abs (x -ℤ a)

in_tile : (n left w : ℕ) → 64 * n ≤ left → left + w ≤ 64 * n + 64 → 1 ≤ w → left ≡ 64 * n + left % 64
in_tile n left w p q r = omega arith

less : (a b k : ℕ) → (pos a -ℤ pos k) ≤ℤ (pos b -ℤ pos k) → a ≤ b
less a b k h = omega (arith, ints)

less_end : (a n b m k : ℕ) → ((pos a -ℤ pos k) +ℤ pos n) ≤ℤ ((pos b -ℤ pos k) +ℤ pos m) → a + n ≤ b + m
less_end a n b m k h = omega (arith, ints)

apart_shifted : (a b k : ℕ) → a ≤ b → nat_abs ((pos b -ℤ pos k) -ℤ (pos a -ℤ pos k)) ≡ b - a
apart_shifted a b k h = omega (arith, ints)

shifted_by : (n l c w : ℕ) → (leb l c && ltb c (l + w)) ≡ (leb (64 * n + l) (64 * n + c) && ltb (64 * n + c) (64 * n + l + w))
shifted_by n l c w = grind (arith, nat_tests)

axis_at : (n c left w : ℕ) → 64 * n ≤ left → left + w ≤ 64 * n + 64 → 1 ≤ w → Axis (pos left -ℤ pos 16384) (pos (64 * n + c) -ℤ pos 16384) c left w
axis_at n c left w p q r =
    let e : left ≡ 64 * n + left % 64 = in_tile n left w p q r in
    let tests : (int_le (pos left -ℤ pos 16384) (pos (64 * n + c) -ℤ pos 16384) && int_lt (pos (64 * n + c) -ℤ pos 16384) ((pos left -ℤ pos 16384) +ℤ pos w)) ≡ (leb left (64 * n + c) && ltb (64 * n + c) (left + w)) = simp (le_shifted, lt_end_shifted) in
    record {
      inside = shifted_by n (left % 64) c w ∙ ap (λ i. leb i (64 * n + c) && ltb (64 * n + c) (i + w)) (sym e) ∙ sym tests;
      apart = λ t. let b : left ≤ 64 * n + c = low left (64 * n + c) w (sym tests ∙ t) in omega (arith, apart_shifted left (64 * n + c) 16384 b);
    }
  where
    low : (a b w : ℕ) → (leb a b && ltb b (a + w)) ≡ true → a ≤ b
    low a b w t = grind (arith, nat_tests)

pub axis : (a x t : ℤ) (n c left w : ℕ) → (pos (64 * n) -ℤ pos 16384) ≡ t → (pos (64 * n + c) -ℤ pos 16384) ≡ x → (pos left -ℤ pos 16384) ≡ a → t ≤ℤ a → (a +ℤ pos w) ≤ℤ (t +ℤ pos 64) → 1 ≤ w → Axis a x c left w
axis a x t n c left w et ex ea low high some =
    rw (← ex, ← ea) (axis_at n c left w
    (less (64 * n) left 16384 (rw (et, ea) low))
    (less_end left w (64 * n) 64 16384 (rw (et, ea) high)) some)

pub rest_of : (x : ℤ) (n c : ℕ) → (pos (64 * n + c) -ℤ pos 16384) ≡ x → c < 64 → nat_abs (x +ℤ pos 16384) % 64 ≡ c
rest_of x n c e h = rw (← e, nat_abs-back (64 * n + c) 16384) (omega arith)

same_part : (left top w h c r : ℕ) (a b x y : ℤ) → Axis a x c left w → Axis b y r top h → in_part (left % 64) (top % 64) w h c r ≡ holds (area a b w h) (point x y)
same_part left top w h c r a b x y f g = rw (f.inside, g.inside) refl

both : (a b : Bool) → (a && b) ≡ true → (a ≡ true) × (b ≡ true)
both a b e = grind arith

chosen : (t u : Bool) (x y z : Rgba) → t ≡ u → (u ≡ true → x ≡ y) → cond t x z ≡ cond u y z
chosen t true x y z e s = rw e (s refl)
chosen t false x y z e s = rw e refl

pub lays_block : (old new : Pixels) (b : Piece) (left top : ℕ) → IsPiece b → IsOffset left b.rect.x → IsOffset top b.rect.y → 1 ≤ b.rect.w → 1 ≤ b.rect.h
    → LaysPart old new (left % 64) (top % 64) b.rect.w b.rect.h b.pixels → LaysBlock old new b
lays_block old new b left top is el et w h laid p held =
    let n : ℕ = nat_abs (b.key.col +ℤ pos 256) in
    let m : ℕ = nat_abs (b.key.row +ℤ pos 256) in
    let c : ℕ = nat_abs (p.x -ℤ (pos 64 *ℤ b.key.col)) in
    let r : ℕ = nat_abs (p.y -ℤ (pos 64 *ℤ b.key.row)) in
    let spot : TileSpot b.key p n m c r = tile_spot b.key p is.key held in
    let f : Axis b.rect.x p.x c left b.rect.w = axis b.rect.x p.x _ n c left b.rect.w spot.left spot.x el is.inside.left is.inside.right w in
    let g : Axis b.rect.y p.y r top b.rect.h = axis b.rect.y p.y _ m r top b.rect.h spot.top spot.y et is.inside.top is.inside.bottom h in
    rw (rest_of p.x n c spot.x spot.col, rest_of p.y m r spot.y spot.row)
    (laid c r spot.col ∙ chosen (in_part (left % 64) (top % 64) b.rect.w b.rect.h c r) (holds b.rect p) (pixel_in (left % 64) (top % 64) b.rect.w b.pixels c r) (piece_at b p) (pixel_of old c r)
    (same_part left top b.rect.w b.rect.h c r b.rect.x b.rect.y p.x p.y f g)
    (λ t. let u : ((int_le b.rect.x p.x && int_lt p.x (b.rect.x +ℤ pos b.rect.w)) ≡ true) × ((int_le b.rect.y p.y && int_lt p.y (b.rect.y +ℤ pos b.rect.h)) ≡ true) = both _ _ t in
    ap (λ i. get_or b.pixels i clear) (rw (f.apart u.0, g.apart u.1) refl)))

-- the same where the parts have names of their own
pub lays_block_as : (old old' new : Pixels) (b : Piece) (rect : Area) (src : List Rgba) (left top w h : ℕ) → IsPiece b → rect ≡ b.rect → IsOffset left rect.x → IsOffset top rect.y → w ≡ rect.w → h ≡ rect.h → 1 ≤ w → 1 ≤ h
    → src ≡ b.pixels → old' ≡ old → LaysPart old' new (left % 64) (top % 64) w h src → LaysBlock old new b
lays_block_as old old' new b rect src left top w h is er el et ew eh sw sh es eo laid =
    let ew' : w ≡ b.rect.w = ew ∙ ap (λ (a : Area). a.w) er in
    let eh' : h ≡ b.rect.h = eh ∙ ap (λ (a : Area). a.h) er in
    let laid' : LaysPart old new (left % 64) (top % 64) b.rect.w b.rect.h b.pixels = rw (← eo, ← ew', ← eh', ← es) laid in
    lays_block old new b left top is (el ∙ ap (λ (a : Area). a.x) er) (et ∙ ap (λ (a : Area). a.y) er) (rw (← ew') sw) (rw (← eh') sh) laid'
