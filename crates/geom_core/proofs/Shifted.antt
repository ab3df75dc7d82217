-- Coordinates that are kept as numbers from the world's edge on.
use Rattle.std.proofs.Common.{◌≡◌, ℕ, ◌+◌, ◌-◌, ◌*◌, ◌≤◌, ◌<◌, Bool, true, ◌&&◌, refl, sym, ◌∙◌, arith, ltb, max, min}
use Rattle.std.specs.Prelude.{ℤ, pos, ◌+ℤ◌, ◌-ℤ◌, ◌*ℤ◌, int_lt, nat_abs}
use Rattle.std.specs.Int.{int_max, int_min}
use borrow.Author.Differences.{ints}
use Rattle.geom_core.specs.Areas.{meets, area, Area}
use Rattle.geom_core.specs.Overlaps.{length_between, common, bound}
use Rattle.std.proofs.lemmas.Bool.Decides.{nat_tests}
use Rattle.geom_core.specs.declared.rect.Rect.TheInside.{Inside}
use Rattle.geom_core.specs.Place.{seen}

pub lt_shifted : (a b n k : ℕ) → int_lt (pos a -ℤ pos k) ((pos b -ℤ pos k) +ℤ pos n) ≡ ltb a (b + n)
lt_shifted a b n k = grind (arith, ints)

pub max_shifted : (a b k : ℕ) → int_max (pos a -ℤ pos k) (pos b -ℤ pos k) ≡ (pos (max a b) -ℤ pos k)
max_shifted a b k = grind (arith, ints)

pub between_shifted : (a n b m k : ℕ) → a < b + m → b < a + n → length_between (pos a -ℤ pos k) n (pos b -ℤ pos k) m ≡ min (a + n) (b + m) - max a b
between_shifted a n b m k p q = grind (arith, ints)

pub meets_seen : (a b : Inside) → meets (seen a) (seen b) ≡ ((ltb a.left (b.left + b.w) && ltb b.left (a.left + a.w)) && (ltb a.top (b.top + b.h) && ltb b.top (a.top + a.h)))
meets_seen a b = simp lt_shifted

pub true_and : (x y : Bool) → x ≡ true → y ≡ (x && y)
true_and x y e = rw e refl

same_area : {x x' y y' : ℤ} {w w' h h' : ℕ} → x ≡ x' → y ≡ y' → w ≡ w' → h ≡ h' → area x y w h ≡ area x' y' w' h'
same_area p q r s i = area (p i) (q i) (r i) (s i)

all_less : (a b n m c d o p : ℕ) → ((ltb a (b + m) && ltb b (a + n)) && (ltb c (d + p) && ltb d (c + o))) ≡ true → (a < b + m) × (b < a + n) × (c < d + p) × (d < c + o)
all_less a b n m c d o p h = grind (arith, nat_tests)

pub common_seen : (a b : Inside) (l t x y : ℕ) → meets (seen a) (seen b) ≡ true → l ≡ max a.left b.left → t ≡ max a.top b.top → x ≡ min (a.left + a.w) (b.left + b.w) → y ≡ min (a.top + a.h) (b.top + b.h)
    → seen (record { left = l; top = t; w = x - l; h = y - t }) ≡ common (seen a) (seen b)
common_seen a b l t x y m el et ex ey =
    let lt : (a.left < b.left + b.w) × (b.left < a.left + a.w) × (a.top < b.top + b.h) × (b.top < a.top + a.h) = all_less a.left b.left a.w b.w a.top b.top a.h b.h (sym (meets_seen a b) ∙ m) in
    rw (el, et, ex, ey) (same_area (sym (max_shifted a.left b.left 16384)) (sym (max_shifted a.top b.top 16384))
    (sym (between_shifted a.left a.w b.left b.w 16384 lt.0 lt.1)) (sym (between_shifted a.top a.h b.top b.h 16384 lt.2 lt.3)))

pub meets_same : {a a' b b' : Area} → a ≡ a' → b ≡ b' → meets a b ≡ meets a' b'
meets_same p q i = meets (p i) (q i)

min_shifted : (a b k : ℕ) → int_min (pos a -ℤ pos k) (pos b -ℤ pos k) ≡ (pos (min a b) -ℤ pos k)
min_shifted a b k = grind (arith, ints)

end_at : (a n k : ℕ) → ((pos a -ℤ pos k) +ℤ pos n) ≡ (pos (a + n) -ℤ pos k)
end_at a n k = omega (arith, ints)

max_end : (a b n m k : ℕ) → int_max ((pos a -ℤ pos k) +ℤ pos n) ((pos b -ℤ pos k) +ℤ pos m) ≡ (pos (max (a + n) (b + m)) -ℤ pos k)
max_end a b n m k = rw (end_at a n k, end_at b m k) (max_shifted (a + n) (b + m) k)

gap_shifted : (l m k : ℕ) → l ≤ m → nat_abs ((pos m -ℤ pos k) -ℤ (pos l -ℤ pos k)) ≡ m - l
gap_shifted l m k h = grind (arith, ints)

span_shifted : (a b n m k : ℕ) → nat_abs (int_max ((pos a -ℤ pos k) +ℤ pos n) ((pos b -ℤ pos k) +ℤ pos m) -ℤ int_min (pos a -ℤ pos k) (pos b -ℤ pos k)) ≡ max (a + n) (b + m) - min a b
span_shifted a b n m k = rw (max_end a b n m k, min_shifted a b k) (gap_shifted (min a b) (max (a + n) (b + m)) k (omega arith))

pub bound_seen : (a b : Inside) (l t x y : ℕ) → l ≡ min a.left b.left → t ≡ min a.top b.top → x ≡ max (a.left + a.w) (b.left + b.w) → y ≡ max (a.top + a.h) (b.top + b.h)
    → seen (record { left = l; top = t; w = x - l; h = y - t }) ≡ bound (seen a) (seen b)
bound_seen a b l t x y el et ex ey = rw (el, et, ex, ey) (same_area (sym (min_shifted a.left b.left 16384)) (sym (min_shifted a.top b.top 16384))
    (sym (span_shifted a.left b.left a.w b.w 16384)) (sym (span_shifted a.top b.top a.h b.h 16384)))

-- the left or upper edge of a tile
pub edge_of : (n : ℕ) (c : ℤ) → pos n ≡ (c +ℤ pos 256) → (pos (64 * n) -ℤ pos 16384) ≡ (pos 64 *ℤ c)
edge_of n c e = omega (arith, ints)

pub tile_at : (n m : ℕ) (c r : ℤ) → pos n ≡ (c +ℤ pos 256) → pos m ≡ (r +ℤ pos 256) → area (pos (64 * n) -ℤ pos 16384) (pos (64 * m) -ℤ pos 16384) 64 64 ≡ area (pos 64 *ℤ c) (pos 64 *ℤ r) 64 64
tile_at n m c r e h = rw (edge_of n c e, edge_of m r h) refl
