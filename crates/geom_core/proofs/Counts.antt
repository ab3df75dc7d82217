-- The tiles of a rectangle by their places in row order.
use Rattle.std.proofs.Common.{◌≡◌, ℕ, suc, zero, ◌+◌, ◌-◌, ◌*◌, ◌/◌, ◌%◌, ◌≤◌, ◌<◌, true, ◌&&◌, List, [], ◌∷◌, ◌++◌, length, get_or, Some, refl, ap, sym, ◌∙◌, arith, length-append}
use Rattle.std.specs.Prelude.{ℤ, pos, ◌+ℤ◌, ◌-ℤ◌, ◌*ℤ◌, int_le, int_lt, slice_get}
use Rattle.std.proofs.lemmas.List.{get_or_append_left, get_or-append_right}
use Rattle.std.proofs.lemmas.Option.{slice_get-get_or}
use borrow.Author.Differences.{ints}
use Rattle.std.proofs.Math.Nat.{div-lt_iff_lt-mul}
use Rattle.geom_core.specs.Areas.{Area}
use Rattle.geom_core.specs.Grid.{Key, key, floor_by, count_from, how_many, pieces, keys_in_row, keys_in_rows, keys_of}
use Rattle.geom_core.specs.Place.{seen}
use Rattle.geom_core.specs.declared.rect.Rect.TheInside.{Inside}
use Rattle.geom_core.proofs.Tiles.{piece_is}

in_piece : (n : ℕ) → (int_le (pos 64 *ℤ (pos (n / 64) -ℤ pos 256)) (pos n -ℤ pos 16384) && int_lt (pos n -ℤ pos 16384) ((pos 64 *ℤ (pos (n / 64) -ℤ pos 256)) +ℤ pos 64)) ≡ true
in_piece n = grind (arith, ints)

floor_shifted : (n : ℕ) → floor_by 64 (pos n -ℤ pos 16384) ≡ (pos (n / 64) -ℤ pos 256)
floor_shifted n = piece_is (pos (n / 64) -ℤ pos 256) (pos n -ℤ pos 16384) (in_piece n)

last_shifted : (a n : ℕ) → 1 ≤ n → (((pos a -ℤ pos 16384) +ℤ pos n) -ℤ pos 1) ≡ (pos (a + n - 1) -ℤ pos 16384)
last_shifted a n h = omega (arith, ints)

many_shifted : (a b : ℕ) → a ≤ b + 1 → how_many (pos a -ℤ pos 256) (pos b -ℤ pos 256) ≡ b + 1 - a
many_shifted a b h = omega (arith, ints)

-- how many pieces the n numbers from a on meet
abbrev pub count_of : ℕ → ℕ → ℕ
count_of a n = (a + n - 1) / 64 + 1 - a / 64

pieces_shifted : (a n : ℕ) → 1 ≤ n → pieces 64 (pos a -ℤ pos 16384) (((pos a -ℤ pos 16384) +ℤ pos n) -ℤ pos 1) ≡ count_from (pos (a / 64) -ℤ pos 256) (count_of a n)
pieces_shifted a n h = rw (last_shifted a n h, floor_shifted a, floor_shifted (a + n - 1)) (ap (count_from (pos (a / 64) -ℤ pos 256)) (many_shifted (a / 64) ((a + n - 1) / 64) (omega arith)))

pub length-count_from : (a : ℤ) (n : ℕ) → length (count_from a n) ≡ n
length-count_from a zero = refl
length-count_from a (suc n) = ap suc (length-count_from (a +ℤ pos 1) n)

get-count_from : (a : ℤ) (n i : ℕ) (d : ℤ) → i < n → get_or (count_from a n) i d ≡ (a +ℤ pos i)
get-count_from a zero i d h = absurd (omega arith)
get-count_from a (suc n) zero d h = omega (arith, ints)
get-count_from a (suc n) (suc i) d h = get-count_from (a +ℤ pos 1) n i d (omega arith) ∙ next a i
  where
    next : (a : ℤ) (i : ℕ) → ((a +ℤ pos 1) +ℤ pos i) ≡ (a +ℤ pos (suc i))
    next a i = omega (arith, ints)

length-keys_in_row : (cs : List ℤ) (r : ℤ) → length (keys_in_row cs r) ≡ length cs
length-keys_in_row [] r = refl
length-keys_in_row (c ∷ cs) r = ap suc (length-keys_in_row cs r)

pub length-keys_in_rows : (cs rs : List ℤ) → length (keys_in_rows cs rs) ≡ length cs * length rs
length-keys_in_rows cs [] = omega arith
length-keys_in_rows cs (r ∷ rs) = length-append (keys_in_row cs r) (keys_in_rows cs rs) ∙ ap (λ n. n + length (keys_in_rows cs rs)) (length-keys_in_row cs r) ∙ ap (λ n. length cs + n) (length-keys_in_rows cs rs) ∙ more (length cs) (length rs)
  where
    more : (c r : ℕ) → c + c * r ≡ c * suc r
    more c r = omega arith

get-keys_in_row : (cs : List ℤ) (r : ℤ) (i : ℕ) (d : Key) (e : ℤ) → i < length cs → get_or (keys_in_row cs r) i d ≡ key (get_or cs i e) r
get-keys_in_row [] r i d e h = absurd (omega arith)
get-keys_in_row (c ∷ cs) r zero d e h = refl
get-keys_in_row (c ∷ cs) r (suc i) d e h = get-keys_in_row cs r i d e (omega arith)

get-keys_in_rows : (cs rs : List ℤ) (i j : ℕ) (d : Key) (e : ℤ) → i < length cs → j < length rs → get_or (keys_in_rows cs rs) (length cs * j + i) d ≡ key (get_or cs i e) (get_or rs j e)
get-keys_in_rows cs [] i j d e h k = absurd (omega arith)
get-keys_in_rows cs (r ∷ rs) i zero d e h k =
    ap (λ n. get_or (keys_in_row cs r ++ keys_in_rows cs rs) n d) (first (length cs) i) ∙ get_or_append_left (keys_in_row cs r) (keys_in_rows cs rs) d i (rw (length-keys_in_row cs r) h) ∙ get-keys_in_row cs r i d e h
  where
    first : (c i : ℕ) → c * 0 + i ≡ i
    first c i = omega arith
get-keys_in_rows cs (r ∷ rs) i (suc j) d e h k =
    get_or-append_right (keys_in_row cs r) (keys_in_rows cs rs) (length cs) (length cs * suc j + i) d (length-keys_in_row cs r) (low (length cs) i j)
    ∙ ap (λ n. get_or (keys_in_rows cs rs) n d) (less (length cs) i j) ∙ get-keys_in_rows cs rs i j d e h (omega arith)
  where
    low : (c i j : ℕ) → c ≤ c * suc j + i
    low c i j = omega arith

    less : (c i j : ℕ) → (c * suc j + i) - c ≡ c * j + i
    less c i j = omega arith

keys_seen : (r : Inside) → 1 ≤ r.w → 1 ≤ r.h → keys_of (seen r) ≡ keys_in_rows (count_from (pos (r.left / 64) -ℤ pos 256) (count_of r.left r.w)) (count_from (pos (r.top / 64) -ℤ pos 256) (count_of r.top r.h))
keys_seen r w h = rw (pieces_shifted r.left r.w w, pieces_shifted r.top r.h h) refl

pub count-keys_seen : (r : Inside) → 1 ≤ r.w → 1 ≤ r.h → length (keys_of (seen r)) ≡ count_of r.left r.w * count_of r.top r.h
count-keys_seen r w h = ap length (keys_seen r w h) ∙ length-keys_in_rows (count_from (pos (r.left / 64) -ℤ pos 256) (count_of r.left r.w)) (count_from (pos (r.top / 64) -ℤ pos 256) (count_of r.top r.h))
    ∙ ap (λ n. n * length (count_from (pos (r.top / 64) -ℤ pos 256) (count_of r.top r.h))) (length-count_from _ (count_of r.left r.w)) ∙ ap (λ n. count_of r.left r.w * n) (length-count_from _ (count_of r.top r.h))

-- a place below a product, by its row and its column
pub parted : (c n i : ℕ) → i < c * n → (c * (i / c) + i % c ≡ i) × ((i / c < n) × (i % c < c))
parted c n i h =
    let some : 0 < c = positive c n i h in
    (omega arith, (above c n i some h, omega arith))
  where
    positive : (c n i : ℕ) → i < c * n → 0 < c
    positive zero n i h = absurd (omega arith)
    positive (suc c) n i h = omega arith

    above : (c n i : ℕ) → 0 < c → i < c * n → i / c < n
    above c n i s h = grind (arith, div-lt_iff_lt-mul)

same_key_at : {c c' r r' : ℤ} → c ≡ c' → r ≡ r' → key c r ≡ key c' r'
same_key_at p q i = key (p i) (q i)

-- the key at a place of a block of c columns from x on and n rows from y on
pub at_rows : (x y : ℤ) (c n i : ℕ) → i < c * n → slice_get (keys_in_rows (count_from x c) (count_from y n)) i ≡ Some (key (x +ℤ pos (i % c)) (y +ℤ pos (i / c)))
at_rows x y c n i l =
    let cs : List ℤ = count_from x c in
    let rs : List ℤ = count_from y n in
    let p : (c * (i / c) + i % c ≡ i) × ((i / c < n) × (i % c < c)) = parted c n i l in
    let nc : length cs ≡ c = length-count_from x c in
    let nr : length rs ≡ n = length-count_from y n in
    let d : Key = key (pos 0) (pos 0) in
    let fits : i < length (keys_in_rows cs rs) = rw (length-keys_in_rows cs rs, nc, nr) l in
    slice_get-get_or (keys_in_rows cs rs) i d fits ∙ ap Some (
    ap (λ n. get_or (keys_in_rows cs rs) n d) (sym p.0 ∙ ap (λ n. n * (i / c) + i % c) (sym nc))
    ∙ get-keys_in_rows cs rs (i % c) (i / c) d (pos 0) (rw nc p.1.1) (rw nr p.1.0)
    ∙ same_key_at (get-count_from x c (i % c) (pos 0) p.1.1) (get-count_from y n (i / c) (pos 0) p.1.0))

pub at-keys_seen : (r : Inside) (c i : ℕ) → 1 ≤ r.w → 1 ≤ r.h → c ≡ count_of r.left r.w → i < c * count_of r.top r.h
    → slice_get (keys_of (seen r)) i ≡ Some (key (pos (r.left / 64 + i % c) -ℤ pos 256) (pos (r.top / 64 + i / c) -ℤ pos 256))
at-keys_seen r c i w h ec l =
    ap (λ ks. slice_get ks i) (keys_seen r w h ∙ ap (λ n. keys_in_rows (count_from (pos (r.left / 64) -ℤ pos 256) n) (count_from (pos (r.top / 64) -ℤ pos 256) (count_of r.top r.h))) (sym ec))
    ∙ at_rows (pos (r.left / 64) -ℤ pos 256) (pos (r.top / 64) -ℤ pos 256) c (count_of r.top r.h) i l
    ∙ ap Some (same_key_at (shifted_sum (r.left / 64) (i % c)) (shifted_sum (r.top / 64) (i / c)))
  where
    shifted_sum : (a b : ℕ) → ((pos a -ℤ pos 256) +ℤ pos b) ≡ (pos (a + b) -ℤ pos 256)
    shifted_sum a b = omega (arith, ints)

pub piece_room : (a n q : ℕ) → 1 ≤ n → a + n ≤ 32768 → q < count_of a n → a / 64 + q < 512
piece_room a n q h k l = omega arith

pub below_count : (r : Inside) (a : Area) (c i : ℕ) → seen r ≡ a → 1 ≤ r.w → 1 ≤ r.h → c ≡ count_of r.left r.w → i < length (keys_of a) → i < c * count_of r.top r.h
below_count r a c i e w h ec l =
    let n : length (keys_of a) ≡ c * count_of r.top r.h = ap (λ (b : Area). length (keys_of b)) (sym e) ∙ count-keys_seen r w h ∙ ap (λ m. m * count_of r.top r.h) (sym ec) in
    rw (← n) l
