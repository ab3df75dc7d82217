-- What a track leaves in a tile.
use Rattle.std.proofs.Common.{◌≡◌, ℕ, suc, zero, ◌+◌, ◌-◌, ◌*◌, ◌%◌, ◌≤◌, ◌<◌, Bool, true, false, ◌&&◌, cond, List, [], ◌∷◌, ◌++◌, map, length, drop, get_or, refl, sym, ap, ◌∙◌, subst, arith, inl, inr}
use Rattle.std.specs.Prelude.{ℤ, pos, ◌+ℤ◌, ◌-ℤ◌, ◌*ℤ◌, int_lt, nat_abs, nat_le, slice_get, Some}
use Rattle.std.specs.List.{list_all, list_any, range_with_len}
use Rattle.std.proofs.lemmas.Bool.Decides.{nat_tests}
use borrow.Author.Differences.{ints}
use Rattle.pixel_core.specs.Rgba.{Rgba, clear}
use Rattle.pixel_core.specs.Compose.{mul, compose}
use Rattle.brush_mask.specs.Mask.{mask}
use Rattle.geom_core.specs.Areas.{Point, Area, holds, lies_in, meets, world}
use Rattle.geom_core.specs.Rects.{any_holds, place_in, IsWithin, IsShared}
use Rattle.geom_core.specs.Place.{across, down}
use Rattle.geom_core.proofs.Spots.{TileSpot, tile_spot}
use Rattle.tile_core.proofs.LaidBlocks.{rest_of}
use Rattle.tile_core.specs.Blocks.{Piece, piece}
use Rattle.tile_core.specs.Shots.{Sight, sight_at}
use Rattle.geom_core.specs.Grid.{Key, key, same_key, tile, all_keys_of, keys_of}
use Rattle.geom_core.specs.Keys.{IsWorldKey}
use Rattle.geom_core.proofs.Axes.{tiles_met}
use Rattle.geom_core.proofs.Tests.{true_or_false, and_left, and_right, both_true, taken, kept, or-false}
use Rattle.tile_core.specs.Pixels.{Pixels, pixel_at, HasPixels}
use Rattle.doc_model.specs.declared.job.Job.TheVariants as job
use Rattle.doc_model.specs.declared.track.Stamp.{Stamp}
use Rattle.doc_model.specs.Trails.{Trail, centres, centres_along, on_segment}
use Rattle.doc_model.specs.Tracks.{point_of}
use Rattle.doc_model.specs.Layers.{Layer, at, painted, plain}
use Rattle.doc_model.proofs.LayerLaws.{at-painted}
use Rattle.doc_model.specs.Jobs.{square, stamped, all_stamped, value}
use Rattle.doc_model.specs.Shots.{in_tile}
use Rattle.doc_model.proofs.JobLaws.{at-apply}
use Rattle.doc_model.proofs.Conflicts.{meets_at}
use Rattle.doc_model.proofs.Centres.{chain, cut_next, cut_last}
use Rattle.job_core.specs.declared.ink.Ink.{Ink}
use Rattle.job_core.specs.declared.dabs.Brush.{Brush}
use Rattle.job_core.specs.Points.{IsPointJob, HasTile, LaysJob}
use Rattle.job_core.specs.Tracks.{LaysStamps, AllInside}
use Rattle.job_core.proofs.Values.{tile_held, one_met, world_key, seen_at, block_of, value_at, painted_once}
use Rattle.job_core.proofs.Keys.{due_key}
use Rattle.job_core.specs.Made.{IsBlock}
use Rattle.job_core.specs.Paints.{paint, layer_of, IsPainted}
use Rattle.job_core.specs.Due.{IsDue}

-- ---- the tile

same_axis : (a b : ℤ) → (int_lt (pos 64 *ℤ a) ((pos 64 *ℤ b) +ℤ pos 64) && int_lt (pos 64 *ℤ b) ((pos 64 *ℤ a) +ℤ pos 64)) ≡ true → a ≡ b
same_axis a b h = grind (arith, ints)

-- tiles that meet are one
tiles_one : (k m : Key) → meets (tile k) (tile m) ≡ true → m ≡ k
tiles_one k m h =
    let x : k.col ≡ m.col = same_axis k.col m.col (and_left _ _ h) in
    let y : k.row ≡ m.row = same_axis k.row m.row (and_right (int_lt (pos 64 *ℤ k.col) ((pos 64 *ℤ m.col) +ℤ pos 64) && int_lt (pos 64 *ℤ m.col) ((pos 64 *ℤ k.col) +ℤ pos 64)) _ h) in
    λ i. key (sym x i) (sym y i)

-- a track is laid in its own tile alone
pub key_is_cell : (cell k : Key) → list_any (same_key k) (all_keys_of (tile cell ∷ [])) ≡ true → k ≡ cell
key_is_cell cell k h = tiles_one cell k (one_met (tile cell) k (omega arith, omega arith) h)

itself_axis : (a : ℤ) → (int_lt (pos 64 *ℤ a) ((pos 64 *ℤ a) +ℤ pos 64) && int_lt (pos 64 *ℤ a) ((pos 64 *ℤ a) +ℤ pos 64)) ≡ true
itself_axis a = grind (arith, ints)

pub cell_known : (cell : Key) → lies_in (tile cell) world ≡ true → IsWorldKey cell
cell_known cell h = world_key (tile cell) cell h (both_true _ _ (itself_axis cell.col) (itself_axis cell.row))

-- ---- one dab

-- a layer that has the tile's pixels there
lone : Key → Pixels → Layer
lone k t = painted (tile k ∷ []) (λ _. true) (pixel_at t) (plain clear)

has_lone : (k : Key) (t : Pixels) → HasTile k t (lone k t)
unfolding lone
has_lone k t p inside = at-painted (tile k ∷ []) (λ _. true) (pixel_at t) (plain clear) p
    ∙ taken (any_holds (tile k ∷ []) p && true) (pixel_at t p) (at (plain clear) p) (both_true _ _ (or-false (holds (tile k) p) ∙ tile_held k p ∙ inside) refl)

brush_at : Stamp → Point → Brush
brush_at s c = record { x = c.x; y = c.y; r = s.r; soft = s.soft }

ink_at : Stamp → Ink
ink_at s = record { colour = s.colour; op = s.op; strength = s.strength }

-- the dab's ink on a pixel
abbrev inked : Stamp → Point → Point → Rgba → Rgba
inked s c p d = compose s.op s.colour d (mul (mask s.r s.soft (p.x -ℤ c.x) (p.y -ℤ c.y)) s.strength)

pub dab_stamped : (k : Key) (s : Stamp) (c : Point) (old new : Pixels) → LaysJob k (job.Dab c.x c.y s.r s.soft s.colour s.op s.strength) old new → LaysStamps k s (c ∷ []) old new
dab_stamped k s c old new lays p inside =
    sym (lays (lone k old) (has_lone k old) p inside)
    ∙ at-apply (job.Dab c.x c.y s.r s.soft s.colour s.op s.strength) (lone k old) p
    ∙ ap (λ b. cond b (inked s c p (at (lone k old) p)) (at (lone k old) p)) (or-false (holds (square c.x c.y s.r) p))
    ∙ ap (stamped s c p) (has_lone k old p inside)

-- a dab whose square meets the tile is a point operation there
pub dab_job : (k : Key) (s : Stamp) (c : Point) → s.r ≤ 128 → lies_in (square c.x c.y s.r) world ≡ true → meets (square c.x c.y s.r) (tile k) ≡ true → IsPointJob k (job.Dab c.x c.y s.r s.soft s.colour s.op s.strength)
dab_job k s c small inside met = record {
  point_op = refl;
  checked = both_true _ _ inside refl;
  limits = limit s.r small;
  met = ap (list_any (same_key k)) (Rattle.std.proofs.Common.append-nil (keys_of (square c.x c.y s.r))) ∙ (tiles_met (square c.x c.y s.r) (omega arith) (omega arith)).exact k ∙ met;
}
  where
    limit : (r : ℕ) → r ≤ 128 → nat_le r 128 ≡ true
    limit r h = grind (arith, nat_tests)

-- a dab that misses the tile leaves its pixels
missed : (k : Key) (s : Stamp) (c p : Point) (d : Rgba) → meets (square c.x c.y s.r) (tile k) ≡ false → in_tile k p ≡ true → stamped s c p d ≡ d
missed k s c p d miss inside = kept (holds (square c.x c.y s.r) p) (inked s c p d) d (elim (true_or_false (holds (square c.x c.y s.r) p)) [
  | inl h ↦ absurd (never (sym (meets_at (square c.x c.y s.r) (tile k) p h (tile_held k p ∙ inside)) ∙ miss))
  | inr h ↦ h
])
  where
    never : true ≡ false → ⊥
    never e = cc

pub none_laid : (k : Key) (s : Stamp) (c : Point) (old : Pixels) → meets (square c.x c.y s.r) (tile k) ≡ false → LaysStamps k s (c ∷ []) old old
none_laid k s c old miss p inside = sym (missed k s c p (pixel_at old p) miss inside)

-- ---- dabs one after another

pub stamped-append : (s : Stamp) (xs ys : List Point) (p : Point) (d : Rgba) → all_stamped s (xs ++ ys) p d ≡ all_stamped s ys p (all_stamped s xs p d)
stamped-append s [] ys p d = refl
stamped-append s (x ∷ xs) ys p d = stamped-append s xs ys p (stamped s x p d)

-- what is still to be laid on the tile's pixels
abbrev pub Owes : Key → Stamp → List Point → Pixels → (Point → Rgba) → Type 0
Owes k s cs now due = (p : Point) → in_tile k p ≡ true → all_stamped s cs p (pixel_at now p) ≡ due p

pub owes_less : (k : Key) (s : Stamp) (all front back : List Point) (now next : Pixels) (due : Point → Rgba) → all ≡ front ++ back → Owes k s all now due → LaysStamps k s front now next → Owes k s back next due
owes_less k s all front back now next due e owes laid p inside =
    ap (all_stamped s back p) (laid p inside) ∙ sym (stamped-append s front back p (pixel_at now p)) ∙ sym (ap (λ cs. all_stamped s cs p (pixel_at now p)) e) ∙ owes p inside

all_inside_append : (s : Stamp) (xs ys : List Point) → AllInside s (xs ++ ys) → AllInside s xs × AllInside s ys
all_inside_append s xs ys h =
    let both : (list_all (λ a. lies_in a world) (map (λ (c : Point). square c.x c.y s.r) xs) && list_all (λ a. lies_in a world) (map (λ (c : Point). square c.x c.y s.r) ys)) ≡ true = sym (split xs) ∙ h in
    (and_left (list_all (λ a. lies_in a world) (map (λ (c : Point). square c.x c.y s.r) xs)) (list_all (λ a. lies_in a world) (map (λ (c : Point). square c.x c.y s.r) ys)) both, and_right (list_all (λ a. lies_in a world) (map (λ (c : Point). square c.x c.y s.r) xs)) (list_all (λ a. lies_in a world) (map (λ (c : Point). square c.x c.y s.r) ys)) both)
  where
    assoc : (a b c : Bool) → (a && (b && c)) ≡ ((a && b) && c)
    assoc true b c = refl
    assoc false b c = refl

    split : (xs : List Point) → list_all (λ a. lies_in a world) (map (λ (c : Point). square c.x c.y s.r) (xs ++ ys)) ≡ (list_all (λ a. lies_in a world) (map (λ (c : Point). square c.x c.y s.r) xs) && list_all (λ a. lies_in a world) (map (λ (c : Point). square c.x c.y s.r) ys))
    split [] = refl
    split (x ∷ xs) = ap (λ b. lies_in (square x.x x.y s.r) world && b) (split xs) ∙ assoc (lies_in (square x.x x.y s.r) world) _ _

-- a track whose dabs so far are laid
pub record TrackSoFar (k : Key) (s : Stamp) (gap : ℕ) (ps : List (ℤ × ℤ)) (i : ℕ) (first now : Pixels) : Type 0 where
  pub inside : AllInside s (chain gap (drop i ps))
  pub owes : Owes k s (chain gap (drop i ps)) now (λ p. all_stamped s (chain gap ps) p (pixel_at first p))

pub none_so_far : (k : Key) (s : Stamp) (gap : ℕ) (ps : List (ℤ × ℤ)) (first : Pixels) → AllInside s (chain gap ps) → TrackSoFar k s gap ps 0 first first
none_so_far k s gap ps first h = record { inside = subst (λ qs. AllInside s (chain gap qs)) (sym (drop_none ps)) h; owes = λ p _. ap (λ qs. all_stamped s (chain gap qs) p (pixel_at first p)) (drop_none ps) }
  where
    drop_none : (ps : List (ℤ × ℤ)) → drop 0 ps ≡ ps
    drop_none [] = refl
    drop_none (p ∷ ps) = refl

pub segment_inside : (k : Key) (s : Stamp) (gap : ℕ) (ps : List (ℤ × ℤ)) (i : ℕ) (p q : ℤ × ℤ) (first now : Pixels) → Some p ≡ slice_get ps i → Some q ≡ slice_get ps (i + 1) → TrackSoFar k s gap ps i first now
    → AllInside s (on_segment gap (point_of p) (point_of q))
segment_inside k s gap ps i p q first now e f so = (all_inside_append s (on_segment gap (point_of p) (point_of q)) (chain gap (drop (i + 1) ps)) (subst (AllInside s) (cut_next gap ps i p q e f) so.inside)).0

pub one_segment : (k : Key) (s : Stamp) (gap : ℕ) (ps : List (ℤ × ℤ)) (i : ℕ) (p q : ℤ × ℤ) (first now next : Pixels) → Some p ≡ slice_get ps i → Some q ≡ slice_get ps (i + 1) → TrackSoFar k s gap ps i first now
    → LaysStamps k s (on_segment gap (point_of p) (point_of q)) now next → TrackSoFar k s gap ps (i + 1) first next
one_segment k s gap ps i p q first now next e f so laid = record {
  inside = (all_inside_append s (on_segment gap (point_of p) (point_of q)) (chain gap (drop (i + 1) ps)) (subst (AllInside s) (cut_next gap ps i p q e f) so.inside)).1;
  owes = owes_less k s (chain gap (drop i ps)) (on_segment gap (point_of p) (point_of q)) (chain gap (drop (i + 1) ps)) now next _ (cut_next gap ps i p q e f) so.owes laid;
}

pub last_inside : (k : Key) (s : Stamp) (gap : ℕ) (ps : List (ℤ × ℤ)) (i : ℕ) (p : ℤ × ℤ) (first now : Pixels) → Some p ≡ slice_get ps i → suc i ≡ length ps → TrackSoFar k s gap ps i first now
    → lies_in (square p.0 p.1 s.r) world ≡ true
last_inside k s gap ps i p first now e l so = and_left (lies_in (square p.0 p.1 s.r) world) true (subst (AllInside s) (cut_last gap ps i p e l) so.inside)

-- all of a track
pub track_laid : (k : Key) (t : Trail) (ps : List (ℤ × ℤ)) (i : ℕ) (p : ℤ × ℤ) (first now next : Pixels) → map point_of ps ≡ t.points → Some p ≡ slice_get ps i → suc i ≡ length ps → TrackSoFar k t.stamp t.gap ps i first now
    → LaysStamps k t.stamp (point_of p ∷ []) now next → LaysJob k (job.Track t k) first next
track_laid k t ps i p first now next same e l so laid layer has q inside =
    at-apply (job.Track t k) layer q
    ∙ taken (any_holds (tile k ∷ []) q) (all_stamped t.stamp (centres t) q (at layer q)) (at layer q) (or-false (holds (tile k) q) ∙ tile_held k q ∙ inside)
    ∙ ap (all_stamped t.stamp (centres t) q) (has q inside)
    ∙ sym (owes_less k t.stamp (chain t.gap (drop i ps)) (point_of p ∷ []) [] now next (λ z. all_stamped t.stamp (chain t.gap ps) z (pixel_at first z)) (cut_last t.gap ps i p e l) so.owes laid q inside
    ∙ ap (λ cs. all_stamped t.stamp (centres_along t.gap cs) q (pixel_at first q)) same)

-- ---- the dabs of a segment, of which only some are near

range_split : (a m n : ℕ) → range_with_len a (m + n) ≡ range_with_len a m ++ range_with_len (a + m) n
range_split a zero n = (λ i. range_with_len (sym (omega_zero a) i) (zero_add n i))
  where
    omega_zero : (b : ℕ) → b + zero ≡ b
    omega_zero b = omega arith

    zero_add : (b : ℕ) → zero + b ≡ b
    zero_add b = omega arith
range_split a (suc m) n =
    let one : suc m + n ≡ suc (m + n) = omega arith in
    let place : (a + 1) + m ≡ a + suc m = omega arith in
    ap (range_with_len a) one ∙ ap (λ ks. a ∷ ks) (range_split (a + 1) m n ∙ ap (λ b. range_with_len (a + 1) m ++ range_with_len b n) place)

map_append : (f : ℕ → Point) (xs ys : List ℕ) → map f (xs ++ ys) ≡ map f xs ++ map f ys
map_append f [] ys = refl
map_append f (x ∷ xs) ys = ap (λ zs. f x ∷ zs) (map_append f xs ys)

skipped : (k : Key) (s : Stamp) (f : ℕ → Point) (a n : ℕ) (p : Point) (d : Rgba) → in_tile k p ≡ true → ((j : ℕ) → a ≤ j → j < a + n → meets (square (f j).x (f j).y s.r) (tile k) ≡ false)
    → all_stamped s (map f (range_with_len a n)) p d ≡ d
skipped k s f a zero p d inside miss = refl
skipped k s f a (suc n) p d inside miss =
    ap (all_stamped s (map f (range_with_len (a + 1) n)) p) (missed k s (f a) p d (miss a (omega arith) (omega arith)) inside)
    ∙ skipped k s f (a + 1) n p d inside (λ j l m. miss j (omega arith) (omega arith))

-- the dabs from a place on are still to be laid
abbrev pub PlacesLeft : Key → Stamp → (ℕ → Point) → ℕ → ℕ → Pixels → Pixels → Type 0
PlacesLeft k s f count i first now = Owes k s (map f (range_with_len i (count - i))) now (λ p. all_stamped s (map f (range_with_len 0 count)) p (pixel_at first p))

pub places_begin : (k : Key) (s : Stamp) (f : ℕ → Point) (count i : ℕ) (first : Pixels) → i ≤ count → ((j : ℕ) → j < count → j < i → meets (square (f j).x (f j).y s.r) (tile k) ≡ false) → PlacesLeft k s f count i first first
places_begin k s f count i first few miss p inside =
    let whole : i + (count - i) ≡ count = omega arith in
    let none : 0 + i ≡ i = omega arith in
    ap (all_stamped s (map f (range_with_len i (count - i))) p) (sym (skipped k s f 0 i p (pixel_at first p) inside (λ j _ l. miss j (omega arith) (omega arith))))
    ∙ sym (stamped-append s (map f (range_with_len 0 i)) (map f (range_with_len i (count - i))) p (pixel_at first p))
    ∙ ap (λ cs. all_stamped s cs p (pixel_at first p)) (sym (ap (map f) (ap (range_with_len 0) (sym whole) ∙ range_split 0 i (count - i) ∙ ap (λ b. range_with_len 0 i ++ range_with_len b (count - i)) none) ∙ map_append f (range_with_len 0 i) (range_with_len i (count - i))))

pub places_next : (k : Key) (s : Stamp) (f : ℕ → Point) (count i : ℕ) (first now next : Pixels) → i < count → PlacesLeft k s f count i first now → LaysStamps k s (f i ∷ []) now next → PlacesLeft k s f count (i + 1) first next
places_next k s f count i first now next small left laid =
    let one : count - i ≡ suc (count - (i + 1)) = omega arith in
    owes_less k s (map f (range_with_len i (count - i))) (f i ∷ []) (map f (range_with_len (i + 1) (count - (i + 1)))) now next _ (ap (λ n. map f (range_with_len i n)) one) left laid

pub places_end : (k : Key) (s : Stamp) (f : ℕ → Point) (count i : ℕ) (first now : Pixels) → i ≤ count → ((j : ℕ) → j < count → i ≤ j → meets (square (f j).x (f j).y s.r) (tile k) ≡ false) → PlacesLeft k s f count i first now
    → LaysStamps k s (map f (range_with_len 0 count)) first now
places_end k s f count i first now few miss left p inside = sym (skipped k s f i (count - i) p (pixel_at now p) inside (λ j l m. miss j (omega arith) l)) ∙ left p inside

-- each of a segment's dabs lies in the world
pub place_inside : (s : Stamp) (f : ℕ → Point) (a n j : ℕ) → AllInside s (map f (range_with_len a n)) → a ≤ j → j < a + n → lies_in (square (f j).x (f j).y s.r) world ≡ true
place_inside s f a zero j h l m = absurd (omega arith)
place_inside s f a (suc n) j h l m = elim (true_or_false (Rattle.std.proofs.Common.eqb a j)) [
  | inl e ↦ (let same : a ≡ j = grind (arith, nat_tests) in subst (λ i. lies_in (square (f i).x (f i).y s.r) world ≡ true) same (and_left (lies_in (square (f a).x (f a).y s.r) world) _ h))
  | inr e ↦ (let other : a + 1 ≤ j = grind (arith, nat_tests) in place_inside s f (a + 1) n j (and_right (lies_in (square (f a).x (f a).y s.r) world) _ h) other (omega arith))
]

-- ---- the block that a track leaves

-- the place of a point in the pixels of its whole tile
place_whole : (k : Key) (p : Point) → IsWorldKey k → holds (tile k) p ≡ true → 64 * (down p % 64) + across p % 64 ≡ place_in (tile k) p
place_whole k p known held =
    let n : ℕ = nat_abs (k.col +ℤ pos 256) in
    let m : ℕ = nat_abs (k.row +ℤ pos 256) in
    let c : ℕ = nat_abs (p.x -ℤ (pos 64 *ℤ k.col)) in
    let r : ℕ = nat_abs (p.y -ℤ (pos 64 *ℤ k.row)) in
    let spot : TileSpot k p n m c r = tile_spot k p known held in
    rw (rest_of p.x n c spot.x spot.col, rest_of p.y m r spot.y spot.row) (turned r c)
  where
    turned : (r c : ℕ) → 64 * r + c ≡ r * 64 + c
    turned r c = omega arith

-- all of a tile is its own part
shared_self : (k : Key) → IsShared (tile k) (tile k) (tile k)
shared_self k = record { in_a = itself k; in_b = itself k; held = λ p. twice (holds (tile k) p) }
  where
    itself : (k : Key) → IsWithin (tile k) (tile k)
    itself k = record { left = omega (arith, ints); right = omega (arith, ints); top = omega (arith, ints); bottom = omega (arith, ints) }

    twice : (b : Bool) → b ≡ (b && b)
    twice true = refl
    twice false = refl

track_block : (t : Trail) (k : Key) (s : Sight) (old new : Pixels) (b : Piece) → IsWorldKey k → list_any (lies_in (tile k)) s.rects ≡ true → HasPixels (tile k) (sight_at s) old → LaysJob k (job.Track t k) old new
    → b ≡ piece k (tile k) new → IsBlock k (tile k) (value (job.Track t k) (layer_of s)) b
track_block t k s old new b known seen has lays e = block_of k (tile k) _ new b e pixels
  where
    there : HasTile k old (layer_of s)
    there p inside =
        let held : holds (tile k) p ≡ true = tile_held k p ∙ inside in
        seen_at s (tile k) p seen held ∙ sym (ap (λ i. get_or old i clear) (place_whole k p known held) ∙ has p held)

    pixels : HasPixels (tile k) (value (job.Track t k) (layer_of s)) new
    pixels p held =
        sym (ap (λ i. get_or new i clear) (place_whole k p known held))
        ∙ sym (lays (layer_of s) there p (sym (tile_held k p) ∙ held))
        ∙ value_at (job.Track t k) s p (or-false (holds (tile k) p) ∙ held)

track_once : (t : Trail) (cell k : Key) (s : Sight) (old new : Pixels) (b : Piece) → k ≡ cell → IsDue (job.Track t cell) s k → HasPixels (tile k) (sight_at s) old → LaysJob k (job.Track t k) old new
    → b ≡ piece k (tile k) new → IsPainted (paint (job.Track t cell) s k (b ∷ []))
track_once t cell k s old new b same due has lays e =
    let seen : list_any (lies_in (tile k)) s.rects ≡ true = ap (λ (c : Key). list_any (lies_in (tile c)) s.rects) same ∙ and_left _ _ due.seen in
    let known : IsWorldKey k = due_key _ _ _ due in
    subst (λ (c : Key). IsPainted (paint (job.Track t c) s k (b ∷ []))) same
    (painted_once (job.Track t k) s k (tile k) (tile k) _ b refl known (shared_self k) (track_block t k s old new b known seen has lays e) (λ p h. refl))

-- the block on the whole tile
pub track_painted : (t : Trail) (cell k : Key) (s : Sight) (a : Area) (old new : Pixels) (b : Piece) → IsDue (job.Track t cell) s k → a ≡ tile k → HasPixels a (sight_at s) old → LaysJob k (job.Track t k) old new
    → b ≡ piece k a new → IsPainted (paint (job.Track t cell) s k (b ∷ []))
track_painted t cell k s a old new b due whole has lays e =
    track_once t cell k s old new b (key_is_cell cell k due.met) due (subst (λ (r : Area). HasPixels r (sight_at s) old) whole has) lays (e ∙ ap (λ (r : Area). piece k r new) whole)
