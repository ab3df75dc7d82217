-- Damaged parts of tiles, before and after a rectangle is added.
use Rattle.std.proofs.Common.{◌≡◌, ℕ, ◌+◌, ◌≤◌, ◌<◌, Bool, true, false, ◌&&◌, ◌||◌, cond, List, length, take, Option, Some, None, is_some, refl, ap, sym, ◌∙◌, arith, set, get_or, ltb, replicate, subst}
use Rattle.std.specs.Prelude.{ℤ, pos, negsuc, ◌+ℤ◌, ◌-ℤ◌, ◌*ℤ◌, int_le, int_lt, ◌≤ℤ◌, ◌<ℤ◌, nat_abs, slice_get}
use Rattle.std.specs.Int.{int_max, int_min}
use Rattle.std.specs.List.{list_any}
use Rattle.std.proofs.lemmas.List.Folds.{list_any_more}
use Rattle.std.proofs.lemmas.List.{take_all, get_or-replicate, get_or_past, length-replicate, get_or-set_same, get_or-set_other}
use Rattle.std.proofs.lemmas.Option.{slice_get_within, get_or_from_slice_get}
use borrow.Author.Differences.{ints}
use Rattle.geom_core.specs.Areas.{Area, area, right, bottom, meets, lies_in, point}
use Rattle.geom_core.specs.Overlaps.{bound, common, clipped, length_between}
use Rattle.geom_core.specs.Rects.{IsWithin}
use Rattle.geom_core.specs.Grid.{Key, key, same_key, tile, keys_of, floor_by, how_many}
use Rattle.geom_core.proofs.Tests.{and_left, and_right, both_true, taken, and-false}
use Rattle.geom_core.proofs.Tiles.{own_tile, key_same, key_is}
use Rattle.geom_core.proofs.Keys.{any_key_in_rows, any_count}
use Rattle.geom_core.proofs.Lying.{bound_lies, common_lies_left, common_lies_right, lies_trans}
use Rattle.frame_core.specs.Marks.{place_at, on_canvas}
use Rattle.frame_core.specs.Damage.{Parts, part_in, part_at, grown, has_all, intact, FitTiles}
use Rattle.frame_core.specs.Piece.{IsPiece}

-- whatever of the rectangle lies in the tiles of the list is damaged too
abbrev pub AddsIn : Area → List Key → Parts → Parts → Type 0
AddsIn a ks old new = (k : Key) → part_at new k ≡ cond (list_any (same_key k) ks && on_canvas k) (grown (part_at old k) (clipped a (tile k))) (part_at old k)

same_area : {x x' y y' : ℤ} {w w' h h' : ℕ} → x ≡ x' → y ≡ y' → w ≡ w' → h ≡ h' → area x y w h ≡ area x' y' w' h'
same_area e f g h i = area (e i) (f i) (g i) (h i)

-- one axis: the same once more
low_twice : (a b : ℤ) → int_min (int_min a b) b ≡ int_min a b
low_twice a b = grind (arith, ints)

span_twice : (a b : ℤ) (n m : ℕ) → nat_abs (int_max (int_min a b +ℤ pos (nat_abs (int_max (a +ℤ pos n) (b +ℤ pos m) -ℤ int_min a b))) (b +ℤ pos m) -ℤ int_min (int_min a b) b) ≡ nat_abs (int_max (a +ℤ pos n) (b +ℤ pos m) -ℤ int_min a b)
span_twice a b n m = grind (arith, ints)

bound_twice : (a b : Area) → bound (bound a b) b ≡ bound a b
bound_twice a b = same_area (low_twice a.x b.x) (low_twice a.y b.y) (span_twice a.x b.x a.w b.w) (span_twice a.y b.y a.h b.h)

low_own : (a : ℤ) → int_min a a ≡ a
low_own a = grind (arith, ints)

span_own : (a : ℤ) (n : ℕ) → nat_abs (int_max (a +ℤ pos n) (a +ℤ pos n) -ℤ int_min a a) ≡ n
span_own a n = grind (arith, ints)

bound_own : (a : Area) → bound a a ≡ a
bound_own a = same_area (low_own a.x) (low_own a.y) (span_own a.x a.w) (span_own a.y a.h)

grown_twice : (o c : Option Area) → grown (grown o c) c ≡ grown o c
grown_twice None None = refl
grown_twice None (Some b) = ap Some (bound_own b)
grown_twice (Some a) None = refl
grown_twice (Some a) (Some b) = ap Some (bound_twice a b)

both_steps : (b s n : Bool) (o c : Option Area) → cond (b && n) (grown (cond (s && n) (grown o c) o) c) (cond (s && n) (grown o c) o) ≡ cond ((s || b) && n) (grown o c) o
both_steps true true true o c = grown_twice o c
both_steps true true false o c = refl
both_steps true false true o c = refl
both_steps true false false o c = refl
both_steps false true true o c = refl
both_steps false true false o c = refl
both_steps false false true o c = refl
both_steps false false false o c = refl

pub none_added : (a : Area) (ks : List Key) (g : Parts) → AddsIn a (take 0 ks) g g
none_added a ks g k = refl

pub one_added : (a : Area) (ks : List Key) (i : ℕ) (key : Key) (old mid new : Parts) → slice_get ks i ≡ Some key → AddsIn a (take i ks) old mid
    → ((k : Key) → part_at new k ≡ cond (same_key k key && on_canvas k) (grown (part_at mid k) (clipped a (tile k))) (part_at mid k))
    → AddsIn a (take (i + 1) ks) old new
one_added a ks i key old mid new e so h k =
    let more : list_any (same_key k) (take (i + 1) ks) ≡ (list_any (same_key k) (take i ks) || same_key k key) = list_any_more (same_key k) ks i key (slice_get_within ks i key e) ∙ ap (λ x. list_any (same_key k) (take i ks) || same_key k x) (get_or_from_slice_get ks i key key e) in
    h k ∙ ap (λ o. cond (same_key k key && on_canvas k) (grown o (clipped a (tile k))) o) (so k)
    ∙ both_steps (same_key k key) (list_any (same_key k) (take i ks)) (on_canvas k) (part_at old k) (clipped a (tile k))
    ∙ ap (λ b. cond (b && on_canvas k) (grown (part_at old k) (clipped a (tile k))) (part_at old k)) (sym more)

-- one axis: a tile that is met is among the tiles
both_int : (a b c d : ℤ) → (int_le a b && int_lt c d) ≡ true → (a ≤ℤ b) × (c <ℤ d)
both_int a b c d h = grind (arith, ints)

both_lt : (a b c d : ℤ) → (int_lt a b && int_lt c d) ≡ true → (a <ℤ b) × (c <ℤ d)
both_lt a b c d h = grind (arith, ints)

le_of : (a b : ℤ) → a ≤ℤ b → int_le a b ≡ true
le_of a b h = grind (arith, ints)

lt_of : (a b : ℤ) → a <ℤ b → int_lt a b ≡ true
lt_of a b h = grind (arith, ints)

from_first : (a c f : ℤ) → (pos 64 *ℤ f) ≤ℤ a → a <ℤ ((pos 64 *ℤ c) +ℤ pos 64) → f ≤ℤ c
from_first a c f h i = omega (arith, ints)

to_last : (e c l : ℤ) → e <ℤ ((pos 64 *ℤ l) +ℤ pos 64) → (pos 64 *ℤ c) <ℤ (e +ℤ pos 1) → c ≤ℤ l
to_last e c l h i = omega (arith, ints)

one_back : (a : ℤ) (n : ℕ) → (((a +ℤ pos n) -ℤ pos 1) +ℤ pos 1) ≡ (a +ℤ pos n)
one_back a n = omega (arith, ints)

below_end : (c f l : ℤ) → f ≤ℤ c → c ≤ℤ l → c <ℤ (f +ℤ pos (how_many f l))
below_end c f l h i = omega (arith, ints)

met_piece : (a c f l : ℤ) (n : ℕ) → (int_le (pos 64 *ℤ f) a && int_lt a ((pos 64 *ℤ f) +ℤ pos 64)) ≡ true → (int_le (pos 64 *ℤ l) ((a +ℤ pos n) -ℤ pos 1) && int_lt ((a +ℤ pos n) -ℤ pos 1) ((pos 64 *ℤ l) +ℤ pos 64)) ≡ true
    → (int_lt a ((pos 64 *ℤ c) +ℤ pos 64) && int_lt (pos 64 *ℤ c) (a +ℤ pos n)) ≡ true → (int_le f c && int_lt c (f +ℤ pos (how_many f l))) ≡ true
met_piece a c f l n i j m =
    let p = both_int (pos 64 *ℤ f) a a ((pos 64 *ℤ f) +ℤ pos 64) i in
    let q = both_int (pos 64 *ℤ l) ((a +ℤ pos n) -ℤ pos 1) ((a +ℤ pos n) -ℤ pos 1) ((pos 64 *ℤ l) +ℤ pos 64) j in
    let r = both_lt a ((pos 64 *ℤ c) +ℤ pos 64) (pos 64 *ℤ c) (a +ℤ pos n) m in
    let u : f ≤ℤ c = from_first a c f p.0 r.0 in
    let v : c ≤ℤ l = to_last ((a +ℤ pos n) -ℤ pos 1) c l q.1 (subst (λ e. (pos 64 *ℤ c) <ℤ e) (sym (one_back a n)) r.1) in
    both_true _ _ (le_of f c u) (lt_of c (f +ℤ pos (how_many f l)) (below_end c f l u v))

met_along : (a c : ℤ) (n : ℕ) → (int_lt a ((pos 64 *ℤ c) +ℤ pos 64) && int_lt (pos 64 *ℤ c) (a +ℤ pos n)) ≡ true → (int_le (floor_by 64 a) c && int_lt c (floor_by 64 a +ℤ pos (how_many (floor_by 64 a) (floor_by 64 ((a +ℤ pos n) -ℤ pos 1))))) ≡ true
met_along a c n m = met_piece a c (floor_by 64 a) (floor_by 64 ((a +ℤ pos n) -ℤ pos 1)) n (and_left _ _ (own_tile (point a a))) (and_left _ _ (own_tile (point ((a +ℤ pos n) -ℤ pos 1) a))) m

met_listed : (a : Area) (k : Key) → meets a (tile k) ≡ true → list_any (same_key k) (keys_of a) ≡ true
met_listed a k m = any_key_in_rows k _ _ ∙ both_true _ _ (any_count _ k.col _ ∙ met_along a.x k.col a.w (and_left _ _ m)) (any_count _ k.row _ ∙ met_along a.y k.row a.h (and_right _ _ m))

pub no_part : (parts : Parts) (k : Key) → on_canvas k ≡ false → part_at parts k ≡ None
no_part parts k e = go (place_at k.col k.row) e
  where
    go : (p : Option ℕ) → is_some p ≡ false → part_in parts p ≡ None
    go None e = refl
    go (Some i) e = cc

grown_none : (o : Option Area) → o ≡ grown o None
grown_none None = refl
grown_none (Some a) = refl

whole_step : (s t n : Bool) (o : Option Area) (x : Area) → (t ≡ true → s ≡ true) → (n ≡ false → o ≡ None) → cond (s && n) (grown o (cond t (Some x) None)) o ≡ cond n (grown o (cond t (Some x) None)) None
whole_step true t true o x l e = refl
whole_step true t false o x l e = e refl
whole_step false true n o x l e = cc (l refl)
whole_step false false true o x l e = grown_none o
whole_step false false false o x l e = e refl

pub all_added : (a : Area) (i : ℕ) (old new : Parts) → length (keys_of a) ≤ i → AddsIn a (take i (keys_of a)) old new
    → (k : Key) → part_at new k ≡ cond (on_canvas k) (grown (part_at old k) (clipped a (tile k))) None
all_added a i old new h so k = so k
    ∙ ap (λ l. cond (list_any (same_key k) l && on_canvas k) (grown (part_at old k) (clipped a (tile k))) (part_at old k)) (take_all i (keys_of a) h)
    ∙ whole_step (list_any (same_key k) (keys_of a)) (meets a (tile k)) (on_canvas k) (part_at old k) (common a (tile k)) (met_listed a k) (no_part old k)

-- a part that has all of a rectangle does not grow round what a tile has of it
min_of : (a b : ℤ) (n m : ℕ) → (int_le a b && int_le (b +ℤ pos m) (a +ℤ pos n)) ≡ true → int_min a b ≡ a
min_of a b n m h = grind (arith, ints)

span_of : (a b : ℤ) (n m : ℕ) → (int_le a b && int_le (b +ℤ pos m) (a +ℤ pos n)) ≡ true → nat_abs (int_max (a +ℤ pos n) (b +ℤ pos m) -ℤ int_min a b) ≡ n
span_of a b n m h = grind (arith, ints)

bound_of_in : (a b : Area) → lies_in b a ≡ true → bound a b ≡ a
bound_of_in a b h = same_area (min_of a.x b.x a.w b.w (and_left _ _ h)) (min_of a.y b.y a.h b.h (and_right _ _ h)) (span_of a.x b.x a.w b.w (and_left _ _ h)) (span_of a.y b.y a.h b.h (and_right _ _ h))

stays_whole : (o : Option Area) (a t : Area) → has_all o a ≡ true → o ≡ grown o (clipped a t)
stays_whole None a t h = cc
stays_whole (Some part) a t h = go (meets a t) refl
  where
    go : (b : Bool) → meets a t ≡ b → Some part ≡ grown (Some part) (cond b (Some (common a t)) None)
    go true m = ap Some (sym (bound_of_in part (common a t) (lies_trans (common a t) a part (common_lies_left a t m) h)))
    go false m = refl

-- the whole canvas
past_end : (n i : ℕ) → ltb i n ≡ false → n ≤ i
past_end n i h = grind arith

before_end : (n i : ℕ) → ltb i n ≡ true → i < n
before_end n i h = grind arith

same_kept : {X : Type 0} (n i : ℕ) (x : X) → get_or (replicate n x) i x ≡ x
same_kept n i x = go (ltb i n) refl
  where
    go : (b : Bool) → ltb i n ≡ b → get_or (replicate n x) i x ≡ x
    go true h = get_or-replicate n i x x (before_end n i h)
    go false h = get_or_past (replicate n x) i x (rw length-replicate (past_end n i h))

pub none_intact : (k : Key) → part_at intact k ≡ None
none_intact k = go (place_at k.col k.row)
  where
    go : (p : Option ℕ) → part_in intact p ≡ None
    go None = refl
    go (Some i) = same_kept 1024 i None

own_piece : (c : ℤ) → int_le (pos 0) c ≡ true → int_lt c (pos 32) ≡ true → (int_max (pos 0) (pos 64 *ℤ c) ≡ (pos 64 *ℤ c)) × (length_between (pos 0) 2048 (pos 64 *ℤ c) 64 ≡ 64)
own_piece c l h = (grind (arith, ints), grind (arith, ints))

in_range : (c r : ℤ) → is_some (place_at c r) ≡ true → (int_le (pos 0) c && int_lt c (pos 32)) && (int_le (pos 0) r && int_lt r (pos 32)) ≡ true
in_range (pos c) (pos r) e = grind arith
in_range (pos c) (negsuc r) e = cc
in_range (negsuc c) r e = cc

met_whole : (c : ℤ) → (int_le (pos 0) c && int_lt c (pos 32)) ≡ true → (int_lt (pos 0) ((pos 64 *ℤ c) +ℤ pos 64) && int_lt (pos 64 *ℤ c) (pos 0 +ℤ pos 2048)) ≡ true
met_whole c h = grind (arith, ints)

-- of the largest canvas each tile has all of its points
tile_in_canvas : (k : Key) → on_canvas k ≡ true → clipped (area (pos 0) (pos 0) 2048 2048) (tile k) ≡ Some (tile k)
tile_in_canvas k e =
    let r : ((int_le (pos 0) k.col && int_lt k.col (pos 32)) && (int_le (pos 0) k.row && int_lt k.row (pos 32))) ≡ true = in_range k.col k.row e in
    let x = own_piece k.col (and_left _ _ (and_left _ _ r)) (and_right _ _ (and_left _ _ r)) in
    let y = own_piece k.row (and_left _ _ (and_right _ _ r)) (and_right _ _ (and_right _ _ r)) in
    taken (meets (area (pos 0) (pos 0) 2048 2048) (tile k)) (Some (common (area (pos 0) (pos 0) 2048 2048) (tile k))) None (both_true _ _ (met_whole k.col (and_left _ _ r)) (met_whole k.row (and_right _ _ r)))
    ∙ ap Some (same_area x.0 y.0 x.1 y.1)

pub all_parts : (whole : Area) (old new : Parts) → whole ≡ area (pos 0) (pos 0) 2048 2048 → old ≡ intact → ((k : Key) → part_at new k ≡ cond (on_canvas k) (grown (part_at old k) (clipped whole (tile k))) None)
    → (k : Key) → part_at new k ≡ cond (on_canvas k) (Some (tile k)) None
all_parts whole old new e f h k = h k ∙ ap (λ g. cond (on_canvas k) (grown (part_at g k) (clipped whole (tile k))) None) f ∙ ap (λ a. cond (on_canvas k) (grown (part_at intact k) (clipped a (tile k))) None) e
    ∙ ap (λ o. cond (on_canvas k) (grown o (clipped (area (pos 0) (pos 0) 2048 2048) (tile k))) None) (none_intact k) ∙ go (on_canvas k) refl
  where
    go : (b : Bool) → on_canvas k ≡ b → cond b (clipped (area (pos 0) (pos 0) 2048 2048) (tile k)) None ≡ cond b (Some (tile k)) None
    go true t = tile_in_canvas k t
    go false t = refl

pub none_fit : FitTiles intact
none_fit k a e = cc (none_intact k)

placed_once : (a b c d : ℤ) (i : ℕ) → place_at a b ≡ Some i → place_at c d ≡ Some i → (a ≡ c) × (b ≡ d)
placed_once (pos a) (pos b) (pos c) (pos d) i e f = grind arith
placed_once (pos a) (pos b) (pos c) (negsuc d) i e f = cc
placed_once (pos a) (pos b) (negsuc c) d i e f = cc
placed_once (pos a) (negsuc b) c d i e f = cc
placed_once (negsuc a) b c d i e f = cc

same_place : (k m : Key) (i : ℕ) → place_at k.col k.row ≡ Some i → place_at m.col m.row ≡ Some i → k ≡ m
same_place k m i e f = let h = placed_once k.col k.row m.col m.row i e f in λ j. key (h.0 j) (h.1 j)

pub part_set : (parts : Parts) (m : Key) (place : ℕ) (x : Option Area) → Some place ≡ place_at m.col m.row → place < length parts → (k : Key) → part_at (set parts place x) k ≡ cond (same_key k m && on_canvas k) x (part_at parts k)
part_set parts m place x e l k = go (place_at k.col k.row) refl (same_key k m) refl
  where
    go : (p : Option ℕ) → place_at k.col k.row ≡ p → (s : Bool) → same_key k m ≡ s → part_in (set parts place x) p ≡ cond (s && is_some p) x (part_in parts p)
    go None f s h = ap (λ b. cond b x None) (sym (and-false s))
    go (Some i) f true h = ap (λ j. get_or (set parts place x) j None) (at_place (sym f ∙ ap (λ (q : Key). place_at q.col q.row) (key_same k m h) ∙ sym e)) ∙ get_or-set_same parts place x None l
      where
        at_place : {i j : ℕ} → Some i ≡ Some j → i ≡ j
        at_place h = cc
    go (Some i) f false h = get_or-set_other parts place i x None (λ n. differ (sym h ∙ key_is k m (same_place k m i f (sym e ∙ ap Some (sym n)))))
      where
        differ : false ≡ true → ⊥
        differ h = cc

-- what is added in one tile
lies_of : (a b : Area) → IsWithin a b → lies_in a b ≡ true
lies_of a b h = both_true _ _ (both_true _ _ (le_of b.x a.x h.left) (le_of (right a) (right b) h.right)) (both_true _ _ (le_of b.y a.y h.top) (le_of (bottom a) (bottom b) h.bottom))

le_from : (a b : ℤ) → int_le a b ≡ true → a ≤ℤ b
le_from a b h = grind (arith, ints)

within_of : (a b : Area) → lies_in a b ≡ true → IsWithin a b
within_of a b h = record {
  left = le_from b.x a.x (and_left _ _ (and_left _ _ h));
  right = le_from (right a) (right b) (and_right _ _ (and_left _ _ h));
  top = le_from b.y a.y (and_left _ _ (and_right _ _ h));
  bottom = le_from (bottom a) (bottom b) (and_right _ _ (and_right _ _ h));
}

abbrev LiesIn : Area → Option Area → Type 0
LiesIn t o = (a : Area) → o ≡ Some a → IsWithin a t

some_is : {x y : Area} → Some x ≡ Some y → x ≡ y
some_is h = cc

grown_in : (t : Area) (o c : Option Area) → LiesIn t o → LiesIn t c → LiesIn t (grown o c)
grown_in t None c f g d e = g d e
grown_in t (Some a) None f g d e = f d e
grown_in t (Some a) (Some b) f g d e = subst (λ q. IsWithin q t) (some_is e) (within_of (bound a b) t (bound_lies a b t (lies_of a t (f a refl)) (lies_of b t (g b refl))))

clipped_in : (a t : Area) → LiesIn t (clipped a t)
clipped_in a t = go (meets a t) refl
  where
    go : (b : Bool) → meets a t ≡ b → LiesIn t (cond b (Some (common a t)) None)
    go true h d e = subst (λ q. IsWithin q t) (some_is e) (within_of (common a t) t (common_lies_right a t h))
    go false h d e = cc e

part_there : (parts : Parts) (m : Key) (place : ℕ) → Some place ≡ place_at m.col m.row → part_at parts m ≡ get_or parts place None
part_there parts m place e = ap (part_in parts) (sym e)

lies_there : (parts : Parts) (m : Key) (place : ℕ) (a : Area) (x : Option Area) → FitTiles parts → Some place ≡ place_at m.col m.row → x ≡ grown (get_or parts place None) (clipped a (tile m)) → LiesIn (tile m) x
lies_there parts m place a x f e is = subst (LiesIn (tile m)) (sym is) (grown_in (tile m) (get_or parts place None) (clipped a (tile m)) (λ b i. f m b (part_there parts m place e ∙ i)) (clipped_in a (tile m)))

pub fit_set : (parts : Parts) (m : Key) (place : ℕ) (a : Area) (x : Option Area) → FitTiles parts → Some place ≡ place_at m.col m.row → place < length parts → x ≡ grown (get_or parts place None) (clipped a (tile m)) → FitTiles (set parts place x)
fit_set parts m place a x f e l is k d h = go (same_key k m) refl (on_canvas k) (sym (part_set parts m place x e l k) ∙ h)
  where
    there : LiesIn (tile m) x
    there = lies_there parts m place a x f e is

    go : (s : Bool) → same_key k m ≡ s → (n : Bool) → cond (s && n) x (part_at parts k) ≡ Some d → IsWithin d (tile k)
    go true s true i = subst (λ (q : Key). IsWithin d (tile q)) (sym (key_same k m s)) (there d i)
    go true s false i = f k d i
    go false s n i = f k d i

-- what lies in a tile of the largest canvas is a piece
low_edge : (c a : ℤ) → int_le (pos 0) c ≡ true → (pos 64 *ℤ c) ≤ℤ a → pos 0 ≤ℤ a
low_edge c a h i = grind (arith, ints)

high_edge : (c b : ℤ) → int_lt c (pos 32) ≡ true → b ≤ℤ ((pos 64 *ℤ c) +ℤ pos 64) → b ≤ℤ pos 2048
high_edge c b h i = grind (arith, ints)

few_between : (c a : ℤ) (n : ℕ) → (pos 64 *ℤ c) ≤ℤ a → (a +ℤ pos n) ≤ℤ ((pos 64 *ℤ c) +ℤ pos 64) → n ≤ 64
few_between c a n h i = omega (arith, ints)

some_place : {o : Option ℕ} {i : ℕ} → Some i ≡ o → is_some o ≡ true
some_place h = cc

piece_in : (m : Key) (place : ℕ) (d : Area) → Some place ≡ place_at m.col m.row → IsWithin d (tile m) → IsPiece d
piece_in m place d e w =
    let r : ((int_le (pos 0) m.col && int_lt m.col (pos 32)) && (int_le (pos 0) m.row && int_lt m.row (pos 32))) ≡ true = in_range m.col m.row (some_place e) in
    record {
      left = low_edge m.col d.x (and_left _ _ (and_left _ _ r)) w.left;
      right = high_edge m.col (right d) (and_right _ _ (and_left _ _ r)) w.right;
      top = low_edge m.row d.y (and_left _ _ (and_right _ _ r)) w.top;
      bottom = high_edge m.row (bottom d) (and_right _ _ (and_right _ _ r)) w.bottom;
      cols = few_between m.col d.x d.w w.left w.right;
      rows = few_between m.row d.y d.h w.top w.bottom;
    }

pub grown_piece : (parts : Parts) (m : Key) (place : ℕ) (a : Area) (x : Option Area) → FitTiles parts → Some place ≡ place_at m.col m.row → x ≡ grown (get_or parts place None) (clipped a (tile m)) → (d : Area) → x ≡ Some d → IsPiece d
grown_piece parts m place a x f e is d h = piece_in m place d e (lies_there parts m place a x f e is d h)

part_added : (parts : Parts) (m : Key) (place : ℕ) (a : Area) (x : Option Area) → Some place ≡ place_at m.col m.row → place < length parts → x ≡ grown (get_or parts place None) (clipped a (tile m))
    → (k : Key) → part_at (set parts place x) k ≡ cond (same_key k m && on_canvas k) (grown (part_at parts k) (clipped a (tile k))) (part_at parts k)
part_added parts m place a x e l is k = part_set parts m place x e l k ∙ go (same_key k m) refl (on_canvas k)
  where
    go : (s : Bool) → same_key k m ≡ s → (n : Bool) → cond (s && n) x (part_at parts k) ≡ cond (s && n) (grown (part_at parts k) (clipped a (tile k))) (part_at parts k)
    go true s true = is ∙ ap (λ o. grown o (clipped a (tile m))) (sym (part_there parts m place e)) ∙ ap (λ (q : Key). grown (part_at parts q) (clipped a (tile q))) (sym (key_same k m s))
    go true s false = refl
    go false s n = refl

pub part_added_to : (old parts : Parts) (m : Key) (place : ℕ) (a : Area) (x : Option Area) → parts ≡ old → Some place ≡ place_at m.col m.row → place < length parts → x ≡ grown (get_or parts place None) (clipped a (tile m))
    → (k : Key) → part_at (set parts place x) k ≡ cond (same_key k m && on_canvas k) (grown (part_at old k) (clipped a (tile k))) (part_at old k)
part_added_to old parts m place a x v e l is k = part_added parts m place a x e l is k ∙ ap (λ g. cond (same_key k m && on_canvas k) (grown (part_at g k) (clipped a (tile k))) (part_at g k)) v

nothing_added : (old : Parts) (m : Key) (a : Area) → has_all (part_at old m) a ≡ true → (k : Key) → part_at old k ≡ cond (same_key k m && on_canvas k) (grown (part_at old k) (clipped a (tile k))) (part_at old k)
nothing_added old m a h k = go (same_key k m) refl (on_canvas k)
  where
    go : (s : Bool) → same_key k m ≡ s → (n : Bool) → part_at old k ≡ cond (s && n) (grown (part_at old k) (clipped a (tile k))) (part_at old k)
    go true s true = stays_whole (part_at old k) a (tile k) (ap (λ (q : Key). has_all (part_at old q) a) (key_same k m s) ∙ h)
    go true s false = refl
    go false s n = refl

pub nothing_added_to : (old parts : Parts) (m : Key) (place : ℕ) (a : Area) → parts ≡ old → Some place ≡ place_at m.col m.row → has_all (get_or parts place None) a ≡ true
    → (k : Key) → part_at old k ≡ cond (same_key k m && on_canvas k) (grown (part_at old k) (clipped a (tile k))) (part_at old k)
nothing_added_to old parts m place a v e h = nothing_added old m a (ap (λ g. has_all (part_at g m) a) (sym v) ∙ ap (λ o. has_all o a) (part_there parts m place e) ∙ h)

pub grown_as : (r o o' c c' : Option Area) → r ≡ grown o c → o ≡ o' → c ≡ c' → r ≡ grown o' c'
grown_as r o o' c c' e f g = e ∙ (λ i. grown (f i) (g i))
