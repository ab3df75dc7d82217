-- What a move leaves.
use Rattle.std.proofs.Common.{◌≡◌, ℕ, ◌+◌, ◌*◌, ◌≤◌, Bool, true, false, ◌&&◌, ◌||◌, cond, List, [], ◌∷◌, ◌++◌, get_or, replicate, refl, sym, ap, ◌∙◌, subst, arith, ◌⊎◌, inl, inr, append-nil, Option, Some, None}
use Rattle.std.specs.Prelude.{ℤ, pos, ◌+ℤ◌, ◌-ℤ◌, ◌≤ℤ◌, negsuc, int_le, int_lt, nat_abs, Result, Ok, Err, OnErr, IfOk, IfSome, IfNone, option_to_list}
use Rattle.std.specs.Result.{IsOk}
use Rattle.std.specs.List.{list_any}
use borrow.Author.Differences.{ints}
use Rattle.std.proofs.lemmas.List.Folds.{list_any-append}
use Rattle.std.proofs.lemmas.List.Elements.{All-from_recursion}
use Rattle.pixel_core.specs.Rgba.{Rgba, clear}
use Rattle.geom_core.specs.Areas.{Area, holds, right, bottom, lies_in, meets, moved, world, Point, point}
use Rattle.geom_core.specs.Overlaps.{clipped, common}
use Rattle.geom_core.specs.Rects.{any_holds, place_in, IsWithin, IsShared}
use Rattle.geom_core.specs.Grid.{Key, same_key, tile, keys_of}
use Rattle.geom_core.proofs.Tests.{and_left, and_right, both_true, or_left, or_right, or_cases, taken}
use Rattle.tile_core.specs.Blocks.{Piece}
use Rattle.tile_core.specs.Shots.{Sight, sight_at}
use Rattle.tile_core.specs.Pixels.{HasPixels}
use Rattle.tile_core.proofs.Taken.{within_holds, plain_pixels}
use Rattle.doc_model.specs.declared.job.Job.TheVariants.{Move}
use Rattle.doc_model.specs.Jobs.{apply, value}
use Rattle.doc_model.specs.Layers.{at, plain}
use Rattle.doc_model.proofs.LayerLaws.{default-painted, default-plain}
use Rattle.job_core.specs.Paints.{layer_of, paint, HasValue, IsPainted}
use Rattle.job_core.specs.Due.{IsDue}
use Rattle.job_core.specs.Laid.{LaysOver}
use Rattle.job_core.specs.Made.{IsBlock, IsStep, brought, left_at}
use Rattle.job_core.proofs.Values.{HasPoints, some_of_limits, key_met, seen_at, value_at, has_value, tile_held}
use Rattle.job_core.proofs.Keys.{due_key}

-- ---- rectangles moved

-- what lies in the world when it is moved back
back_axis : (x d : ℤ) (y : ℤ) (u : ℤ) (n : ℕ) → y ≡ (x +ℤ d) → u ≡ (pos 0 -ℤ d) → (y +ℤ u) ≡ x
back_axis x d y u n e f = omega (arith, ints)

pub moved_back : (a to : Area) (dx dy u v : ℤ) → to ≡ moved a dx dy → u ≡ (pos 0 -ℤ dx) → v ≡ (pos 0 -ℤ dy) → lies_in a world ≡ true → lies_in (moved to u v) world ≡ true
moved_back a to dx dy u v e eu ev l = (λ i. lies_in (there i) world) ∙ l
  where
    across : (moved to u v).x ≡ a.x
    across = back_axis a.x dx to.x u a.w (λ i. (e i).x) eu

    down : (moved to u v).y ≡ a.y
    down = back_axis a.y dy to.y v a.h (λ i. (e i).y) ev

    there : moved to u v ≡ a
    there i = record { x = across i; y = down i; w = (e i).w; h = (e i).h }

within_axis : (b x y : ℤ) (n m : ℕ) (u : ℤ) (e : ℤ) → y ≤ℤ x → (x +ℤ pos n) ≤ℤ (y +ℤ pos m) → (int_le b (y +ℤ u) && int_le ((y +ℤ u) +ℤ pos m) e) ≡ true → (int_le b (x +ℤ u) && int_le ((x +ℤ u) +ℤ pos n) e) ≡ true
within_axis b x y n m u e p q h = grind (arith, ints)

-- and so does each part of it
pub moved_part : (c a : Area) (u v u' v' : ℤ) → u' ≡ u → v' ≡ v → IsWithin c a → lies_in (moved a u v) world ≡ true → lies_in (moved c u' v') world ≡ true
moved_part c a u v u' v' eu ev is l = (λ i. lies_in (moved c (eu i) (ev i)) world) ∙ both_true _ _
    (within_axis world.x c.x a.x c.w a.w u (right world) is.left is.right (and_left _ _ l))
    (within_axis world.y c.y a.y c.h a.h v (bottom world) is.top is.bottom (and_right (int_le world.x (moved a u v).x && int_le (right (moved a u v)) (right world)) _ l))

same_axis : (r c : ℤ) (n m : ℕ) (o : ℤ) (k : ℕ) → r ≤ℤ c → (c +ℤ pos m) ≤ℤ (r +ℤ pos n) → m ≡ n → o ≤ℤ c → (c +ℤ pos m) ≤ℤ (o +ℤ pos k) → (o ≤ℤ r) × ((r +ℤ pos n) ≤ℤ (o +ℤ pos k))
same_axis r c n m o k p q e s t = (omega (arith, ints), omega (arith, ints))

-- a rectangle whose part in another is as large as itself
pub within_other : (rect other part : Area) → IsShared rect other part → part.w ≡ rect.w → part.h ≡ rect.h → IsWithin rect other
within_other rect other part s ew eh =
    let x : (other.x ≤ℤ rect.x) × (right rect ≤ℤ right other) = same_axis rect.x part.x rect.w part.w other.x other.w s.in_a.left s.in_a.right ew s.in_b.left s.in_b.right in
    let y : (other.y ≤ℤ rect.y) × (bottom rect ≤ℤ bottom other) = same_axis rect.y part.y rect.h part.h other.y other.h s.in_a.top s.in_a.bottom eh s.in_b.top s.in_b.bottom in
    record { left = x.0; right = x.1; top = y.0; bottom = y.1 }

pub ok_of : {E : Type 0} (r : Result Area E) (a : Area) → OnErr r (lies_in a world ≡ false) → lies_in a world ≡ true → IsOk r
ok_of (Ok x) a f t = refl
ok_of (Err e) a f t = absurd (let u : true ≡ false = sym t ∙ f in cc)

pub value_of : {E : Type 0} (r : Result Area E) (x a : Area) → r ≡ Ok x → IfOk r (λ c. c ≡ a) → x ≡ a
value_of r x a e h = subst (λ q. IfOk q (λ c. c ≡ a)) e h

-- ---- pixels

shifted : (a d b : ℤ) (n : ℕ) → (int_le (a +ℤ d) b && int_lt b ((a +ℤ d) +ℤ pos n)) ≡ (int_le a (b -ℤ d) && int_lt (b -ℤ d) (a +ℤ pos n))
shifted a d b n = grind (arith, ints)

-- a point that a move brings something to got it from the moved rectangle
from_source : (a : Area) (dx dy : ℤ) (p : Point) → holds (moved a dx dy) p ≡ true → holds a (point (p.x -ℤ dx) (p.y -ℤ dy)) ≡ true
from_source a dx dy p h = both_true _ _ (sym (shifted a.x dx p.x a.w) ∙ and_left _ _ h) (sym (shifted a.y dy p.y a.h) ∙ and_right (int_le (moved a dx dy).x p.x && int_lt p.x (right (moved a dx dy))) _ h)

back_held : (a d b : ℤ) (n : ℕ) → (int_le a b && int_lt b (a +ℤ pos n)) ≡ true → (int_le (a +ℤ (pos 0 -ℤ d)) (b -ℤ d) && int_lt (b -ℤ d) ((a +ℤ (pos 0 -ℤ d)) +ℤ pos n)) ≡ true
back_held a d b n h = grind (arith, ints)

back_place : (a d b : ℤ) → nat_abs ((b -ℤ d) -ℤ (a +ℤ (pos 0 -ℤ d))) ≡ nat_abs (b -ℤ a)
back_place a d b = ap nat_abs (go a d b)
  where
    go : (a d b : ℤ) → ((b -ℤ d) -ℤ (a +ℤ (pos 0 -ℤ d))) ≡ (b -ℤ a)
    go a d b = omega (arith, ints)

-- the pixels of a rectangle moved back are those that the move brings to it
pub brought_pixels : (a from : Area) (s : Sight) (dx dy : ℤ) (ps : List Rgba) → from ≡ moved a (pos 0 -ℤ dx) (pos 0 -ℤ dy) → HasPixels from (sight_at s) ps → HasPixels a (brought s dx dy) ps
brought_pixels a from s dx dy ps e has p h =
    let there : HasPixels (moved a (pos 0 -ℤ dx) (pos 0 -ℤ dy)) (sight_at s) ps = subst (λ (b : Area). HasPixels b (sight_at s) ps) e has in
    let place : place_in (moved a (pos 0 -ℤ dx) (pos 0 -ℤ dy)) (point (p.x -ℤ dx) (p.y -ℤ dy)) ≡ place_in a p = λ i. back_place a.y dy p.y i * a.w + back_place a.x dx p.x i in
    ap (λ n. get_or ps n clear) (sym place)
    ∙ there (point (p.x -ℤ dx) (p.y -ℤ dy)) (both_true _ _ (back_held a.x dx p.x a.w (and_left _ _ h)) (back_held a.y dy p.y a.h (and_right _ _ h)))

pub brought_as : (a : Area) (s : Sight) (dx dy dx' dy' : ℤ) (ps : List Rgba) → dx' ≡ dx → dy' ≡ dy → HasPixels a (brought s dx' dy') ps → HasPixels a (brought s dx dy) ps
brought_as a s dx dy dx' dy' ps ex ey has p h = has p h ∙ (λ i. brought s (ex i) (ey i) p)

pub left_as : (a : Area) (s : Sight) (to : Area) (dx dy dx' dy' : ℤ) (ps : List Rgba) → dx' ≡ dx → dy' ≡ dy → HasPixels a (left_at s to dx' dy') ps → HasPixels a (left_at s to dx dy) ps
left_as a s to dx dy dx' dy' ps ex ey has p h = has p h ∙ (λ i. left_at s to (ex i) (ey i) p)

pub block_left_as : (k : Key) (a : Area) (s : Sight) (to : Area) (dx dy dx' dy' : ℤ) (b : Piece) → dx' ≡ dx → dy' ≡ dy → IsBlock k a (left_at s to dx' dy') b → IsBlock k a (left_at s to dx dy) b
block_left_as k a s to dx dy dx' dy' b ex ey is = record { key_is = is.key_is; rect_is = is.rect_is; pixels = left_as a s to dx dy dx' dy' b.pixels ex ey is.pixels }

pub block_brought_as : (k : Key) (a : Area) (s : Sight) (dx dy dx' dy' : ℤ) (b : Piece) → dx' ≡ dx → dy' ≡ dy → IsBlock k a (brought s dx' dy') b → IsBlock k a (brought s dx dy) b
block_brought_as k a s dx dy dx' dy' b ex ey is = record { key_is = is.key_is; rect_is = is.rect_is; pixels = brought_as a s dx dy dx' dy' b.pixels ex ey is.pixels }

no_more : (t u : Bool) (x y z : Rgba) → t ≡ (true && u) → (t ≡ true → x ≡ z) → cond t x y ≡ cond u z y
no_more t true x y z e s = rw e (s e)
no_more t false x y z e s = rw e refl

-- the default pixels of a part, with what is brought to it laid over
pub left_pixels : (a to part : Area) (s : Sight) (dx dy dx' dy' : ℤ) (old new src src' : List Rgba) → dx' ≡ dx → dy' ≡ dy → IsShared a to part → old ≡ replicate (a.h * a.w) s.default_pixel → src ≡ src' → HasPixels part (brought s dx' dy') src'
    → LaysOver a part src old new → HasPixels a (left_at s to dx dy) new
left_pixels a to part s dx dy dx' dy' old new src src' ex ey shared plain es has laid p h =
    laid p h
    ∙ ap (cond (holds part p) (get_or src (place_in part p) clear)) (ap (λ ps. get_or ps (place_in a p) clear) plain ∙ plain_pixels a s.default_pixel p h)
    ∙ no_more (holds part p) (holds to p) _ s.default_pixel _ (shared.held p ∙ ap (λ t. t && holds to p) h) (λ k. ap (λ ps. get_or ps (place_in part p) clear) es ∙ has p k ∙ (λ i. brought s (ex i) (ey i) p))

none_moved : (t : Bool) (x y z : Rgba) → t ≡ false → y ≡ z → y ≡ cond t x z
none_moved t x y z f e = rw f e

-- the default pixels of a part that nothing is brought to
pub plain_left : (a to : Area) (s : Sight) (dx dy : ℤ) (ps : List Rgba) → ((p : Point) → holds a p ≡ true → holds to p ≡ false) → ps ≡ replicate (a.h * a.w) s.default_pixel → HasPixels a (left_at s to dx dy) ps
plain_left a to s dx dy ps apart plain p h = none_moved (holds to p) _ _ _ (apart p h) (ap (λ qs. get_or qs (place_in a p) clear) plain ∙ plain_pixels a s.default_pixel p h)

-- where a rectangle and a tile are apart, the rectangle's points in the tile are in any other
pub not_apart : (a t tk to : Area) → t ≡ tk → ((p : Point) → holds a p ≡ true → holds t p ≡ false) → (p : Point) → holds a p ≡ true → holds tk p ≡ true → holds to p ≡ true
not_apart a t tk to e apart p h k =
    let u : true ≡ false = sym k ∙ ap (λ (b : Area). holds b p) (sym e) ∙ apart p h in cc

-- a part in a tile that lies in another rectangle
pub all_moved : (a t tk part to : Area) → t ≡ tk → IsShared a t part → IsWithin part to → (p : Point) → holds a p ≡ true → holds tk p ≡ true → holds to p ≡ true
all_moved a t tk part to e shared is p h k = within_holds part to p is (shared.held p ∙ both_true _ _ h (ap (λ (b : Area). holds b p) e ∙ k))

pub some_left : (a t tk part to : Area) (key : Key) (s : Sight) (dx dy dx' dy' : ℤ) (b : Piece) → t ≡ tk → dx' ≡ dx → dy' ≡ dy → IsShared a t part → IsBlock key part (left_at s to dx' dy') b
    → IsShared a tk b.rect × IsBlock key b.rect (left_at s to dx dy) b
some_left a t tk part to key s dx dy dx' dy' b e ex ey shared is = (
  subst (λ r. IsShared a tk r) (sym is.rect_is) (subst (λ u. IsShared a u part) e shared),
  subst (λ r. IsBlock key r (left_at s to dx dy) b) (sym is.rect_is) (block_left_as key part s to dx dy dx' dy' b ex ey is),
)

-- ---- what a move may rest on

pub step_as : (dx dy dx' dy' : ℤ) → dx' ≡ dx → dy' ≡ dy → IsStep dx dy → IsStep dx' dy'
step_as dx dy dx' dy' ex ey is = subst (λ x. IsStep x dy') (sym ex) (subst (λ y. IsStep dx y) (sym ey) is)

step_axis : (x d : ℤ) (n : ℕ) → 1 ≤ n → (int_le (negsuc 16383) x && int_le (x +ℤ pos n) (negsuc 16383 +ℤ pos 32768)) ≡ true → (int_le (negsuc 16383) (x +ℤ d) && int_le ((x +ℤ d) +ℤ pos n) (negsuc 16383 +ℤ pos 32768)) ≡ true → (negsuc 32766 ≤ℤ d) × (d ≤ℤ pos 32767)
step_axis x d n some h k = (low x d n some h k, high x d n some h k)
  where
    low : (x d : ℤ) (n : ℕ) → 1 ≤ n → (int_le (negsuc 16383) x && int_le (x +ℤ pos n) (negsuc 16383 +ℤ pos 32768)) ≡ true → (int_le (negsuc 16383) (x +ℤ d) && int_le ((x +ℤ d) +ℤ pos n) (negsuc 16383 +ℤ pos 32768)) ≡ true → negsuc 32766 ≤ℤ d
    low x d n some h k = grind (arith, ints)

    high : (x d : ℤ) (n : ℕ) → 1 ≤ n → (int_le (negsuc 16383) x && int_le (x +ℤ pos n) (negsuc 16383 +ℤ pos 32768)) ≡ true → (int_le (negsuc 16383) (x +ℤ d) && int_le ((x +ℤ d) +ℤ pos n) (negsuc 16383 +ℤ pos 32768)) ≡ true → d ≤ℤ pos 32767
    high x d n some h k = grind (arith, ints)

module _ (rect : Area) (dx dy : ℤ) (s : Sight) (key : Key) where
  in_world : IsDue (Move rect dx dy) s key → lies_in rect world ≡ true
  in_world due = and_left _ _ due.checked

  moved_in_world : IsDue (Move rect dx dy) s key → lies_in (moved rect dx dy) world ≡ true
  moved_in_world due = and_left _ _ (and_right (lies_in rect world) _ due.checked)

  pub move_in_world : IsDue (Move rect dx dy) s key → lies_in rect world ≡ true
  move_in_world due = in_world due

  pub move_step : IsDue (Move rect dx dy) s key → IsStep dx dy
  move_step due =
      let some : HasPoints rect = some_of_limits rect due.limits in
      record {
        across = step_axis rect.x dx rect.w some.0 (and_left _ _ (in_world due)) (and_left _ _ (moved_in_world due));
        down = step_axis rect.y dy rect.h some.1 (and_right (int_le world.x rect.x && int_le (right rect) (right world)) _ (in_world due)) (and_right (int_le world.x (moved rect dx dy).x && int_le (right (moved rect dx dy)) (right world)) _ (moved_in_world due));
      }

  -- the move's rectangle or the moved one meets the tile
  pub move_met : IsDue (Move rect dx dy) s key → (meets rect (tile key) ≡ true) ⊎ (meets (moved rect dx dy) (tile key) ≡ true)
  move_met due =
      let some : HasPoints rect = some_of_limits rect due.limits in
      let either : (list_any (same_key key) (keys_of rect) || list_any (same_key key) (keys_of (moved rect dx dy))) ≡ true =
      ap (λ t. list_any (same_key key) (keys_of rect) || t) (ap (list_any (same_key key)) (sym (append-nil (keys_of (moved rect dx dy)))))
      ∙ sym (list_any-append (same_key key) (keys_of rect) (keys_of (moved rect dx dy) ++ [])) ∙ due.met in
      elim (or_cases _ _ either) [
        | inl e ↦ inl (key_met rect key some e)
        | inr e ↦ inr (key_met (moved rect dx dy) key some e)
      ]

  -- where the moved rectangle doesn't meet the tile, the other one does
  pub source_met : (to t : Area) → IsDue (Move rect dx dy) s key → to ≡ moved rect dx dy → t ≡ tile key → None ≡ clipped to t → meets rect (tile key) ≡ true
  source_met to t due e et none = elim (move_met due) [
    | inl m ↦ m
    | inr m ↦ absurd (no_clip to t (ap (λ (a : Area). meets a t) e ∙ ap (meets (moved rect dx dy)) et ∙ m) none)
  ]
    where
      no_clip : (a b : Area) → meets a b ≡ true → None ≡ clipped a b → ⊥
      no_clip a b m n = let e : clipped a b ≡ Some (common a b) = rw m refl in cc

  -- ---- what a move leaves

  default_is : (layer_of s).default_pixel ≡ s.default_pixel
  unfolding layer_of
  default_is = default-painted s.rects (λ _. true) (sight_at s) (plain s.default_pixel) ∙ default-plain s.default_pixel

  one_or_default : (t : Bool) (x y g h : Rgba) → (t ≡ true → x ≡ y) → g ≡ h → cond t x g ≡ cond t y h
  one_or_default true x y g h e same = e refl
  one_or_default false x y g h e same = same

  left_value : (p : Point) → IsDue (Move rect dx dy) s key → left_at s (moved rect dx dy) dx dy p ≡ value (Move rect dx dy) (layer_of s) p
  left_value p due = one_or_default (holds (moved rect dx dy) p) _ _ _ _ (λ h. sym (seen_at s rect (point (p.x -ℤ dx) (p.y -ℤ dy)) (and_left _ _ due.seen) (from_source rect dx dy p h))) (sym default_is)

  written : (p : Point) → any_holds (rect ∷ moved rect dx dy ∷ []) p ≡ true → IsDue (Move rect dx dy) s key → left_at s (moved rect dx dy) dx dy p ≡ at (apply (Move rect dx dy) (layer_of s)) p
  written p h due = left_value p due ∙ sym (value_at (Move rect dx dy) s p h)

  source_value : (part : Area) (b : Piece) → IsDue (Move rect dx dy) s key → IsShared rect (tile key) part → IsBlock key part (left_at s (moved rect dx dy) dx dy) b → HasValue (Move rect dx dy) s key b
  source_value part b due shared is = has_value (Move rect dx dy) s key part _ b is (λ p h. written p (or_left (holds rect p) (holds (moved rect dx dy) p || false) (and_left (holds rect p) (holds (tile key) p) (sym (shared.held p) ∙ h))) due)

  target_value : (part : Area) (b : Piece) → IsDue (Move rect dx dy) s key → IsShared (moved rect dx dy) (tile key) part → IsBlock key part (brought s dx dy) b → HasValue (Move rect dx dy) s key b
  target_value part b due shared is = has_value (Move rect dx dy) s key part _ b is (λ p h.
      let there : holds (moved rect dx dy) p ≡ true = and_left (holds (moved rect dx dy) p) (holds (tile key) p) (sym (shared.held p) ∙ h) in
      sym (taken (holds (moved rect dx dy) p) (brought s dx dy p) s.default_pixel there) ∙ written p (or_right (holds rect p) (holds (moved rect dx dy) p || false) (or_left (holds (moved rect dx dy) p) false there)) due)

  held_in : (part a : Area) (p : Point) → IsShared a (tile key) part → holds part p ≡ (holds a p && holds (tile key) p)
  held_in part a p shared = shared.held p

  source_only : (r t k : Bool) → (t ≡ true → k ≡ false) → ((r && k) || false) ≡ ((r || (t || false)) && k)
  source_only true true k h = let e : k ≡ false = h refl in rw e refl
  source_only true false true h = refl
  source_only true false false h = refl
  source_only false true k h = let e : k ≡ false = h refl in rw e refl
  source_only false false k h = refl

  target_only : (r t k : Bool) → (r ≡ true → k ≡ true → t ≡ true) → ((t && k) || false) ≡ ((r || (t || false)) && k)
  target_only true true true h = refl
  target_only true true false h = refl
  target_only true false true h = h refl refl
  target_only true false false h = refl
  target_only false true true h = refl
  target_only false true false h = refl
  target_only false false k h = refl

  both_there : (r t k : Bool) → ((t && k) || ((r && k) || false)) ≡ ((r || (t || false)) && k)
  both_there true true true = refl
  both_there true true false = refl
  both_there true false true = refl
  both_there true false false = refl
  both_there false true true = refl
  both_there false true false = refl
  both_there false false k = refl

  in_the_tile : (p : Point) (x : Bool) → x ≡ ((holds rect p || (holds (moved rect dx dy) p || false)) && holds (tile key) p) → x ≡ ((holds rect p || (holds (moved rect dx dy) p || false)) && Rattle.doc_model.specs.Shots.in_tile key p)
  in_the_tile p x e = e ∙ ap (λ t. (holds rect p || (holds (moved rect dx dy) p || false)) && t) (tile_held key p)

  -- a tile that the moved rectangle doesn't meet
  pub painted_source : (to t part : Area) (b : Piece) → IsDue (Move rect dx dy) s key → to ≡ moved rect dx dy → t ≡ tile key → ((p : Point) → holds to p ≡ true → holds t p ≡ false) → IsShared rect (tile key) part
      → IsBlock key part (left_at s to dx dy) b → IsPainted (paint (Move rect dx dy) s key (b ∷ []))
  painted_source to t part b due e et apart shared is = record {
    key_is = due_key _ _ _ due;
    values = All-from_recursion (HasValue (Move rect dx dy) s key) (b ∷ []) (source_value part b due shared (subst (λ (a : Area). IsBlock key part (left_at s a dx dy) b) e is), tt);
    covers = λ p. in_the_tile p _ (ap (λ (a : Area). holds a p || false) is.rect_is ∙ ap (λ u. u || false) (shared.held p)
        ∙ source_only (holds rect p) (holds (moved rect dx dy) p) (holds (tile key) p) (λ h. ap (λ (a : Area). holds a p) (sym et) ∙ apart p (ap (λ (a : Area). holds a p) e ∙ h)));
  }

  -- a tile that the moved rectangle meets
  pub painted_both : (to t part : Area) (dx' dy' : ℤ) (b : Piece) (second : Option Piece) → dx' ≡ dx → dy' ≡ dy → IsDue (Move rect dx dy) s key → to ≡ moved rect dx dy → t ≡ tile key → IsShared to t part → IsBlock key part (brought s dx dy) b
      → IfNone second ((p : Point) → holds rect p ≡ true → holds (tile key) p ≡ true → holds to p ≡ true)
      → IfSome second (λ c. IsShared rect (tile key) c.rect × IsBlock key c.rect (left_at s to dx' dy') c)
      → IsPainted (paint (Move rect dx dy) s key (b ∷ option_to_list second))
  painted_both to t part dx' dy' b None ex ey due e et shared is none some =
      let there : IsShared (moved rect dx dy) (tile key) part = subst (λ (a : Area). IsShared a (tile key) part) e (subst (λ (a : Area). IsShared to a part) et shared) in
      record {
        key_is = due_key _ _ _ due;
        values = All-from_recursion (HasValue (Move rect dx dy) s key) (b ∷ []) (target_value part b due there is, tt);
        covers = λ p. in_the_tile p _ (ap (λ (a : Area). holds a p || false) is.rect_is ∙ ap (λ u. u || false) (there.held p)
            ∙ target_only (holds rect p) (holds (moved rect dx dy) p) (holds (tile key) p) (λ h k. ap (λ (a : Area). holds a p) (sym e) ∙ none p h k));
      }
  painted_both to t part dx' dy' b (Some c) ex ey due e et shared is none some =
      let there : IsShared (moved rect dx dy) (tile key) part = subst (λ (a : Area). IsShared a (tile key) part) e (subst (λ (a : Area). IsShared to a part) et shared) in
      record {
        key_is = due_key _ _ _ due;
        values = All-from_recursion (HasValue (Move rect dx dy) s key) (b ∷ c ∷ []) (target_value part b due there is, (source_value c.rect c due some.0 (subst (λ (a : Area). IsBlock key c.rect (left_at s a dx dy) c) e (block_left_as key c.rect s to dx dy dx' dy' c ex ey some.1)), tt));
        covers = λ p. in_the_tile p _ (ap (λ (a : Area). holds a p || (holds c.rect p || false)) is.rect_is ∙ (λ i. there.held p i || (some.0.held p i || false))
            ∙ both_there (holds rect p) (holds (moved rect dx dy) p) (holds (tile key) p));
      }
