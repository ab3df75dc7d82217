-- Point operations in place.
use borrow.Author.Differences.{ints}
use Rattle.std.proofs.Common.{◌≡◌, ℕ, ◌+◌, ◌*◌, ◌%◌, ◌<◌, replicate, Bool, true, false, ◌&&◌, cond, [], ◌∷◌, get_or, refl, sym, ap, subst, ◌∙◌, arith}
use Rattle.std.specs.Prelude.{IfSome, Option, Some, None, int_le, int_lt, ◌≤ℤ◌, ℤ, pos, ◌+ℤ◌, ◌-ℤ◌, ◌*ℤ◌, nat_abs}
use Rattle.pixel_core.specs.Rgba.{Rgba, clear}
use Rattle.pixel_core.specs.Compose.{compose}
use Rattle.std.proofs.lemmas.List.{get_or-replicate}
use Rattle.geom_core.specs.Place.{across, down}
use Rattle.geom_core.specs.Areas.{Area, holds, world, Point}
use Rattle.geom_core.specs.Rects.{any_holds, IsWithin, IsShared}
use Rattle.geom_core.proofs.Tests.{and_left, and_right, both_true, or_left, taken, or-false}
use Rattle.geom_core.specs.Grid.{Key, tile}
use Rattle.geom_core.specs.Keys.{IsWorldKey}
use Rattle.geom_core.proofs.Spots.{TileSpot, tile_spot}
use Rattle.tile_core.specs.declared.rows.Part.{Part}
use Rattle.tile_core.specs.Pixels.{Pixels, pixel_of, pixel_at}
use Rattle.tile_core.specs.Parts.{in_part, IsPartOf}
use Rattle.tile_core.proofs.LaidBlocks.{Axis, axis, rest_of}
use Rattle.doc_model.specs.declared.job.Job.{Job}
use Rattle.doc_model.specs.Jobs.{square, writes, value}
use Rattle.doc_model.specs.Shots.{in_tile}
use Rattle.doc_model.specs.Layers.{Layer, at}
use Rattle.doc_model.proofs.JobLaws.{at-apply}
use Rattle.job_core.specs.declared.ink.Ink.{Ink}
use Rattle.job_core.specs.declared.dabs.Brush.{Brush}
use Rattle.job_core.specs.Laid.{Change, ChangesRows, inked, LeavesAll}
use Rattle.job_core.specs.Dabs.{brushed, brushed_from}
use Rattle.job_core.specs.Points.{LaysJob}
use Rattle.job_core.specs.Tasks.{fill_of, dab_of}
use Rattle.job_core.proofs.Values.{tile_held}
use Rattle.job_core.proofs.DabValues.{Steps, steps}

chosen : (t u : Bool) (x y o o' : Rgba) → t ≡ u → o ≡ o' → (u ≡ true → x ≡ y) → cond t x o ≡ cond u y o'
chosen t true x y o o' e same h = rw e (h refl)
chosen t false x y o o' e same h = rw e same

-- where a part of a tile is changed, each point of the rectangle that it is has its change
pub tile_changed : (f : Change) (g : Point → Rgba → Rgba) (key : Key) (a : Area) (part : Part) (old new : Pixels) → IsWorldKey key → IsWithin a (tile key) → IsPartOf a part
    → ((p : Point) (d : Rgba) → holds a p ≡ true → f (nat_abs (p.x -ℤ a.x)) (nat_abs (p.y -ℤ a.y)) d ≡ g p d)
    → ChangesRows f 64 part.left part.top part.w part.h old new
    → (p : Point) → holds (tile key) p ≡ true → pixel_at new p ≡ cond (holds a p) (g p (pixel_at old p)) (pixel_at old p)
tile_changed f g key a part old new world is i same laid p held =
    let n : ℕ = nat_abs (key.col +ℤ pos 256) in
    let m : ℕ = nat_abs (key.row +ℤ pos 256) in
    let c : ℕ = nat_abs (p.x -ℤ (pos 64 *ℤ key.col)) in
    let r : ℕ = nat_abs (p.y -ℤ (pos 64 *ℤ key.row)) in
    let left : ℕ = nat_abs (a.x +ℤ pos 16384) in
    let top : ℕ = nat_abs (a.y +ℤ pos 16384) in
    let spot : TileSpot key p n m c r = tile_spot key p world held in
    let across : Axis a.x p.x c left a.w = axis a.x p.x _ n c left a.w spot.left spot.x i.x is.left is.right (rw (← i.w) i.some_w) in
    let down : Axis a.y p.y r top a.h = axis a.y p.y _ m r top a.h spot.top spot.y i.y is.top is.bottom (rw (← i.h) i.some_h) in
    let laid' : ChangesRows f 64 (left % 64) (top % 64) a.w a.h old new = rw (← i.left, ← i.top, ← i.w, ← i.h) laid in
    let at : (v : Pixels) → get_or v (r * 64 + c) clear ≡ pixel_of v c r = (λ v. ap (λ j. get_or v j clear) (turned r c)) in
    rw (rest_of p.x n c spot.x spot.col, rest_of p.y m r spot.y spot.row)
    (sym (at new) ∙ laid' c r spot.col
    ∙ chosen (in_part (left % 64) (top % 64) a.w a.h c r) (holds a p) _ (g p (pixel_of old c r)) _ (pixel_of old c r) (λ k. across.inside k && down.inside k) (at old)
    (λ t. (λ k. f (across.apart (first _ _ t) k) (down.apart (second _ _ t) k) (at old k)) ∙ same p (pixel_of old c r) t))
  where
    turned : (r c : ℕ) → r * 64 + c ≡ 64 * r + c
    turned r c = omega arith

    first : (s t : Bool) → (s && t) ≡ true → s ≡ true
    first s t e = grind arith

    second : (s t : Bool) → (s && t) ≡ true → t ≡ true
    second s t e = grind arith

and-true : (s t : Bool) → t ≡ true → (s && t) ≡ s
and-true s t e = grind arith

-- a job that changes each point of one rectangle by itself
pub lays_points : (job : Job) (key : Key) (rect part : Area) (g : Point → Rgba → Rgba) (old new : Pixels) → writes job ≡ rect ∷ []
    → ((layer : Layer) (p : Point) → value job layer p ≡ g p (at layer p)) → IsShared rect (tile key) part
    → ((p : Point) → holds (tile key) p ≡ true → pixel_at new p ≡ cond (holds part p) (g p (pixel_at old p)) (pixel_at old p))
    → LaysJob key job old new
lays_points job key rect part g old new wr each shared changed layer has p inside =
    let held : holds (tile key) p ≡ true = tile_held key p ∙ inside in
    at-apply job layer p
    ∙ chosen (any_holds (writes job) p) (holds part p) (value job layer p) (g p (pixel_at old p)) (at layer p) (pixel_at old p)
    (ap (λ rects. any_holds rects p) wr ∙ or-false (holds rect p) ∙ sym (shared.held p ∙ and-true (holds rect p) (holds (tile key) p) held))
    (has p inside) (λ _. each layer p ∙ ap (g p) (has p inside))
    ∙ sym (changed p held)

-- ---- fills

pub fill_laid : (rect part : Area) (place : Part) (ink : Ink) (key : Key) (old new : Pixels) → IsWorldKey key → IsShared rect (tile key) part → IsPartOf part place
    → ChangesRows (inked ink) 64 place.left place.top place.w place.h old new → LaysJob key (fill_of rect ink) old new
fill_laid rect part place ink key old new known shared is laid =
    lays_points (fill_of rect ink) key rect part (λ _ d. compose ink.op ink.colour d ink.strength) old new refl (λ _ _. refl) shared
    (tile_changed (inked ink) (λ _ d. compose ink.op ink.colour d ink.strength) key part place old new known shared.in_b is (λ _ _ _. refl) laid)

-- what a tile's whole rectangle has in common with another is all of it
axis_whole : (t a x : ℤ) (n : ℕ) → n ≡ 64 → t ≤ℤ a → (a +ℤ pos n) ≤ℤ (t +ℤ pos 64) → (int_le t x && int_lt x (t +ℤ pos 64)) ≡ true → (int_le a x && int_lt x (a +ℤ pos n)) ≡ true
axis_whole t a x n e low high h = grind (arith, ints)

pub covered : (rect part : Area) (key : Key) → IsShared rect (tile key) part → part.w ≡ 64 → part.h ≡ 64 → (p : Point) → in_tile key p ≡ true → holds rect p ≡ true
covered rect part key shared w h p inside =
    let held : holds (tile key) p ≡ true = tile_held key p ∙ inside in
    let whole : holds part p ≡ true = both_true _ _ (axis_whole _ part.x p.x part.w w shared.in_b.left shared.in_b.right (and_left _ _ held)) (axis_whole _ part.y p.y part.h h shared.in_b.top shared.in_b.bottom (and_right _ _ held)) in
    and_left (holds rect p) (holds (tile key) p) (sym (shared.held p) ∙ whole)

small_place : (x y : ℕ) → 64 * (y % 64) + x % 64 < 4096
small_place x y = omega arith

-- a fill that covers its tile, and leaves one pixel of each there
pub fill_plain : (rect : Area) (ink : Ink) (key : Key) (old : Pixels) (c : Rgba) → ((p : Point) → in_tile key p ≡ true → holds rect p ≡ true) → LeavesAll ink old c → LaysJob key (fill_of rect ink) old (replicate 4096 c)
fill_plain rect ink key old c covers leaves layer has p inside =
    let small : 64 * (down p % 64) + across p % 64 < 4096 = small_place (across p) (down p) in
    at-apply (fill_of rect ink) layer p
    ∙ taken (any_holds (rect ∷ []) p) _ _ (or_left (holds rect p) false (covers p inside))
    ∙ ap (λ d. compose ink.op ink.colour d ink.strength) (has p inside)
    ∙ leaves (64 * (down p % 64) + across p % 64) small
    ∙ sym (get_or-replicate 4096 (64 * (down p % 64) + across p % 64) c clear small)

-- what follows of one that is there
pub more_some : {A : Type 0} (P Q : A → Type 0) (o : Option A) → ((c : A) → P c → Q c) → IfSome o P → IfSome o Q
more_some P Q None f h = h
more_some P Q (Some c) f h = f c h

-- ---- dabs

pub dab_laid : (a part : Area) (place : Part) (brush : Brush) (ink : Ink) (key : Key) (old new : Pixels) → a ≡ square brush.x brush.y brush.r → IsWorldKey key → IsShared a (tile key) part → IsPartOf part place
    → ChangesRows (brushed_from brush ink (part.x -ℤ brush.x) (part.y -ℤ brush.y)) 64 place.left place.top place.w place.h old new → LaysJob key (dab_of brush ink) old new
dab_laid a part place brush ink key old new e known shared is laid =
    lays_points (dab_of brush ink) key (square brush.x brush.y brush.r) part (brushed_at brush ink) old new refl (λ _ _. refl) (subst (λ (b : Area). IsShared b (tile key) part) e shared)
    (tile_changed (brushed_from brush ink (part.x -ℤ brush.x) (part.y -ℤ brush.y)) (brushed_at brush ink) key part place old new known shared.in_b is
    (λ p d h. let i : Steps part.x p.x brush.x (part.x -ℤ brush.x) part.w = steps part.x p.x brush.x (part.x -ℤ brush.x) part.w refl (and_left _ _ h) in
    let j : Steps part.y p.y brush.y (part.y -ℤ brush.y) part.h = steps part.y p.y brush.y (part.y -ℤ brush.y) part.h refl (and_right _ _ h) in
    λ k. brushed brush ink (i.at k) (j.at k) d) laid)
  where
    brushed_at : Brush → Ink → Point → Rgba → Rgba
    brushed_at brush ink p d = brushed brush ink (p.x -ℤ brush.x) (p.y -ℤ brush.y) d
