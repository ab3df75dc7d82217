-- The pixels of a tile with what a job makes of them.
use Rattle.std.proofs.Common.{◌≡◌, ℕ, suc, zero, ◌+◌, ◌*◌, ◌%◌, ◌<◌, Bool, true, false, ◌&&◌, ◌||◌, cond, Option, Some, None, List, [], ◌∷◌, length, take, map, refl, sym, ap, ◌∙◌, arith, replicate}
use Rattle.std.specs.Prelude.{slice_get}
use Rattle.std.specs.Option.{unwrap_or}
use Rattle.std.specs.FinMap as fin
use Rattle.std.proofs.lemmas.List.{get_or-replicate}
use Rattle.std.proofs.Math.Seq.{take-length}
use Rattle.pixel_core.specs.Rgba.{Rgba, clear}
use Rattle.geom_core.specs.Areas.{Area, holds, Point}
use Rattle.geom_core.specs.Rects.{any_holds}
use Rattle.geom_core.specs.Grid.{Key, key_of, tile}
use Rattle.geom_core.specs.Keys.{IsWorldKey}
use Rattle.geom_core.specs.Place.{across, down}
use Rattle.geom_core.proofs.Tests.{taken, kept, or-false, some_same, or_again}
use Rattle.geom_core.proofs.Tiles.{own_tile, key_same}
use Rattle.tile_core.specs.Pixels.{Pixels, pixel_at, pixel_or}
use Rattle.tile_core.specs.Blocks.{Piece, piece_at, LaysBlock}
use Rattle.tile_core.specs.Shots.{Sight, sight_at}
use Rattle.doc_model.specs.declared.job.Job.{Job}
use Rattle.doc_model.specs.Layers.{Layer, at, painted, plain}
use Rattle.doc_model.specs.Jobs.{reads, writes, apply}
use Rattle.doc_model.specs.Shots.{in_tile}
use Rattle.job_core.specs.Paints.{Paint, layer_of, HasValue, IsPainted, FillsTile}
use Rattle.job_core.proofs.WholeTiles.{some_none, value_of}
use Rattle.job_core.proofs.Values.{tile_held}
use Rattle.job_core.specs.Due.{IsDue}
use Rattle.job_core.specs.Points.{spot, LaysPoints, is_point_op}
use Rattle.doc_model.specs.declared.job.Kind.{Kind}
use Rattle.doc_model.specs.Laws.{SameOn}
use Rattle.doc_model.proofs.LayerLaws.{at-painted}
use Rattle.doc_model.proofs.Shots.{at-published}
use Rattle.doc_model.proofs.JobLaws.{laws_of_jobs}
use Rattle.whole_tiles.specs.Enough.{IsEnough}
use Rattle.whole_tiles.specs.Base.{tile_of}
use Rattle.whole_tiles.specs.Wholes.{IsNew, LaysPaint, entire, Shows, IsEntire}
use Rattle.whole_tiles.proofs.Hanging.{both_values, point_value}
use Rattle.whole_tiles.proofs.Seen.{default-layer_of, covered_seen}

-- ---- blocks laid one after another

-- what the job makes of the shot
abbrev pub made : Paint → Point → Rgba
made w p = at (apply w.job (layer_of w.shot)) p

-- these blocks are laid
abbrev pub LaidSoFar : Paint → Pixels → Pixels → List Piece → Type 0
LaidSoFar w old new bs = (p : Point) → in_tile w.key p ≡ true → pixel_at new p ≡ cond (any_holds (map (λ (b : Piece). b.rect) bs) p) (made w p) (pixel_at old p)

or_end : (a : Bool) → a ≡ (a || false)
or_end true = refl
or_end false = refl

more_held : (bs : List Piece) (i : ℕ) (b : Piece) (p : Point) → Some b ≡ slice_get bs i → any_holds (map (λ (b : Piece). b.rect) (take (suc i) bs)) p ≡ (any_holds (map (λ (b : Piece). b.rect) (take i bs)) p || holds b.rect p)
more_held [] i b p e = absurd (some_none b e)
more_held (x ∷ bs) zero b p e = ap (λ (c : Piece). holds c.rect p || false) (some_same x b (sym e)) ∙ sym (or_end (holds b.rect p))
more_held (x ∷ bs) (suc i) b p e = ap (λ h. holds x.rect p || h) (more_held bs i b p e) ∙ or_again (holds x.rect p) _ (holds b.rect p)

-- one block more
pub one_laid : (w : Paint) (old t new : Pixels) (i : ℕ) (b : Piece) → IsPainted w → Some b ≡ slice_get w.blocks i → LaysBlock t new b → LaidSoFar w old t (take i w.blocks) → LaidSoFar w old new (take (i + 1) w.blocks)
one_laid w old t new i b known e lays so p h =
    let v : HasValue w.job w.shot w.key b = value_of w i b known e in
    let inside : holds (tile b.key) p ≡ true = ap (λ k. holds (tile k) p) (v.key_is ∙ sym (key_same (key_of p) w.key h)) ∙ own_tile p in
    lays p inside ∙ go (holds b.rect p) refl v.value_is
    ∙ ap (λ c. cond c (made w p) (pixel_at old p)) (sym (more_held w.blocks i b p e)) ∙ ap (λ n. cond (any_holds (map (λ (b : Piece). b.rect) (take n w.blocks)) p) (made w p) (pixel_at old p)) (next i)
  where
    next : (i : ℕ) → suc i ≡ i + 1
    next i = omega arith

    or_true : (a : Bool) → true ≡ (a || true)
    or_true true = refl
    or_true false = refl

    go : (c : Bool) → holds b.rect p ≡ c → ((p : Point) → holds b.rect p ≡ true → piece_at b p ≡ made w p)
        → cond c (piece_at b p) (pixel_at t p) ≡ cond (any_holds (map (λ (b : Piece). b.rect) (take i w.blocks)) p || holds b.rect p) (made w p) (pixel_at old p)
    go true held value = value p held ∙ ap (λ c. cond c (made w p) (pixel_at old p)) (or_true (any_holds (map (λ (b : Piece). b.rect) (take i w.blocks)) p) ∙ ap (λ c. any_holds (map (λ (b : Piece). b.rect) (take i w.blocks)) p || c) (sym held))
    go false held value = so p h ∙ ap (λ c. cond c (made w p) (pixel_at old p)) (or_end (any_holds (map (λ (b : Piece). b.rect) (take i w.blocks)) p) ∙ ap (λ c. any_holds (map (λ (b : Piece). b.rect) (take i w.blocks)) p || c) (sym held))

-- all of them
pub all_laid : (w : Paint) (old t : Pixels) (n : ℕ) → IsPainted w → n ≡ length w.blocks → LaidSoFar w old t (take n w.blocks) → LaysPaint w old t
all_laid w old t n known e so p h = so p h ∙ ap (λ bs. cond (any_holds (map (λ (b : Piece). b.rect) bs) p) (made w p) (pixel_at old p)) (ap (λ n. take n w.blocks) e ∙ take-length w.blocks)
    ∙ ap (λ c. cond c (made w p) (pixel_at old p)) (known.covers p ∙ ap (λ c. any_holds (writes w.job) p && c) h ∙ and_true (any_holds (writes w.job) p))
  where
    and_true : (a : Bool) → (a && true) ≡ a
    and_true true = refl
    and_true false = refl

-- or one that has all points of the tile
pub whole_laid : (w : Paint) (old new : Pixels) → FillsTile w new → LaysPaint w old new
whole_laid w old new fills p h = fills.value p h ∙ sym (taken (any_holds (writes w.job) p) (made w p) (pixel_at old p) (fills.written p h))

-- ---- the shot's tile

small_place : (c r : ℕ) → 64 * (r % 64) + c % 64 < 4096
small_place c r = omega arith

-- the tile under a key has the shot's pixels
pub tile_seen : (s : Sight) (k : Key) (p : Point) → in_tile k p ≡ true → pixel_at (tile_of s k) p ≡ sight_at s p
tile_seen s k p h = go (fin.get s.tiles k) ∙ ap (λ m. pixel_or (fin.get s.tiles m) s.default_pixel p) (sym (key_same (key_of p) k h))
  where
    go : (o : Option Pixels) → pixel_at (unwrap_or o (replicate 4096 s.default_pixel)) p ≡ pixel_or o s.default_pixel p
    go None = get_or-replicate 4096 (64 * (down p % 64) + across p % 64) s.default_pixel clear (small_place (across p) (down p))
    go (Some t) = refl

-- the blocks laid on it
pub blocks_new : (job : Job) (s : Sight) (key : Key) (w : Paint) (t : Pixels) → w.job ≡ job → w.shot ≡ s → w.key ≡ key → LaysPaint w (tile_of s key) t → IsNew job s key t
blocks_new job s key w t ej es ek lays p inside =
    lays p (ap (λ k. in_tile k p) ek ∙ inside)
    ∙ (λ i. cond (any_holds (writes (ej i)) p) (at (apply (ej i) (layer_of (es i))) p) (pixel_at (tile_of s key) p))
    ∙ ap (cond (any_holds (writes job) p) (at (apply job (layer_of s)) p)) (tile_seen s key p inside)

-- ---- point operations

-- a layer with all the pixels that the shot has in a tile
abbrev whole_layer : Sight → Key → Layer
whole_layer s key = painted (tile key ∷ []) (λ _. true) (sight_at s) (plain s.default_pixel)

at-whole : (s : Sight) (key : Key) (p : Point) → in_tile key p ≡ true → at (whole_layer s key) p ≡ sight_at s p
at-whole s key p inside = at-painted (tile key ∷ []) (λ _. true) (sight_at s) (plain s.default_pixel) p
    ∙ taken ((holds (tile key) p || false) && true) (sight_at s p) _ (all_true (holds (tile key) p) (tile_held key p ∙ inside))
  where
    all_true : (b : Bool) → b ≡ true → ((b || false) && true) ≡ true
    all_true true e = refl
    all_true false e = e

-- a point operation painted on it
pub points_new : (job : Job) (kind : Kind) (s : Sight) (key : Key) (t : Pixels) → IsDue job s key → is_point_op job ≡ true → LaysPoints (spot ((kind, job) ∷ []) key) (tile_of s key) t → IsNew job s key t
points_new job kind s key t due op lays p inside =
    sym (lays (whole_layer s key) (λ q h. at-whole s key q h ∙ sym (tile_seen s key q h)) p inside)
    ∙ at-published job (whole_layer s key) key (whole_layer s key) p
    ∙ go (any_holds (writes job) p) (in_tile key p) refl inside
  where
    seen : any_holds (writes job) p ≡ true → at (whole_layer s key) p ≡ at (layer_of s) p
    seen h = at-whole s key p inside ∙ sym (covered_seen s (reads job) p due.seen (laws_of_jobs.within job p h))

    go : (b c : Bool) → any_holds (writes job) p ≡ b → c ≡ true → cond (b && c) (at (apply job (whole_layer s key)) p) (at (whole_layer s key) p) ≡ cond b (at (apply job (layer_of s)) p) (sight_at s p)
    go true true e h = both_values job (whole_layer s key) (layer_of s) p e (point_value job (whole_layer s key) (layer_of s) p op (seen e))
    go false true e h = at-whole s key p inside
    go b false e h = cc

-- ---- the tile made whole

module _ (job : Job) (s : Sight) (key : Key) (a : Area) (t : Pixels) (due : IsDue job s key) (enough : IsEnough job key a) where
  pub shows_shot : Shows a s (layer_of s)
  shows_shot = record { default_pixel = default-layer_of s; pixels = λ p h. covered_seen s (reads job) p due.seen (enough.read p h) }

  pub is_entire : IsWorldKey key → IsNew job s key t → IsEntire (entire job key a s t)
  is_entire world new = record {
    world = world;
    checked = due.checked;
    read = enough.read;
    value = λ layer shows p inside h. new p inside ∙ taken (any_holds (writes job) p) _ _ h ∙ enough.enough (layer_of s) layer (same layer shows) p inside h;
    rest = λ p inside h. new p inside ∙ kept (any_holds (writes job) p) _ _ h;
  }
    where
      same : (layer : Layer) → Shows a s layer → SameOn (a ∷ []) (layer_of s) layer
      same layer shows = record {
        default_pixel = shows_shot.default_pixel ∙ sym shows.default_pixel;
        pixels = λ p h. let held : holds a p ≡ true = sym (or-false (holds a p)) ∙ h in shows_shot.pixels p held ∙ sym (shows.pixels p held);
      }
