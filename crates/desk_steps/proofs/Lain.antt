-- What was painted of a tile, laid on the tile.
use Rattle.std.proofs.Common.{◌≡◌, ℕ, suc, zero, ◌+◌, Bool, true, false, ◌&&◌, ◌||◌, cond, Option, Some, None, List, [], ◌∷◌, length, take, is_some, refl, sym, ap, ◌∙◌, subst, arith, inl, inr, map, replicate}
use Rattle.std.specs.Prelude.{All, slice_get}
use Rattle.std.specs.Option.{unwrap_or}
use Rattle.std.specs.FinMap as fin
use Rattle.std.proofs.lemmas.Option.{slice_get_cases}
use Rattle.std.proofs.Math.Seq.{take-length}
use Rattle.geom_core.specs.Areas.{holds, Point}
use Rattle.geom_core.specs.Rects.{any_holds}
use Rattle.geom_core.specs.Grid.{Key, key_of, same_key, tile}
use Rattle.geom_core.specs.Keys.{key_cmp_total, key_cmp-IsAntisymmetric}
use Rattle.geom_core.proofs.Tests.{taken, kept, some_same, or_again}
use Rattle.geom_core.proofs.Tiles.{own_tile, key_same, key_is}
use Rattle.pixel_core.specs.Rgba.{Rgba}
use Rattle.tile_core.specs.Pixels.{Pixels, pixel_at, pixel_or}
use Rattle.tile_core.specs.Blocks.{Piece, piece_at, LaysBlock}
use Rattle.memento_core.specs.Planes.{tile_under}
use Rattle.doc_model.specs.declared.job.Job.{Job}
use Rattle.doc_model.specs.Layers.{Layer, at}
use Rattle.doc_model.proofs.LayerLaws.{layer_ext}
use Rattle.doc_model.specs.Jobs.{writes, apply}
use Rattle.doc_model.specs.Shots.{published, in_tile}
use Rattle.doc_model.proofs.Shots.{at-published, default-published}
use Rattle.job_core.specs.Paints as paints
use Rattle.job_core.specs.Paints.{Paint, Stuff, Makes, HasValue}
use Rattle.paint_device.specs.InPlace.{LaysUnder}
use Rattle.paint_device.specs.Seen.{layer_of}
use Rattle.paint_device.specs.Sheets.{Sheet, sheet, sheet_at, tile_or, with_under, readied}
use Rattle.desk_steps.specs.Tiles.{IsLaid, IsLaidFrom}
use Rattle.paint_device.proofs.Shown.{at-layer_of, default-layer_of}
use Rattle.paint_device.proofs.Writes.{pixel_or-tile_or, seen_after_exchange, ready_keeps_pixels}

-- where no tile stands, a plain one has the same pixels
pub plain_at : (s : Sheet) (k : Key) (p : Point) → in_tile k p ≡ true → tile_under s.tiles k ≡ None → pixel_at (replicate 4096 s.default_pixel) p ≡ sheet_at s p
plain_at s k p h none = sym (pixel_or-tile_or None s.default_pixel p) ∙ ap (λ o. pixel_or o s.default_pixel p) (sym none ∙ ap (tile_under s.tiles) (sym (key_same (key_of p) k h)))

-- and the tile that stands there has them
pub tile_at : (s : Sheet) (k : Key) (t : Pixels) (p : Point) → in_tile k p ≡ true → Some t ≡ tile_under s.tiles k → pixel_at t p ≡ sheet_at s p
tile_at s k t p h there = ap (λ o. pixel_or o s.default_pixel p) (there ∙ ap (tile_under s.tiles) (sym (key_same (key_of p) k h)))

-- what stands there, or a plain tile, has them
pub stands_at : (s : Sheet) (k : Key) (p : Point) → in_tile k p ≡ true → pixel_at (tile_or (tile_under s.tiles k) s.default_pixel) p ≡ sheet_at s p
stands_at s k p h = sym (pixel_or-tile_or (tile_under s.tiles k) s.default_pixel p) ∙ ap (λ m. pixel_or (tile_under s.tiles m) s.default_pixel p) (sym (key_same (key_of p) k h))

some_none : {A : Type 0} (x : A) → Some x ≡ None → ⊥
some_none x e = cc

-- what the job makes of the shot
abbrev pub made : Paint → Point → Rgba
made w p = at (apply w.job (paints.layer_of w.shot)) p

-- the key of what a painting left
pub key_made : (w : Paint) (x : Stuff) → Makes w x → x.key ≡ w.key
key_made w x m = ap (λ (x : Stuff). x.key) (sym m.is)

-- these blocks are laid
pub LaidSoFar : Stuff → Sheet → Pixels → List Piece → Type 0
LaidSoFar x s t bs = (w : Paint) → Makes w x → (p : Point) → in_tile w.key p ≡ true → pixel_at t p ≡ cond (any_holds (map (λ (b : Piece). b.rect) bs) p) (made w p) (sheet_at s p)

pub none_laid : (x : Stuff) (s : Sheet) (t : Pixels) (k : Key) → k ≡ x.key → ((p : Point) → in_tile k p ≡ true → pixel_at t p ≡ sheet_at s p) → LaidSoFar x s t (take 0 x.blocks)
unfolding LaidSoFar
none_laid x s t k e same w m p h = same p (ap (λ m. in_tile m p) (e ∙ key_made w x m) ∙ h)

or_end : (a : Bool) → a ≡ (a || false)
or_end true = refl
or_end false = refl

more_held : (bs : List Piece) (i : ℕ) (b : Piece) (p : Point) → Some b ≡ slice_get bs i → any_holds (map (λ (b : Piece). b.rect) (take (suc i) bs)) p ≡ (any_holds (map (λ (b : Piece). b.rect) (take i bs)) p || holds b.rect p)
more_held [] i b p e = absurd (some_none b e)
more_held (x ∷ bs) zero b p e = ap (λ (c : Piece). holds c.rect p || false) (some_same x b (sym e)) ∙ sym (or_end (holds b.rect p))
more_held (x ∷ bs) (suc i) b p e = ap (λ h. holds x.rect p || h) (more_held bs i b p e) ∙ or_again (holds x.rect p) _ (holds b.rect p)

value_at : (w : Paint) (bs : List Piece) (i : ℕ) (b : Piece) → All (HasValue w.job w.shot w.key) bs → Some b ≡ slice_get bs i → HasValue w.job w.shot w.key b
value_at w bs i b all e = elim (slice_get_cases bs i).1 [
  | inl f ↦ subst (HasValue w.job w.shot w.key) (f.3 ∙ some_same f.0 b (sym f.2 ∙ sym e)) (all i f.0 f.1)
  | inr f ↦ absurd (some_none b (e ∙ f.1))
]

value_made : (w : Paint) (x : Stuff) (i : ℕ) (b : Piece) → Makes w x → Some b ≡ slice_get x.blocks i → HasValue w.job w.shot w.key b
value_made w x i b m e = value_at w x.blocks i b (subst (λ (x : Stuff). All (HasValue w.job w.shot w.key) x.blocks) m.is m.painted.values) e

covers_made : (w : Paint) (x : Stuff) → Makes w x → (p : Point) → any_holds (map (λ (b : Piece). b.rect) x.blocks) p ≡ (any_holds (writes w.job) p && in_tile w.key p)
covers_made w x m p = ap (λ (x : Stuff). any_holds (map (λ (b : Piece). b.rect) x.blocks) p) (sym m.is) ∙ m.painted.covers p

-- one block more
pub one_laid : (x : Stuff) (s : Sheet) (t new : Pixels) (i : ℕ) (b : Piece) → Some b ≡ slice_get x.blocks i → LaysBlock t new b → LaidSoFar x s t (take i x.blocks) → LaidSoFar x s new (take (i + 1) x.blocks)
unfolding LaidSoFar
one_laid x s t new i b e lays so w m p h =
    let v : HasValue w.job w.shot w.key b = value_made w x i b m e in
    let inside : holds (tile b.key) p ≡ true = ap (λ k. holds (tile k) p) (v.key_is ∙ sym (key_same (key_of p) w.key h)) ∙ own_tile p in
    lays p inside ∙ go (holds b.rect p) refl v.value_is
    ∙ ap (λ c. cond c (made w p) (sheet_at s p)) (sym (more_held x.blocks i b p e)) ∙ ap (λ n. cond (any_holds (map (λ (b : Piece). b.rect) (take n x.blocks)) p) (made w p) (sheet_at s p)) (next i)
  where
    next : (i : ℕ) → suc i ≡ i + 1
    next i = omega arith

    or_true : (a : Bool) → true ≡ (a || true)
    or_true true = refl
    or_true false = refl

    go : (c : Bool) → holds b.rect p ≡ c → ((p : Point) → holds b.rect p ≡ true → piece_at b p ≡ made w p)
        → cond c (piece_at b p) (pixel_at t p) ≡ cond (any_holds (map (λ (b : Piece). b.rect) (take i x.blocks)) p || holds b.rect p) (made w p) (sheet_at s p)
    go true held value = value p held ∙ ap (λ c. cond c (made w p) (sheet_at s p)) (or_true (any_holds (map (λ (b : Piece). b.rect) (take i x.blocks)) p) ∙ ap (λ c. any_holds (map (λ (b : Piece). b.rect) (take i x.blocks)) p || c) (sym held))
    go false held value = so w m p h ∙ ap (λ c. cond c (made w p) (sheet_at s p)) (or_end (any_holds (map (λ (b : Piece). b.rect) (take i x.blocks)) p) ∙ ap (λ c. any_holds (map (λ (b : Piece). b.rect) (take i x.blocks)) p || c) (sym held))

-- the tile with all of the blocks
pub all_laid : (x : Stuff) (s : Sheet) (t : Pixels) (n : ℕ) → n ≡ length x.blocks → LaidSoFar x s t (take n x.blocks) → IsLaidFrom x s t
unfolding LaidSoFar
all_laid x s t n e so w m p h = so w m p h ∙ ap (λ bs. cond (any_holds (map (λ (b : Piece). b.rect) bs) p) (made w p) (sheet_at s p)) (ap (λ n. take n x.blocks) e ∙ take-length x.blocks)
    ∙ ap (λ c. cond c (made w p) (sheet_at s p)) (covers_made w x m p ∙ ap (λ c. any_holds (writes w.job) p && c) h ∙ and_true (any_holds (writes w.job) p))
  where
    and_true : (a : Bool) → (a && true) ≡ a
    and_true true = refl
    and_true false = refl

-- with the one block laid the tile that stood there is the tile with all of the blocks
pub one_block_laid : (x : Stuff) (s : Sheet) (before after : Pixels) (b : Piece) → length x.blocks ≡ 1 → Some b ≡ slice_get x.blocks 0 → tile_under s.tiles x.key ≡ Some before → LaysBlock before after b → IsLaidFrom x s after
one_block_laid x s before after b one e was lays = all_laid x s after 1 (sym one) (one_laid x s before after 0 b e lays (none_laid x s before x.key refl (λ p h. tile_at s x.key before p h (sym was))))

pub ready_there : (s : Sheet) (k : Key) → fin.contains_key (readied s k).tiles k ≡ true
ready_there s k = go (fin.contains_key s.tiles k) refl
  where
    go : (b : Bool) → fin.contains_key s.tiles k ≡ b → fin.contains_key (cond b s (with_under s k None)).tiles k ≡ true
    go true e = e
    go false e = ap is_some (fin.get-insert key_cmp_total s.tiles k None k ∙ taken (same_key k k) (Some None) _ (key_is k k refl))

-- where a tile stands, the key is there already
pub ready_stands : (s : Sheet) (k : Key) → is_some (tile_under s.tiles k) ≡ true → readied s k ≡ s
ready_stands s k h = taken (fin.contains_key s.tiles k) s (with_under s k None) (there (fin.get s.tiles k) h)
  where
    there : (o : Option (Option Pixels)) → is_some (unwrap_or o None) ≡ true → is_some o ≡ true
    there None h = h
    there (Some t) h = refl

pub ready_default : (s : Sheet) (k : Key) → (readied s k).default_pixel ≡ s.default_pixel
ready_default s k = go (fin.contains_key s.tiles k)
  where
    go : (b : Bool) → (cond b s (with_under s k None)).default_pixel ≡ s.default_pixel
    go true = refl
    go false = refl

-- a key that comes in changes no pixel of the layer
pub ready_layer : (s : Sheet) (k : Key) → layer_of (readied s k) ≡ layer_of s
ready_layer s k = layer_ext _ _ (default-layer_of (readied s k) ∙ ready_default s k ∙ sym (default-layer_of s)) (λ p. at-layer_of (readied s k) p ∙ ready_keeps_pixels s k p ∙ sym (at-layer_of s p))

-- another tile under a key that came in
pub with_readied : (s : Sheet) (k : Key) (t : Option Pixels) → with_under (readied s k) k t ≡ with_under s k t
with_readied s k t = go (fin.contains_key s.tiles k)
  where
    again : (q : Key) (b : Bool) → cond b (Some t) (cond b (Some None) (fin.get s.tiles q)) ≡ cond b (Some t) (fin.get s.tiles q)
    again q true = refl
    again q false = refl

    go : (b : Bool) → with_under (cond b s (with_under s k None)) k t ≡ with_under s k t
    go true = refl
    go false = ap (sheet s.default_pixel) (fin.same_map key_cmp_total key_cmp-IsAntisymmetric _ _ (λ q.
        fin.get-insert key_cmp_total (fin.insert s.tiles k None) k t q ∙ ap (cond (same_key q k) (Some t)) (fin.get-insert key_cmp_total s.tiles k None q) ∙ again q (same_key q k) ∙ sym (fin.get-insert key_cmp_total s.tiles k t q)))

-- where no tile stands, a plain one adds nothing
pub plain_adds_nothing : (s : Sheet) (k : Key) (t : Pixels) → tile_under s.tiles k ≡ None → t ≡ replicate 4096 s.default_pixel → layer_of (with_under s k (Some t)) ≡ layer_of s
plain_adds_nothing s k t none plain = layer_ext _ _
    (default-layer_of (with_under s k (Some t)) ∙ sym (default-layer_of s))
    (λ p. at-layer_of (with_under s k (Some t)) p ∙ seen_after_exchange s k (Some t) p ∙ go p (in_tile k p) refl ∙ sym (at-layer_of s p))
  where
    go : (p : Point) (b : Bool) → in_tile k p ≡ b → cond (in_tile k p) (pixel_at t p) (sheet_at s p) ≡ sheet_at s p
    go p true h = taken (in_tile k p) _ _ h ∙ ap (λ (u : Pixels). pixel_at u p) plain ∙ plain_at s k p h none
    go p false h = kept (in_tile k p) _ _ h

-- with that tile the layer has what was painted
pub laid_layer : (job : Job) (shot : Layer) (k : Key) (s : Sheet) (t : Pixels) → IsLaid job shot k s t → layer_of (with_under s k (Some t)) ≡ published job shot k (layer_of s)
laid_layer job shot k s t is = layer_ext _ _
    (default-layer_of (with_under s k (Some t)) ∙ sym (default-published job shot k (layer_of s) ∙ default-layer_of s))
    (λ p. at-layer_of (with_under s k (Some t)) p ∙ seen_after_exchange s k (Some t) p ∙ go p (in_tile k p) refl ∙ sym (at-published job shot k (layer_of s) p ∙ ap (cond _ (at (apply job shot) p)) (at-layer_of s p)))
  where
    and_true : (a : Bool) → a ≡ (a && true)
    and_true true = refl
    and_true false = refl

    and_false : (a : Bool) → false ≡ (a && false)
    and_false true = refl
    and_false false = refl

    go : (p : Point) (b : Bool) → in_tile k p ≡ b → cond (in_tile k p) (pixel_at t p) (sheet_at s p) ≡ cond (any_holds (writes job) p && in_tile k p) (at (apply job shot) p) (sheet_at s p)
    go p true h = taken (in_tile k p) _ _ h ∙ is p h ∙ ap (λ c. cond c (at (apply job shot) p) (sheet_at s p)) (and_true (any_holds (writes job) p) ∙ ap (λ c. any_holds (writes job) p && c) (sym h))
    go p false h = kept (in_tile k p) _ _ h ∙ ap (λ c. cond c (at (apply job shot) p) (sheet_at s p)) (and_false (any_holds (writes job) p) ∙ ap (λ c. any_holds (writes job) p && c) (sym h))

-- the same where it was laid in place
pub changed_layer : (job : Job) (shot : Layer) (R : Pixels → Pixels → Type 0) (old new : Sheet) (k : Key) → LaysUnder R old new k → ((before after : Pixels) → tile_under old.tiles k ≡ Some before → R before after → IsLaid job shot k old after) → layer_of new ≡ published job shot k (layer_of old)
changed_layer job shot R old new k l is = ap layer_of l.new_is ∙ laid_layer job shot k old l.after (is l.before l.after l.was l.lays)
