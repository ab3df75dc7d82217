-- What a job leaves as it is.
use Rattle.std.proofs.Common.{◌≡◌, ℕ, ◌+◌, ◌*◌, ◌%◌, ◌<◌, ◌≤◌, Bool, true, false, ◌&&◌, cond, [], ◌∷◌, length, replicate, refl, sym, ap, ◌∙◌, subst, arith, leb}
use Rattle.std.specs.Prelude.{ℤ, pos, ◌+ℤ◌, ◌-ℤ◌, ◌≤ℤ◌, ◌<ℤ◌, int_le, int_lt, nat_abs, slice_index_or}
use Rattle.std.proofs.lemmas.List.{get_or-replicate}
use Rattle.std.proofs.Math.Nat.{mul-le-mul_left, mul-le-mul_right}
use Rattle.std.proofs.lemmas.Bool.Decides.{nat_tests}
use borrow.Author.Differences.{ints}
use Rattle.pixel_core.specs.Rgba.{Rgba, clear}
use Rattle.pixel_core.specs.Canonical.{IsCanonical}
use Rattle.pixel_core.specs.Compose.{compose, mul}
use Rattle.pixel_core.specs.declared.blending.Op.{Op}
use Rattle.pixel_core.proofs.Rounding.{laws_of_mul}
use Rattle.pixel_core.proofs.ComposeLaws.{unseen_leaves}
use Rattle.brush_mask.specs.Mask.{mask, distance2}
use Rattle.brush_mask.proofs.MaskLaws.{laws_of_the_circle}
use Rattle.geom_core.specs.Areas.{Area, holds, Point}
use Rattle.geom_core.specs.Rects.{any_holds}
use Rattle.geom_core.specs.Grid.{Key, tile}
use Rattle.geom_core.specs.Place.{IsOffset, across, down}
use Rattle.geom_core.proofs.Tests.{and_left, and_right}
use Rattle.tile_core.specs.Pixels.{Pixels}
use Rattle.tile_core.specs.Shots.{Sight}
use Rattle.doc_model.specs.declared.job.Job.{Job}
use Rattle.doc_model.specs.declared.job.Kind.{Kind}
use Rattle.doc_model.specs.declared.job.Job.TheVariants.{Dab}
use Rattle.doc_model.specs.Layers.{at}
use Rattle.doc_model.proofs.LayerLaws.{layer_ext}
use Rattle.doc_model.specs.Jobs.{writes, value, apply}
use Rattle.doc_model.specs.Shots.{in_tile}
use Rattle.doc_model.proofs.JobLaws.{at-apply}
use Rattle.doc_model.proofs.Shots.{at-published, default-published}
use Rattle.job_core.specs.Due.{IsDue}
use Rattle.job_core.specs.Points.{spot, LaysPoints, is_point_op}
use Rattle.job_core.proofs.Values.{tile_held}
use Rattle.whole_tiles.specs.Base.{tile_of}
use Rattle.whole_tiles.specs.Wholes.{IsNew}
use Rattle.whole_tiles.specs.Circles.{LieApart, LiesOutside, LeavesTile, AllCanonical}
use Rattle.whole_tiles.proofs.News.{points_new}

within : (t q : ℤ) (n : ℕ) → (int_le t q && int_lt q (t +ℤ pos n)) ≡ true → (t ≤ℤ q) × (q <ℤ (t +ℤ pos n))
within t q n h = grind (arith, ints)

-- a number of the 64 lies that far from the centre
apart : (d n a : ℕ) (t x q : ℤ) → LieApart d n a → IsOffset n x → IsOffset a t → (t ≤ℤ q) × (q <ℤ (t +ℤ pos 64)) → d ≤ nat_abs (q -ℤ x)
apart d n a t x q far e f h =
    let low = h.0 in
    let high = h.1 in
    let some : pos 0 ≤ℤ (q +ℤ pos 16384) = omega (arith, ints) in
    let first : a ≤ nat_abs (q +ℤ pos 16384) = omega (arith, ints) in
    let last : nat_abs (q +ℤ pos 16384) < a + 64 = omega (arith, ints) in
    let there : d ≤ nat_abs (pos (nat_abs (q +ℤ pos 16384)) -ℤ pos n) = far (nat_abs (q +ℤ pos 16384)) first last in
    omega (arith, ints)

squares : (a b : ℕ) → a ≤ b → a * a ≤ b * b
squares a b h = omega (arith, mul-le-mul_left a h, mul-le-mul_right b h)

farther : (r a b c d : ℕ) → a ≤ c → b ≤ d → r * r < a * a + b * b → r * r < c * c + d * d
farther r a b c d p q h = omega (arith, squares a c p, squares b d q)

over : (a b c : ℕ) → leb (a + b) c ≡ false → c < a + b
over a b c h = grind (arith, nat_tests)

-- a tile that lies so far from the centre
pub outside : (key : Key) (x y : ℤ) (r n m a b d e : ℕ) (t : Area) → t ≡ tile key → IsOffset n x → IsOffset m y → IsOffset a t.x → IsOffset b t.y → LieApart d n a → LieApart e m b → (u v w : ℕ) → u ≡ d * d → v ≡ e * e → w ≡ r * r → leb (u + v) w ≡ false → LiesOutside key x y r
outside key x y r n m a b d e t is nx my ax by far down u v w eu ev ew h p held =
    let there : holds (tile key) p ≡ true = tile_held key p ∙ held in
    let across : IsOffset a (tile key).x = ax ∙ ap (λ (s : Area). s.x) is in
    let below : IsOffset b (tile key).y = by ∙ ap (λ (s : Area). s.y) is in
    let more : w < u + v = over u v w h in
    let long : r * r < d * d + e * e = omega arith in
    farther r d e (nat_abs (p.x -ℤ x)) (nat_abs (p.y -ℤ y))
    (apart d n a (tile key).x x p.x far nx across (within (tile key).x p.x 64 (and_left _ _ there)))
    (apart e m b (tile key).y y p.y down my below (within (tile key).y p.y 64 (and_right (int_le (tile key).x p.x && int_lt p.x ((tile key).x +ℤ pos 64)) _ there)))
    long

-- outside its circle a dab leaves a canonical pixel
left_alone : (op : Op) (s d : Rgba) (r : ℕ) (soft : Bool) (dx dy : ℤ) (strength : ℕ) → r * r < distance2 dx dy → IsCanonical d → compose op s d (mul (mask r soft dx dy) strength) ≡ d
left_alone op s d r soft dx dy strength far known = unseen_leaves op s d (mul (mask r soft dx dy) strength) (ap (mul s.a) none ∙ laws_of_mul.nothing s.a) known
  where
    none : mul (mask r soft dx dy) strength ≡ 0
    none = ap (λ m. mul m strength) (laws_of_the_circle.outside r soft dx dy far) ∙ laws_of_mul.either_way 0 strength ∙ laws_of_mul.nothing strength

same_either_way : (b : Bool) (x y : Rgba) → (b ≡ true → x ≡ y) → cond b x y ≡ y
same_either_way true x y e = e refl
same_either_way false x y e = refl

-- a dab leaves a tile outside its circle
pub dab_leaves : (x y : ℤ) (r : ℕ) (soft : Bool) (colour : Rgba) (op : Op) (strength : ℕ) (key : Key) → LiesOutside key x y r → LeavesTile (Dab x y r soft colour op strength) key
dab_leaves x y r soft colour op strength key far layer known = layer_ext _ _ (default-published job layer key layer)
    (λ p. at-published job layer key layer p ∙ same_either_way (any_holds (writes job) p && in_tile key p) (at (apply job layer) p) (at layer p) (λ h. alone p (and_right (any_holds (writes job) p) _ h)))
  where
    job : Job
    job = Dab x y r soft colour op strength

    alone : (p : Point) → in_tile key p ≡ true → at (apply job layer) p ≡ at layer p
    alone p h = at-apply job layer p ∙ same_either_way (any_holds (writes job) p) (value job layer p) (at layer p) (λ _. left_alone op colour (at layer p) r soft (p.x -ℤ x) (p.y -ℤ y) strength (far p h) (known p h))

-- a tile that a job leaves as it is has the job's pixels
pub left_new : (job : Job) (kind : Kind) (s : Sight) (key : Key) → IsDue job s key → is_point_op job ≡ true → LeavesTile job key → AllCanonical (tile_of s key) → IsNew job s key (tile_of s key)
left_new job kind s key due op leaves known = points_new job kind s key (tile_of s key) due op still
  where
    still : LaysPoints (spot ((kind, job) ∷ []) key) (tile_of s key) (tile_of s key)
    still layer has p h = ap (λ l. at l p) (leaves layer (λ q there. subst IsCanonical (sym (has q there)) (known q))) ∙ has p h

-- the pixels of a tile, one by one
pub each_canonical : (t : Pixels) → length t ≡ 4096 → ((k : ℕ) → k < length t → IsCanonical (slice_index_or t k clear)) → AllCanonical t
each_canonical t len each p = each (64 * (down p % 64) + across p % 64) (omega (arith, len))

pub plain_canonical : (c : Rgba) → IsCanonical c → AllCanonical (replicate 4096 c)
plain_canonical c known p = subst IsCanonical (sym (get_or-replicate 4096 (64 * (down p % 64) + across p % 64) c clear (omega arith))) known
