-- The jobs of a track of the limits check.
use Rattle.std.proofs.Common.{◌≡◌, ◌≤◌, ◌<◌, ◌+◌, ◌*◌, ℕ, suc, zero, Bool, true, false, ◌&&◌, ◌||◌, List, [], ◌∷◌, map, length, refl, sym, ap, ◌∙◌, subst, arith, inl, inr}
use Rattle.std.specs.Prelude.{ℤ, pos, ◌+ℤ◌, ◌*ℤ◌, int_le, int_lt, nat_le, All}
use Rattle.std.specs.List.{AllByRecursion, list_all, list_any}
use Rattle.std.proofs.lemmas.Bool.Decides.{nat_tests}
use borrow.Author.Differences.{ints}
use Rattle.geom_core.specs.Areas.{Point, Area, lies_in, meets, world, right, bottom}
use Rattle.geom_core.specs.Grid.{Key, same_key, tile}
use Rattle.geom_core.proofs.Tests.{and_left, and_right, both_true, or_cases, or_left, or_right}
use Rattle.geom_core.proofs.Tiles.{key_is}
use Rattle.doc_model.specs.declared.job.Job.{Job}
use Rattle.doc_model.specs.declared.job.Job.TheVariants as job
use Rattle.doc_model.specs.Trails.{Trail, centres}
use Rattle.doc_model.specs.Jobs.{squares, checks}
use Rattle.doc_model.specs.Lawful.{within_limits}
use Rattle.brush_path.specs.Cells.{is_met, cells, jobs, jobs_in}
use Rattle.brush_path.proofs.Tiled.{tiles_are_met}

axis_in : (x c : ℤ) (n : ℕ) → (int_le world.x x && int_le (x +ℤ pos n) (right world)) ≡ true → (int_lt x ((pos 64 *ℤ c) +ℤ pos 64) && int_lt (pos 64 *ℤ c) (x +ℤ pos n)) ≡ true
    → (int_le world.x (pos 64 *ℤ c) && int_le ((pos 64 *ℤ c) +ℤ pos 64) (right world)) ≡ true
axis_in x c n h k = grind (arith, ints)

-- a tile that meets a rectangle of the world lies in the world
tile_in : (a : Area) (k : Key) → lies_in a world ≡ true → meets a (tile k) ≡ true → lies_in (tile k) world ≡ true
tile_in a k h m = both_true _ _
    (axis_in a.x k.col a.w (and_left _ _ h) (and_left _ _ m))
    (axis_in a.y k.row a.h (and_right (int_le world.x a.x && int_le (right a) (right world)) _ h) (and_right (int_lt a.x ((pos 64 *ℤ k.col) +ℤ pos 64) && int_lt (pos 64 *ℤ k.col) (right a)) _ m))

met_in : (areas : List Area) (k : Key) → list_all (λ a. lies_in a world) areas ≡ true → list_any (λ a. meets a (tile k)) areas ≡ true → lies_in (tile k) world ≡ true
met_in [] k h m = absurd (never m)
  where
    never : false ≡ true → ⊥
    never e = cc
met_in (a ∷ rest) k h m = elim (or_cases (meets a (tile k)) (list_any (λ b. meets b (tile k)) rest) m) [
  | inl e ↦ tile_in a k (and_left (lies_in a world) (list_all (λ b. lies_in b world) rest) h) e
  | inr e ↦ met_in rest k (and_right (lies_in a world) (list_all (λ b. lies_in b world) rest) h) e
]

sound_in : (t : Trail) (ks : List Key) → length (centres t) ≤ 4096 → list_all (λ a. lies_in a world) (squares t) ≡ true → ((k : Key) → list_any (same_key k) ks ≡ true → is_met t k ≡ true)
    → AllByRecursion (λ (j : Job). (checks j && within_limits j) ≡ true) (jobs_in t ks)
sound_in t [] few h met = tt
sound_in t (k ∷ ks) few h met = (
  both_true _ _ (both_true _ _ (met_in (squares t) k h (met k (or_left _ _ (key_is k k refl)))) h) (small (length (centres t)) few),
  sound_in t ks few h (λ q e. met q (or_right (same_key q k) _ e)),
)
  where
    small : (n : ℕ) → n ≤ 4096 → nat_le n 4096 ≡ true
    small n l = grind (arith, nat_tests)

pub jobs_sound : (t : Trail) → length (centres t) ≤ 4096 → list_all (λ a. lies_in a world) (squares t) ≡ true → AllByRecursion (λ (j : Job). (checks j && within_limits j) ≡ true) (jobs t)
jobs_sound t few h = sound_in t (cells t) few h (λ k e. sym ((tiles_are_met t).exact k) ∙ e)
