-- Jobs write in tiles of the world.
use Rattle.std.proofs.Common.{◌≡◌, ℕ, ◌+◌, ◌*◌, ◌≤◌, true, ◌&&◌, List, [], ◌∷◌, sym, ap, ◌∙◌, arith, inl, inr}
use Rattle.std.specs.Prelude.{ℤ, pos, ◌+ℤ◌, ◌-ℤ◌, int_le}
use Rattle.std.specs.List.{list_any, AllByRecursion}
use Rattle.std.proofs.lemmas.List.Folds.{list_any-append}
use borrow.Author.Differences.{ints}
use Rattle.geom_core.specs.Areas.{Area, right, bottom, lies_in, meets, world}
use Rattle.geom_core.specs.Grid.{Key, same_key, tile, keys_of, all_keys_of}
use Rattle.geom_core.specs.Keys.{IsWorldKey}
use Rattle.geom_core.proofs.Tests.{and_left, and_right, both_true, or_cases}
use Rattle.tile_core.specs.Shots.{Sight}
use Rattle.doc_model.specs.declared.job.Job.{Job}
use Rattle.doc_model.specs.declared.job.Job.TheVariants.{Fill, Dab, Move, Blur, Track}
use Rattle.doc_model.specs.Jobs.{grown, square, writes, checks}
use Rattle.doc_model.specs.Lawful.{within_limits}
use Rattle.job_core.specs.Due.{IsDue}
use Rattle.job_core.proofs.Values.{HasPoints, some_of_limits, key_met, one_met, world_key}

-- a rectangle of the world with at least one point
record IsThere (a : Area) : Type 0 where
  some : HasPoints a
  inside : lies_in a world ≡ true

-- the tiles of such rectangles are the world's
listed_key : (rects : List Area) (key : Key) → AllByRecursion IsThere rects → list_any (same_key key) (all_keys_of rects) ≡ true → IsWorldKey key
listed_key [] key there h = cc
listed_key (a ∷ rects) key there h = elim (or_cases _ _ (sym (list_any-append (same_key key) (keys_of a) (all_keys_of rects)) ∙ h)) [
  | inl e ↦ world_key a key there.0.inside (key_met a key there.0.some e)
  | inr e ↦ listed_key rects key there.1 e
]

pub square_some : (x y : ℤ) (r : ℕ) → HasPoints (square x y r)
square_some x y r = (some r, some r)
  where
    some : (r : ℕ) → 1 ≤ 2 * r + 1
    some r = omega arith

inner_axis : (b e x : ℤ) (n r : ℕ) → (int_le b (x -ℤ pos r) && int_le ((x -ℤ pos r) +ℤ pos (n + 2 * r)) e) ≡ true → (int_le b x && int_le (x +ℤ pos n) e) ≡ true
inner_axis b e x n r h = grind (arith, ints)

-- a rectangle lies where it lies with more on each side
inner : (rect : Area) (r : ℕ) → lies_in (grown rect r) world ≡ true → lies_in rect world ≡ true
inner rect r h = both_true _ _
    (inner_axis world.x (right world) rect.x rect.w r (and_left _ _ h))
    (inner_axis world.y (bottom world) rect.y rect.h r (and_right (int_le world.x (grown rect r).x && int_le (right (grown rect r)) (right world)) _ h))

writes_there : (job : Job) → checks job ≡ true → within_limits job ≡ true → AllByRecursion IsThere (writes job)
writes_there (Fill rect colour op m) c l = (record { some = some_of_limits rect l; inside = and_left _ _ c }, tt)
writes_there (Dab x y r soft colour op m) c l = (record { some = square_some x y r; inside = and_left _ _ c }, tt)
writes_there (Move rect dx dy) c l = (
  record { some = some_of_limits rect l; inside = and_left _ _ c },
  (record { some = some_of_limits rect l; inside = and_left _ _ (and_right (lies_in rect world) _ c) }, tt),
)
writes_there (Blur rect r) c l = (record { some = some_of_limits rect (and_left _ _ l); inside = inner rect r (and_left _ _ c) }, tt)
writes_there (Track t cell) c l = (record { some = (omega arith, omega arith); inside = and_left (lies_in (tile cell) world) _ c }, tt)

job_key : (job : Job) (key : Key) → checks job ≡ true → within_limits job ≡ true → list_any (same_key key) (all_keys_of (writes job)) ≡ true → IsWorldKey key
job_key job key c l met = listed_key (writes job) key (writes_there job c l) met

-- a job that is due
pub due_key : (job : Job) (s : Sight) (key : Key) → IsDue job s key → IsWorldKey key
due_key job s key due = job_key job key due.checked due.limits due.met

-- a tile of a dab meets its square
pub square_met : (x y : ℤ) (r : ℕ) (a : Area) (key : Key) → a ≡ square x y r → list_any (same_key key) (all_keys_of (square x y r ∷ [])) ≡ true → meets a (tile key) ≡ true
square_met x y r a key e met = ap (λ (b : Area). meets b (tile key)) e ∙ one_met (square x y r) key (square_some x y r) met
