-- The tiles that a job writes in are those that its rectangles meet.
use Rattle.std.proofs.Common.{◌≡◌, arith, true, ◌||◌, List, [], ◌∷◌, refl, sym, ◌∙◌}
use Rattle.std.specs.List.{list_any, AllByRecursion}
use Rattle.std.proofs.lemmas.List.Folds.{list_any-append}
use Rattle.geom_core.specs.Areas.{Area, meets, moved}
use Rattle.geom_core.specs.Grid.{Key, same_key, tile, keys_of, all_keys_of}
use Rattle.geom_core.proofs.Tests.{and_left}
use Rattle.doc_model.specs.declared.job.Job.{Job}
use Rattle.doc_model.specs.declared.job.Job.TheVariants.{Fill, Dab, Move, Blur, Track}
use Rattle.doc_model.specs.Jobs.{writes}
use Rattle.doc_model.specs.Lawful.{within_limits, of_limits}
use Rattle.geom_core.proofs.Axes.{tiles_met}
use Rattle.job_core.proofs.Values.{HasPoints, some_of_limits}
use Rattle.job_core.proofs.Keys.{square_some}

-- the rectangles that a job writes have points
pub written_some : (job : Job) → within_limits job ≡ true → AllByRecursion HasPoints (writes job)
written_some (Fill rect colour op strength) l = (some_of_limits rect l, tt)
written_some (Dab x y n soft colour op strength) l = (square_some x y n, tt)
written_some (Move rect dx dy) l = (some_of_limits rect l, (some_of_limits (moved rect dx dy) l, tt))
written_some (Blur rect n) l = (some_of_limits rect (and_left (of_limits rect) _ l), tt)
written_some (Track t cell) l = ((omega arith, omega arith), tt)

pub any_met : (rects : List Area) (k : Key) → AllByRecursion HasPoints rects → list_any (λ r. meets r (tile k)) rects ≡ list_any (same_key k) (all_keys_of rects)
any_met [] k s = refl
any_met (r ∷ rest) k s = (λ i. sym ((tiles_met r s.0.0 s.0.1).exact k) i || any_met rest k s.1 i) ∙ sym (list_any-append (same_key k) (keys_of r) (all_keys_of rest))
