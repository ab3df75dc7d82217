-- The slots of the workers, as contracts see them: for each place what is at work there, or None.
use Rattle.std.specs.Prelude.{ℕ, List, Option, Some, None, slice_get, refl}
use Rattle.std.specs.List.{filter_map}
use Rattle.std.specs.Option.{unwrap_or}
use Rattle.std.specs.Coded.{Coded, code_by, coded×, coded_option}
use Rattle.geom_core.specs.Areas.{Area}
use Rattle.geom_core.specs.Rects.{area_code}
use Rattle.slot_core.specs.declared.Busy.{Busy}

-- the work, and where it walks
abbrev pub busy : {W : Type 0} → W → Option Area → Busy W
busy work walker = record { work = work; walker = walker }

-- what is at work at a place. None where the place is free or isn't there
abbrev pub busy_at : {W : Type 0} → ℕ → List (Option (Busy W)) → Option (Busy W)
busy_at place slots = unwrap_or (slice_get slots place) None

-- the work of a place, if something is at work there
abbrev pub work_in : {W : Type 0} → Option (Option (Busy W)) → Option W
work_in None = None
work_in (Some None) = None
work_in (Some (Some b)) = Some b.work

-- the work at a place. None where the place is free or isn't there
abbrev pub work_at : {W : Type 0} → ℕ → List (Option (Busy W)) → Option W
work_at place slots = work_in (slice_get slots place)

-- where a place's work walks, if it does
abbrev pub walker_in : {W : Type 0} → Option (Busy W) → Option Area
walker_in None = None
walker_in (Some b) = b.walker

-- the rectangles of the walkers, from the first place on
abbrev pub walkers : {W : Type 0} → List (Option (Busy W)) → List Area
walkers slots = filter_map walker_in slots

-- the code by which contracts tell what is at work apart
abbrev pub busy_code : {W : Type 0} → Coded W → Coded (Busy W)
busy_code {W} code = code_by (W × Option Area) (coded× code (coded_option area_code)) (λ b. (b.work, b.walker)) (λ t. busy t.0 t.1) (λ _. refl)
