-- What a desk does at once, and small jobs, leave the root's cache as it is.
use Rattle.std.proofs.Common.{◌≡◌, ℕ, refl, subst}
use Rattle.geom_core.specs.Areas.{Area}
use Rattle.doc_model.specs.declared.canvas.Patch.{Patch}
use Rattle.machine_model.specs.Event.{Start, WalkStart}
use Rattle.machine_model.specs.State.{State}
use Rattle.machine_model.specs.Step.{Step}
use Rattle.desk_state.specs.Choices.{DoesAtOnce}
use Rattle.desk_events.specs.SmallJobs.{PaintsSmall, small_events}
use Rattle.desk_core.specs.Roots.{RootStays}
use Rattle.desk_core.proofs.KeptRoots.{run_root, step_root, untouched_at_once, untouched_small}
use Rattle.host_lines.specs.declared.answer.Answer.TheVariants as answer
use Rattle.host_pieces.specs.declared.piece.Piece.TheVariants as piece
use Rattle.host_desk.specs.Taking.{Took}

-- what a take does at once
pub did_took : (d s t : State) (before now : ℕ) → d ≡ s → DoesAtOnce d t before now → Took s answer.Again piece.Empty t
did_took d s t before now is did =
    let told : DoesAtOnce s t before now = subst (λ (x : State). DoesAtOnce x t before now) is did in
    (refl, (before, now, told), λ p. step_root p s t told.event (untouched_at_once p told.event told.at_once) told.step)

pub start_keeps : (s t : State) (place : ℕ) → Step s (Start place) t → RootStays s t
start_keeps s t place step p = step_root p s t (Start place) refl step

pub walk_start_keeps : (s t : State) (place : ℕ) (patch : Patch) → Step s (WalkStart place patch) t → RootStays s t
walk_start_keeps s t place patch step p = step_root p s t (WalkStart place patch) refl step

-- small jobs that are painted in place
pub small_keeps : (s t : State) (bound : Area) → PaintsSmall s bound t → RootStays s t
small_keeps s t bound h p = run_root p (small_events h.place h.key h.count) s t (untouched_small p h.place h.key h.count) h.run
