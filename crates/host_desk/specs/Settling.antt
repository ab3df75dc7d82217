-- What is done in a call.
use Rattle.std.specs.Prelude.{◌≡◌, false}
use Rattle.std.specs.List.{list_all}
use Rattle.geom_core.specs.Areas.{Area}
use Rattle.doc_model.specs.Feeding.{is_closed_entry}
use Rattle.doc_model.specs.Strokes.{entries}
use Rattle.script_lines.specs.declared.cause.Cause.TheVariants.{StrokeLeft}
use Rattle.machine_model.specs.State.{State}
use Rattle.desk_state.specs.Settles.{Settles}
use Rattle.desk_events.specs.SmallJobs.{PaintsSmall}
use Rattle.host_lines.specs.declared.answer.Answer.{Answer}
use Rattle.host_lines.specs.declared.answer.Answer.TheVariants as answer
use Rattle.desk_core.specs.Roots.{RootStays}
use Rattle.host_desk.specs.Taking.{IsAllDone}

-- small jobs were painted, or none; no pixel of the root's picture changed
abbrev pub Painted : State → Answer → State → Type 0
Painted s answer.Done t = ((bound : Area) × PaintsSmall s bound t) × RootStays s t
Painted s answer.Nothing t = t ≡ s
Painted s answer.NoMemory t = t ≡ s
Painted s a t = ⊥

-- events other than feeding happened
pub record IsSettling (s t : State) : Type 0 where
  pub runs : Settles s t
  pub canvas : t.canvas ≡ s.canvas
  pub fed : t.fed ≡ s.fed

-- all that was left was done, or some of it; but nothing where a stroke is open
abbrev pub AllDone : State → Answer → State → Type 0
AllDone s answer.Done t = IsSettling s t × IsAllDone t
AllDone s answer.NoMemory t = IsSettling s t
AllDone s (answer.Fault c) t = (c ≡ StrokeLeft) × (list_all is_closed_entry (entries s.fed) ≡ false) × (t ≡ s)
AllDone s a t = ⊥
