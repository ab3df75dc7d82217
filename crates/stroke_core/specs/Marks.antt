-- Where a job reads and writes, and whether it is uniquely concurrent.
use Rattle.std.specs.Prelude.{Bool, ◌&&◌, ◌||◌, not, if◌then◌else◌, List, [], ◌∷◌, Option, Some, None}
use Rattle.geom_core.specs.Areas.{Area}
use Rattle.doc_model.specs.declared.job.Job.{Job}
use Rattle.doc_model.specs.declared.job.Kind.{Kind}
use Rattle.doc_model.specs.Jobs.{reads, writes}
use Rattle.doc_model.specs.Strokes.{any_meet, is_uni, runs}

-- the rectangles of a job, and whether it is uniquely concurrent
pub record Marks : Type 0 where
  pub reads : List Area
  pub writes : List Area
  pub unique : Bool

-- what is written: that rectangle, or else all that is read
abbrev pub written_or : Option Area → List Area → List Area
written_or None reads = reads
written_or (Some rect) reads = rect ∷ []

-- those of a job of that kind
abbrev pub marks_of : Kind × Job → Marks
marks_of j = record { reads = reads j.1; writes = writes j.1; unique = is_uni j.0 }

-- the same where it may stand in a run
abbrev pub marks_in_run : Kind × Job → Option Marks
marks_in_run j = if runs j.0 then Some (marks_of j) else None

-- whether jobs with these marks conflict in one run
abbrev pub marks_clash : Marks → Marks → Bool
marks_clash a b = not (a.unique && b.unique) && (any_meet a.writes b.reads || any_meet b.writes a.reads)
