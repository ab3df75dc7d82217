-- How many steps the events count: tiles that are exchanged.
use Rattle.std.specs.Prelude.{ℕ, Option, Some, None}
use Rattle.std.specs.FinSet as set
use Rattle.geom_core.specs.Grid.{key_set}
use Rattle.doc_model.specs.Strokes.{Stroke, Entry, Undoes, Redoes}
use Rattle.machine_model.specs.State.{State, head, head_stroke}
use Rattle.machine_model.specs.Event.{Event, Cancel, Act}
use Rattle.machine_model.specs.Effects.{writes_of, started_jobs}
use Rattle.desk_steps.specs.Archives.{tiles_in_first}

-- the tiles that meet the writes of the stroke's started jobs
abbrev pub tiles_started : State → Option Stroke → ℕ
tiles_started s None = 0
tiles_started s (Some stroke) = set.len (key_set (writes_of (started_jobs s stroke)))

-- the tiles of the reach that is undone or redone: of a stroke those that meet the writes of its jobs, of a change of the tree none
abbrev pub tiles_moved : State → Option Entry → ℕ
tiles_moved s (Some Undoes) = tiles_in_first s.past
tiles_moved s (Some Redoes) = tiles_in_first s.future
tiles_moved s entry = 0

-- the steps of the event: a cancel, an undo and a redo exchange each of these tiles once, and nothing else exchanges any
abbrev pub steps_of : State → Event → ℕ
steps_of s Cancel = tiles_started s (head_stroke s)
steps_of s Act = tiles_moved s (head s)
steps_of s e = 0
