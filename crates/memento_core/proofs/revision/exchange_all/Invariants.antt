use Rattle.std.proofs.Common.{◌≡◌, ◌+◌, take, drop}
use Rattle.memento_core.proofs.Exchanging.{LaidUpTo}
use Rattle.memento_core.proofs.revision.exchange_all.Given as goal

-- the notes so far are laid, a step each
abbrev pub invariant-loop-note : goal.invariant-loop-note
invariant-loop-note g l = LaidUpTo (g.P.Plane.plane l.fn.plane) l.fn.notes (g.P.Plane.plane l.plane) (take l.note-index l.notes) (drop l.note-index l.notes) × ((g.P.Plane.bare l.plane ≡ g.P.Plane.bare l.fn.plane) × (l.steps ≡ l.fn.steps + l.note-index))
