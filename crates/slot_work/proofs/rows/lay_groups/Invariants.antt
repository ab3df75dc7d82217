use Rattle.std.proofs.Common.{◌≡◌, take}
use Rattle.slot_work.specs.LaidTiles.{Lays, laid_as, pairs_at}
use Rattle.slot_work.proofs.rows.lay_groups.Given as goal

-- the groups so far are laid, and no frame is taken
abbrev pub invariant-loop-group : goal.invariant-loop-group
invariant-loop-group l = Lays l.composed.readings (pairs_at (take l.group-index l.path) l.key) (laid_as l.initial.filmed.caches l.initial.published) (laid_as l.filmed.caches l.published) × (l.filmed.frames ≡ l.initial.filmed.frames)
