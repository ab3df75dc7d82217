use Rattle.std.proofs.Common.{◌≡◌, length, take, true}
use Rattle.geom_core.specs.Areas.{holds, Point}
use Rattle.desk_core.specs.Shown.{ShowCaches}
use Rattle.desk_core.proofs.known.shots_of.Given as goal

-- the groups so far have shots
abbrev pub invariant-loop-group : goal.invariant-loop-group
invariant-loop-group l = (length l.shots.items ≡ l.group-index) × ((p : Point) → holds l.rect p ≡ true → ShowCaches l.caches (take l.group-index l.groups) l.shots.items p)
