use Rattle.std.proofs.Common.{◌≡◌, drop}
use Rattle.walker_core.specs.Knowing.{stale_in}
use Rattle.walker_core.proofs.known.Known.part.Given as goal

-- the tile's part is among those that are left
abbrev pub invariant-loop-damaged : goal.invariant-loop-damaged
invariant-loop-damaged l = stale_in l.self.damaged.items l.key ≡ stale_in (drop l.damaged-index l.self.damaged.items) l.key
