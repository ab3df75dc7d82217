use Rattle.std.proofs.Common.{◌≡◌, None, Option, replicate}
use Rattle.frame_core.specs.Plies.{Content}
use Rattle.frame_core.proofs.frame.no_tiles.Given as goal

-- so many places were added
abbrev pub invariant-loop : goal.invariant-loop
invariant-loop l = l.tiles.items ≡ replicate {A = Option Content} l.counter None
