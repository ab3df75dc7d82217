use Rattle.desk_events.proofs.Untouched.{SparedBelow}
use Rattle.desk_events.proofs.sparing.are_spared.Given as goal

-- none of those so far may change the tile
abbrev pub invariant-loop-j : goal.invariant-loop-j
invariant-loop-j l = SparedBelow l.jobs l.since l.own l.j l.key
