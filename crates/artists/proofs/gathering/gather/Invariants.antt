use Rattle.std.proofs.Common.{length}
use Rattle.artists.proofs.Whole.{TakesIn}
use Rattle.artists.proofs.gathering.gather.Given as goal

-- the others, behind those that are left, were taken in
abbrev pub invariant-loop-sender : goal.invariant-loop-sender
invariant-loop-sender l = TakesIn l.studio.id l.fn.senders.items l.senders.items l.all

abbrev pub decreases-loop-sender : goal.decreases-loop-sender
decreases-loop-sender l = length l.senders.items
