use Rattle.std.proofs.Common.{◌≡◌, ◌+◌, drop}
use Rattle.std.specs.List.{position_or_len}
use Rattle.update_queue.proofs.Joining.{fits}
use Rattle.update_queue.proofs.places.first_place_of.Given as goal

abbrev pub invariant-loop-i : goal.invariant-loop-i
invariant-loop-i l = position_or_len (fits l.walk l.part) l.patches ≡ l.i + position_or_len (fits l.walk l.part) (drop l.i l.patches)
