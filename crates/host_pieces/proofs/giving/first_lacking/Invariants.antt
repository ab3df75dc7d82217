use Rattle.std.proofs.Common.{◌≡◌, ℕ, ◌<◌, Some}
use Rattle.std.specs.Prelude.{slice_get}
use Rattle.whole_tiles.specs.Wholes.{Entire}
use Rattle.desk_events.specs.AtWork.{HasPublished}
use Rattle.host_pieces.proofs.giving.first_lacking.Given as goal

-- the tiles so far are published
abbrev pub invariant-loop-i : goal.invariant-loop-i
invariant-loop-i l = (k : ℕ) → k < l.i → (x : Entire) → slice_get l.tiles k ≡ Some x → HasPublished l.desk l.slot.place l.slot.serial x.key
