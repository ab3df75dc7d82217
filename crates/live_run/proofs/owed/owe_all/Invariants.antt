use Rattle.std.proofs.Common.{◌≡◌, map, take}
use Rattle.arrayvec.specs.ArrayVec.{array_vec_len}
use Rattle.geom_core.specs.Grid.{keys_of}
use Rattle.live_run.proofs.Owing.{owing}
use Rattle.live_run.proofs.owed.owe_all.Given as goal

-- the tiles so far are owed
abbrev pub invariant-loop-i : goal.invariant-loop-i
invariant-loop-i l = (l.owed.items ≡ map owing (take l.i (keys_of l.tiles))) × (array_vec_len l.owed ≡ l.i)
