use Rattle.std.proofs.Common.{◌≡◌, ◌-◌, take, drop}
use Rattle.std.specs.List.{All}
use Rattle.slot_work.specs.Lacking.{keys_of_tiles}
use Rattle.whole_tiles.specs.Plans.{tiles_of}
use Rattle.stamped_desk.specs.Stamped.{IsMadeOf}
use Rattle.stamped_desk.proofs.painting.paint_all.Given as goal

-- the tiles so far are those of the job from the first place on, and were made of it
abbrev pub invariant-loop-i : goal.invariant-loop-i
invariant-loop-i l = record {
  keys : keys_of_tiles l.made.items ≡ take (l.i - l.from) (drop l.from (tiles_of l.painting.job));
  made : All (IsMadeOf l.painting.job l.painting.shot) l.made.items;
}
