use Rattle.std.proofs.Common.{◌≡◌, ◌++◌, ◌||◌, drop, take, map}
use Rattle.std.specs.List.{list_any}
use Rattle.trace_state.specs.Walking.{lacks, noted}
use Rattle.trace_state.proofs.walk.note_pair.Given as goal

-- with the tile noted for the groups that are left it is the groups with the tile, and one of them or of these lacked it
abbrev pub invariant-loop-i : goal.invariant-loop-i
invariant-loop-i l = record {
  noted : take l.i l.groups ++ map (noted l.group l.key) (drop l.i l.groups) ≡ map (noted l.group l.key) l.initial.groups;
  new : (l.new || list_any (lacks l.group l.key) (drop l.i l.groups)) ≡ list_any (lacks l.group l.key) l.initial.groups;
}
