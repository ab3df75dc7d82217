use Rattle.std.proofs.Common.{◌≡◌, drop}
use Rattle.slot_work.specs.Gathering.{filled}
use Rattle.slot_work.proofs.gathering.gather.Given as goal

-- the groups that are left to fill
abbrev pub invariant-loop-group : goal.invariant-loop-group
invariant-loop-group l = filled l.caches l.store.present l.gathered (drop l.group-index l.list) ≡ filled l.caches l.store.present l.initial.gathered l.list
