use Rattle.std.proofs.Common.{◌≡◌, ◌≤◌, ◌^◌, take}
use Rattle.live_view.specs.Views.{published, all_updates, total}
use Rattle.live_run.specs.Owing.{LaysDown}
use Rattle.live_run.proofs.screen.put_owed.Given as goal

-- the tiles so far are laid down
abbrev pub invariant-loop-i : goal.invariant-loop-i
invariant-loop-i g l = (total l.live ≤ 2 ^ 62) × (published l.live ≡ published l.initial.live) × LaysDown (take l.i l.owed) (all_updates l.initial.live) (all_updates l.live) l.desk
