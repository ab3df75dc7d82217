use Rattle.std.proofs.Common.{◌≡◌, drop}
use Rattle.std.specs.List.{list_all}
use Rattle.walker_core.specs.Composing.{has_pair}
use Rattle.slot_work.proofs.rows.has_all.Given as goal

-- those so far were composed
abbrev pub invariant-loop-group : goal.invariant-loop-group
invariant-loop-group l = list_all (λ g. has_pair l.composed g l.key) (drop l.group-index l.path) ≡ list_all (λ g. has_pair l.composed g l.key) l.path
