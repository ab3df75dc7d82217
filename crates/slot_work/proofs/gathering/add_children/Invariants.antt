use Rattle.std.proofs.Common.{◌≡◌}
use Rattle.doc_model.specs.Forest.{upper}
use Rattle.machine_model.specs.Groups.{nodes_in, with_pixels}
use Rattle.slot_work.specs.Gathering.{with_children}
use Rattle.slot_work.proofs.gathering.add_children.Given as goal

-- the children that are left to add
abbrev pub invariant-loop-place : goal.invariant-loop-place
invariant-loop-place l = with_children l.gathered l.group (with_pixels l.caches (upper l.place (nodes_in l.group l.store.present))) ≡ with_children l.initial.gathered l.group (with_pixels l.caches (nodes_in l.group l.store.present))
