use Rattle.std.proofs.Common.{sym, subst}
use Rattle.std.specs.FinSet as set
use Rattle.geom_core.specs.Grid.{key_cmp}
use Rattle.memento_core.specs.Notes.{IsRevision}
use Rattle.memento_core.proofs.revision.Revision.new.Goals as goal

pub invariant_of-result : goal.invariant_of-result
invariant_of-result g c = subst (IsRevision c.new.result) (sym c.new-2.ensures.items) (record { keys_are = c.new.ensures; once = set.len-empty key_cmp })
