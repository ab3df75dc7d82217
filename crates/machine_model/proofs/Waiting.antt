-- What waits for a group goes on waiting.
use Rattle.doc_model.proofs.Queued.{queued_covers}
use Rattle.machine_model.specs.Covers.{composes}
use Rattle.machine_model.specs.UpdateLaws.{GroupsWait}
use Rattle.machine_model.proofs.WalkPaths.{path_all}

pub groups_wait : GroupsWait
groups_wait canvas doc g limits is = queued_covers (composes g doc) (λ walk e. path_all g doc is) canvas limits
