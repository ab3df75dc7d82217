use Rattle.std.proofs.Common.{subst, ◌∙◌}
use Rattle.desk_events.specs.Shown.{ShowsWhereClean}
use Rattle.host_desk.proofs.host.Host.dirty.Goals as goal

pub returns-clause-picture : goal.returns-clause-picture
returns-clause-picture c = subst ShowsWhereClean (c.deref.ensures ∙ c.self.view_is) c.dirty_in.ensures.picture
