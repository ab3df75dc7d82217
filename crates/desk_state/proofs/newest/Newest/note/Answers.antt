use Rattle.desk_state.proofs.NewestFirst.{newest-last}
use Rattle.desk_state.proofs.newest.Newest.note.Goals as goal

pub returns-clause-ok : goal.returns-clause-ok
returns-clause-ok g c = rw (c.in_ok-push.ensures.items, ← c.self.view_is) (newest-last c.self.inside.items.items c.args.item)
