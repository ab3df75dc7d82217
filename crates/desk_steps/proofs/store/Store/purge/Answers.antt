use Rattle.desk_steps.specs.Documents.{doc_in}
use Rattle.desk_steps.specs.Slots.{standing}
use Rattle.desk_steps.proofs.Archived.{purge_kept, purge_stands, purged_is}
use Rattle.desk_steps.proofs.store.Store.purge.Goals as goal

pub invariant_of-self : goal.invariant_of-self
invariant_of-self c = record {
  kept = purge_kept (doc_in c.self.inside.doc) c.self.inside.history c.self.inside.room c.self.inside.way c.args.keep c.purge.new.self c.purge.ensures.past c.purge.ensures.future c.purge.ensures.spare c.self.invariant.kept;
  stand = purge_stands (standing c.self.inside.doc.tree c.self.inside.doc.slots) c.self.inside.history c.purge.new.self c.self.inside.way c.args.keep c.purge.ensures.past c.purge.ensures.future c.self.invariant.stand;
}

pub returns : goal.returns
returns c = purged_is (doc_in c.self.inside.doc) c.self.inside.history c.self.inside.room c.self.inside.way c.args.keep c.purge.new.self c.args.self.now c.purge.ensures.past c.purge.ensures.future c.self.view_is
