use Rattle.std.proofs.Common.{sym}
use Rattle.desk_steps.specs.Documents.{doc_in}
use Rattle.desk_steps.specs.Slots.{standing}
use Rattle.desk_steps.proofs.Archived.{finish_kept, finish_stands}
use Rattle.desk_steps.proofs.store.Store.finish.Goals as goal

pub invariant_of-self : goal.invariant_of-self
invariant_of-self c = record {
  kept = finish_kept (doc_in c.self.inside.doc) c.self.inside.history c.self.inside.room c.self.inside.way c.take.new.self c.in-Some.way c.commit.new.self (sym c.in-Some.ensures.value) c.in-Some.ensures.after c.commit.ensures.past c.commit.ensures.future c.self.invariant.kept;
  stand = finish_stands (standing c.self.inside.doc.tree c.self.inside.doc.slots) c.self.inside.history c.commit.new.self c.self.inside.way c.take.new.self c.in-Some.way (sym c.in-Some.ensures.value) c.in-Some.ensures.after c.commit.ensures.past c.commit.ensures.future c.self.invariant.stand;
}
