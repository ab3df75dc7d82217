use Rattle.std.proofs.Common.{sym, ◌∙◌}
use Rattle.desk_steps.specs.Documents.{doc_in}
use Rattle.desk_steps.specs.Slots.{standing}
use Rattle.desk_steps.proofs.Devices.{some_in}
use Rattle.desk_steps.proofs.Archived.{way_there, way_stands, revert_kept, revert_stands, reverted_is}
use Rattle.desk_steps.proofs.store.Store.revert.Goals as goal

pub exchange-requires-clause-layer : goal.exchange-requires-clause-layer
exchange-requires-clause-layer g c = sym (some_in c.in-Some.way.id c.self.inside.doc) ∙ way_there (doc_in c.self.inside.doc) c.self.inside.history c.self.inside.room c.self.inside.way c.in-Some.way (sym c.in-Some.ensures.value) c.self.invariant.kept

pub exchange-requires-clause-there : goal.exchange-requires-clause-there
exchange-requires-clause-there g c = way_stands (standing c.self.inside.doc.tree c.self.inside.doc.slots) c.self.inside.history c.self.inside.way c.in-Some.way (sym c.in-Some.ensures.value) c.self.invariant.stand

pub invariant_of-self : goal.invariant_of-self
invariant_of-self g c = record {
  kept = revert_kept (doc_in c.self.inside.doc) c.self.inside.history c.self.inside.room c.self.inside.way c.take.new.self c.in-Some.way (doc_in c.exchange.new.self) (sym c.in-Some.ensures.value) c.in-Some.ensures.after c.exchange.ensures.new c.self.invariant.kept;
  stand = revert_stands (standing c.self.inside.doc.tree c.self.inside.doc.slots) (standing c.exchange.new.self.tree c.exchange.new.self.slots) c.self.inside.history c.self.inside.way c.take.new.self c.in-Some.ensures.after c.exchange.ensures.kept c.self.invariant.stand;
}

pub returns-clause-new : goal.returns-clause-new
returns-clause-new g c = reverted_is (doc_in c.self.inside.doc) c.self.inside.history c.self.inside.room c.self.inside.way c.take.new.self c.in-Some.way (doc_in c.exchange.new.self) c.args.self.now (sym c.in-Some.ensures.value) c.in-Some.ensures.after c.exchange.ensures.new c.self.view_is
