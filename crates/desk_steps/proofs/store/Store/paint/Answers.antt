use Rattle.std.proofs.Common.{refl, sym, ◌∙◌}
use Rattle.job_core.specs.Points.{all_painted_in}
use Rattle.desk_steps.specs.Archives.{with_painted}
use Rattle.desk_steps.specs.Documents.{doc_in}
use Rattle.desk_steps.specs.Slots.{standing}
use Rattle.desk_steps.proofs.Devices.{some_in, both_ok}
use Rattle.desk_steps.proofs.Archived.{way_there, way_stands, put_kept, put_is, put_stands}
use Rattle.desk_steps.proofs.Painted.{painted_changes}
use Rattle.desk_steps.proofs.store.Store.paint.Goals as goal

pub paint-requires-clause-layer : goal.paint-requires-clause-layer
paint-requires-clause-layer c = sym (some_in c.in-Some.way.id c.self.inside.doc) ∙ way_there (doc_in c.self.inside.doc) c.self.inside.history c.self.inside.room c.self.inside.way c.in-Some.way c.in-Some.is c.self.invariant.kept

pub paint-requires-clause-there : goal.paint-requires-clause-there
paint-requires-clause-there c = way_stands (standing c.self.inside.doc.tree c.self.inside.doc.slots) c.self.inside.history c.self.inside.way c.in-Some.way c.in-Some.is c.self.invariant.stand

pub invariant_of-self : goal.invariant_of-self
invariant_of-self c =
    let w = c.args.work.now in
    record {
      kept = put_kept (doc_in c.self.inside.doc) (doc_in c.paint.new.self) c.self.inside.history c.self.inside.room c.in-Some.way c.paint.new.found w.key (all_painted_in w.jobs w.key) c.paint.ensures.back.same
          (painted_changes w.jobs w.key) c.self.inside.way c.paint.result c.in-Some.is c.paint.ensures.ok c.paint.ensures.keys c.paint.ensures.err c.paint.ensures.no_note c.self.invariant.kept;
      stand = put_stands (standing c.self.inside.doc.tree c.self.inside.doc.slots) (standing c.paint.new.self.tree c.paint.new.self.slots) c.self.inside.history c.self.inside.way c.in-Some.way.id c.paint.new.found c.paint.ensures.back.grows c.paint.ensures.back.stand c.self.invariant.stand;
    }

pub returns-clause-ok : goal.returns-clause-ok
returns-clause-ok c =
    let w = c.args.work.now in
    both_ok c.paint.result (λ e more. put_is (doc_in c.self.inside.doc) (doc_in c.paint.new.self) c.self.inside.history c.self.inside.room c.in-Some.way c.paint.new.found w.key (all_painted_in w.jobs w.key) c.paint.ensures.back.same
    (λ a. with_painted a.way w a) c.self.inside.way c.args.self.now refl c.in-Some.is e more c.self.view_is)
    c.paint.ensures.ok c.paint.ensures.keys
