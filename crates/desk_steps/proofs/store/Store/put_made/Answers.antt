use Rattle.std.proofs.Common.{refl, sym, ap, ◌∙◌}
use Rattle.std.specs.FinSet as set
use Rattle.doc_model.specs.Shots.{published}
use Rattle.job_core.specs.Paints.{layer_of}
use Rattle.desk_steps.specs.Archives.{with_put}
use Rattle.desk_steps.specs.Documents.{doc_in}
use Rattle.desk_steps.specs.Slots.{standing}
use Rattle.memento_core.specs.Revisions.{keys_in}
use Rattle.desk_steps.proofs.Devices.{some_in, both_ok, more_ok}
use Rattle.desk_steps.proofs.Lain.{key_made}
use Rattle.desk_steps.proofs.Archived.{way_there, way_stands, published_changes, put_kept, put_is, put_stands}
use Rattle.desk_steps.proofs.store.Store.put_made.Goals as goal

pub put-requires-clause-layer : goal.put-requires-clause-layer
put-requires-clause-layer c = sym (some_in c.in-Some.way.id c.self.inside.doc) ∙ way_there (doc_in c.self.inside.doc) c.self.inside.history c.self.inside.room c.self.inside.way c.in-Some.way c.in-Some.is c.self.invariant.kept

pub put-requires-clause-there : goal.put-requires-clause-there
put-requires-clause-there c = way_stands (standing c.self.inside.doc.tree c.self.inside.doc.slots) c.self.inside.history c.self.inside.way c.in-Some.way c.in-Some.is c.self.invariant.stand

pub invariant_of-self : goal.invariant_of-self
invariant_of-self c =
    let made = c.key-key.ensures.known in
    record {
      kept = put_kept (doc_in c.self.inside.doc) (doc_in c.put.new.self) c.self.inside.history c.self.inside.room c.in-Some.way c.put.new.found made.work.key (published made.work.job (layer_of made.work.shot) made.work.key) c.put.ensures.back.same
          (published_changes made.work.job (layer_of made.work.shot) made.work.key) c.self.inside.way c.put.result c.in-Some.is (c.put.ensures.ok made.work made.makes)
          (more_ok c.put.result (λ e. e ∙ ap (set.insert (keys_in c.in-Some.way.found)) (key_made made.work c.args.made.now made.makes)) c.put.ensures.keys) c.put.ensures.err c.put.ensures.no_note c.self.invariant.kept;
      stand = put_stands (standing c.self.inside.doc.tree c.self.inside.doc.slots) (standing c.put.new.self.tree c.put.new.self.slots) c.self.inside.history c.self.inside.way c.in-Some.way.id c.put.new.found c.put.ensures.back.grows c.put.ensures.back.stand c.self.invariant.stand;
    }

pub returns-clause-ok : goal.returns-clause-ok
returns-clause-ok c w m =
    both_ok c.put.result (λ e more. put_is (doc_in c.self.inside.doc) (doc_in c.put.new.self) c.self.inside.history c.self.inside.room c.in-Some.way c.put.new.found w.key (published w.job (layer_of w.shot) w.key) c.put.ensures.back.same
    (λ a. with_put a.way w a) c.self.inside.way c.args.self.now refl c.in-Some.is e (more ∙ ap (set.insert (keys_in c.in-Some.way.found)) (key_made w c.args.made.now m)) c.self.view_is)
    (c.put.ensures.ok w m) c.put.ensures.keys
