use Rattle.std.proofs.Common.{refl, sym, ap, ◌∙◌}
use Rattle.std.specs.FinSet as set
use Rattle.doc_model.specs.Shots.{published}
use Rattle.doc_model.specs.Adjusting.{adjusted}
use Rattle.job_core.specs.Paints.{layer_of}
use Rattle.desk_steps.specs.Archives.{with_put}
use Rattle.desk_steps.specs.Documents.{doc_in}
use Rattle.desk_steps.specs.Slots.{standing}
use Rattle.memento_core.specs.Revisions.{keys_in}
use Rattle.desk_steps.proofs.Devices.{some_in, both_ok}
use Rattle.desk_steps.proofs.WholeTiles.{own_paint, is_of_own, layer_has_base}
use Rattle.desk_steps.proofs.Archived.{way_there, way_stands, published_changes, put_kept, put_is, put_stands}
use Rattle.desk_steps.proofs.store.Store.put_whole.Goals as goal

pub put_whole-requires-clause-layer : goal.put_whole-requires-clause-layer
put_whole-requires-clause-layer c = sym (some_in c.in-Some.way.id c.self.inside.doc) ∙ way_there (doc_in c.self.inside.doc) c.self.inside.history c.self.inside.room c.self.inside.way c.in-Some.way c.in-Some.is c.self.invariant.kept

pub put_whole-requires-clause-there : goal.put_whole-requires-clause-there
put_whole-requires-clause-there c = way_stands (standing c.self.inside.doc.tree c.self.inside.doc.slots) c.self.inside.history c.self.inside.way c.in-Some.way c.in-Some.is c.self.invariant.stand

pub put_whole-requires-clause-known : goal.put_whole-requires-clause-known
put_whole-requires-clause-known c known = layer_has_base c.args.whole.now c.self.inside.doc c.self.inside.history c.self.inside.way c.self.inside.room c.in-Some.way c.args.self.now c.in-Some.is c.self.view_is
    (sym (some_in c.in-Some.way.id c.self.inside.doc) ∙ way_there (doc_in c.self.inside.doc) c.self.inside.history c.self.inside.room c.self.inside.way c.in-Some.way c.in-Some.is c.self.invariant.kept) (c.requires.known known)

pub invariant_of-self : goal.invariant_of-self
invariant_of-self c =
    let x = c.args.whole.now in
    let shot = layer_of (own_paint x).shot in
    record {
      kept = put_kept (doc_in c.self.inside.doc) (doc_in c.put_whole.new.self) c.self.inside.history c.self.inside.room c.in-Some.way c.put_whole.new.found x.key (published x.job shot x.key) c.put_whole.ensures.back.same
          (published_changes x.job shot x.key) c.self.inside.way c.put_whole.result c.in-Some.is (c.put_whole.ensures.ok shot (is_of_own x).shows)
          c.put_whole.ensures.keys c.put_whole.ensures.err c.put_whole.ensures.no_note c.self.invariant.kept;
      stand = put_stands (standing c.self.inside.doc.tree c.self.inside.doc.slots) (standing c.put_whole.new.self.tree c.put_whole.new.self.slots) c.self.inside.history c.self.inside.way c.in-Some.way.id c.put_whole.new.found c.put_whole.ensures.back.grows c.put_whole.ensures.back.stand c.self.invariant.stand;
    }

pub returns-clause-ok : goal.returns-clause-ok
returns-clause-ok c w of =
    let x = c.args.whole.now in
    both_ok c.put_whole.result (λ e more. put_is (doc_in c.self.inside.doc) (doc_in c.put_whole.new.self) c.self.inside.history c.self.inside.room c.in-Some.way c.put_whole.new.found w.key (published w.job (layer_of w.shot) w.key) c.put_whole.ensures.back.same
    (λ a. with_put a.way w a) c.self.inside.way c.args.self.now refl c.in-Some.is (e ∙ (λ i. adjusted c.in-Some.way.id (published (of.job i) (layer_of w.shot) (of.key i)) (doc_in c.self.inside.doc)))
    (more ∙ ap (set.insert (keys_in c.in-Some.way.found)) of.key) c.self.view_is)
    (c.put_whole.ensures.ok (layer_of w.shot) of.shows) c.put_whole.ensures.keys
