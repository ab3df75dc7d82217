use Rattle.std.proofs.Common.{is_some, sym, ap, ◌∙◌}
use Rattle.paint_device.specs.Seen.{layer_of}
use Rattle.desk_steps.specs.Documents.{doc_in}
use Rattle.desk_steps.specs.Archives.{layer_under_way}
use Rattle.doc_model.proofs.PaintTests.{false-true}
use Rattle.desk_steps.proofs.Archived.{way_there, way_layer, shot_told, tiles_shown}
use Rattle.desk_steps.proofs.store.Store.grab.Goals as goal

pub unreachable-requires-in-None : goal.unreachable-requires-in-None
unreachable-requires-in-None c = false-true (sym (ap is_some c.in-None.ensures.none) ∙ way_there (doc_in c.self.inside.doc) c.self.inside.history c.self.inside.room c.self.inside.way c.in-Some.way c.in-Some.is c.self.invariant.kept)

pub returns-clause-shot : goal.returns-clause-shot
returns-clause-shot c = shot_told c.grab.result c.in-Some-layer.device.now c.args.rects.now (layer_under_way c.args.self.now.way c.args.self.now.present)
    (way_layer (doc_in c.self.inside.doc) c.self.inside.history c.self.inside.way c.self.inside.room c.in-Some.way (layer_of c.in-Some-layer.device.now) c.args.self.now c.in-Some.is c.self.view_is c.in-Some-layer.ensures.some)
    c.grab.ensures.default_pixel c.grab.ensures.rects c.grab.ensures.pixels

pub returns-clause-tiles : goal.returns-clause-tiles
returns-clause-tiles c = tiles_shown c.grab.result c.in-Some-layer.device.now c.args.rects.now (layer_under_way c.args.self.now.way c.args.self.now.present)
    (way_layer (doc_in c.self.inside.doc) c.self.inside.history c.self.inside.way c.self.inside.room c.in-Some.way (layer_of c.in-Some-layer.device.now) c.args.self.now c.in-Some.is c.self.view_is c.in-Some-layer.ensures.some)
    c.grab.ensures.default_pixel c.grab.ensures.tiles
