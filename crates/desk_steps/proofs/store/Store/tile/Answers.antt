use Rattle.std.proofs.Common.{ap}
use Rattle.desk_steps.specs.Documents.{doc_in}
use Rattle.desk_steps.specs.Archives.{Archive}
use Rattle.desk_steps.proofs.Archived.{tile_held, no_tile_held}
use Rattle.desk_steps.proofs.store.Store.tile.Goals as goal

pub returns-clause-held : goal.returns-clause-held
returns-clause-held c = tile_held c.args.layer (doc_in c.self.inside.doc) c.args.self.now.present c.in_ok-layer.field-0.now c.args.key c.tile.result (ap (λ (a : Archive). a.present) c.self.view_is) c.in_ok-layer.ensures.some c.tile.ensures

pub returns-clause-plain : goal.returns-clause-plain
returns-clause-plain c = no_tile_held c.args.layer (doc_in c.self.inside.doc) c.args.self.now.present c.in_ok-layer.field-0.now c.args.key c.tile.result (ap (λ (a : Archive). a.present) c.self.view_is) c.in_ok-layer.ensures.some c.tile.ensures
