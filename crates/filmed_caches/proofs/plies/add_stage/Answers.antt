use Rattle.std.proofs.Common.{subst, sym}
use Rattle.std.proofs.lemmas.Result.{on_ok_weaker}
use Rattle.geom_core.specs.Grid.{Key}
use Rattle.doc_model.specs.Picture.{Doc}
use Rattle.tree_core.specs.declared.outline.Stage.TheVariants.{Close}
use Rattle.filmed_caches.specs.Made.{AddsStage}
use Rattle.filmed_caches.proofs.plies.add_stage.Goals as goal

pub returns-in-Close : goal.returns-in-Close
returns-in-Close c = on_ok_weaker c.close.result
    (λ (adds : (doc : Doc) (key : Key) → AddsStage doc key (Close c.in-Close.look) c.args.plies.now.items c.close.new.plies.items).
    subst (λ s. AddsStage c.args.store.now.present c.args.key s c.args.plies.now.items c.close.new.plies.items) (sym c.in-Close.is) (adds c.args.store.now.present c.args.key))
    c.close.ensures
