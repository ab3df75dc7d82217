use Rattle.std.proofs.Common.{[], ◌∷◌, ap, ◌∙◌}
use Rattle.std.specs.FinMap as map
use Rattle.pixel_core.specs.Rgba.{clear}
use Rattle.doc_model.specs.Layers.{painted}
use Rattle.doc_model.specs.Shots.{in_tile}
use Rattle.group_caches.proofs.Finds.{pushed_layer, no_cache}
use Rattle.group_caches.proofs.Layers.{laid_layer, empty_layer}
use Rattle.group_caches.proofs.caches.lay_first.Goals as goal

pub returns-clause-ok : goal.returns-clause-ok
returns-clause-ok c f same =
    pushed_layer c.args.places.now.items c.push.new.self.items c.args.group (record { group = c.clear_place-place.result.group; device = c.lay_given.new.device }) c.requires.lacks c.in_ok-push.ensures.items c.clear_place-place.ensures.group
    ∙ ap (map.insert _ c.args.group) (laid_layer c.args.rect.now c.args.key c.args.given.now c.clear_place-place.result.device c.lay_given.new.device f c.in_ok-lay_given.ensures.ok same
    ∙ ap (painted (c.args.rect.now ∷ []) (in_tile c.args.key) f) (empty_layer c.clear_place-place.result.device clear c.clear_place-place.ensures.device ∙ no_cache c.args.places.now.items c.args.group c.requires.lacks))
