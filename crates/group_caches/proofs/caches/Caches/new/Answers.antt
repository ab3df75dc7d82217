use Rattle.pixel_core.specs.Rgba.{clear}
use Rattle.doc_model.specs.Layers.{plain}
use Rattle.group_caches.proofs.Finds.{lone_layer}
use Rattle.group_caches.proofs.Layers.{empty_layer}
use Rattle.group_caches.proofs.caches.Caches.new.Goals as goal

pub returns : goal.returns
returns c = lone_layer c.in_ok-places.places.items c.push.new.self.items c.clear_place.result (plain clear) c.in_ok-push.ensures.items c.in_ok-places.ensures.items c.clear_place.ensures.group (empty_layer c.clear_place.result.device clear c.clear_place.ensures.device)
