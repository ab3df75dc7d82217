use Rattle.std.proofs.Common.{◌∙◌}
use Rattle.std.proofs.lemmas.Result.{IfOk-weaker}
use Rattle.pixel_core.specs.Rgba.{clear}
use Rattle.group_caches.proofs.Layers.{empty_layer}
use Rattle.desk_core.proofs.Shots.{cache_shown, no_cache}
use Rattle.desk_core.proofs.known.shot_of.Goals as goal

pub returns-in-Some : goal.returns-in-Some
returns-in-Some c = IfOk-weaker c.grab.result _ _ (λ s same p h. cache_shown c.args.caches.now c.args.group c.args.rect.now c.from_ref.result.now c.in-Some.device.now s c.from_ref.ensures.value c.in-Some.ensures.some same p h) c.grab.ensures.pixels

pub returns-in-None : goal.returns-in-None
returns-in-None c = IfOk-weaker c.grab-in-None.result _ _ (λ s same p h. cache_shown c.args.caches.now c.args.group c.args.rect.now c.from_ref-in-None.result.now c.new-clear.result s c.from_ref-in-None.ensures.value (empty_layer c.new-clear.result clear c.new-clear.ensures ∙ no_cache c.args.caches.now c.args.group c.in-None.ensures.there) same p h) c.grab-in-None.ensures.pixels
