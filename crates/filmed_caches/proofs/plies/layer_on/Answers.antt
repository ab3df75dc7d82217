use Rattle.std.proofs.Common.{Some, sym, ap, ◌∙◌}
use Rattle.std.specs.Option.{option_copied}
use Rattle.filmed_caches.proofs.PliesAdded.{layer_plain, layer_tile, no_layer}
use Rattle.filmed_caches.proofs.plies.layer_on.Goals as goal

pub returns-in_default : goal.returns-in_default
returns-in_default c = no_layer c.args.store.now.present c.args.id c.args.key c.in_default.ensures.none

pub returns-in_ok-share-in-Some-tile : goal.returns-in_ok-share-in-Some-tile
returns-in_ok-share-in-Some-tile c = layer_tile c.args.store.now.present c.args.id c.args.key c.in-Some.device.now _ c.in-Some.ensures.some (sym c.tile.ensures ∙ ap option_copied c.in-Some-tile.is ∙ ap Some (sym c.in_ok-share-in-Some-tile.ensures))

pub returns-in-None : goal.returns-in-None
returns-in-None c = λ p h. c.ground.ensures ∙ layer_plain c.args.store.now.present c.args.id c.args.key c.in-Some.device.now c.in-Some.ensures.some (sym c.tile.ensures ∙ ap option_copied c.in-None.is) p h
