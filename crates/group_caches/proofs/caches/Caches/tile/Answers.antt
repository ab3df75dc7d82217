use Rattle.std.proofs.Common.{◌∙◌, ap, sym, subst, length}
use Rattle.machine_model.specs.Groups.{cache}
use Rattle.group_caches.specs.Entries.{IsPlace, LacksBelow}
use Rattle.std.proofs.lemmas.List.Elements.{All-get_or}
use Rattle.pixel_core.specs.Rgba.{clear}
use Rattle.doc_model.specs.Layers.{at}
use Rattle.doc_model.proofs.LayerLaws.{at-plain}
use Rattle.group_caches.specs.Entries.{IsClear}
use Rattle.group_caches.proofs.Finds.{place_cache, no_cache}
use Rattle.group_caches.proofs.Layers.{tile_shows, none_shows}
use Rattle.group_caches.proofs.caches.Caches.tile.Goals as goal

pub returns-in-Some-clause-some : goal.returns-in-Some-clause-some
returns-in-Some-clause-some c = tile_shows c.index.result.now.device c.args.key c.tile.result (cache c.args.self.now c.args.group) (place_cache c.self.inside.places.items c.in-Some.i c.args.group c.index.result.now c.index.result.now (subst (λ ps. IsPlace c.args.group ps c.in-Some.i) c.deref.ensures.value c.in-Some.ensures.some) c.index.ensures ∙ ap (λ m. cache m c.args.group) c.self.view_is) c.tile.ensures

pub returns-in-Some-clause-none : goal.returns-in-Some-clause-none
returns-in-Some-clause-none c = none_shows c.index.result.now.device c.args.key c.tile.result (cache c.args.self.now c.args.group) (subst IsClear (sym c.index.ensures) (All-get_or IsClear c.self.inside.places.items c.in-Some.i c.index.result.now ((subst (λ ps. IsPlace c.args.group ps c.in-Some.i) c.deref.ensures.value c.in-Some.ensures.some)).within c.self.invariant.clear)) (place_cache c.self.inside.places.items c.in-Some.i c.args.group c.index.result.now c.index.result.now (subst (λ ps. IsPlace c.args.group ps c.in-Some.i) c.deref.ensures.value c.in-Some.ensures.some) c.index.ensures ∙ ap (λ m. cache m c.args.group) c.self.view_is) c.tile.ensures

pub returns-in-None-clause-none : goal.returns-in-None-clause-none
returns-in-None-clause-none c = λ p k. sym (ap (λ l. at l p) (no_cache c.self.inside.places.items c.args.group (subst (λ ps. LacksBelow c.args.group ps (length ps)) c.deref.ensures.value c.in-None.ensures.none) ∙ ap (λ m. cache m c.args.group) c.self.view_is)) ∙ at-plain clear p
