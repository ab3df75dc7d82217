use Rattle.std.proofs.Common.{ap, subst, length, ◌∙◌}
use Rattle.pixel_core.specs.Rgba.{clear}
use Rattle.group_caches.specs.declared.places.Place.{Place}
use Rattle.group_caches.specs.Entries.{IsPlace, LacksBelow}
use Rattle.group_caches.proofs.Finds.{place_cache, no_cache, set_others}
use Rattle.group_caches.proofs.Layers.{empty_layer}
use Rattle.group_caches.proofs.caches.taken.Goals as goal

pub returns-in-Some-clause-group : goal.returns-in-Some-clause-group
returns-in-Some-clause-group c = ap (λ (x : Place). x.group) (c.replace.ensures.value ∙ c.index_mut.ensures.value) ∙ (subst (λ ps. IsPlace c.args.group ps c.in-Some.i) c.deref.ensures.value c.in-Some.ensures.some).here c.index_mut.result.now

pub returns-in-Some-clause-layer : goal.returns-in-Some-clause-layer
returns-in-Some-clause-layer c = place_cache c.args.places.now.items c.in-Some.i c.args.group c.replace.result c.index_mut.result.now (subst (λ ps. IsPlace c.args.group ps c.in-Some.i) c.deref.ensures.value c.in-Some.ensures.some) (c.replace.ensures.value ∙ c.index_mut.ensures.value)

pub returns-in-Some-clause-others : goal.returns-in-Some-clause-others
returns-in-Some-clause-others c = λ q other. set_others c.args.places.now.items c.in-Some.i c.args.group c.replace.new.dest q (subst (λ ps. IsPlace c.args.group ps c.in-Some.i) c.deref.ensures.value c.in-Some.ensures.some) (ap (λ (x : Place). x.group) c.replace.ensures.after ∙ c.clear_place-clear.ensures.group) other

pub returns-in-None-clause-layer : goal.returns-in-None-clause-layer
returns-in-None-clause-layer c = empty_layer c.clear_place-clear.result.device clear c.clear_place-clear.ensures.device ∙ no_cache c.args.places.now.items c.args.group (subst (λ ps. LacksBelow c.args.group ps (length ps)) c.deref.ensures.value c.in-None.ensures.none)
