use Rattle.std.proofs.Common.{◌∙◌, ap, sym, subst, length, is_some}
use Rattle.std.specs.FinMap as map
use Rattle.machine_model.specs.Groups.{cache}
use Rattle.group_caches.specs.Entries.{IsPlace, LacksBelow}
use Rattle.group_caches.proofs.Finds.{place_cache, place_layer, no_layer}
use Rattle.group_caches.proofs.caches.Caches.device.Goals as goal

pub returns-in-Some-clause-some : goal.returns-in-Some-clause-some
returns-in-Some-clause-some c = place_cache c.self.inside.places.items c.in-Some.i c.args.group c.index.result.now c.index.result.now (subst (λ ps. IsPlace c.args.group ps c.in-Some.i) c.deref.ensures.value c.in-Some.ensures.some) c.index.ensures ∙ ap (λ m. cache m c.args.group) c.self.view_is

pub returns-in-Some-clause-there : goal.returns-in-Some-clause-there
returns-in-Some-clause-there c = sym (ap is_some (place_layer c.self.inside.places.items c.in-Some.i c.args.group c.index.result.now c.index.result.now (subst (λ ps. IsPlace c.args.group ps c.in-Some.i) c.deref.ensures.value c.in-Some.ensures.some) c.index.ensures)) ∙ ap (λ m. map.contains_key m c.args.group) c.self.view_is

pub returns-in-None-clause-there : goal.returns-in-None-clause-there
returns-in-None-clause-there c = sym (ap is_some (no_layer c.self.inside.places.items c.args.group (subst (λ ps. LacksBelow c.args.group ps (length ps)) c.deref.ensures.value c.in-None.ensures.none))) ∙ ap (λ m. map.contains_key m c.args.group) c.self.view_is
