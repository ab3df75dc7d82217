use Rattle.std.proofs.Common.{◌∙◌, ap, subst}
use Rattle.std.specs.FinMap as map
use Rattle.group_caches.specs.Entries.{IsPlace}
use Rattle.std.proofs.Common.{[], ◌∷◌}
use Rattle.std.proofs.lemmas.Result.{on_ok_weaker}
use Rattle.doc_model.specs.Layers.{painted}
use Rattle.doc_model.specs.Shots.{in_tile}
use Rattle.group_caches.specs.declared.places.Place.{Place}
use Rattle.group_caches.specs.Laying.{LaysGiven}
use Rattle.group_caches.specs.Kept.{with_picture}
use Rattle.group_caches.proofs.Finds.{place_cache, put_layer}
use Rattle.group_caches.proofs.Layers.{laid_layer}
use Rattle.group_caches.proofs.caches.Caches.put.Goals as goal

pub returns-in-Some-clause-ok : goal.returns-in-Some-clause-ok
returns-in-Some-clause-ok c =
    let is : IsPlace c.args.group c.self.inside.places.items c.in-Some.i = (subst (λ ps. IsPlace c.args.group ps c.in-Some.i) c.deref.ensures.value c.in-Some.ensures.some) in
    on_ok_weaker c.lay_given.result
    (λ (lays : LaysGiven c.args.rect.now c.args.key c.args.given.now c.index_mut.result.now.device c.lay_given.new.device) f same.
    put_layer c.self.inside.places.items c.in-Some.i c.args.group (record { group = c.index_mut.result.now.group; device = c.lay_given.new.device }) is (ap (λ (x : Place). x.group) c.index_mut.ensures.value ∙ is.here c.index_mut.result.now)
    ∙ ap (map.insert _ c.args.group) (laid_layer c.args.rect.now c.args.key c.args.given.now c.index_mut.result.now.device c.lay_given.new.device f lays same ∙ ap (painted (c.args.rect.now ∷ []) (in_tile c.args.key) f) (place_cache c.self.inside.places.items c.in-Some.i c.args.group c.index_mut.result.now c.index_mut.result.now is c.index_mut.ensures.value))
    ∙ ap (λ m. with_picture m c.args.group c.args.rect.now c.args.key f) c.self.view_is)
    c.lay_given.ensures.ok

pub returns-in-None-clause-ok : goal.returns-in-None-clause-ok
returns-in-None-clause-ok c = on_ok_weaker c.lay_first.result
    (λ h f same. h f same ∙ ap (λ m. with_picture m c.args.group c.args.rect.now c.args.key f) c.self.view_is)
    c.lay_first.ensures.ok
