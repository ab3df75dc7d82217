use Rattle.std.proofs.Common.{◌∙◌, ap}
use Rattle.std.specs.FinMap as map
use Rattle.machine_model.specs.Effects.{caches_for}
use Rattle.group_caches.specs.Entries.{caches_of}
use Rattle.group_caches.proofs.Keeping.{for_doc}
use Rattle.group_caches.proofs.caches.Caches.keep.Goals as goal

pub returns : goal.returns
returns c = λ doc e. (λ i. caches_of (c.swap.ensures.x_after i).items) ∙ ap map.from_entries c.bring.ensures.entries ∙ for_doc (caches_of c.self.inside.places.items) doc c.args.groups.now e ∙ ap (λ m. caches_for m doc) c.self.view_is
