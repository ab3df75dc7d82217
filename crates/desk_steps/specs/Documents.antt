-- A document as its tree and the devices of its layers, and how it is arranged another way.
use Rattle.std.specs.Prelude.{◌≡◌, ℕ, is_some}
use Rattle.memento_core.specs.Planes.{Keyed}
use Rattle.tile_core.specs.Pixels.{Pixels}
use Rattle.doc_model.specs.Forest.{content}
use Rattle.doc_model.specs.Adjusting.{adjusted}
use Rattle.doc_model.specs.Each.{each}
use Rattle.doc_model.specs.Picture.{Doc}
use Rattle.machine_model.specs.Effects.{layer_in}
use Rattle.tree_core.specs.Exchanges.{Leads, led}
use Rattle.desk_steps.specs.Archives.{shape}
use Rattle.desk_steps.specs.Founds.{StandIn, has_key, patched}
use Rattle.desk_steps.specs.Slots.{device_in, layer_or, once_filled, AllHave, Standing, standing, Grows}
use Rattle.desk_steps.specs.declared.arrangement.Arrangement.{Arrangement}
use Rattle.desk_steps.specs.declared.document.Document.{Document}

-- the document that it shows
abbrev pub doc_in : Document → Doc
doc_in d = each (λ q u. layer_or (device_in d.slots q)) d.tree

-- a layer changes, and what was noted of it gives back the same document as before: keys stay, and each noted one is there
pub record Regains (id : ℕ) (found after : Keyed Pixels) (old new : Document) : Type 0 where
  pub same : adjusted id (patched after) (doc_in new) ≡ adjusted id (patched found) (doc_in old)
  pub grows : Grows (standing old.tree old.slots) (standing new.tree new.slots)
  pub stand : StandIn after (device_in new.slots id)

-- the document in another arrangement: with the tree that it leads to, and the layers that it brings
abbrev pub arranged : Arrangement → Doc → Doc
arranged a doc = each (λ q u. once_filled layer_or (λ p. layer_in p doc) a.slots.items q) (led a.tree (shape doc))

-- what stands after it
abbrev pub arranged_standing : Arrangement → Standing → Standing
arranged_standing a ks = record { tree = led a.tree ks.tree; slots = ks.slots; layers = once_filled is_some ks.layers a.slots.items; keys = once_filled has_key ks.keys a.slots.items }

-- it leads to another tree, just the layers of that tree are there after it, and what it brings or takes has slots
pub record Fits (a : Arrangement) (ks : Standing) : Type 0 where
  pub leads : Leads a.tree ks.tree
  pub layers : (q : ℕ) → is_some (content q (led a.tree ks.tree)) ≡ once_filled is_some ks.layers a.slots.items q
  pub slots : AllHave ks.slots a.slots.items
