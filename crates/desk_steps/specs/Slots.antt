-- The devices of layers, each in the slot of its id.
use Rattle.std.specs.Prelude.{◌≡◌, ℕ, ◌==◌, Bool, true, cond, if◌then◌else◌, Option, Some, None, is_some, List, [], ◌∷◌}
use Rattle.std.specs.Option.{unwrap_or}
use Rattle.std.specs.Ordering.{nat_cmp}
use Rattle.std.specs.FinMap as map
use Rattle.std.specs.BTreeMap as tree
use Rattle.std.specs.BTreeMap.{BTreeMap}
use Rattle.pixel_core.specs.Rgba.{clear}
use Rattle.geom_core.specs.Grid.{Key}
use Rattle.doc_model.specs.Layers.{Layer}
use Rattle.doc_model.specs.Forest.{Forest, content}
use Rattle.doc_model.specs.declared.tree.Change.{Change}
use Rattle.doc_model.specs.declared.tree.Change.TheVariants as change
use Rattle.paint_device.specs.Sheets.{Sheet, sheet}
use Rattle.paint_device.specs.Seen.{layer_of}
use Rattle.desk_steps.specs.Founds.{has_key}
use Rattle.desk_steps.specs.declared.arrangement.SlotDevice.{SlotDevice}

-- a slot for each id that was a paint layer
abbrev pub Slots : Type 0
Slots = BTreeMap ℕ (Option Sheet)

-- whether an id has a slot
abbrev pub has_slot : Slots → ℕ → Bool
has_slot slots q = is_some (tree.get nat_cmp slots q)

-- the device in the slot of an id
abbrev pub device_in : Slots → ℕ → Option Sheet
device_in slots q = unwrap_or (tree.get nat_cmp slots q) None

-- the layer that a device shows
abbrev pub layer_or : Option Sheet → Layer
layer_or o = layer_of (unwrap_or o (sheet clear map.empty))

-- just the paint nodes of the tree have devices
abbrev pub HasDevices : Forest (Unit {0}) → Slots → Type 0
HasDevices t slots = (q : ℕ) → is_some (device_in slots q) ≡ is_some (content q t)

-- what stands under each id once slots are filled one after another, by what f makes of a device
abbrev pub once_filled : {A : Type 0} → (Option Sheet → A) → (ℕ → A) → List SlotDevice → ℕ → A
once_filled f g [] = g
once_filled f g (s ∷ rest) = once_filled f (λ q. if s.id == q then f s.device else g q) rest

-- each of these ids has a slot
abbrev pub AllHave : (ℕ → Bool) → List SlotDevice → Type 0
AllHave has [] = Unit {0}
AllHave has (s ∷ rest) = (has s.id ≡ true) × AllHave has rest

-- the devices after a change that leaves the tree t: the new layer's is there, and those of layers that were removed are not
abbrev pub devices_after : Change → Forest (Unit {0}) → (ℕ → Option Sheet) → ℕ → Option Sheet
devices_after (change.Layer id above place pixel) t g q = if id == q then Some (sheet pixel map.empty) else g q
devices_after (change.Group id above place) t g q = g q
devices_after (change.Remove id) t g q = cond (is_some (content q t)) (g q) None
devices_after (change.Place id above place) t g q = g q
devices_after (change.Look id look) t g q = g q

-- only the device under that id is another one, which R ties to the one before
pub record ChangesDevice (old new : Slots) (id : ℕ) (R : Sheet → Sheet → Type 0) : Type 0 where
  pub before : Sheet
  pub device : Sheet
  pub was : device_in old id ≡ Some before
  pub puts : (q : ℕ) → device_in new q ≡ cond (id == q) (Some device) (device_in old q)
  pub slots : (q : ℕ) → has_slot new q ≡ has_slot old q
  pub holds : R before device

-- the tree, which slots and layers there are, and which keys stand in each layer
pub record Standing : Type 0 where
  pub tree : Forest (Unit {0})
  pub slots : ℕ → Bool
  pub layers : ℕ → Bool
  pub keys : ℕ → Key → Bool

-- those of a tree and devices
abbrev pub standing : Forest (Unit {0}) → Slots → Standing
standing t slots = record { tree = t; slots = has_slot slots; layers = λ q. is_some (device_in slots q); keys = λ q. has_key (device_in slots q) }

-- the same tree and layers, and the slots and keys or more
pub record Grows (old new : Standing) : Type 0 where
  pub tree : old.tree ≡ new.tree
  pub slots : (q : ℕ) → old.slots q ≡ true → new.slots q ≡ true
  pub layers : (q : ℕ) → new.layers q ≡ old.layers q
  pub keys : (q : ℕ) (k : Key) → old.keys q k ≡ true → new.keys q k ≡ true
