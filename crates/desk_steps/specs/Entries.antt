-- A store as its present document, its entries and the stroke under way.
use Rattle.std.specs.Prelude.{◌≡◌, ◌≤◌, true, Bool, is_some, Option, Some, None, List, [], ◌∷◌}
use Rattle.std.specs.FinMap as map
use Rattle.geom_core.specs.Grid.{Key}
use Rattle.doc_model.specs.Forest.{content}
use Rattle.doc_model.specs.Adjusting.{adjusted}
use Rattle.doc_model.specs.Picture.{Doc}
use Rattle.machine_model.specs.State.{Reach}
use Rattle.machine_model.specs.State as state
use Rattle.history_core.specs.Stacks.{Stack}
use Rattle.desk_steps.specs.declared.entry.HistoryEntry.{HistoryEntry}
use Rattle.desk_steps.specs.declared.entry.HistoryEntry.TheVariants.{Tree, Layer}
use Rattle.desk_steps.specs.declared.entry.Way.{Way}
use Rattle.desk_steps.specs.Archives.{Archive, IsArchive}
use Rattle.desk_steps.specs.Archives as archives
use Rattle.desk_steps.specs.declared.document.Document.{Document}
use Rattle.desk_steps.specs.Slots.{Standing, standing}
use Rattle.desk_steps.specs.Documents.{doc_in, arranged, arranged_standing, Fits}
use Rattle.memento_core.specs.Revisions.{keys_in}
use Rattle.desk_steps.specs.Founds.{patched}

-- the document that an entry gives back, from the one that it is laid on
abbrev pub doc_of : Doc → HistoryEntry → Doc
doc_of now (Tree a) = arranged a now
doc_of now (Layer id found) = adjusted id (patched found) now

-- how far the change between the two reaches
abbrev pub reach_in : HistoryEntry → Reach
reach_in (Tree a) = state.Whole
reach_in (Layer id found) = state.Part id (keys_in found)

-- an entry of a layer is laid on a document with that paint layer
abbrev pub FitsOn : Doc → HistoryEntry → Type 0
FitsOn now (Tree a) = Unit {0}
FitsOn now (Layer id found) = is_some (content id now) ≡ true

-- the documents that entries give back one after another, each with its reach
abbrev pub laid : Doc → List HistoryEntry → List (Doc × Reach)
laid now [] = []
laid now (e ∷ es) = (doc_of now e, reach_in e) ∷ laid (doc_of now e) es

-- what stands in the document that an entry gives back
abbrev pub standing_after : Standing → HistoryEntry → Standing
standing_after ks (Tree a) = arranged_standing a ks
standing_after ks (Layer id found) = ks

-- an arrangement fits the slots, and the keys of an entry of a layer stand
abbrev pub FitsKeys : Standing → HistoryEntry → Type 0
FitsKeys ks (Tree a) = Fits a ks
FitsKeys ks (Layer id found) = (k : Key) → map.contains_key found k ≡ true → ks.keys id k ≡ true

-- so does each of entries that are laid one after another
abbrev pub AllFit : Standing → List HistoryEntry → Type 0
AllFit ks [] = Unit {0}
AllFit ks (e ∷ es) = FitsKeys ks e × AllFit (standing_after ks e) es

-- the entry gives back what stands in the one document, and then what stood in the other
pub record Trades (old new : Standing) (was is : HistoryEntry) : Type 0 where
  pub now : standing_after old was ≡ new
  pub back : standing_after new is ≡ old
  pub fits : FitsKeys new is

-- the document from before the stroke under way
abbrev pub base_of : Option Way → Doc → Doc
base_of None doc = doc
base_of (Some w) doc = adjusted w.id (patched w.found) doc

-- the stroke under way as contracts see it
abbrev pub way_of : Option Way → archives.Way
way_of None = None
way_of (Some w) = Some (w.id, keys_in w.found)

-- the store of these parts
abbrev pub archive_of : Doc → Stack HistoryEntry → Option Way → Bool → Archive
archive_of doc history way room = record {
  past = laid (base_of way doc) history.past;
  base = base_of way doc;
  present = doc;
  future = laid (base_of way doc) history.future;
  way = way_of way;
  room = room;
}

-- neighbours differ within their reaches, and there is room where it was promised
pub record IsKept (doc : Doc) (history : Stack HistoryEntry) (way : Option Way) (room : Bool) : Type 0 where
  pub archive : IsArchive (archive_of doc history way room)
  pub spare : room ≡ true → 1 ≤ history.spare

-- the keys of the stroke under way stand
abbrev pub WayFits : Standing → Option Way → Type 0
WayFits ks None = Unit {0}
WayFits ks (Some w) = (k : Key) → map.contains_key w.found k ≡ true → ks.keys w.id k ≡ true

-- each key that was noted stands where it is to be exchanged
pub record KeysStand (ks : Standing) (history : Stack HistoryEntry) (way : Option Way) : Type 0 where
  pub past : AllFit ks history.past
  pub future : AllFit ks history.future
  pub under_way : WayFits ks way

-- a store whose layers are devices
pub record IsStored (doc : Document) (history : Stack HistoryEntry) (way : Option Way) (room : Bool) : Type 0 where
  pub kept : IsKept (doc_in doc) history way room
  pub stand : KeysStand (standing doc.tree doc.slots) history way
