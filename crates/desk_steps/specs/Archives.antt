-- A store as contracts see it: documents with their history, and the stroke under way.
use Rattle.std.specs.Prelude.{◌≡◌, ℕ, Bool, false, Option, Some, None, List, [], ◌∷◌, refl, Ok}
use Rattle.std.specs.FinSet as set
use Rattle.std.specs.FinSet.{FinSet}
use Rattle.std.specs.Coded.{Coded, code_by, coded×, coded_ℕ, coded_bool, coded_list, coded_option}
use Rattle.pixel_core.specs.Rgba.{clear}
use Rattle.geom_core.specs.Grid.{key_cmp}
use Rattle.geom_core.specs.Keys.{key_code}
use Rattle.geom_core.specs.Exchanged.{HasTouched}
use Rattle.geom_core.specs.declared.Touched.{Touched}
use Rattle.doc_model.specs.Layers.{Layer, plain}
use Rattle.doc_model.specs.Shots.{published}
use Rattle.doc_model.specs.Forest.{Forest, none}
use Rattle.doc_model.specs.Adjusting.{adjusted}
use Rattle.doc_model.specs.Each.{each}
use Rattle.doc_model.specs.Readers.{parent}
use Rattle.doc_model.specs.Changes.{changed}
use Rattle.doc_model.specs.Codes.{doc_code}
use Rattle.doc_model.specs.Laws.{IsDocument}
use Rattle.doc_model.specs.Picture.{Doc}
use Rattle.doc_model.specs.declared.tree.Change.{Change}
use Rattle.machine_model.specs.State.{Reach, Whole, Part}
use Rattle.machine_model.specs.Codes.{reach_code}
use Rattle.machine_model.specs.Effects.{layer_in}
use Rattle.machine_model.specs.Reached.{PastReaches, FutureReaches, ReachesOneLayer}
use Rattle.job_core.specs.Paints.{Paint, layer_of}
use Rattle.job_core.specs.Points.{Spot, all_painted_in}
use Rattle.desk_steps.specs.declared.reach.Reach as told
use Rattle.desk_steps.specs.declared.reach.Reach.TheVariants as tells

-- the stroke under way: its layer, and the keys of the tiles that were put since it began
abbrev pub Way : Type 0
Way = Option (ℕ × FinSet key_cmp)

-- past and future from the newest on, each document with the reach of the change that came after it or was undone to it. Base is the document without the stroke under way, present has what was painted of it. room: what one more change needs was taken
pub record Archive : Type 0 where
  pub past : List (Doc × Reach)
  pub base : Doc
  pub present : Doc
  pub future : List (Doc × Reach)
  pub way : Way
  pub room : Bool

-- nothing was done
abbrev pub empty_archive : Archive
empty_archive = record { past = []; base = none; present = none; future = []; way = None; room = false }

-- the stroke under way has changed the pixels of its layer alone, and only in the tiles that were put
abbrev pub IsUnderWay : Way → Doc → Doc → Type 0
IsUnderWay None base present = present ≡ base
IsUnderWay (Some w) base present = ReachesOneLayer w.0 w.1 base present

-- neighbours differ within their reaches, and the document keeps to the limits
pub record IsArchive (a : Archive) : Type 0 where
  pub past_reaches : PastReaches a.past a.base
  pub future_reaches : FutureReaches a.base a.future
  pub under_way : IsUnderWay a.way a.base a.present
  pub limits : IsDocument a.base

-- the layer of the stroke under way
abbrev pub layer_under_way : Way → Doc → Layer
layer_under_way None doc = plain clear
layer_under_way (Some w) doc = layer_in w.0 doc

-- the same as it is now
abbrev pub layer_now : Archive → Layer
layer_now a = layer_under_way a.way a.present

-- the document without its layers' pixels
abbrev pub shape : Doc → Forest (Unit {0})
shape doc = each (λ id layer. tt) doc

-- a tile of the job is painted on the layer of the stroke under way
abbrev pub with_put : Way → Paint → Archive → Archive
with_put None w a = a
with_put (Some way) w a = record a { present = adjusted way.0 (published w.job (layer_of w.shot) w.key) a.present; way = Some (way.0, set.insert way.1 w.key) }

-- point operations are painted in one tile on the layer of the stroke under way
abbrev pub with_painted : Way → Spot → Archive → Archive
with_painted None w a = a
with_painted (Some way) w a = record a { present = adjusted way.0 (all_painted_in w.jobs w.key) a.present; way = Some (way.0, set.insert way.1 w.key) }

-- the stroke under way becomes the newest change
abbrev pub finished : Way → Archive → Archive
finished None a = a
finished (Some way) a = record { past = (a.base, Part way.0 way.1) ∷ a.past; base = a.present; present = a.present; future = []; way = None; room = false }

-- what was painted of the stroke under way is taken back
abbrev pub reverted : Archive → Archive
reverted a = record a { present = a.base; way = None }

-- the tree change was made
pub record Changes (change : Change) (old new : Archive) : Type 0 where
  pub gives : changed plain change old.base ≡ Ok new.base
  pub new_is : new ≡ record { past = (old.base, Whole) ∷ old.past; base = new.base; present = new.base; future = []; way = None; room = false }

-- the newest of the past becomes the document, by the past
abbrev pub undone : List (Doc × Reach) → Archive → Archive
undone [] a = a
undone (e ∷ past) a = record a { past = past; base = e.0; present = e.0; future = (a.base, e.1) ∷ a.future }

-- the next of the future becomes the document, by the future
abbrev pub redone : List (Doc × Reach) → Archive → Archive
redone [] a = a
redone (e ∷ future) a = record a { past = (a.base, e.1) ∷ a.past; base = e.0; present = e.0; future = future }

-- what is told of a reach: for tiles of a layer the group round it and these tiles, for a tree change that it is the whole
abbrev pub TellsReach : Reach → Doc → told.Reach → Type 0
TellsReach Whole doc r = r ≡ tells.Whole
TellsReach (Part id keys) doc r = (group : ℕ) × (touched : Touched) × (r ≡ tells.Part group touched) × (parent id 0 doc ≡ Some group) × HasTouched keys touched

-- the same of the first that can be undone or redone
abbrev pub TellsFirst : List (Doc × Reach) → Doc → told.Reach → Type 0
TellsFirst [] doc r = ⊥
TellsFirst (e ∷ rest) doc r = TellsReach e.1 doc r

-- how many tiles there are in a reach
abbrev pub tiles_in : Reach → ℕ
tiles_in Whole = 0
tiles_in (Part id keys) = set.len keys

-- how many there are in the first that can be undone or redone
abbrev pub tiles_in_first : List (Doc × Reach) → ℕ
tiles_in_first [] = 0
tiles_in_first (e ∷ rest) = tiles_in e.1

-- the code by which contracts tell stores apart
abbrev pub archive_code : Coded Archive
archive_code = code_by ((List (Doc × Reach) × (Doc × Doc)) × (List (Doc × Reach) × (Way × Bool)))
    (coded× (coded× (coded_list (coded× doc_code reach_code)) (coded× doc_code doc_code)) (coded× (coded_list (coded× doc_code reach_code)) (coded× (coded_option (coded× coded_ℕ (set.code key_code))) coded_bool)))
    (λ a. ((a.past, (a.base, a.present)), (a.future, (a.way, a.room))))
    (λ t. record { past = t.0.0; base = t.0.1.0; present = t.0.1.1; future = t.1.0; way = t.1.1.0; room = t.1.1.1 }) (λ _. refl)
