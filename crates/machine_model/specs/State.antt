-- The state of the machine.
use Rattle.std.specs.Prelude.{ℕ, suc, zero, Bool, true, false, Option, Some, None, List, [], ◌∷◌, length, drop}
use Rattle.std.specs.Ordering.{nat_cmp}
use Rattle.std.specs.FinMap as map
use Rattle.std.specs.FinMap.{FinMap}
use Rattle.std.specs.FinSet.{FinSet}
use Rattle.pixel_core.specs.Rgba.{clear}
use Rattle.geom_core.specs.Grid.{Key, key_cmp}
use Rattle.doc_model.specs.declared.job.Job.{Job}
use Rattle.doc_model.specs.declared.tree.Look.{Look}
use Rattle.doc_model.specs.declared.canvas.Canvas.{Canvas}
use Rattle.doc_model.specs.declared.command.Command.{Command}
use Rattle.doc_model.specs.declared.command.Outcome.{Outcome}
use Rattle.doc_model.specs.declared.canvas.Patch.{Patch}
use Rattle.doc_model.specs.Layers.{Layer, plain}
use Rattle.doc_model.specs.Forest.{none}
use Rattle.doc_model.specs.Picture.{Doc, Frame}
use Rattle.doc_model.specs.Strokes.{Stroke, Entry, Strokes, entries}

-- how far a change reaches: the whole document, or these tiles of one layer
pub data Reach : Type 0 where
  Whole : Reach
  Part : ℕ → FinSet key_cmp → Reach

-- a child of a group, with its pixels
pub record Child : Type 0 where
  pub id : ℕ
  pub look : Look
  pub pixels : Layer

-- a job at work: its index in its stroke's list, which counts from 0, the pixels that it was started with, and the tiles that it has published
pub record Painter : Type 0 where
  pub serial : ℕ
  pub index : ℕ
  pub job : Job
  pub shot : Layer
  pub published : List Key

-- a walk at work: the groups that it composes, each after those in it, with their children
pub record Walker : Type 0 where
  pub serial : ℕ
  pub patch : Patch
  pub shot : List (ℕ × List Child)
  pub published : List (ℕ × Key)

-- a slot is free, or a job or a walk is at work in it
pub data Slot : Type 0 where
  Free : Slot
  Paints : Painter → Slot
  Walks : Walker → Slot

-- past and future from the newest on; way is the number of started jobs of the stroke under way; next is the next serial
pub record State : Type 0 where
  pub canvas : Canvas
  pub fed : List Command
  pub outcomes : List Outcome
  pub frames : List Frame
  pub past : List (Doc × Reach)
  pub future : List (Doc × Reach)
  pub base : Doc
  pub present : Doc
  pub way : Option ℕ
  pub caches : FinMap nat_cmp Layer
  pub updates : List Patch
  pub slots : List Slot
  pub next : ℕ

-- a state in which nothing was fed, with n slots
abbrev pub new_state : Canvas → ℕ → State
new_state canvas n = record {
  canvas = canvas;
  fed = [];
  outcomes = [];
  frames = [];
  past = [];
  future = [];
  base = none;
  present = none;
  way = None;
  caches = map.insert map.empty 0 (plain clear);
  updates = [];
  slots = free_slots n;
  next = 0;
}
  where
    free_slots : ℕ → List Slot
    free_slots zero = []
    free_slots (suc n) = Free ∷ free_slots n

-- the entries that are left
abbrev pub waiting : State → List Entry
waiting s = drop (length s.outcomes) (entries s.fed)

-- the first item
abbrev pub first : {A : Type 0} → List A → Option A
first [] = None
first (x ∷ xs) = Some x

-- the entry at the head
abbrev pub head : State → Option Entry
head s = first (waiting s)

-- the stroke, where the entry is one
abbrev pub stroke_of : Option Entry → Option Stroke
stroke_of (Some (Strokes stroke)) = Some stroke
stroke_of e = None

-- the stroke at the head
abbrev pub head_stroke : State → Option Stroke
head_stroke s = stroke_of (head s)

-- whether the slot is free
abbrev pub is_free : Slot → Bool
is_free Free = true
is_free slot = false
