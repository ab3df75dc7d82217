-- A new desk is sound.
use Rattle.std.proofs.Common.{◌≡◌, ℕ, suc, zero, ◌≤◌, None, [], ◌∷◌, map, refl, ap, arith}
use Rattle.std.specs.Prelude.{replicate}
use Rattle.std.specs.List.{AllByRecursion}
use Rattle.std.specs.FinMap as fin
use Rattle.std.proofs.lemmas.List.Elements.{All-nil}
use Rattle.pixel_core.specs.Rgba.{clear}
use Rattle.doc_model.specs.declared.canvas.Canvas.{Canvas}
use Rattle.doc_model.specs.Canvases.{IsOfLimits}
use Rattle.doc_model.specs.Layers.{plain}
use Rattle.doc_model.specs.Picture.{canvas_area}
use Rattle.entry_queue.specs.Pushed.{StandsFor}
use Rattle.desk_steps.specs.Archives.{empty_archive}
use Rattle.machine_model.specs.State.{Free, new_state}
use Rattle.frame_core.specs.Scenes.{HasSides}
use Rattle.machine_model.proofs.RunsSound.{new_sound}
use Rattle.update_queue.specs.Waiting.{waiting}
use Rattle.desk_state.specs.Parts.{Parts, state_of, slot_of}
use Rattle.desk_state.specs.Tied.{IsDesk, IsKept}

-- the parts of a new desk
abbrev pub new_parts : Canvas → ℕ → Parts
new_parts canvas n = record {
  canvas = canvas;
  fed = [];
  queue = record { left = []; outcomes = [] };
  store = empty_archive;
  caches = fin.insert fin.empty 0 (plain clear);
  updates = waiting (canvas_area canvas) [];
  slots = replicate n None;
  frames = [];
  way = None;
  next = 0;
}

free_slots : (canvas : Canvas) (n : ℕ) → map slot_of (replicate n None) ≡ (new_state canvas n).slots
free_slots canvas zero = refl
free_slots canvas (suc n) = ap (λ slots. Free ∷ slots) (free_slots canvas n)

pub new_is : (canvas : Canvas) (n : ℕ) → state_of (new_parts canvas n) ≡ new_state canvas n
new_is canvas n = λ i. record (new_state canvas n) { slots = free_slots canvas n i }

all_kept : (n : ℕ) → AllByRecursion IsKept (replicate n None)
all_kept zero = tt
all_kept (suc n) = (tt, all_kept n)

pub new_desk : (canvas : Canvas) (n : ℕ) → IsOfLimits canvas → 1 ≤ n → n ≤ 17 → StandsFor [] (record { left = []; outcomes = [] }) → IsDesk (new_parts canvas n)
new_desk canvas n limits some few stands = record {
  sound = new_sound (state_of (new_parts canvas n)) (record { canvas = canvas; slots = n; of_limits = limits; some_slot = some; few_slots = few; is = new_is canvas n });
  queue = stands;
  way = refl;
  slots = all_kept n;
  area = refl;
  few = omega arith;
  sides = All-nil (HasSides canvas.w canvas.h);
}
