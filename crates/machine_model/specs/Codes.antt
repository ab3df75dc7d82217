-- The codes by which contracts tell states of the machine apart, part by part.
use Rattle.std.specs.Prelude.{◌≡◌, ℕ, Option, Some, None, List, ◌⊎◌}
use Rattle.std.specs.Coded.{Coded, code_by, coded×, coded⊎, coded_ℕ, coded_list, coded_option}
use Rattle.std.specs.Ordering.{nat_cmp}
use Rattle.std.specs.FinMap as map
use Rattle.std.specs.FinMap.{FinMap}
use Rattle.std.specs.FinSet as set
use Rattle.std.specs.FinSet.{FinSet}
use Rattle.std.proofs.Common.{refl, inl, inr}
use Rattle.geom_core.specs.Grid.{Key, key_cmp}
use Rattle.geom_core.specs.Keys.{key_code}
use Rattle.doc_model.specs.declared.tree.Look.{Look}
use Rattle.doc_model.specs.declared.job.Job.{Job}
use Rattle.doc_model.specs.declared.canvas.Patch.{Patch}
use Rattle.doc_model.specs.declared.canvas.Canvas.{Canvas}
use Rattle.doc_model.specs.declared.command.Command.{Command}
use Rattle.doc_model.specs.declared.command.Outcome.{Outcome}
use Rattle.doc_model.specs.contracts.job.Job as job
use Rattle.doc_model.specs.contracts.canvas.Patch as patch
use Rattle.doc_model.specs.contracts.canvas.Canvas as canvas
use Rattle.doc_model.specs.contracts.command.Command as command
use Rattle.doc_model.specs.contracts.command.Outcome as outcome
use Rattle.doc_model.specs.Layers.{Layer}
use Rattle.doc_model.specs.Picture.{Doc, Frame}
use Rattle.doc_model.specs.Codes.{look_code, doc_code, layer_code}
use Rattle.machine_model.specs.State.{Reach, Whole, Part, Child, Painter, Walker, Slot, Free, Paints, Walks, State}

-- a reach as its layer and tiles, where it has them
abbrev pub reach_parts : Reach → Option (ℕ × FinSet key_cmp)
reach_parts Whole = None
reach_parts (Part id keys) = Some (id, keys)

-- the reach back from them
abbrev pub reach_from : Option (ℕ × FinSet key_cmp) → Reach
reach_from None = Whole
reach_from (Some t) = Part t.0 t.1

-- nothing is lost
pub reach_back : (r : Reach) → reach_from (reach_parts r) ≡ r
reach_back Whole = refl
reach_back (Part id keys) = refl

-- of reaches
abbrev pub reach_code : Coded Reach
reach_code = code_by (Option (ℕ × FinSet key_cmp)) (coded_option (coded× coded_ℕ (set.code key_code))) reach_parts reach_from reach_back

-- of children
abbrev pub child_code : Coded Child
child_code = code_by (ℕ × (Look × Layer)) (coded× coded_ℕ (coded× look_code layer_code)) (λ c. (c.id, (c.look, c.pixels))) (λ t. record { id = t.0; look = t.1.0; pixels = t.1.1 }) (λ _. refl)

-- of jobs at work
abbrev pub painter_code : Coded Painter
painter_code = code_by ((ℕ × ℕ) × (Job × (Layer × List Key))) (coded× (coded× coded_ℕ coded_ℕ) (coded× (job.the_row).coded (coded× layer_code (coded_list key_code))))
    (λ w. ((w.serial, w.index), (w.job, (w.shot, w.published))))
    (λ t. record { serial = t.0.0; index = t.0.1; job = t.1.0; shot = t.1.1.0; published = t.1.1.1 }) (λ _. refl)

-- of walks at work
abbrev pub walker_code : Coded Walker
walker_code = code_by ((ℕ × Patch) × (List (ℕ × List Child) × List (ℕ × Key)))
    (coded× (coded× coded_ℕ (patch.the_row).coded) (coded× (coded_list (coded× coded_ℕ (coded_list child_code))) (coded_list (coded× coded_ℕ key_code))))
    (λ w. ((w.serial, w.patch), (w.shot, w.published)))
    (λ t. record { serial = t.0.0; patch = t.0.1; shot = t.1.0; published = t.1.1 }) (λ _. refl)

-- a slot as what is at work in it
abbrev pub slot_parts : Slot → Option (Painter ⊎ Walker)
slot_parts Free = None
slot_parts (Paints w) = Some (inl w)
slot_parts (Walks w) = Some (inr w)

-- the slot back from it
abbrev pub slot_from : Option (Painter ⊎ Walker) → Slot
slot_from None = Free
slot_from (Some (inl w)) = Paints w
slot_from (Some (inr w)) = Walks w

-- nothing is lost
pub slot_back : (s : Slot) → slot_from (slot_parts s) ≡ s
slot_back Free = refl
slot_back (Paints w) = refl
slot_back (Walks w) = refl

-- of slots
abbrev pub slot_code : Coded Slot
slot_code = code_by (Option (Painter ⊎ Walker)) (coded_option (coded⊎ painter_code walker_code)) slot_parts slot_from slot_back

-- of frames
abbrev pub frame_code : Coded Frame
frame_code = coded_list (coded_list coded_ℕ)

-- the fields of a state, in pairs
abbrev pub Parts : Type 0
Parts = (Canvas × (List Command × (List Outcome × List Frame))) × ((List (Doc × Reach) × (List (Doc × Reach) × (Doc × Doc))) × ((Option ℕ × FinMap nat_cmp Layer) × (List Patch × (List Slot × ℕ))))

-- of these fields
abbrev pub parts_code : Coded Parts
parts_code = coded× (coded× (canvas.the_row).coded (coded× (coded_list (command.the_row).coded) (coded× (coded_list (outcome.the_row).coded) (coded_list frame_code))))
    (coded× (coded× (coded_list (coded× doc_code reach_code)) (coded× (coded_list (coded× doc_code reach_code)) (coded× doc_code doc_code)))
    (coded× (coded× (coded_option coded_ℕ) (map.code coded_ℕ layer_code)) (coded× (coded_list (patch.the_row).coded) (coded× (coded_list slot_code) coded_ℕ))))

-- of states
abbrev pub state_code : Coded State
state_code = code_by Parts parts_code
    (λ s. ((s.canvas, (s.fed, (s.outcomes, s.frames))), ((s.past, (s.future, (s.base, s.present))), ((s.way, s.caches), (s.updates, (s.slots, s.next))))))
    (λ t. record {
      canvas = t.0.0;
      fed = t.0.1.0;
      outcomes = t.0.1.1.0;
      frames = t.0.1.1.1;
      past = t.1.0.0;
      future = t.1.0.1.0;
      base = t.1.0.1.1.0;
      present = t.1.0.1.1.1;
      way = t.1.1.0.0;
      caches = t.1.1.0.1;
      updates = t.1.1.1.0;
      slots = t.1.1.1.1.0;
      next = t.1.1.1.1.1;
    }) (λ _. refl)
