-- The numbers of an event are in their ranges.
use Rattle.std.proofs.Common.{◌≡◌, ℕ, ◌≤◌, ◌<◌, Bool, true, ◌&&◌, nat_le, length, Option, Some, refl, arith}
use Rattle.std.specs.Prelude.{ℤ, pos, negsuc, ◌+ℤ◌, ◌≤ℤ◌, ◌<ℤ◌, int_le, slice_get}
use Rattle.std.specs.List.{list_all}
use borrow.Author.Differences.{ints}
use Rattle.std.proofs.lemmas.Bool.Decides.{nat_tests}
use Rattle.std.proofs.lemmas.Option.{slice_get_within}
use Rattle.script_lines.proofs.FieldLemmas.{first, second, both}
use Rattle.geom_core.specs.Areas.{Area, lies_in, world, right, bottom}
use Rattle.geom_core.specs.Grid.{Key, cell, cell_of}
use Rattle.geom_core.specs.Keys.{IsWorldKey}
use Rattle.doc_model.specs.declared.canvas.Canvas.{Canvas}
use Rattle.doc_model.specs.declared.canvas.Patch.{Patch}
use Rattle.doc_model.specs.Canvases.{IsOfLimits}
use Rattle.doc_model.specs.Picture.{canvas_area}
use Rattle.doc_model.specs.Queues.{in_place}
use Rattle.machine_model.specs.State.{State, Slot}
use Rattle.machine_model.specs.Sound.{IsOrderly}
use Rattle.machine_model.proofs.Lists.{each_get}
use Rattle.trace_lines.specs.Ranges.{is_place, is_key}

-- a slot's place
pub place_fits : (s : State) (p : ℕ) (x : Slot) → IsOrderly s → slice_get s.slots p ≡ Some x → is_place p ≡ true
place_fits s p x orderly h = by (length s.slots) (slice_get_within s.slots p x h) orderly.counted.slots.1
  where
    by : (n : ℕ) → p < n → n ≤ 17 → nat_le p 16 ≡ true
    by n a b = grind (arith, nat_tests)

side_fits : (z : ℤ) → negsuc 255 ≤ℤ z → z <ℤ pos 256 → (int_le (negsuc 255) z && int_le z (pos 255)) ≡ true
side_fits z a b = grind (arith, ints)

-- a tile of the world
pub key_fits : (k : Key) → IsWorldKey k → is_key k ≡ true
key_fits k w = both _ _ (side_fits k.col w.left w.right) (side_fits k.row w.top w.bottom)

-- what lies in a canvas of the limits lies in the world
axis_fits : (x : ℤ) (n m : ℕ) → m ≤ 2048 → (int_le (pos 0) x && int_le (x +ℤ pos n) (pos 0 +ℤ pos m)) ≡ true → (int_le (negsuc 16383) x && int_le (x +ℤ pos n) (pos 16384)) ≡ true
axis_fits x n m few h = grind (arith, ints)

axis_small : (x : ℤ) (n m : ℕ) → m ≤ 2048 → (int_le (pos 0) x && int_le (x +ℤ pos n) (pos 0 +ℤ pos m)) ≡ true → n ≤ 4096
axis_small x n m few h = grind (arith, ints)

-- a patch that waits lies in the world, and is of at most 4096 by 4096 points
pub record IsSmall (a : Area) : Type 0 where
  pub world : lies_in a world ≡ true
  pub columns : a.w ≤ 4096
  pub rows : a.h ≤ 4096

small_in : (a : Area) (c : Canvas) → IsOfLimits c → lies_in a (canvas_area c) ≡ true → IsSmall a
small_in a c limits h =
    let x : (int_le (pos 0) a.x && int_le (a.x +ℤ pos a.w) (pos 0 +ℤ pos c.w)) ≡ true = first (int_le (pos 0) a.x && int_le (right a) (right (canvas_area c))) (int_le (pos 0) a.y && int_le (bottom a) (bottom (canvas_area c))) h in
    let y : (int_le (pos 0) a.y && int_le (a.y +ℤ pos a.h) (pos 0 +ℤ pos c.h)) ≡ true = second (int_le (pos 0) a.x && int_le (right a) (right (canvas_area c))) (int_le (pos 0) a.y && int_le (bottom a) (bottom (canvas_area c))) h in
    record {
      world = both _ _ (axis_fits a.x a.w c.w limits.w.1 x) (axis_fits a.y a.h c.h limits.h.1 y);
      columns = axis_small a.x a.w c.w limits.w.1 x;
      rows = axis_small a.y a.h c.h limits.h.1 y;
    }

pub waiting_small : (s : State) (i : ℕ) (q : Patch) → IsOrderly s → slice_get s.updates i ≡ Some q → IsSmall q.rect
waiting_small s i q orderly h =
    let e = each_get (in_place (canvas_area s.canvas)) s.updates i q h orderly.walking.queue.places in
    small_in q.rect s.canvas orderly.counted.canvas (second (lies_in q.rect (cell (cell_of q.rect))) (lies_in q.rect (canvas_area s.canvas)) e)
