-- A printed command reads back.
use Rattle.std.proofs.Common.{◌≡◌, ℕ, Bool, true, false, ◌&&◌, nat_le, if◌then◌else◌, List, [], ◌∷◌, ◌++◌, Ok, refl, ap, arith}
use Rattle.std.specs.Prelude.{◌==◌}
use Rattle.std.specs.List.{list_all}
use Rattle.std.specs.Fmt.{decimal}
use Rattle.std.proofs.lemmas.Bool.Decides.{nat_tests}
use Rattle.pixel_core.specs.Rgba.{Rgba, clear, same_pixel, rgba as pixel}
use Rattle.doc_model.specs.declared.canvas.Canvas.{Canvas}
use Rattle.doc_model.specs.declared.tree.Look.{Look}
use Rattle.doc_model.specs.declared.tree.Change.{Change}
use Rattle.doc_model.specs.declared.tree.Change.TheVariants as change
use Rattle.doc_model.specs.declared.command.Command.{Command}
use Rattle.doc_model.specs.declared.command.Command.TheVariants as command
use Rattle.script_lines.specs.Values.{natural}
use Rattle.script_lines.specs.Colours.{is_byte, is_pixel}
use Rattle.script_forms.specs.declared.words.Word.TheVariants as word
use Rattle.script_forms.specs.Texts.{op_text, seen_text}
use Rattle.script_forms.specs.Forms.{command_of, canvas, sides, spot}
use Rattle.script_forms.specs.Ranges.{is_id, is_spot, is_number, change_in_range, in_range, is_sound, in_limits}
use Rattle.script_text.specs.Text.{rgba_text, spot_fields, ground_fields, mark_fields, canvas_fields}
use Rattle.script_text.proofs.PrintedFields.{rgba_back, rgb_back}
use Rattle.script_lines.specs.Fronts.{is_field}
use Rattle.script_lines.proofs.FieldLemmas.{first, second, both}
use Rattle.script_text.proofs.PrintedWords.{op_back, op_field, seen_back, seen_field, mark_back, natural_field, rgba_field, rgb_field, upto_back, from_one_back}
use Rattle.script_text.proofs.PrintedJobs.{Told, told_job}

id_field : (n : ℕ) → is_id n ≡ true → is_field (decimal n) ≡ true
id_field n h = natural_field 65535 n (omega arith) (second (nat_le 1 n) (nat_le n 65535) h)

-- a node's number, the group above it, and its place there
record IsSpot (id parent at : ℕ) : Type 0 where
  node : is_id id ≡ true
  above : nat_le parent 65535 ≡ true
  place : is_byte at ≡ true

spot_in : (id parent at : ℕ) → is_spot id parent at ≡ true → IsSpot id parent at
spot_in id parent at h =
    let more = second (is_id id) (nat_le parent 65535 && is_byte at) h in
    record { node = first (is_id id) (nat_le parent 65535 && is_byte at) h; above = first (nat_le parent 65535) (is_byte at) more; place = second (nat_le parent 65535) (is_byte at) more }

spot_back : (id parent at : ℕ) → is_spot id parent at ≡ true → spot (decimal id) (decimal parent) (decimal at) ≡ Ok (id, parent, at)
unfolding spot
spot_back id parent at h =
    let s = spot_in id parent at h in
    rw (from_one_back 65535 id (omega arith) s.node, upto_back 65535 parent (omega arith) s.above, upto_back 255 at (omega arith) s.place) refl

spot_plain : (id parent at : ℕ) (more : List (List ℕ)) → is_spot id parent at ≡ true → list_all is_field more ≡ true → list_all is_field (spot_fields id parent at ++ more) ≡ true
spot_plain id parent at more h k =
    let s = spot_in id parent at h in
    both _ _ (id_field id s.node) (both _ _ (natural_field 65535 parent (omega arith) s.above) (both _ _ (natural_field 255 at (omega arith) s.place) k))

clear_is : (p : Rgba) → same_pixel p clear ≡ true → clear ≡ p
clear_is p h =
    let low = first ((p.r == 0) && (p.g == 0)) ((p.b == 0) && (p.a == 0)) h in
    let high = second ((p.r == 0) && (p.g == 0)) ((p.b == 0) && (p.a == 0)) h in
    let r0 : (p.r == 0) ≡ true = first (p.r == 0) (p.g == 0) low in
    let g0 : (p.g == 0) ≡ true = second (p.r == 0) (p.g == 0) low in
    let b0 : (p.b == 0) ≡ true = first (p.b == 0) (p.a == 0) high in
    let a0 : (p.a == 0) ≡ true = second (p.b == 0) (p.a == 0) high in
    let r : 0 ≡ p.r = grind (arith, nat_tests) in
    let g : 0 ≡ p.g = grind (arith, nat_tests) in
    let b : 0 ≡ p.b = grind (arith, nat_tests) in
    let a : 0 ≡ p.a = grind (arith, nat_tests) in
    λ i. pixel (r i) (g i) (b i) (a i)

layer_by : (b : Bool) (id parent at : ℕ) (p : Rgba) → same_pixel p clear ≡ b → is_spot id parent at ≡ true → is_pixel p ≡ true → command_of word.Layer (spot_fields id parent at ++ (if b then [] else rgba_text p ∷ [])) ≡ Ok (command.Change (change.Layer id parent at p))
unfolding command_of
layer_by true id parent at p e h k = rw (spot_back id parent at h) (ap (λ q. Ok (command.Change (change.Layer id parent at q))) (clear_is p e))
layer_by false id parent at p e h k = rw (spot_back id parent at h, rgba_back p k) refl

default_plain : (b : Bool) (p : Rgba) → list_all is_field (if b then [] else rgba_text p ∷ []) ≡ true
default_plain true p = refl
default_plain false p = both _ _ (rgba_field p) refl

group_back : (id parent at : ℕ) → is_spot id parent at ≡ true → command_of word.Group (spot_fields id parent at) ≡ Ok (command.Change (change.Group id parent at))
unfolding command_of
group_back id parent at h = rw (spot_back id parent at h) refl

place_back : (id parent at : ℕ) → is_spot id parent at ≡ true → command_of word.Place (spot_fields id parent at) ≡ Ok (command.Change (change.Place id parent at))
unfolding command_of
place_back id parent at h = rw (spot_back id parent at h) refl

remove_back : (id : ℕ) → is_id id ≡ true → command_of word.Remove (decimal id ∷ []) ≡ Ok (command.Change (change.Remove id))
unfolding command_of
remove_back id h = rw (from_one_back 65535 id (omega arith) h) refl

look_back : (id : ℕ) (l : Look) → is_id id ≡ true → is_byte l.opacity ≡ true → command_of word.Look (decimal id ∷ decimal l.opacity ∷ op_text l.op ∷ seen_text l.visible ∷ []) ≡ Ok (command.Change (change.Look id l))
unfolding command_of
look_back id l h k = rw (from_one_back 65535 id (omega arith) h, upto_back 255 l.opacity (omega arith) k, op_back l.op, seen_back l.visible) refl

told_change : (c : Change) → change_in_range c ≡ true → Told (command.Change c)
told_change (change.Layer id parent at p) h =
    let s = first (is_spot id parent at) (is_pixel p) h in
    record {
      word = word.Layer;
      fields = spot_fields id parent at ++ ground_fields p;
      text = refl;
      plain = spot_plain id parent at (ground_fields p) s (default_plain (same_pixel p clear) p);
      reads = layer_by (same_pixel p clear) id parent at p refl s (second (is_spot id parent at) (is_pixel p) h);
    }
told_change (change.Group id parent at) h = record {
  word = word.Group;
  fields = spot_fields id parent at;
  text = refl;
  plain = spot_plain id parent at [] h refl;
  reads = group_back id parent at h;
}
told_change (change.Remove id) h = record {
  word = word.Remove;
  fields = decimal id ∷ [];
  text = refl;
  plain = both _ _ (id_field id h) refl;
  reads = remove_back id h;
}
told_change (change.Place id parent at) h = record {
  word = word.Place;
  fields = spot_fields id parent at;
  text = refl;
  plain = spot_plain id parent at [] h refl;
  reads = place_back id parent at h;
}
told_change (change.Look id l) h =
    let i = first (is_id id) (is_byte l.opacity) h in
    let o = second (is_id id) (is_byte l.opacity) h in
    record {
      word = word.Look;
      fields = decimal id ∷ decimal l.opacity ∷ op_text l.op ∷ seen_text l.visible ∷ [];
      text = refl;
      plain = both _ _ (id_field id i) (both _ _ (natural_field 255 l.opacity (omega arith) o) (both _ _ (op_field l.op) (both _ _ (seen_field l.visible) refl)));
      reads = look_back id l i o;
    }

stroke_back : (n on : ℕ) (exclusive : Bool) → is_number n ≡ true → is_id on ≡ true → command_of word.Stroke (decimal n ∷ decimal on ∷ mark_fields exclusive) ≡ Ok (command.Stroke n on exclusive)
unfolding command_of
stroke_back n on false h k = rw (upto_back 4294967295 n (omega arith) h, from_one_back 65535 on (omega arith) k) refl
stroke_back n on true h k = rw (upto_back 4294967295 n (omega arith) h, from_one_back 65535 on (omega arith) k, mark_back) refl

mark_plain : (exclusive : Bool) → list_all is_field (mark_fields exclusive) ≡ true
mark_plain false = refl
mark_plain true = refl

number_field : (n : ℕ) → is_number n ≡ true → is_field (decimal n) ≡ true
number_field n h = natural_field 4294967295 n (omega arith) h

one_back : (n : ℕ) → is_number n ≡ true → natural 0 4294967295 (decimal n) ≡ Ok n
one_back n h = upto_back 4294967295 n (omega arith) h

-- a command in its ranges
pub told : (c : Command) → in_range c ≡ true → is_sound c ≡ true → Told c
unfolding command_of
told (command.Change c) h s = told_change c h
told (command.Stroke n on exclusive) h s =
    let i = first (is_number n) (is_id on) h in
    let o = second (is_number n) (is_id on) h in
    record {
      word = word.Stroke;
      fields = decimal n ∷ decimal on ∷ mark_fields exclusive;
      text = refl;
      plain = both _ _ (number_field n i) (both _ _ (id_field on o) (mark_plain exclusive));
      reads = stroke_back n on exclusive i o;
    }
told (command.Add n kind j) h s = told_job n kind j (first (is_number n) _ h) (second (is_number n) _ h) s
told (command.End n) h s = record { word = word.End; fields = decimal n ∷ []; text = refl; plain = both _ _ (number_field n h) refl; reads = rw (one_back n h) refl }
told (command.Cancel n) h s = record { word = word.Cancel; fields = decimal n ∷ []; text = refl; plain = both _ _ (number_field n h) refl; reads = rw (one_back n h) refl }
told command.Undo h s = record { word = word.Undo; fields = []; text = refl; plain = refl; reads = refl }
told command.Redo h s = record { word = word.Redo; fields = []; text = refl; plain = refl; reads = refl }
told (command.Purge keep) h s = record { word = word.Purge; fields = decimal keep ∷ []; text = refl; plain = both _ _ (number_field keep h) refl; reads = rw (one_back keep h) refl }
told command.Export h s = record { word = word.Export; fields = []; text = refl; plain = refl; reads = refl }

-- the numbers of a canvas are in their ranges
record IsSized (c : Canvas) : Type 0 where
  w : (nat_le 1 c.w && nat_le c.w 2048) ≡ true
  h : (nat_le 1 c.h && nat_le c.h 2048) ≡ true
  pixel : is_pixel c.paper ≡ true
  alpha : (c.paper.a == 255) ≡ true

sized : (c : Canvas) → in_limits c ≡ true → IsSized c
sized c e =
    let s = first ((nat_le 1 c.w && nat_le c.w 2048) && (nat_le 1 c.h && nat_le c.h 2048)) (is_pixel c.paper && (c.paper.a == 255)) e in
    let p = second ((nat_le 1 c.w && nat_le c.w 2048) && (nat_le 1 c.h && nat_le c.h 2048)) (is_pixel c.paper && (c.paper.a == 255)) e in
    record {
      w = first (nat_le 1 c.w && nat_le c.w 2048) (nat_le 1 c.h && nat_le c.h 2048) s;
      h = second (nat_le 1 c.w && nat_le c.w 2048) (nat_le 1 c.h && nat_le c.h 2048) s;
      pixel = first (is_pixel c.paper) (c.paper.a == 255) p;
      alpha = second (is_pixel c.paper) (c.paper.a == 255) p;
    }

opaque : (n : ℕ) → (n == 255) ≡ true → n ≡ 255
opaque n h = grind (arith, nat_tests)

sides_back : (c : Canvas) → IsSized c → sides (decimal c.w) (decimal c.h) ≡ Ok (c.w, c.h)
unfolding sides
sides_back c s = rw (from_one_back 2048 c.w (omega arith) s.w, from_one_back 2048 c.h (omega arith) s.h) refl

pub canvas_back : (c : Canvas) → in_limits c ≡ true → canvas (canvas_fields c) ≡ Ok c
unfolding canvas
canvas_back c h =
    let s = sized c h in
    rw (sides_back c s, rgb_back c.paper s.pixel (opaque c.paper.a s.alpha)) refl

pub canvas_plain : (c : Canvas) → in_limits c ≡ true → list_all is_field (canvas_fields c) ≡ true
canvas_plain c h =
    let s = sized c h in
    both _ _ (natural_field 2048 c.w (omega arith) (second (nat_le 1 c.w) (nat_le c.w 2048) s.w)) (both _ _ (natural_field 2048 c.h (omega arith) (second (nat_le 1 c.h) (nat_le c.h 2048) s.h)) (both _ _ (rgb_field c.paper) refl))
