-- What a painted script shows is what is written of it.
use Rattle.std.proofs.Common.{◌≡◌, ◌≤◌, ◌∙◌, ◌*◌, min, max, ◌⊎◌, inl, inr, ℕ, List, [], ◌∷◌, ◌++◌, length, get_or, map, ◌+◌, Option, true, Result, OnOk, refl, sym, ap, ap₂, subst, arith}
use Rattle.std.specs.List.{All, flat_map}
use Rattle.std.proofs.Math.Nat.{le-mul_of_pos_right, mul-le-mul_left}
use Rattle.std.proofs.lemmas.List.{append-nil}
use Rattle.std.proofs.lemmas.List.Elements.{All-nil, All-cons, All-head, All-tail}
use Rattle.std.specs.Io.KnownBytes.{Appends}
use Rattle.io_edge.specs.declared.outside.Failed.{Failed}
use Rattle.doc_model.specs.declared.canvas.Canvas.{Canvas}
use Rattle.doc_model.specs.declared.command.Outcome.{Outcome}
use Rattle.doc_model.specs.Strokes.{entries}
use Rattle.doc_model.proofs.DoneLaws.{one_outcome_an_entry}
use Rattle.doc_model.specs.Picture.{Frame}
use Rattle.frame_core.specs.Frames.{Scene}
use Rattle.ppm_out.specs.Pictures.{frame_bytes}
use Rattle.ppm_out.specs.Scenes.{scene_bytes}
use Rattle.frame_core.specs.Scenes.{HasSides, colours_of}
use Rattle.log_out.specs.Summary.{sheet_of}
use Rattle.log_out.specs.Log.{Sheet, sum_text}
use Rattle.script_text.specs.Script.{Contents, meaning_of}
use Rattle.crew_run.specs.Shows.{Shows}
use Rattle.strokes_top.specs.declared.choice.Choice.{Choice}
use Rattle.strokes_top.specs.declared.output.Form.{Form}
use Rattle.strokes_top.specs.declared.output.Form.TheVariants as form
use Rattle.strokes_top.specs.Choice.{is_of_artists}
use Rattle.strokes_top.specs.Room.{HasRoom, ShowsFor, Suffices, rows_at_once, rows_by}
use Rattle.strokes_top.specs.Output.{asked_as, output}
use Rattle.strokes_top.specs.Run.{IsWhole, led}

-- pictures are asked for
abbrev IsPictures : Form → Type 0
IsPictures f = (f ≡ form.Picture) ⊎ (f ≡ form.Live)

no_pictures_in_log : IsPictures form.Log → ⊥
no_pictures_in_log (inl h) = cc
no_pictures_in_log (inr h) = cc

no_pictures_in_sum : IsPictures form.Sum → ⊥
no_pictures_in_sum (inl h) = cc
no_pictures_in_sum (inr h) = cc

-- a frame with the canvas's columns and rows
abbrev sheet : Canvas → Frame → Sheet
sheet canvas frame = record { w = canvas.w; h = canvas.h; frame = frame }

pub one_each : (script : Contents) (scenes : List Scene) (outcomes : List Outcome) → Shows script scenes outcomes → length outcomes ≡ length (entries script.commands)
one_each script scenes outcomes h =
    let all : length (meaning_of script).outcomes ≡ length (entries script.commands) = one_outcome_an_entry script.canvas (entries script.commands) in
    let same : length outcomes ≡ length (meaning_of script).outcomes = ap length h.outcomes_are in
    omega arith

pixmaps_are : (canvas : Canvas) (scenes : List Scene) → All (HasSides canvas.w canvas.h) scenes → flat_map scene_bytes scenes ≡ flat_map (frame_bytes canvas.w canvas.h) (map colours_of scenes)
pixmaps_are canvas [] h = refl
pixmaps_are canvas (s ∷ scenes) h =
    let sides : HasSides canvas.w canvas.h s = All-head (HasSides canvas.w canvas.h) s scenes h in
    let one : scene_bytes s ≡ frame_bytes canvas.w canvas.h (colours_of s) = rw (sides.width, sides.height) refl in
    ap₂ (λ (a b : List ℕ). a ++ b) one (pixmaps_are canvas scenes (All-tail (HasSides canvas.w canvas.h) s scenes h))

sheets_are : (canvas : Canvas) (scenes : List Scene) → All (HasSides canvas.w canvas.h) scenes → map sheet_of scenes ≡ map (sheet canvas) (map colours_of scenes)
sheets_are canvas [] h = refl
sheets_are canvas (s ∷ scenes) h =
    let sides : HasSides canvas.w canvas.h s = All-head (HasSides canvas.w canvas.h) s scenes h in
    let one : sheet_of s ≡ sheet canvas (colours_of s) = rw (sides.width, sides.height) refl in
    ap₂ (λ (x : Sheet) (l : List Sheet). x ∷ l) one (sheets_are canvas scenes (All-tail (HasSides canvas.w canvas.h) s scenes h))

-- where pictures are asked for, the frames' pixmaps are the output
pub pictures_are : (f : Form) (script : Contents) (scenes : List Scene) (outcomes : List Outcome) → IsPictures f → ShowsFor f script scenes outcomes → flat_map scene_bytes scenes ≡ output (asked_as f) script
pictures_are form.Picture script scenes outcomes which h = pixmaps_are script.canvas scenes h.sides ∙ ap (flat_map (frame_bytes script.canvas.w script.canvas.h)) h.colours
pictures_are form.Live script scenes outcomes which h =
    pixmaps_are script.canvas scenes h.sides ∙ ap (flat_map (frame_bytes script.canvas.w script.canvas.h)) h.colours ∙ append-nil (output (asked_as form.Live) script)
pictures_are form.Log script scenes outcomes which h = absurd (no_pictures_in_log which)
pictures_are form.Sum script scenes outcomes which h = absurd (no_pictures_in_sum which)

-- each frame has the canvas's sides
pub sides_of : (f : Form) (script : Contents) (scenes : List Scene) (outcomes : List Outcome) → IsPictures f → ShowsFor f script scenes outcomes → All (HasSides script.canvas.w script.canvas.h) scenes
sides_of form.Picture script scenes outcomes which h = h.sides
sides_of form.Live script scenes outcomes which h = h.sides
sides_of form.Log script scenes outcomes which h = absurd (no_pictures_in_log which)
sides_of form.Sum script scenes outcomes which h = absurd (no_pictures_in_sum which)

-- and there is room for so many of its rows
pub room_of : (f : Form) (canvas : Canvas) (scenes : List Scene) (room : List ℕ) → IsPictures f → HasRoom (rows_by f scenes canvas.h) canvas room → HasRoom (rows_at_once scenes canvas.h) canvas room
room_of form.Picture canvas scenes room which h = h
room_of form.Live canvas scenes room which h = h
room_of form.Log canvas scenes room which h = absurd (no_pictures_in_log which)
room_of form.Sum canvas scenes room which h = absurd (no_pictures_in_sum which)

-- room for more rows is room for these
pub room_has : (canvas : Canvas) (few rows : ℕ) (room : List ℕ) → few ≤ rows → length room ≡ 3 * (canvas.w * rows) → HasRoom few canvas room
room_has canvas few rows room more e = subst (λ i. 3 * (canvas.w * few) ≤ i) (sym e) (mul-le-mul_left 3 (mul-le-mul_left canvas.w more))

-- room for a picture of the canvas's sides is room for each frame
room_whole : (canvas : Canvas) (n : ℕ) (scenes : List Scene) → 3 * (canvas.w * canvas.h) ≤ n → All (HasSides canvas.w canvas.h) scenes → All (λ (f : Scene). 3 * (f.width * f.height) ≤ n) scenes
room_whole canvas n [] h sides = All-nil (λ (f : Scene). 3 * (f.width * f.height) ≤ n)
room_whole canvas n (s ∷ scenes) h sides =
    let these : HasSides canvas.w canvas.h s = All-head (HasSides canvas.w canvas.h) s scenes sides in
    let one : 3 * (s.width * s.height) ≤ n = rw (these.width, these.height) h in
    All-cons (λ (f : Scene). 3 * (f.width * f.height) ≤ n) s scenes one (room_whole canvas n scenes h (All-tail (HasSides canvas.w canvas.h) s scenes sides))

-- one picture alone
pub one_alone : (scenes : List Scene) (s : Scene) → length scenes ≡ 1 → s ≡ get_or scenes 0 s → scenes ≡ s ∷ []
one_alone [] s n e = absurd (omega arith)
one_alone (t ∷ []) s n e = ap (λ x. x ∷ []) (sym e)
one_alone (t ∷ u ∷ scenes) s n e = absurd (omega arith)

-- there is room for one of its rows
room_alone : (canvas : Canvas) (n : ℕ) (s : Scene) → 3 * (canvas.w * max 1 (min canvas.h 64)) ≤ n → HasSides canvas.w canvas.h s → 3 * s.width ≤ n
room_alone canvas n s rows sides =
    let some : 1 ≤ max 1 (min canvas.h 64) = omega arith in
    let row : canvas.w ≤ canvas.w * max 1 (min canvas.h 64) = le-mul_of_pos_right canvas.w some in
    omega (arith, row, rows, sides.width)

-- room for so many rows of the canvas suffices
pub room_suffices : (canvas : Canvas) (n : ℕ) (scenes : List Scene) → 3 * (canvas.w * rows_at_once scenes canvas.h) ≤ n → All (HasSides canvas.w canvas.h) scenes → Suffices scenes n
room_suffices canvas n [] h sides = tt
room_suffices canvas n (s ∷ []) h sides = room_alone canvas n s h (All-head (HasSides canvas.w canvas.h) s [] sides)
room_suffices canvas n (s ∷ t ∷ scenes) h sides = room_whole canvas n (s ∷ t ∷ scenes) h sides

-- and it is for each of several
pub suffices_each : (scenes : List Scene) (n : ℕ) → 2 ≤ length scenes → Suffices scenes n → All (λ (f : Scene). 3 * (f.width * f.height) ≤ n) scenes
suffices_each [] n many h = absurd (omega arith)
suffices_each (s ∷ []) n many h = absurd (omega arith)
suffices_each (s ∷ t ∷ scenes) n many h = h

-- how many rows are laid at once, by the pictures that there are
pub no_rows : (scenes : List Scene) (h r : ℕ) → scenes ≡ [] → rows_at_once scenes h ≤ r
no_rows scenes h r is = subst (λ l. rows_at_once l h ≤ r) (sym is) (omega arith)

pub one_rows : (scenes : List Scene) (s : Scene) (h r : ℕ) → scenes ≡ s ∷ [] → max 1 (min h 64) ≤ r → rows_at_once scenes h ≤ r
one_rows scenes s h r is least = subst (λ l. rows_at_once l h ≤ r) (sym is) least

pub all_rows : (scenes : List Scene) (h : ℕ) → 2 ≤ length scenes → rows_at_once scenes h ≤ h
all_rows [] h many = absurd (omega arith)
all_rows (s ∷ []) h many = absurd (omega arith)
all_rows (s ∷ t ∷ scenes) h many = omega arith

-- the pixmap of one alone is that of all
pub one_bytes : (scenes : List Scene) (s : Scene) → scenes ≡ s ∷ [] → scene_bytes s ≡ flat_map scene_bytes scenes
one_bytes scenes s only = sym (append-nil (scene_bytes s)) ∙ ap (flat_map scene_bytes) (sym only)

pub summary_is : (script : Contents) (scenes : List Scene) (outcomes : List Outcome) → Shows script scenes outcomes → sum_text (map sheet_of scenes) outcomes ≡ output (asked_as form.Sum) script
summary_is script scenes outcomes h = ap₂ sum_text (sheets_are script.canvas scenes h.sides ∙ ap (map (sheet script.canvas)) h.colours) h.outcomes_are

-- all of the same bytes
pub whole_is : (r : Result (Unit {0}) Failed) (a b : Option (List ℕ)) (xs ys : List ℕ) → OnOk r (Appends a b xs) → xs ≡ ys → OnOk r (Appends a b ys)
whole_is r a b xs ys h e = subst (λ l. OnOk r (Appends a b l)) e h

-- where artists draw, frames are those of the exports
pub shows_drawn : (f : Form) (script : Contents) (scenes : List Scene) (outcomes : List Outcome) → is_of_artists (asked_as f) ≡ true → Shows script scenes outcomes → ShowsFor f script scenes outcomes
shows_drawn form.Picture script scenes outcomes fit h = h
shows_drawn form.Log script scenes outcomes fit h = h
shows_drawn form.Sum script scenes outcomes fit h = h
shows_drawn form.Live script scenes outcomes fit h = cc

-- behind its preface it is all that is written
pub whole_shown : (f : Form) (asked : Choice) (drawn : Contents) (bytes : List ℕ) → bytes ≡ led asked.artists (asked_as f) drawn → IsWhole (asked_as f) asked drawn bytes
whole_shown form.Picture asked drawn bytes h = h
whole_shown form.Log asked drawn bytes h = h
whole_shown form.Sum asked drawn bytes h = h
whole_shown form.Live asked drawn bytes h = h
