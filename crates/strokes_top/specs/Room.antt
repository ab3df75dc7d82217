-- What is written is made of this, and wants this room.
use Rattle.std.specs.Prelude.{◌≡◌, ◌≤◌, ◌*◌, ℕ, min, max, List, [], ◌∷◌, length, All}
use Rattle.frame_core.specs.Frames.{Scene}
use Rattle.doc_model.specs.declared.command.Outcome.{Outcome}
use Rattle.script_text.specs.Script.{Contents}
use Rattle.crew_run.specs.Shows.{Shows}
use Rattle.live_run.specs.Last.{ShowsLast}
use Rattle.doc_model.specs.declared.canvas.Canvas.{Canvas}
use Rattle.strokes_top.specs.declared.writing.Pictures.{Pictures}
use Rattle.strokes_top.specs.declared.writing.Pictures.TheVariants as pictures
use Rattle.strokes_top.specs.declared.output.Form.{Form}
use Rattle.strokes_top.specs.declared.output.Form.TheVariants.{Picture, Live}
use Rattle.strokes_top.specs.declared.output.Output.{Output}
use Rattle.strokes_top.specs.declared.output.Output.TheVariants.{Shown, Traced}

-- the pictures are those of these frames
abbrev pub ArePictures : Pictures → List Scene → Type 0
ArePictures pictures.None scenes = scenes ≡ []
ArePictures (pictures.One frame) scenes = scenes ≡ frame.now ∷ []
ArePictures (pictures.Series film) scenes = (film.now ≡ scenes) × (2 ≤ length scenes)

-- how many of a picture's h rows are laid before they are written: all of them where there are several pictures, since a later one follows
-- from the one before, 1 to 64 of one alone, and none where there is none
abbrev pub rows_at_once : List Scene → ℕ → ℕ
rows_at_once [] h = 0
rows_at_once (s ∷ []) h = max 1 (min h 64)
rows_at_once (s ∷ t ∷ scenes) h = h

-- how many rows are laid at once of what is written in a form: none where it has no pictures
abbrev pub rows_by : Form → List Scene → ℕ → ℕ
rows_by Picture scenes h = rows_at_once scenes h
rows_by Live scenes h = rows_at_once scenes h
rows_by form scenes h = 0

-- how many are of what is written
abbrev pub rows_of : Output → ℕ → ℕ
rows_of (Shown form preface film) h = rows_by form film h
rows_of (Traced text) h = 0

-- so many bytes are room for the colours of a row of one picture alone, or for those of each of several
abbrev pub Suffices : List Scene → ℕ → Type 0
Suffices [] n = Unit {0}
Suffices (s ∷ []) n = 3 * s.width ≤ n
Suffices (s ∷ t ∷ scenes) n = All (λ (f : Scene). 3 * (f.width * f.height) ≤ n) (s ∷ t ∷ scenes)

-- there is room for the colours of so many rows
abbrev pub HasRoom : ℕ → Canvas → List ℕ → Type 0
HasRoom rows canvas room = 3 * (canvas.w * rows) ≤ length room

-- the frames are those of the exports, or that of the document that the script makes
abbrev pub ShowsFor : Form → Contents → List Scene → List Outcome → Type 0
ShowsFor Live script scenes outcomes = ShowsLast script scenes outcomes
ShowsFor form script scenes outcomes = Shows script scenes outcomes

-- the frames of what is written are these
abbrev pub IsShown : Output → Contents → List Outcome → Type 0
IsShown (Shown form preface film) script outcomes = ShowsFor form script film outcomes
IsShown (Traced text) script outcomes = Unit {0}
