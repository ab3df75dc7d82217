-- The canonical text of a trace: single spaces, and numbers without leading zeros.
use Rattle.std.specs.Prelude.{ℕ, codes, List, [], ◌∷◌, ◌++◌}
use Rattle.std.specs.List.{flat_map}
use Rattle.std.specs.Fmt.{decimal, signed_decimal}
use Rattle.geom_core.specs.Grid.{Key}
use Rattle.doc_model.specs.declared.canvas.Canvas.{Canvas}
use Rattle.doc_model.specs.declared.canvas.Walk.{Walk}
use Rattle.doc_model.specs.declared.canvas.Walk.TheVariants.{Up, All}
use Rattle.script_text.specs.Text.{line, area_fields, command_text, canvas_line}
use Rattle.trace_lines.specs.declared.line.Line.{Line}
use Rattle.trace_lines.specs.declared.line.Line.TheVariants as told

-- a tile
abbrev pub key_fields : Key → List (List ℕ)
key_fields k = signed_decimal k.col ∷ signed_decimal k.row ∷ []

-- which groups a walk composes
abbrev pub walk_fields : Walk → List (List ℕ)
walk_fields (Up g) = codes "up" ∷ decimal g ∷ []
walk_fields All = codes "all" ∷ []

-- a word and a slot's place
abbrev pub place_line : List ℕ → ℕ → List ℕ
place_line word place = line word (decimal place ∷ [])

-- a line of a trace; what never happens has none
abbrev pub line_text : Line → List ℕ
line_text (told.Feed c) = codes "feed " ++ command_text c
line_text told.Outside = []
line_text told.Step = line (codes "step") []
line_text (told.Start place) = place_line (codes "start") place
line_text (told.Publish place k) = line (codes "publish") (decimal place ∷ key_fields k)
line_text (told.End place) = place_line (codes "end") place
line_text (told.Walk place patch) = line (codes "walk") (decimal place ∷ walk_fields patch.walk ++ area_fields patch.rect)
line_text (told.Put place g k) = line (codes "put") (decimal place ∷ decimal g ∷ key_fields k)

-- the first two lines: the number of slots and the canvas
abbrev pub head_text : ℕ → Canvas → List ℕ
head_text slots c = place_line (codes "trace") slots ++ canvas_line c

-- a trace
unfoldable pub trace_lines : ℕ → Canvas → List Line → List ℕ
trace_lines slots c ls = head_text slots c ++ flat_map line_text ls
