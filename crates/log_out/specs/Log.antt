-- The log, one line an entry with its number, its name and how it ended; and the summary: how the entries ended, and a line a frame.
use Rattle.std.specs.Prelude.{ℕ, ◌+◌, Bool, List, [], true, false, ◌∷◌, ◌++◌, map, codes, length}
use Rattle.std.specs.List.{concat, count_by, sum}
use Rattle.std.specs.Fmt.{decimal}
use Rattle.doc_model.specs.declared.tree.Change.{Change}
use Rattle.doc_model.specs.declared.tree.Change.TheVariants as change
use Rattle.doc_model.specs.declared.tree.TreeFault.{TreeFault}
use Rattle.doc_model.specs.declared.tree.TreeFault.TheVariants.{Taken, NoNode, NotGroup, IntoItself, TreeFull, TooDeep, BadPlace}
use Rattle.doc_model.specs.declared.command.Outcome.{Outcome}
use Rattle.doc_model.specs.declared.command.Outcome.TheVariants as outcome
use Rattle.doc_model.specs.Strokes.{Entry, Strokes, Changes, Undoes, Redoes, Purges, Exports}
use Rattle.doc_model.specs.Picture.{Frame}
use Rattle.doc_model.specs.Meaning.{refused}

-- why a change of the tree is refused
abbrev pub fault_text : TreeFault → List ℕ
fault_text (Taken id) = codes "id taken " ++ decimal id
fault_text (NoNode id) = codes "no node " ++ decimal id
fault_text (NotGroup id) = codes "not a group " ++ decimal id
fault_text (IntoItself id) = codes "into itself " ++ decimal id
fault_text (TreeFull most) = codes "tree full"
fault_text (TooDeep most) = codes "too deep"
fault_text (BadPlace place) = codes "bad place " ++ decimal place

-- how an entry ended
abbrev pub outcome_text : Outcome → List ℕ
outcome_text outcome.Done = codes "done"
outcome_text outcome.Cancelled = codes "cancelled"
outcome_text (outcome.Overlap first second) = codes "overlap " ++ (decimal first ++ (codes " " ++ decimal second))
outcome_text (outcome.NoLayer id) = codes "no layer " ++ decimal id
outcome_text (outcome.NotPaint id) = codes "not a paint layer " ++ decimal id
outcome_text (outcome.Tree fault) = fault_text fault
outcome_text outcome.NothingToUndo = codes "nothing to undo"
outcome_text outcome.NothingToRedo = codes "nothing to redo"

-- the word of a change's command
abbrev pub change_word : Change → List ℕ
change_word (change.Layer id above place pixel) = codes "layer"
change_word (change.Group id above place) = codes "group"
change_word (change.Remove id) = codes "remove"
change_word (change.Place id above place) = codes "place"
change_word (change.Look id look) = codes "look"

-- a stroke's name has its number, and every other entry's is its command's word
abbrev pub entry_name : Entry → List ℕ
entry_name (Strokes stroke) = codes "stroke " ++ decimal stroke.no
entry_name (Changes change) = change_word change
entry_name Undoes = codes "undo"
entry_name Redoes = codes "redo"
entry_name (Purges keep) = codes "purge"
entry_name Exports = codes "export"

-- the line of the entry number n
abbrev pub line : ℕ → List ℕ → List ℕ → List ℕ
line n name ending = concat (decimal n ∷ codes " " ∷ name ∷ codes " " ∷ ending ∷ codes "\n" ∷ [])

-- the lines of entries of these names, whose numbers count from n
abbrev pub lines : ℕ → List (List ℕ) → List Outcome → List ℕ
lines n (name ∷ names) (o ∷ outcomes) = line n name (outcome_text o) ++ lines (n + 1) names outcomes
lines n names outcomes = []

-- a line for each entry
abbrev pub log_text : List Entry → List Outcome → List ℕ
log_text entries outcomes = lines 1 (map entry_name entries) outcomes

-- whether an entry took effect
abbrev pub done : Outcome → Bool
done outcome.Done = true
done o = false

-- whether an entry was cancelled
abbrev pub cancelled : Outcome → Bool
cancelled outcome.Cancelled = true
cancelled o = false

-- how many entries there are, and how they ended
abbrev pub counts : List Outcome → List ℕ
counts outcomes = concat (codes "entries " ∷ decimal (length outcomes) ∷ codes " done " ∷ decimal (count_by done outcomes)
    ∷ codes " cancelled " ∷ decimal (count_by cancelled outcomes)
    ∷ codes " refused " ∷ decimal (count_by refused outcomes) ∷ codes "\n" ∷ [])

-- a frame with its columns and rows
pub record Sheet : Type 0 where
  pub w : ℕ
  pub h : ℕ
  pub frame : Frame

-- the line of the frame number n: its columns and rows, and the sum of its colour bytes
abbrev pub frame_line : ℕ → Sheet → List ℕ
frame_line n s = concat (codes "frame " ∷ decimal n ∷ codes " " ∷ decimal s.w ∷ codes " " ∷ decimal s.h
    ∷ codes " " ∷ decimal (sum (concat s.frame)) ∷ codes "\n" ∷ [])

-- the lines of frames whose numbers count from n
abbrev pub frame_lines : ℕ → List Sheet → List ℕ
frame_lines n [] = []
frame_lines n (s ∷ sheets) = frame_line n s ++ frame_lines (n + 1) sheets

-- a line on the entries, and a line for each frame
abbrev pub sum_text : List Sheet → List Outcome → List ℕ
sum_text sheets outcomes = counts outcomes ++ frame_lines 1 sheets
