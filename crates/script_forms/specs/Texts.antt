-- How the words of scripts are written.
use Rattle.std.specs.Prelude.{ℕ, Bool, true, false, List, codes}
use Rattle.pixel_core.specs.declared.blending.Op.{Op}
use Rattle.pixel_core.specs.declared.blending.Op.TheVariants.{Over, Erase, Multiply, Screen, Addition}
use Rattle.doc_model.specs.declared.job.Kind.{Kind}
use Rattle.doc_model.specs.declared.job.Kind.TheVariants.{Con, Seq, Bar, Uni}
use Rattle.script_forms.specs.declared.words.JobWord.{JobWord}
use Rattle.script_forms.specs.declared.words.JobWord.TheVariants.{Fill, Dab, Move, Blur, Track}
use Rattle.script_forms.specs.declared.words.Word.{Word}
use Rattle.script_forms.specs.declared.words.Word.TheVariants.{Layer, Group, Remove, Place, Look, Stroke, Paint, End, Cancel, Undo, Redo, Purge, Export}

abbrev pub work_text : JobWord → List ℕ
work_text Fill = codes "fill"
work_text Dab = codes "dab"
work_text Move = codes "move"
work_text Blur = codes "blur"
work_text Track = codes "track"

abbrev pub word_text : Word → List ℕ
word_text Layer = codes "layer"
word_text Group = codes "group"
word_text Remove = codes "remove"
word_text Place = codes "place"
word_text Look = codes "look"
word_text Stroke = codes "stroke"
word_text (Paint work) = work_text work
word_text End = codes "end"
word_text Cancel = codes "cancel"
word_text Undo = codes "undo"
word_text Redo = codes "redo"
word_text Purge = codes "purge"
word_text Export = codes "export"

abbrev pub kind_text : Kind → List ℕ
kind_text Con = codes "con"
kind_text Seq = codes "seq"
kind_text Bar = codes "bar"
kind_text Uni = codes "uni"

abbrev pub op_text : Op → List ℕ
op_text Over = codes "over"
op_text Erase = codes "erase"
op_text Multiply = codes "multiply"
op_text Screen = codes "screen"
op_text Addition = codes "addition"

abbrev pub edge_text : Bool → List ℕ
edge_text false = codes "hard"
edge_text true = codes "soft"

abbrev pub seen_text : Bool → List ℕ
seen_text true = codes "on"
seen_text false = codes "off"

abbrev pub exclusive_text : List ℕ
exclusive_text = codes "exclusive"
