-- What is written of a script.
use Rattle.std.specs.Prelude.{ℕ, List, [], ◌++◌, map}
use Rattle.doc_model.specs.Strokes.{entries}
use Rattle.script_text.specs.Script.{Contents, meaning_of}
use Rattle.log_out.specs.Log.{log_text, sum_text}
use Rattle.strokes_top.specs.declared.choice.Emit.{Emit}
use Rattle.strokes_top.specs.declared.choice.Emit.TheVariants.{Picture, Log, Sum, Live, Trace}
use Rattle.strokes_top.specs.declared.output.Form.{Form}
use Rattle.strokes_top.specs.declared.output.Form.TheVariants as form
use Rattle.strokes_top.specs.declared.output.Output.{Output}
use Rattle.strokes_top.specs.declared.output.Output.TheVariants.{Shown, Traced}
use Rattle.strokes_top.specs.Pictures.{pictures, last_picture}

-- its pictures; a line for each of its entries; how they ended, and a line for each frame; or the picture of the document that it makes. A
-- trace isn't told by the script alone
abbrev pub output : Emit → Contents → List ℕ
output Picture s = pictures s
output Log s = log_text (entries s.commands) (meaning_of s).outcomes
output Sum s = sum_text (map (λ f. record { w = s.canvas.w; h = s.canvas.h; frame = f }) (meaning_of s).frames) (meaning_of s).outcomes
output Live s = last_picture s
output Trace s = []

-- what asks for a form
abbrev pub asked_as : Form → Emit
asked_as form.Picture = Picture
asked_as form.Log = Log
asked_as form.Sum = Sum
asked_as form.Live = Live

-- all bytes of what is written of a painted script
abbrev pub written : Output → Contents → List ℕ
written (Shown form preface film) script = preface.items ++ output (asked_as form) script
written (Traced text) script = text.items
