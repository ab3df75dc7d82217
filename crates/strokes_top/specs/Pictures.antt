-- The bytes of the pictures of a script.
use Rattle.std.specs.Prelude.{ℕ, List}
use Rattle.std.specs.List.{flat_map}
use Rattle.doc_model.specs.Picture.{frame}
use Rattle.ppm_out.specs.Pictures.{frame_bytes}
use Rattle.script_text.specs.Script.{Contents, meaning_of}

-- the frames that its exports mean, as pixmaps one after another
abbrev pub pictures : Contents → List ℕ
pictures s = flat_map (frame_bytes s.canvas.w s.canvas.h) (meaning_of s).frames

-- the frame of the document that it makes, whatever it exports
abbrev pub last_picture : Contents → List ℕ
last_picture s = frame_bytes s.canvas.w s.canvas.h (frame (meaning_of s).document s.canvas)
