-- A frame of tiles as the summary takes it.
use Rattle.std.specs.Prelude.{ℕ}
use Rattle.std.specs.List.{concat, sum}
use Rattle.doc_model.specs.Picture.{Frame}
use Rattle.frame_core.specs.Frames.{Scene}
use Rattle.log_out.specs.Log.{Sheet}
use Rattle.frame_core.specs.Scenes.{colours_of}

-- what a frame of tiles shows
abbrev pub sheet_of : Scene → Sheet
sheet_of s = record { w = s.width; h = s.height; frame = colours_of s }

-- the sum of a frame's colour bytes
abbrev pub colour_sum : Frame → ℕ
colour_sum frame = sum (concat frame)
