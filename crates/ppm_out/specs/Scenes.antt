-- Frames of tiles as pixmaps.
use Rattle.std.specs.Prelude.{ℕ, List}
use Rattle.frame_core.specs.Frames.{Scene}
use Rattle.frame_core.specs.Scenes.{colours_of}
use Rattle.ppm_out.specs.Pictures.{frame_bytes}

-- a frame of tiles as a pixmap
abbrev pub scene_bytes : Scene → List ℕ
scene_bytes s = frame_bytes s.width s.height (colours_of s)
