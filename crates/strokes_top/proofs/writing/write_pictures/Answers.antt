use Rattle.std.proofs.Common.{rules, ◌*◌, ◌≤◌, List, length, subst, sym}
use Rattle.std.specs.List.{All, flat_map}
use Rattle.std.specs.Io.KnownBytes.{Appends}
use Rattle.std.proofs.KnownBytes.{Appends-nil}
use Rattle.io_edge.proofs.Written.{prefix_is}
use Rattle.frame_core.specs.Frames.{Scene}
use Rattle.ppm_out.specs.Scenes.{scene_bytes}
use Rattle.strokes_top.specs.Room.{Suffices}
use Rattle.strokes_top.proofs.Outputs.{one_bytes, suffices_each, whole_is}
use Rattle.strokes_top.proofs.writing.write_pictures.Goals as goal

pub returns-in-None-clause-ok : goal.returns-in-None-clause-ok
returns-in-None-clause-ok g c =
    let o = g.K.Sink.taken c.args.out.now in
    subst (λ (l : List Scene). Appends o o (flat_map scene_bytes l)) (sym c.in-None.ensures) (Appends-nil o)

pub write_frame_by-requires : goal.write_frame_by-requires
write_frame_by-requires g c = (search rules, subst (λ (l : List Scene). Suffices l (length c.args.room.now)) c.in-One.ensures c.requires.room)

pub returns-in-One-clause-ok : goal.returns-in-One-clause-ok
returns-in-One-clause-ok g c = whole_is _ _ _ _ _ c.write_frame_by.ensures.ok (one_bytes _ _ c.in-One.ensures)

pub returns-in-One-clause-err : goal.returns-in-One-clause-err
returns-in-One-clause-err g c = prefix_is _ _ _ _ _ c.write_frame_by.ensures.err (one_bytes _ _ c.in-One.ensures)

pub write_frames_by-requires : goal.write_frames_by-requires
write_frames_by-requires g c =
    let n = length c.args.room.now in
    (search rules, subst (λ (l : List Scene). All (λ (f : Scene). 3 * (f.width * f.height) ≤ n) l) (sym c.in-Series.ensures.0) (suffices_each c.args.film.now n c.in-Series.ensures.1 c.requires.room))
