use Rattle.std.proofs.Common.{[], refl}
use Rattle.std.specs.List.{concat}
use Rattle.std.proofs.KnownBytes.{Appends-nil}
use Rattle.io_edge.proofs.Written.{prefix_behind, on_err_any}
use Rattle.ppm_out.specs.Pictures.{header, frame_bytes}
use Rattle.frame_core.specs.Scenes.{colours_of}
use Rattle.ppm_out.proofs.Series.{shown_bytes, ok_behind, err_behind}
use Rattle.ppm_out.proofs.picture.write_picture.Goals as goal

pub returns-in_err-write_header-clause-err : goal.returns-in_err-write_header-clause-err
returns-in_err-write_header-clause-err g c =
    let s = c.args.frame.now in
    on_err_any c.from_residual.result
    (prefix_behind _ _ _ [] (header s.width s.height) (concat (colours_of s)) (frame_bytes s.width s.height (colours_of s)) (Appends-nil _) (rw (← c.width-columns.ensures.value, ← c.height-rows.ensures.value) c.in_err-write_header.ensures.err) refl)

pub returns-clause-ok : goal.returns-clause-ok
returns-clause-ok g c =
    let s = c.args.frame.now in
    ok_behind c.write_all.result _ _ _ (header s.width s.height) _ (concat (colours_of s)) (rw (← c.width-columns.ensures.value, ← c.height-rows.ensures.value) c.in_ok-write_header.ensures.ok) c.write_all.ensures.ok
    (shown_bytes s c.args.picture.now c.width-columns.result c.height-rows.result c.width-columns.ensures.value c.height-rows.ensures.value c.requires.shown)

pub returns-clause-err : goal.returns-clause-err
returns-clause-err g c =
    let s = c.args.frame.now in
    err_behind c.write_all.result _ _ _ (header s.width s.height) _ (concat (colours_of s)) (rw (← c.width-columns.ensures.value, ← c.height-rows.ensures.value) c.in_ok-write_header.ensures.ok) c.write_all.ensures.err
    (shown_bytes s c.args.picture.now c.width-columns.result c.height-rows.result c.width-columns.ensures.value c.height-rows.ensures.value c.requires.shown)
