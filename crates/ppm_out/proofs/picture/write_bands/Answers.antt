use Rattle.std.proofs.Common.{◌+◌, ◌-◌, [], ◌++◌, ap, ◌∙◌, append_assoc, append-nil, refl, arith}
use Rattle.std.specs.List.{concat}
use Rattle.std.proofs.KnownBytes.{Appends-nil}
use Rattle.frame_core.specs.Frames.{rows_colours}
use Rattle.io_edge.proofs.Written.{prefix_behind, appends_to, on_err_any}
use Rattle.ppm_out.specs.Pictures.{header, frame_bytes}
use Rattle.frame_core.specs.Scenes.{colours_of}
use Rattle.ppm_out.proofs.Bands.{band_more, bands_all, band_at}
use Rattle.ppm_out.proofs.picture.write_bands.Goals as goal

pub returns-in_err-write_header-clause-err : goal.returns-in_err-write_header-clause-err
returns-in_err-write_header-clause-err g c =
    let s = c.args.frame.now in
    on_err_any c.from_residual.result
    (prefix_behind _ _ _ [] (header s.width s.height) (concat (colours_of s)) (frame_bytes s.width s.height (colours_of s)) (Appends-nil _) (rw (← c.width-columns.ensures.value, ← c.height-rows.ensures.value) c.in_err-write_header.ensures.err) refl)

pub returns-in_err-write_band-clause-err : goal.returns-in_err-write_band-clause-err
returns-in_err-write_band-clause-err g c =
    let s = c.args.frame.now in
    let y = c.loop-top.top in
    let n = c.min-n.result in
    on_err_any c.from_residual-in_err-write_band.result
    (prefix_behind _ _ _ _ (rows_colours s y n) (rows_colours s (y + n) (s.height - (y + n))) (frame_bytes s.width s.height (colours_of s)) c.loop-top.invariant.so_far c.in_err-write_band.ensures.err
    (band_at s y n (omega (arith, c.min-n.ensures, c.height-rows.ensures.value, c.loop-top-test.true))))

pub loop-top-preserved : goal.loop-top-preserved
loop-top-preserved g c =
    let s = c.args.frame.now in
    let y = c.loop-top.top in
    let n = c.min-n.result in
    let front = header s.width s.height in
    record {
      in_range = omega (arith, c.min-n.ensures, c.height-rows.ensures.value, c.loop-top-test.true);
      later = omega (arith, c.loop-top.invariant.later, c.write_band.ensures.cause.later);
      so_far = appends_to _ _ _ _ _ _ c.loop-top.invariant.so_far c.in_ok-write_band.ensures.ok (append_assoc front (rows_colours s 0 y) (rows_colours s y n) ∙ ap (λ l. front ++ l) (band_more s y n));
    }

pub returns-clause-ok : goal.returns-clause-ok
returns-clause-ok g c =
    let s = c.args.frame.now in
    appends_to _ _ _ _ [] _ c.loop-top.invariant.so_far (Appends-nil _) (append_assoc (header s.width s.height) (rows_colours s 0 c.loop-top.top) []
    ∙ ap (λ l. header s.width s.height ++ l) (append-nil (rows_colours s 0 c.loop-top.top) ∙ bands_all s c.loop-top.top (omega (arith, c.loop-top.invariant.in_range, c.height-rows.ensures.value, c.loop-top-test.false))))
