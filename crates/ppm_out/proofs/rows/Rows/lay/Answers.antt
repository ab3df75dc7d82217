use Rattle.std.proofs.Common.{◌+◌, ◌*◌, ◌≤◌, ◌≡◌, length, get_or, sym, ap, subst, ◌∙◌}
use Rattle.std.proofs.lemmas.Option.{slice_get-get_or}
use Rattle.frame_core.specs.Frames.{Scene, rows_colours}
use Rattle.ppm_out.specs.Rows.{no_frame, scene_of, IsThere}
use Rattle.ppm_out.specs.declared.rows.Rows.{Rows}
use Rattle.ppm_out.proofs.Halves.{band_of}
use Rattle.ppm_out.proofs.rows.Rows.lay.Goals as goal

pub rows_after-requires-clause-band : goal.rows_after-requires-clause-band
rows_after-requires-clause-band c = band_of c.in-After.film.now c.in-After.i c.args.top c.args.n no_frame c.args.band.now
    (subst (λ (r : Rows). c.args.top + c.args.n ≤ (scene_of r).height) c.in-After.is c.requires.inside)
    (subst (λ (r : Rows). length c.args.band.now ≡ 3 * ((scene_of r).width * c.args.n)) c.in-After.is c.requires.whole)

pub returns-in-After : goal.returns-in-After
returns-in-After c =
    let frame : Scene = get_or c.in-After.film.now c.in-After.i no_frame in
    let there = subst IsThere c.in-After.is c.requires.there in
    c.rows_after.ensures frame (slice_get-get_or c.in-After.film.now c.in-After.i no_frame there.0) ∙ ap (λ (s : Scene). rows_colours s c.args.top c.args.n) (sym (ap scene_of c.in-After.is))
