use Rattle.std.proofs.Common.{Some, sym, ap, ◌∙◌}
use Rattle.std.proofs.lemmas.Option.{slice_get-get_or}
use Rattle.frame_core.specs.Frames.{Scene}
use Rattle.ppm_out.specs.Rows.{no_frame}
use Rattle.ppm_out.proofs.Halves.{frame_of}
use Rattle.ppm_out.proofs.picture.rows_of.Goals as goal

pub returns-then-follows-clause-of : goal.returns-then-follows-clause-of
returns-then-follows-clause-of c = slice_get-get_or c.args.film.now c.args.i no_frame c.requires

pub returns-else-follows-clause-of : goal.returns-else-follows-clause-of
returns-else-follows-clause-of c =
    let s : Scene = c.index-frames-i.result in
    slice_get-get_or c.args.film.now c.args.i no_frame c.requires ∙ ap (λ v. Some v) (sym (frame_of c.frames-frames.result.now c.args.film.now c.args.i s no_frame c.frames-frames.ensures c.requires c.index-frames-i.is))
