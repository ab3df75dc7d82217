use Rattle.std.proofs.Common.{◌≡◌, sym, ap, subst, ◌∙◌}
use Rattle.frame_core.specs.Frames.{Scene, IsScene}
use Rattle.ppm_out.specs.Rows.{no_frame, scene_of, IsThere}
use Rattle.ppm_out.proofs.Halves.{frame_of}
use Rattle.ppm_out.proofs.rows.Rows.width.Goals as goal

pub returns-in-After-clause-value : goal.returns-in-After-clause-value
returns-in-After-clause-value c =
    let s : Scene = c.index-frames-i.result in
    let there = subst IsThere c.in-After.is c.requires.there in
    let same : s ≡ scene_of c.args.self = frame_of c.frames-frames.result.now c.in-After.film.now c.in-After.i s no_frame c.frames-frames.ensures there.0 c.index-frames-i.is ∙ sym (ap scene_of c.in-After.is) in
    c.width-in-After.ensures.value ∙ ap (λ (v : Scene). v.width) same

pub returns-in-After-clause-known : goal.returns-in-After-clause-known
returns-in-After-clause-known c =
    let s : Scene = c.index-frames-i.result in
    let there = subst IsThere c.in-After.is c.requires.there in
    let same : s ≡ scene_of c.args.self = frame_of c.frames-frames.result.now c.in-After.film.now c.in-After.i s no_frame c.frames-frames.ensures there.0 c.index-frames-i.is ∙ sym (ap scene_of c.in-After.is) in
    subst IsScene same c.width-in-After.ensures.known
