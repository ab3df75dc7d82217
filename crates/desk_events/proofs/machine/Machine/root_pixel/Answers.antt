use Rattle.std.proofs.Common.{rules, ◌≡◌, ◌<◌, sym, ap, ◌∙◌, subst}
use Rattle.std.specs.Prelude.{pos}
use Rattle.geom_core.specs.Areas.{point}
use Rattle.doc_model.specs.Layers.{at}
use Rattle.doc_model.specs.Picture.{picture}
use Rattle.machine_model.specs.State.{State}
use Rattle.machine_model.specs.Groups.{cache}
use Rattle.machine_model.specs.Covers.{covered}
use Rattle.machine_model.proofs.RootPicture.{clean_is_picture}
use Rattle.desk_state.specs.Parts.{state_of}
use Rattle.desk_state.proofs.Looking.{in_canvas}
use Rattle.desk_events.specs.Kept.{parts_of}
use Rattle.desk_events.proofs.machine.Machine.root_pixel.Goals as goal

pub returns-clause-picture : goal.returns-clause-picture
returns-clause-picture c =
    let pixel : c.at.result ≡ at (cache c.self.inside.filmed.caches 0) (point (pos c.args.x) (pos c.args.y)) = search rules in
    λ e. pixel
    ∙ clean_is_picture (state_of (parts_of c.self.inside)) c.self.invariant.sound (point (pos c.args.x) (pos c.args.y))
    (in_canvas c.self.inside.canvas c.args.x c.args.y (subst (λ (s : State). c.args.x < s.canvas.w) (sym c.self.view_is) c.requires.column) (subst (λ (s : State). c.args.y < s.canvas.h) (sym c.self.view_is) c.requires.row))
    (ap (λ (s : State). covered s 0 (point (pos c.args.x) (pos c.args.y))) c.self.view_is ∙ e)
    ∙ ap (λ (s : State). picture s.present (point (pos c.args.x) (pos c.args.y))) c.self.view_is
