use Rattle.std.proofs.Common.{◌≡◌, [], ◌∷◌, ◌++◌, Some, None, sym, ap, subst, ◌∙◌, List}
use Rattle.frame_core.specs.Films.{newest}
use Rattle.frame_core.specs.Frames.{Scene}
use Rattle.doc_model.specs.Canvases.{IsOfLimits}
use Rattle.machine_model.specs.State.{State}
use Rattle.script_text.proofs.Scripts.{script_holds}
use Rattle.live_run.specs.Last.{ShowsLast}
use Rattle.live_run.proofs.LastPictures.{last_is}
use Rattle.live_run.proofs.shown.last_shown.Goals as goal

pub last_frame-requires-clause-limits : goal.last_frame-requires-clause-limits
last_frame-requires-clause-limits g c = subst IsOfLimits (sym c.requires.painted.canvas) (script_holds c.args.script.now c.commands-commands.ensures.script).canvas

pub push-requires : goal.push-requires
push-requires g c = λ before e. absurd (let t : None ≡ Some before = sym (ap newest c.new-film.ensures) ∙ e in cc)

pub returns : goal.returns
returns g c = subst (λ (scenes : List Scene). ShowsLast c.args.script.now scenes c.in_ok-outcomes.outcomes.items) (sym (c.in_ok-push.ensures.ok ∙ ap (λ (scenes : List Scene). scenes ++ c.in_ok-frame.frame ∷ []) c.new-film.ensures))
    (last_is c.args.desk c.args.script.now c.in_ok-frame.frame c.in_ok-outcomes.outcomes.items (c.settled_has_meaning.ensures c.requires.painted.settled) (c.settled_shows_picture.ensures c.requires.painted.settled) c.requires.painted.canvas c.requires.painted.fed
    c.in_ok-frame.ensures (c.in_ok-outcomes.ensures.items ∙ c.outcomes.ensures ∙ ap (λ (s : State). s.outcomes) c.deref.ensures))
