use Rattle.std.proofs.Common.{◌≡◌, Some, sym, ap, ◌∙◌, subst}
use Rattle.doc_model.specs.Strokes.{Stroke}
use Rattle.machine_model.specs.State.{State, head_stroke}
use Rattle.machine_model.specs.Event.{Finish}
use Rattle.machine_model.specs.Effects.{no_paint_outcome}
use Rattle.desk_state.specs.Enabled.{Enabled}
use Rattle.desk_state.specs.Parts.{Parts}
use Rattle.desk_state.proofs.Doing.{Does, refuse_does}
use Rattle.desk_events.specs.Kept.{parts_of}
use Rattle.desk_events.proofs.machine.Machine.finish_refused.Goals as goal

abbrev before : goal.After-pop → Parts
before c = parts_of c.self.inside

abbrev after : goal.After-pop → Parts
after c = record (before c) { queue = c.pop.new.self }

does : (c : goal.After-pop) → Does (before c) Finish (after c)
does c = refuse_does (before c) c.pop.new.self c.missing-outcome.result c.self.invariant (subst (λ s. Enabled s Finish) (sym c.self.view_is) c.requires.enabled) (ap (λ (s : State). s.way) c.self.view_is ∙ c.requires.way)
    (subst (λ (t : State). (s : Stroke) → head_stroke t ≡ Some s → c.missing-outcome.result ≡ no_paint_outcome s.layer t.base) (sym c.self.view_is) c.missing-outcome.ensures) (record { left = c.pop.ensures.left; outcomes = c.pop.ensures.outcomes })

pub invariant_of-self : goal.invariant_of-self
invariant_of-self c = (does c).desk
