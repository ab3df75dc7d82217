use Rattle.std.proofs.Common.{[], ◌∷◌, ◌++◌, sym, ap, ◌∙◌, subst}
use Rattle.machine_model.specs.State.{head}
use Rattle.machine_model.specs.Event.{Act}
use Rattle.machine_model.specs.Step.{ActStep}
use Rattle.desk_state.specs.Enabled.{Enabled}
use Rattle.desk_state.specs.Parts.{Parts, state_of}
use Rattle.desk_state.specs.Tied.{IsDesk}
use Rattle.desk_state.proofs.Doing.{Does}
use Rattle.filmed_caches.specs.Filmed.{Filmed, TakesFrame}
use Rattle.desk_events.specs.Kept.{parts_of}
use Rattle.desk_events.proofs.Exported.{export_settled, export_shows, newest_sides}
use Rattle.desk_events.proofs.machine.Machine.export.Goals as goal

abbrev before : goal.After-pop → Parts
before c = parts_of c.self.inside

-- the parts as they are
abbrev after : goal.After-pop → Filmed → Parts
after c f = record (before c) { queue = c.pop.new.self; caches = f.caches; frames = f.frames }

taken : (c : goal.After-pop) → TakesFrame c.self.inside.canvas c.self.inside.filmed c.take_frame.new.self
taken c = c.in_ok-take_frame.ensures.ok

does : (c : goal.After-pop) → Does (before c) Act (after c (record { caches = c.self.inside.filmed.caches; frames = c.self.inside.filmed.frames ++ (taken c).shown ∷ [] }))
does c = export_shows (before c) (taken c).shown c.pop.new.self c.self.invariant (subst (λ s. Enabled s Act) (sym c.self.view_is) c.requires.enabled) (ap head c.self.view_is ∙ c.requires.head)
    (record { left = c.pop.ensures.left; outcomes = c.pop.ensures.outcomes }) (taken c).shows

pub invariant_of-self-2 : goal.invariant_of-self-2
invariant_of-self-2 c = subst (λ f. IsDesk (after c f)) (sym (taken c).new_is) (does c).desk

pub returns-clause-ok : goal.returns-clause-ok
returns-clause-ok c = subst (λ f. ActStep c.args.self.now (state_of (after c f))) (sym (taken c).new_is)
    (subst (λ s. ActStep s (state_of (after c (record { caches = c.self.inside.filmed.caches; frames = c.self.inside.filmed.frames ++ (taken c).shown ∷ [] })))) c.self.view_is (does c).step)

pub take_frame-requires-clause-sides : goal.take_frame-requires-clause-sides
take_frame-requires-clause-sides c = newest_sides (parts_of c.self.inside) c.self.invariant

pub take_frame-requires-clause-settled : goal.take_frame-requires-clause-settled
take_frame-requires-clause-settled c = export_settled (parts_of c.self.inside) c.self.invariant (subst (λ s. Enabled s Act) (sym c.self.view_is) c.requires.enabled) (ap head c.self.view_is ∙ c.requires.head)
