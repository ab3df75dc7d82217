use Rattle.std.proofs.Common.{sym, ap, ◌∙◌, subst}
use Rattle.std.specs.Prelude.{IfSome}
use Rattle.geom_core.specs.Rects.{any_holds}
use Rattle.frame_core.specs.Damage.{is_damaged}
use Rattle.desk_state.proofs.SettlingRuns.{canvas_stays, fed_stays}
use Rattle.desk_events.specs.SmallJobs.{PaintsSmall}
use Rattle.desk_core.proofs.SmallDamage.{small_tracks}
use Rattle.desk_core.proofs.SmallJobs.{small_settles}
use Rattle.desk_core.proofs.desk.Desk.paint_small.Goals as goal

pub invariant_of-self-in-Some : goal.invariant_of-self-in-Some
invariant_of-self-in-Some c = small_tracks c.self.inside.machine c.paint_small.new.self c.in-Some.bound c.self.inside.damage.value c.add_all.new.self c.self.inside.calm c.self.inside.folds.value
    (λ p on whole. (ap (λ ps. is_damaged ps p) (sym c.deref_mut.ensures.value) ∙ (c.add_all.ensures p on whole).0, ap (λ rs. any_holds rs p) (sym c.from_ref.ensures.value) ∙ (c.add_all.ensures p on whole).1))
    (subst (λ o. IfSome o (λ b. PaintsSmall c.self.inside.machine b c.paint_small.new.self)) c.in-Some.is c.in_ok-bound.ensures.some) c.self.invariant

pub returns-in-Some-clause-runs : goal.returns-in-Some-clause-runs
returns-in-Some-clause-runs c = rw (← c.self.view_is) (small_settles c.self.inside.machine c.paint_small.new.self c.paint_small.result c.paint_small.ensures.some c.paint_small.ensures.none c.paint_small.ensures.err)

pub returns-in-Some-clause-canvas : goal.returns-in-Some-clause-canvas
returns-in-Some-clause-canvas c = rw (← c.self.view_is) (canvas_stays (small_settles c.self.inside.machine c.paint_small.new.self c.paint_small.result c.paint_small.ensures.some c.paint_small.ensures.none c.paint_small.ensures.err))

pub returns-in-Some-clause-fed : goal.returns-in-Some-clause-fed
returns-in-Some-clause-fed c = rw (← c.self.view_is) (fed_stays (small_settles c.self.inside.machine c.paint_small.new.self c.paint_small.result c.paint_small.ensures.some c.paint_small.ensures.none c.paint_small.ensures.err))
