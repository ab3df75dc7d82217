use Rattle.std.proofs.Common.{refl, subst}
use Rattle.machine_model.specs.Event.{Init, Start, Finish, Cancel, Act}
use Rattle.desk_state.specs.Enabled.{Enabled}
use Rattle.desk_state.proofs.Wanting.{init_wants, start_wants, act_wants}
use Rattle.desk_events.proofs.StepCounts.{on_err, plus_none}
use Rattle.desk_core.proofs.Tracking.{then_tracks}
use Rattle.desk_core.proofs.desk.Desk.take.Goals as goal

pub cancel-requires : goal.cancel-requires
cancel-requires g c = rw (← c.self.view_is) c.in-Cancel.ensures

pub act-requires : goal.act-requires
act-requires g c = rw (← c.self.view_is) c.in-Act.ensures

pub start-requires : goal.start-requires
start-requires g c = rw (← c.self.view_is) c.in-Start.ensures

pub take_walk-requires : goal.take_walk-requires
take_walk-requires g c = rw (← c.self.view_is) c.in-Wait.ensures

pub invariant_of-self : goal.invariant_of-self
invariant_of-self g c = then_tracks c.self.inside.machine c.finish.new.self Finish c.self.inside.damage.value c.self.inside.calm c.self.inside.folds.value refl c.finish.ensures c.self.invariant

pub begin-requires : goal.begin-requires
begin-requires g c = rw (← c.self.view_is) c.in-Init.ensures

pub returns-in_err-act-in-Act-clause-err : goal.returns-in_err-act-in-Act-clause-err
returns-in_err-act-in-Act-clause-err g c = on_err c.from_residual.result (act_wants c.args.self.now (subst (λ s. Enabled s Act) c.self.view_is c.in-Act.ensures) c.in_err-act-in-Act.ensures.takes, c.in_err-act-in-Act.ensures.err)

pub returns-in_err-begin-in-Init-clause-err : goal.returns-in_err-begin-in-Init-clause-err
returns-in_err-begin-in-Init-clause-err g c = on_err c.from_residual-in_err-begin-in-Init.result (init_wants c.args.self.now (subst (λ s. Enabled s Init) c.self.view_is c.in-Init.ensures), c.in_err-begin-in-Init.ensures.err)

pub returns-in_err-start-in-Start-clause-err : goal.returns-in_err-start-in-Start-clause-err
returns-in_err-start-in-Start-clause-err g c = on_err c.from_residual-in_err-start-in-Start.result (start_wants c.args.self.now c.in-Start.place c.in_err-start-in-Start.ensures.known (subst (λ s. Enabled s (Start c.in-Start.place)) c.self.view_is c.in-Start.ensures), c.in_err-start-in-Start.ensures.err)

pub returns-in-Finish-clause-did : goal.returns-in-Finish-clause-did
returns-in-Finish-clause-did g c = rw (← c.self.view_is) (λ e. record { event = Finish; at_once = refl; step = c.finish.ensures; counts = plus_none c.args.steps.now })

pub returns-in_ok-begin-in-Init-clause-did : goal.returns-in_ok-begin-in-Init-clause-did
returns-in_ok-begin-in-Init-clause-did g c = (λ e. record { event = Init; at_once = refl; step = c.in_ok-begin-in-Init.ensures.ok; counts = plus_none c.args.steps.now })

pub returns-in-Cancel-clause-did : goal.returns-in-Cancel-clause-did
returns-in-Cancel-clause-did g c = λ e. record { event = Cancel; at_once = refl; step = c.cancel.ensures.step; counts = c.cancel.ensures.counts }

pub returns-in_ok-act-in-Act-clause-did : goal.returns-in_ok-act-in-Act-clause-did
returns-in_ok-act-in-Act-clause-did g c = λ e. record { event = Act; at_once = refl; step = c.in_ok-act-in-Act.ensures.ok; counts = c.in_ok-act-in-Act.ensures.counts }

pub returns-in-Wait-clause-last : goal.returns-in-Wait-clause-last
returns-in-Wait-clause-last g c = rw (← c.self.view_is) (λ t e. c.in-Wait.ensures)
