use Rattle.std.proofs.Common.{sym, ap, ◌∙◌, subst, ◌-◌, Some, None}
use Rattle.std.specs.Prelude.{slice_set}
use Rattle.slot_core.specs.Busy.{busy}
use Rattle.desk_state.specs.declared.work.Work.TheVariants.{Paint}
use Rattle.trace_out.specs.Writing.{IsTied}
use Rattle.trace_out.proofs.scribe.Scribe.hold_job.Goals as goal

pub put-requires : goal.put-requires
put-requires c = c.requires.lent.empty

pub returns-clause-tied : goal.returns-clause-tied
returns-clause-tied c = subst (λ l. IsTied l c.args.self.now.desk) (sym (c.put.ensures ∙ ap (λ ps. slice_set c.args.self.now.held c.args.ticket.slot.place (Some (busy (Paint (record { serial = c.args.ticket.slot.serial; index = c.args.ticket.job - 1; job = c.args.ticket.work; shot = c.args.ticket.shot; published = ps })) None))) c.new.ensures)) c.requires.lent.tied
