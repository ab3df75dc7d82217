use Rattle.std.proofs.Common.{sym, ap, ◌∙◌, subst, Some}
use Rattle.std.specs.Prelude.{slice_set}
use Rattle.slot_core.specs.Busy.{busy}
use Rattle.script_lines.proofs.FieldLemmas.{both}
use Rattle.desk_state.specs.declared.work.Work.TheVariants.{Walk}
use Rattle.trace_out.specs.Writing.{IsTied}
use Rattle.trace_out.proofs.scribe.Scribe.hold_walk.Goals as goal

pub put-requires : goal.put-requires
put-requires c = c.requires.lent.empty

pub returns-clause-tied : goal.returns-clause-tied
returns-clause-tied c = subst (λ l. IsTied l c.args.self.now.desk) (sym (c.put.ensures ∙ (λ i. slice_set c.args.self.now.held c.args.ticket.slot.place (Some (busy (Walk (record { serial = c.args.ticket.slot.serial; inputs = c.args.ticket.inputs; published = c.new.ensures i })) (Some (c.patch-patch.ensures i).rect)))))) c.requires.lent.tied
