use Rattle.std.proofs.Common.{Some, sym, ap, ◌∙◌, subst}
use Rattle.std.specs.Prelude.{slice_set}
use Rattle.slot_core.specs.Busy.{busy}
use Rattle.doc_model.specs.declared.canvas.Patch.{Patch}
use Rattle.walker_core.specs.Readings.{Readings}
use Rattle.desk_state.specs.declared.work.Work.TheVariants.{Walk}
use Rattle.trace_out.specs.Writing.{IsTied}
use Rattle.trace_out.proofs.scribe.Scribe.publish_groups.Goals as goal

pub put-requires : goal.put-requires
put-requires c = c.in_ok-put_all.ensures.lent.empty

pub returns : goal.returns
returns c = record {
  puts = c.in_ok-put_all.ensures.goes;
  tied = subst (λ l. IsTied l c.put_all.new.self.desk)
      (sym (c.put.ensures ∙ ap (λ (q : Patch). slice_set c.put_all.new.self.held c.args.place (Some (busy (Walk c.put_all.new.walker) (Some q.rect)))) (c.patch-rect.ensures ∙ ap (λ (r : Readings). r.patch) (sym c.in_ok-put_all.ensures.inputs))))
      c.in_ok-put_all.ensures.lent.tied;
}
