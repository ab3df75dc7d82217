use Rattle.std.proofs.Common.{◌≡◌, ◌≤◌, map, length, sym, ap, ◌∙◌, true}
use Rattle.std.specs.List.{list_all}
use Rattle.std.proofs.lemmas.List.{length-map}
use Rattle.machine_model.specs.State.{is_free}
use Rattle.desk_state.specs.Parts.{slot_of}
use Rattle.desk_events.proofs.FreeSlots.{free_next}
use Rattle.trace_out.proofs.Busy.{busy_at, all_passed}
use Rattle.trace_out.proofs.scribe.Scribe.busy_place.Goals as goal

pub returns-then-is_some-clause-some : goal.returns-then-is_some-clause-some
returns-then-is_some-clause-some c = busy_at c.args.self.now.held c.args.self.now.desk c.args.place c.work.result c.requires c.work.ensures (sym c.is_some.ensures ∙ c.if-is_some.true)

pub loop-p-preserved : goal.loop-p-preserved
loop-p-preserved c = free_next c.args.self.now.held c.loop-p.p c.work-in-loop-p.result c.work-in-loop-p.ensures (sym c.is_some-in-loop-p.ensures ∙ c.if-is_some-2.false) c.loop-p.invariant
