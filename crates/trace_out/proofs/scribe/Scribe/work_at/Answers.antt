use Rattle.std.proofs.Common.{Some, sym, ap, ◌∙◌, subst}
use Rattle.desk_state.specs.After.{busy_painter, busy_walker}
use Rattle.desk_state.proofs.Places.{painting_at}
use Rattle.desk_state.proofs.WalkPlaces.{walking_at}
use Rattle.trace_out.specs.Lent.{IsLent}
use Rattle.trace_out.proofs.Ties.{lent_at}
use Rattle.trace_out.proofs.Busy.{not_busy}
use Rattle.trace_out.proofs.scribe.Scribe.work_at.Goals as goal

pub paint_at-requires : goal.paint_at-requires
paint_at-requires c = subst (λ l. IsLent l c.args.place (busy_painter c.in-Some-Paint.painter) c.args.self.now.desk) (sym c.clear.ensures.left)
    (lent_at c.args.self.now.held c.args.place (busy_painter c.in-Some-Paint.painter) c.args.self.now.desk c.requires.tied (painting_at c.args.self.now.held c.args.place c.in-Some-Paint.painter c.requires.tied.kept (sym c.clear.ensures.work ∙ c.in-Some-Paint.is ∙ ap Some c.in-Some-Paint.field-0-is)).there)

pub compose_at-requires : goal.compose_at-requires
compose_at-requires c = subst (λ l. IsLent l c.args.place (busy_walker c.in-Some-Walk.walker) c.args.self.now.desk) (sym c.clear.ensures.left)
    (lent_at c.args.self.now.held c.args.place (busy_walker c.in-Some-Walk.walker) c.args.self.now.desk c.requires.tied (walking_at c.args.self.now.held c.args.place c.in-Some-Walk.walker c.requires.tied.kept (sym c.clear.ensures.work ∙ c.in-Some-Walk.is ∙ ap Some c.in-Some-Walk.field-0-is)))

pub unreachable-requires : goal.unreachable-requires
unreachable-requires c = not_busy c.args.self.now.held c.args.self.now.desk c.args.place c.requires.tied (sym c.clear.ensures.work ∙ c.in-None.is) c.requires.busy
