use Rattle.std.proofs.Common.{◌<◌, ap, sym, ◌∙◌, refl, subst, length}
use Rattle.std.specs.Prelude.{slice_get}
use Rattle.std.proofs.lemmas.Option.{slice_get_read}
use Rattle.update_queue.specs.Waiting.{Waiting}
use Rattle.update_queue.proofs.Keeping.{queue_removed}
use Rattle.update_queue.proofs.updates.Updates.take_at.Goals as goal

pub invariant_of-self : goal.invariant_of-self
invariant_of-self c = (c.self.invariant.0, queue_removed c.self.inside.canvas c.self.inside.patches.items c.remove.new.self.items c.args.i c.self.invariant.1 c.remove.ensures.items, tt)

pub returns-clause-patch : goal.returns-clause-patch
returns-clause-patch c =
    ap (λ (w : Waiting). slice_get w.patches c.args.i) (sym c.self.view_is) ∙ slice_get_read c.self.inside.patches.items (length c.self.inside.patches.items) c.args.i c.remove.result refl (subst (λ (w : Waiting). c.args.i < length w.patches) (sym c.self.view_is) c.requires) c.remove.ensures.value
