use Rattle.std.proofs.Common.{sym, ◌∙◌}
use Rattle.update_queue.proofs.Keeping.{bound_inside, queue_added, added_is, stays_added, nothing_added}
use Rattle.update_queue.proofs.updates.Updates.add.Goals as goal

pub add_rect-self-inside-requires-clause-all : goal.add_rect-self-inside-requires-clause-all
add_rect-self-inside-requires-clause-all c = bound_inside c.self.inside.canvas c.args.rect c.in-Some.part c.self.inside.patches.items c.self.invariant.0 c.self.invariant.1 (sym c.clip.ensures.value ∙ c.in-Some.is)

pub invariant_of-self : goal.invariant_of-self
invariant_of-self c = (
  c.self.invariant.0,
  queue_added c.self.inside.canvas c.args.rect c.in-Some.part c.self.inside.patches.items c.add_rect-self-inside.new.patches.items c.args.walk c.self.invariant.1 (sym c.clip.ensures.value ∙ c.in-Some.is) c.add_rect-self-inside.ensures.value,
  c.add_rect-self-inside.ensures.spread,
)

pub returns-then-not-stays_with : goal.returns-then-not-stays_with
returns-then-not-stays_with c = added_is c.self.inside.canvas c.args.rect c.in-Some.part c.self.inside.patches.items c.add_rect-self-inside.new.patches.items c.args.walk c.args.self.now c.self.view_is (sym c.clip.ensures.value ∙ c.in-Some.is) c.add_rect-self-inside.ensures.value

pub returns-else-not-stays_with : goal.returns-else-not-stays_with
returns-else-not-stays_with c = stays_added c.self.inside.canvas c.args.rect c.in-Some.part c.self.inside.patches.items c.args.walk c.args.self.now c.self.view_is (sym c.clip.ensures.value ∙ c.in-Some.is) c.if-not-stays_with.ensures

pub returns-in-None : goal.returns-in-None
returns-in-None c = nothing_added c.self.inside.canvas c.args.rect c.self.inside.patches.items c.args.walk c.args.self.now c.self.view_is (sym c.clip.ensures.value ∙ c.in-None.is)
