use Rattle.std.proofs.Common.{sym, ◌∙◌}
use Rattle.update_queue.proofs.Keeping.{bound_inside, queue_replaced, replaced_is, stays_refreshed, nothing_replaced}
use Rattle.update_queue.proofs.updates.Updates.refresh.Goals as goal

pub begin_anew-self-inside-requires : goal.begin_anew-self-inside-requires
begin_anew-self-inside-requires c = record { inside = bound_inside c.self.inside.canvas c.args.rect c.in-Some.part c.self.inside.patches.items c.self.invariant.0 c.self.invariant.1 (sym c.clip.ensures.value ∙ c.in-Some.is) }

pub invariant_of-self : goal.invariant_of-self
invariant_of-self c = (
  c.self.invariant.0,
  queue_replaced c.self.inside.canvas c.args.rect c.in-Some.part c.self.inside.patches.items c.begin_anew-self-inside.new.patches.items c.self.invariant.1 (sym c.clip.ensures.value ∙ c.in-Some.is) c.begin_anew-self-inside.ensures.value,
  c.begin_anew-self-inside.ensures.spread,
)

pub returns-then-not-is_spread_on : goal.returns-then-not-is_spread_on
returns-then-not-is_spread_on c = replaced_is c.self.inside.canvas c.args.rect c.in-Some.part c.self.inside.patches.items c.begin_anew-self-inside.new.patches.items c.args.self.now c.self.view_is (sym c.clip.ensures.value ∙ c.in-Some.is) c.begin_anew-self-inside.ensures.value

pub returns-else-not-is_spread_on : goal.returns-else-not-is_spread_on
returns-else-not-is_spread_on c = stays_refreshed c.self.inside.canvas c.args.rect c.in-Some.part c.self.inside.patches.items c.args.self.now c.self.view_is (sym c.clip.ensures.value ∙ c.in-Some.is) c.if-not-is_spread_on.ensures.refreshed

pub returns-in-None : goal.returns-in-None
returns-in-None c = nothing_replaced c.self.inside.canvas c.args.rect c.self.inside.patches.items c.args.self.now c.self.view_is (sym c.clip.ensures.value ∙ c.in-None.is)
