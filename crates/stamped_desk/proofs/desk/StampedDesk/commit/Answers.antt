use Rattle.std.proofs.Common.{◌≡◌, List, sym, ap, ◌∙◌, subst}
use Rattle.whole_tiles.specs.Wholes.{Entire}
use Rattle.desk_events.specs.declared.tickets.SlotId.{SlotId}
use Rattle.desk_events.specs.Commits.{AreOfWork}
use Rattle.desk_events.specs.Sparing.{ArePrior}
use Rattle.stamped_desk.specs.Stamped.{Batch, batch}
use Rattle.stamped_desk.proofs.Drawing.{settles_draws, batch_known}
use Rattle.stamped_desk.proofs.desk.StampedDesk.commit.Goals as goal

pub commit_made-requires : goal.commit_made-requires
commit_made-requires g c =
    let same : c.tiles.inside.slot ≡ c.slot.result = ap (λ (b : Batch). b.slot) c.tiles.view_is ∙ sym c.slot.ensures in
    let known = batch_known c.self.inside.desk c.self.inside.stamps c.tiles.inside.stamp c.tiles.inside.since (batch c.tiles.inside.slot c.tiles.inside.tiles.items) c.self.invariant (c.knows.ensures c.if-knows.true) c.tiles.invariant in
    record {
      of = subst (λ (s : SlotId). AreOfWork c.self.inside.desk s.place s.serial c.deref.result.now) same
          (subst (λ (ts : List Entire). AreOfWork c.self.inside.desk c.tiles.inside.slot.place c.tiles.inside.slot.serial ts) (sym c.deref.ensures.value) known.0);
      prior = subst (λ (s : SlotId). ArePrior c.self.inside.desk s.place s.serial c.tiles.inside.since c.deref.result.now) same
          (subst (λ (ts : List Entire). ArePrior c.self.inside.desk c.tiles.inside.slot.place c.tiles.inside.slot.serial c.tiles.inside.since ts) (sym c.deref.ensures.value) known.1);
    }

pub invariant_of-self : goal.invariant_of-self
invariant_of-self g c = settles_draws c.self.inside.desk c.commit_made.new.self c.self.inside.stamps c.commit_made.ensures.runs c.self.invariant

pub invariant_of-self-else-knows : goal.invariant_of-self-else-knows
invariant_of-self-else-knows g c = settles_draws c.self.inside.desk c.commit.new.self c.self.inside.stamps c.commit.ensures.runs c.self.invariant
