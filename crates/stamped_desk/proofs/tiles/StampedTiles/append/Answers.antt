use Rattle.std.proofs.Common.{List, sym, ap, subst}
use Rattle.std.specs.Prelude.{IfSome}
use Rattle.whole_tiles.specs.Wholes.{Entire}
use Rattle.stamped_desk.specs.Stamped.{AreMadeOf, batch}
use Rattle.stamped_desk.proofs.Drawing.{unstamped, more_stamped, none_made}
use Rattle.stamped_desk.proofs.tiles.StampedTiles.append.Goals as goal
use Rattle.stamped_desk.proofs.tiles.StampedTiles.append.Goals.{then-not-are_one+in-Some-1, then-not-are_one+in-None-1, else-not-are_one}

pub invariant_of-self-2 : goal.invariant_of-self-2
invariant_of-self-2 g c = elim c.if-not-are_one.branch [
  | then-not-are_one+in-Some-1 w ↦ unstamped c.if-not-are_one.self-inside.stamp c.if-not-are_one.self-inside.since (batch c.if-not-are_one.self-inside.slot c.append.new.self.items) (ap (λ i. i.stamp) w.self-inside-is)
  | then-not-are_one+in-None-1 w ↦ unstamped c.if-not-are_one.self-inside.stamp c.if-not-are_one.self-inside.since (batch c.if-not-are_one.self-inside.slot c.append.new.self.items) (ap (λ i. i.stamp) w.self-inside-is)
  | else-not-are_one w ↦ more_stamped c.self.inside.stamp c.other.inside.stamp c.if-not-are_one.self-inside.stamp c.self.inside.slot c.other.inside.slot c.if-not-are_one.self-inside.slot c.self.inside.since c.other.inside.since c.if-not-are_one.self-inside.since c.self.inside.tiles.items c.other.inside.tiles.items c.if-not-are_one.self-inside.tiles.items c.append.new.self.items
      (ap (λ i. i.stamp) w.self-inside-is) (ap (λ i. i.slot) w.self-inside-is) (ap (λ i. i.since) w.self-inside-is) (ap (λ i. i.tiles.items) w.self-inside-is) c.in_ok-append.ensures.items (c.are_one.ensures w.if-not-are_one.false) c.self.invariant c.other.invariant
]

pub invariant_of-other-2 : goal.invariant_of-other-2
invariant_of-other-2 g c =
    subst (λ (ts : List Entire). IfSome c.other.inside.stamp (λ m. AreMadeOf m c.other.inside.since (batch c.other.inside.slot ts))) (sym c.in_ok-append.ensures.other_items)
    (none_made c.other.inside.stamp c.other.inside.since (batch c.other.inside.slot c.other.inside.tiles.items) c.other.invariant)
