use Rattle.std.proofs.Common.{◌≡◌}
use Rattle.std.specs.List.{All}
use Rattle.desk_core.specs.Keeping.{AreSpots, Lowers, Shows, ShowsWithin}
use Rattle.desk_core.proofs.folds.Folds.keep.Given as goal

-- what all of these and of what was kept show, all that is kept shows
abbrev pub invariant-loop-fold : goal.invariant-loop-fold
invariant-loop-fold l = AreSpots l.self.folds.items × (l.self.layer ≡ l.initial.self.layer) × (l.self.walk ≡ l.initial.self.walk) × (l.self.since ≡ l.initial.self.since)
    × ((x : Lowers) → All (ShowsWithin x l.initial.self.layer l.rect) l.made → All (Shows x) l.initial.self.folds.items → All (Shows x) l.self.folds.items)
