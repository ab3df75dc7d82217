-- How two lists of sources are gone through side by side.
use Rattle.std.specs.Prelude.{◌≡◌, ◌↔◌, ℕ, ◌+◌, List, ◌∷◌, drop, slice_index_or}
use Rattle.geom_core.specs.Areas.{Area}
use Rattle.geom_core.specs.Grid.{Key}
use Rattle.machine_model.specs.State.{Child}
use Rattle.walker_core.specs.declared.gathered.Source.{Source}
use Rattle.walker_core.specs.Alike.{AlikeChildren}
use Rattle.walker_core.specs.Views.{child_of, children_in}

-- x and some children are alike those of its group from a place on exactly where these children are alike those from the other place on
abbrev pub StepsOn : Area → Key → Source → List Source → ℕ → ℕ → Type 0
StepsOn rect key x ys from to = (cs : List Child) → AlikeChildren rect key (child_of rect x ∷ cs) (children_in rect x.group (drop from ys)) ↔ AlikeChildren rect key cs (children_in rect x.group (drop to ys))

-- x and whatever children are not alike those of its group from a place on
abbrev pub StopsAt : Area → Key → Source → List Source → ℕ → Type 0
StopsAt rect key x ys from = (cs : List Child) → AlikeChildren rect key (child_of rect x ∷ cs) (children_in rect x.group (drop from ys)) → ⊥

-- the first child of the group from a place on stands at the other place
abbrev pub IsNext : ℕ → List Source → ℕ → ℕ → Type 0
IsNext group ss from at = (rect : Area) (d : Source) → children_in rect group (drop from ss) ≡ child_of rect (slice_index_or ss at d) ∷ children_in rect group (drop (at + 1) ss)
