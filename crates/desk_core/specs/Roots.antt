-- The root's cache, from one state to another.
use Rattle.std.specs.Prelude.{◌≡◌}
use Rattle.geom_core.specs.Areas.{Point}
use Rattle.doc_model.specs.Layers.{at}
use Rattle.machine_model.specs.Groups.{cache}
use Rattle.machine_model.specs.State.{State}

-- no pixel of the root's cache changed
abbrev pub RootStays : State → State → Type 0
RootStays old new = (p : Point) → at (cache new.caches 0) p ≡ at (cache old.caches 0) p
