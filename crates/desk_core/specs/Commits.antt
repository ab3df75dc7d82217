-- Work that comes to the desk in one hold: what is made of it, and what the answer says.
use Rattle.std.specs.Prelude.{◌≡◌, ℕ, Result, Ok, Err, List, [], ◌∷◌}
use Rattle.geom_core.specs.Grid.{Key}
use Rattle.whole_tiles.specs.Wholes.{Entire}
use Rattle.walker_core.specs.Composing.{Composition}
use Rattle.machine_model.specs.State.{State}
use Rattle.machine_model.specs.Event.{Event, Publish, End}
use Rattle.machine_model.specs.Step.{Run}
use Rattle.desk_events.specs.Commits.{MayCommit, MayPublishRow, RunsFront, row_events}
use Rattle.desk_core.specs.declared.answers.Published.{Published}
use Rattle.desk_core.specs.declared.answers.Published.TheVariants as answers

-- the job in the slot publishes these tiles, one after another, and ends
abbrev pub commit_events : ℕ → List Entire → List Event
commit_events place [] = End place ∷ []
commit_events place (x ∷ xs) = Publish place x.key ∷ commit_events place xs

-- stored: it might be brought, and all these events happened; nothing: it might not, and nothing changed; after want of memory some of the events happened, from the front on, or none, and not all
abbrev pub Brings : {E : Type 0} → Type 0 → List Event → State → Result Published E → State → Type 0
Brings May events old (Ok answers.Stored) new = May × Run old events new
Brings May events old (Ok answers.Nothing) new = (May → ⊥) × (new ≡ old)
Brings May events old (Err e) new = RunsFront old events new

-- so it is of the tiles that a job lacks, and its end
abbrev pub Commits : {E : Type 0} → State → ℕ → ℕ → List Entire → Result Published E → State → Type 0
Commits old place serial tiles result new = Brings (MayCommit old place serial tiles) (commit_events place tiles) old result new

-- and of what a walk lacks on one tile
abbrev pub PublishesRow : {E : Type 0} → State → ℕ → ℕ → Composition → Key → Result Published E → State → Type 0
PublishesRow old place serial c key result new = Brings (MayPublishRow old place serial c key) (row_events old place key) old result new
