-- What a handle owns: nothing where it is shut, and else what a box with its value owns.
use mathlib.Core.List.{List, [], ◌∷◌}
use mathlib.Core.Bool.{Bool, true, false}
use base.Fml.{Fml, fsep, feq}
use denote.RawPtr.{Ptr}
use denote.RattleType.{RattleType}
use Rattle.std.specs.Box.Ownership.{box_owns}
use Rattle.std.specs.Global.{Global}
use Rattle.std_heap.specs.contracts.GlobalAllocator.TheImpl.{ghosts}

abbrev pub owns_one : (X : RattleType) → Global → Ptr → X.Denot → Fml
owns_one X alloc = box_owns (ghosts.dealloc_token alloc) X

unfoldable pub kept : (X : RattleType) → Global → Ptr → Bool → List X.Denot → Fml
kept X alloc at full [] = feq Bool full false
kept X alloc at full (x ∷ xs) = fsep (feq Bool full true) (fsep (feq (List X.Denot) xs []) (owns_one X alloc at x))
