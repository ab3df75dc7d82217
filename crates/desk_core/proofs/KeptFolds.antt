-- A list of folds in which one is joined with another.
use Rattle.std.proofs.Common.{◌≡◌, ℕ, ◌<◌, List, length, get_or, set, sym, subst}
use Rattle.std.specs.List.{All}
use Rattle.std.proofs.lemmas.List.Elements.{All-get_or, All-set}
use Rattle.geom_core.specs.Areas.{Area}
use Rattle.compose_core.specs.Spots.{IsSpot}
use Rattle.walker_core.specs.declared.folds.Fold.{Fold}
use Rattle.walker_core.specs.Folds.{Joins}
use Rattle.desk_core.specs.Keeping.{Lowers, Shows, ShowsWithin, AreSpots, IsBeside}
use Rattle.desk_core.proofs.Keeping.{shows_joined}

-- what holds of all holds of one that was read
pub item_of : {A : Type 0} (P : A → Type 0) (xs : List A) (i : ℕ) (x : A) → i < length xs → x ≡ get_or xs i x → All P xs → P x
item_of P xs i x low is all = subst P (sym is) (All-get_or P xs i x low all)

module _ (folds : List Fold) (i : ℕ) (a b c : Fold) (low : i < length folds) (is : a ≡ get_or folds i a) (beside : IsBeside folds b i) where
  -- the one that is there is of the same children, on the same tile
  pub there_alike : (a.group ≡ b.group) × (a.spot.key ≡ b.spot.key)
  there_alike = subst (λ (x : Fold). (x.group ≡ b.group) × (x.spot.key ≡ b.spot.key)) (sym is) (beside.alike a)

  -- with what both make together in its place all show the same
  pub set_shows : (x : Lowers) → Joins a b c → Shows x b → All (Shows x) folds → All (Shows x) (set folds i c)
  set_shows x joins shows all = All-set (Shows x) folds i c (shows_joined x a b c there_alike.0 (item_of (Shows x) folds i a low is all) shows joins) all

  pub set_spots : Joins a b c → AreSpots folds → AreSpots (set folds i c)
  set_spots joins all = All-set (λ (f : Fold). IsSpot f.spot) folds i c joins.spot all

-- one more of those that were made
pub keep_more : (x : Lowers) (layer layer' : ℕ) (rect : Area) (made : List Fold) (i : ℕ) (a : Fold) (olds mids news : List Fold) → i < length made → a ≡ get_or made i a → layer' ≡ layer → (ShowsWithin x layer' rect a → All (Shows x) mids → All (Shows x) news)
    → (All (ShowsWithin x layer rect) made → All (Shows x) olds → All (Shows x) mids) → All (ShowsWithin x layer rect) made → All (Shows x) olds → All (Shows x) news
keep_more x layer layer' rect made i a olds mids news low is same step before all old =
    step (subst (λ l. ShowsWithin x l rect a) (sym same) (item_of (ShowsWithin x layer rect) made i a low is all)) (before all old)
