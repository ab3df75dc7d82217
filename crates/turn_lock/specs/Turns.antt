-- What the table's word, its slot and its seats have to do with one another.
use Rattle.std.specs.Prelude.{◌≡◌, ◌≢◌, ℕ, ◌*◌, ◌<◌, ◌≤◌, Bool, List, [], ◌∷◌, ◌++◌, length, take, drop, Option, Some, None}
use Rattle.std.specs.List.{sum_by, range_with_len}
use mathlib.Core.Option.{some, none}
use mathlib.Core.Option as maybe
use mathlib.Core.List.{IsPrefix}
use lib.ListN.{get_elem?}
use Rattle.atomic_table.specs.Table.{State}
use Rattle.turn_lock.specs.declared.view.View.{View}
use Rattle.turn_lock.specs.declared.view.Terms.{Terms}
use Rattle.turn_lock.specs.History.{times, made_by, IsLegal}
use Rattle.turn_lock.specs.Passes.{longer}

module _ {E F : Type 0} where
  -- how many artists' numbers a seat keeps
  abbrev pub kept_count : View E F → ℕ
  kept_count v = length v.kept

  -- how often it keeps the number
  abbrev pub keeps : ℕ → View E F → ℕ
  keeps k v = times k v.kept

  -- how many entries it made
  abbrev pub made_count : View E F → ℕ
  made_count v = length v.made

  abbrev pub SeatHas : List (View E F) → ℕ → View E F → Type 0
  SeatHas views j v = get_elem? views j ≡ some v

-- The seats keep as many numbers as there are artists, and made the entries of the history, at most 1,048,576 for each number.
pub record IsCounted {E F : Type 0} (artists : ℕ) (history : List E) (views : List (View E F)) : Type 0 where
  pub numbers : sum_by kept_count views ≡ artists
  pub most : artists ≤ 16
  pub entries : length history ≡ sum_by made_count views
  pub few : (j : ℕ) (v : View E F) → SeatHas views j v → made_count v ≤ kept_count v * 1048576

-- A seat has seen a beginning of the history, which has all entries of the artists whose numbers it keeps. These are the entries that it made, and it made no others.
pub record Fits {E F : Type 0} (artist : E → ℕ) (history : List E) (v : View E F) : Type 0 where
  pub begins : IsPrefix v.seen history
  pub own : (k : ℕ) → 0 < keeps k v → (made_by artist k history ≡ made_by artist k v.made) × (made_by artist k v.seen ≡ made_by artist k v.made)
  pub no_other : (k : ℕ) → keeps k v ≡ 0 → made_by artist k v.made ≡ []

-- There is one legal history, which each seat fits. No number is kept twice, and each artist in it has its number kept.
pub record HasSeen {E F : Type 0} (artist : E → ℕ) (lawful : List E → E → Bool) (history : List E) (views : List (View E F)) : Type 0 where
  pub legal : IsLegal lawful history
  pub fits : (j : ℕ) (v : View E F) → SeatHas views j v → Fits artist history v
  pub once : (k : ℕ) → sum_by (keeps k) views ≤ 1
  pub others : (k : ℕ) → sum_by (keeps k) views ≡ 0 → made_by artist k history ≡ []

module _ {S E F : Type 0} (history_of : S → List E) (fixed_of : S → F) where
  -- The word is 0: no seat has the turn, and the slot holds the value with that history. Or just one seat has the turn, with that history; it keeps a number, and the slot is with it.
  pub data Place (history : List E) (fixed : F) (word : ℕ) (homes : List (maybe.Option (Option S))) (views : List (View E F)) : Type 0 where
    free : (x : S) → word ≡ 0 → homes ≡ some (Some x) ∷ [] → history_of x ≡ history → fixed_of x ≡ fixed → ((j : ℕ) (u : View E F) → SeatHas views j u → u.turn ≡ None) → Place history fixed word homes views
    taken : (j : ℕ) (u : View E F) → 0 < word → homes ≡ none ∷ [] → SeatHas views j u → 0 < kept_count u → u.turn ≡ Some (history, fixed) → ((i : ℕ) (w : View E F) → i ≢ j → SeatHas views i w → w.turn ≡ None) → Place history fixed word homes views

module _ {S E F : Type 0} (artist : E → ℕ) (lawful : List E → E → Bool) (history_of : S → List E) (fixed_of : S → F) where
  -- the rule
  pub record Kept (terms : Terms F) (s : State (Option S) (View E F)) : Type 0 where
    pub word : ℕ
    pub history : List E
    pub words : s.words ≡ word ∷ []
    pub counted : IsCounted terms.artists history s.views
    pub known : HasSeen artist lawful history s.views
    pub place : Place history_of fixed_of history terms.fixed word s.homes s.views

module _ {E F : Type 0} where
  -- a seat that keeps the numbers from n on, so many, and knows nothing
  abbrev pub start_view : ℕ → ℕ → View E F
  start_view n more = record { kept = range_with_len n more; made = []; seen = []; turn = None }

  -- the first seat keeps all numbers
  abbrev pub first_view : Terms F → View E F
  first_view terms = start_view 0 terms.artists

  -- a seat that gives its first number to a new one, and the new one; neither has made an entry
  abbrev pub left_view : View E F → View E F
  left_view v = record { kept = drop 1 v.kept; made = []; seen = v.seen; turn = v.turn }

  abbrev pub right_view : View E F → View E F
  right_view v = record { kept = take 1 v.kept; made = []; seen = v.seen; turn = None }

  -- a seat that takes in another, and what is left of that one
  abbrev pub joined_view : View E F → View E F → View E F
  joined_view v w = record { kept = v.kept ++ w.kept; made = v.made ++ w.made; seen = longer v.seen w.seen; turn = v.turn }

  abbrev pub spent_view : View E F
  spent_view = record { kept = []; made = []; seen = []; turn = None }
