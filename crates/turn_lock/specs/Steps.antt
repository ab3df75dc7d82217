-- What each step of a seat tells.
use Rattle.std.specs.Prelude.{◌≡◌, ℕ, ◌+◌, ◌*◌, ◌<◌, ◌≤◌, ◌^◌, Bool, true, ◌==◌, List, [], ◌∷◌, ◌++◌, length, drop, Option, Some, None, MatchBool, Result}
use Rattle.atomic_table.specs.Table.{Me, Step}
use Rattle.atomic_table.specs.Seated.{TableId}
use Rattle.turn_lock.specs.declared.sent.Sent.{Sent}
use Rattle.turn_lock.specs.declared.view.View.{View}
use Rattle.turn_lock.specs.History.{Continues}
use Rattle.turn_lock.specs.Passes.{HasTurn}
use Rattle.turn_lock.specs.Turns.{kept_count, keeps, made_count, start_view}

-- a seat's table is this one, which has a word
abbrev pub SitsAt : TableId → TableId → Type 0
SitsAt seat table = (seat ≡ table) × (0 < table.words)

-- and so is another seat's
abbrev pub BothSitAt : TableId → TableId → TableId → Type 0
BothSitAt seat other table = (seat ≡ table) × (other ≡ table) × (0 < table.words)

module _ {E F : Type 0} where
  -- a seat that has the turn, and found this history
  abbrev pub begun : View E F → List E → F → View E F
  begun v history fixed = record { kept = v.kept; made = v.made; seen = v.seen; turn = Some (history, fixed) }

  -- the history that was found with the turn
  abbrev pub found_in : Option (List E × F) → List E
  found_in None = []
  found_in (Some t) = t.0

  -- the turn has ended, with these entries made and this history seen
  abbrev pub resting : View E F → List E → List E → View E F
  resting v entries history = record { kept = v.kept; made = v.made ++ entries; seen = history; turn = None }

  -- what was added to the history that was found was made
  abbrev pub ended : View E F → List E → View E F
  ended v history = resting v (drop (length (found_in v.turn)) history) history

-- a seat had the turn, and found a history that goes on from what it knew
abbrev pub SeatHasTurn : {E F X : Type 0} → (E → ℕ) → (List E → E → Bool) → View E F → E → Result Sent X → List E → Type 0
SeatHasTurn artist lawful v entry answer after = HasTurn artist lawful v.kept v.made v.seen entry answer after

-- of a seat that has called nothing yet, a new one keeps the first number, and it keeps the others
abbrev pub CutsFirst : {S E F : Type 0} → Me S (View E F) → Me S (View E F) → Me S (View E F) → Type 0
CutsFirst old first rest = (n more : ℕ) → old ≡ (start_view n (more + 1), []) → (first ≡ (start_view n 1, [])) × (rest ≡ (start_view (n + 1) more, []))

module _ {S E F : Type 0} (history_of : S → List E) where
  -- the turn ended, and what was given back was seen
  abbrev pub EndsTurn : Me (Option S) (View E F) → Me (Option S) (View E F) → Type 0
  EndsTurn m m' = (x : S) → m.1 ≡ (0, Some x) ∷ [] → m' ≡ (ended m.0 (history_of x), [])

  -- it is this seat's turn, and the value was taken out of the slot
  abbrev pub TakesOut : (S → F) → Me (Option S) (View E F) → S → Me (Option S) (View E F) → Type 0
  TakesOut fixed_of m x m' = m' ≡ (begun m.0 (history_of x) (fixed_of x), (0, None) ∷ [])

module _ {S E F : Type 0} (artist : E → ℕ) (lawful : List E → E → Bool) (history_of : S → List E) (fixed_of : S → F) where
  -- the value that a seat finds: its history goes on from what the seat knew
  pub record Finds (v : View E F) (x : S) : Type 0 where
    pub few : length (history_of x) ≤ 2 ^ 24
    pub continues : Continues artist lawful v.kept v.made v.seen (history_of x)

  -- it is this seat's turn: it finds a value, and has the slot beside those that it had
  abbrev pub TakesTurn : Me (Option S) (View E F) → Me (Option S) (View E F) → Type 0
  TakesTurn m m' = (x : S) × (m' ≡ (begun m.0 (history_of x) (fixed_of x), (0, Some x) ∷ m.1)) × Finds m.0 x

  -- where 0 was found it is this seat's turn; else nothing changed
  abbrev pub TakesFree : Me (Option S) (View E F) → ℕ → Me (Option S) (View E F) → Type 0
  TakesFree m found m' = MatchBool (found == 0) (TakesTurn m m') (m' ≡ m)

  abbrev pub Begins : Step (Option S) → Me (Option S) (View E F) → ℕ → Me (Option S) (View E F) → Type 0
  Begins st m found m' = TakesFree m found m'

  -- the value as it was found, or with one more entry, which is lawful and of an artist of the seat
  pub data Follows (v : View E F) (history : List E) (x : S) : Type 0 where
    same : history_of x ≡ history → Follows v history x
    more : (e : E) → history_of x ≡ history ++ e ∷ [] → 0 < keeps (artist e) v → lawful history e ≡ true → made_count v + 1 ≤ kept_count v * 1048576 → Follows v history x

  -- what a seat with the turn may give back
  pub record MayGive (v : View E F) (x : S) : Type 0 where
    pub history : List E
    pub has : v.turn ≡ Some (history, fixed_of x)
    pub follows : Follows v history x

  -- the slot is with the seat, and has what it may give back
  abbrev pub MayEnd : Me (Option S) (View E F) → Type 0
  MayEnd m = (x : S) × (m.1 ≡ (0, Some x) ∷ []) × MayGive m.0 x

  abbrev pub Ends : Step (Option S) → Me (Option S) (View E F) → ℕ → Me (Option S) (View E F) → Type 0
  Ends st m found m' = EndsTurn history_of m m'

-- a seat keeps no more numbers than there may be artists
abbrev pub Counts : {S E F : Type 0} → Step (Option S) → Me (Option S) (View E F) → ℕ → Me (Option S) (View E F) → Type 0
Counts st m found m' = (m' ≡ m) × (length m.0.kept ≤ 16)
