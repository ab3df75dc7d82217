-- What a pass knows, and what a call tells it.
use Rattle.std.specs.Prelude.{◌≡◌, ℕ, ◌+◌, Bool, List, [], ◌∷◌, ◌++◌, length, map, if◌then◌else◌, nat_lt, Result}
use Rattle.std.specs.List.{range_with_len}
use Rattle.atomic_table.specs.Seated.{TableId}
use Rattle.turn_lock.specs.declared.sent.Sent.{Sent}
use Rattle.turn_lock.specs.History.{Continues}
use Rattle.turn_lock.specs.Answers.{Answers}

-- A lock: how many artists it has, and what stays of its value.
pub record Lock (F : Type 0) : Type 0 where
  pub id : TableId
  pub artists : ℕ
  pub fixed : F

-- A pass belongs to one lock. It keeps its own artist's number, and those of the passes that went back into it. They have made these entries, in so many calls, and it has seen a beginning of the lock's history.
pub record Known (E : Type 0) : Type 0 where
  pub lock : TableId
  pub numbers : List ℕ
  pub made : List E
  pub seen : List E
  pub calls : ℕ

-- the first of the numbers
abbrev pub IsOwn : ℕ → List ℕ → Type 0
IsOwn k numbers = (rest : List ℕ) × (numbers ≡ k ∷ rest)

abbrev pub first_of : List ℕ → ℕ
first_of [] = 0
first_of (k ∷ rest) = k

-- the longer of two lists
abbrev pub longer : {A : Type 0} → List A → List A → List A
longer xs ys = if nat_lt (length xs) (length ys) then ys else xs

module _ {E : Type 0} where
  -- the number of the pass's own artist
  abbrev pub own : Known E → ℕ
  own p = first_of p.numbers

  -- a pass that has seen and made nothing
  abbrev pub fresh : TableId → ℕ → Known E
  fresh id k = record { lock = id; numbers = k ∷ []; made = []; seen = []; calls = 0 }

  -- one pass for each artist, in order
  abbrev pub all_fresh : TableId → ℕ → List (Known E)
  all_fresh id artists = map (fresh id) (range_with_len 0 artists)

  -- a pass that took in another
  abbrev pub joined : Known E → Known E → Known E
  joined p q = record { lock = p.lock; numbers = p.numbers ++ q.numbers; made = p.made ++ q.made; seen = longer p.seen q.seen; calls = p.calls + q.calls }

  -- a pass after one more call, which made these entries and has seen this history
  abbrev pub called : Known E → List E → List E → Known E
  called p entries history = record { lock = p.lock; numbers = p.numbers; made = p.made ++ entries; seen = history; calls = p.calls + 1 }

-- A call at its turn. It found a history that goes on from what the pass knew, and the answer is the one for the entry at that history; what is then seen is that history, with the entry where it was accepted.
pub record HasTurn {E X : Type 0} (artist : E → ℕ) (lawful : List E → E → Bool) (numbers : List ℕ) (made seen : List E) (entry : E) (answer : Result Sent X) (after : List E) : Type 0 where
  pub history : List E
  pub continues : Continues artist lawful numbers made seen history
  pub answers : Answers lawful history entry answer after

-- a call of this pass
abbrev pub PassHasTurn : {E X : Type 0} → (E → ℕ) → (List E → E → Bool) → Known E → E → Result Sent X → List E → Type 0
PassHasTurn artist lawful p entry answer after = HasTurn artist lawful p.numbers p.made p.seen entry answer after
