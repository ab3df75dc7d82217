-- Entries that are kept under keys.
use Rattle.std.specs.Prelude.{◌≡◌, ◌≢◌, ℕ, true, Option, Some, None, is_some, List, [], ◌∷◌}
use Rattle.std.specs.List.{AllByRecursion}
use Rattle.stroke_core.specs.Fed.{Fed}
use Rattle.entry_queue.specs.declared.entry.Entry.{Entry}
use Rattle.entry_queue.specs.declared.entry.Entry.TheVariants.{Waiting}

-- the entries, the one that is there first
abbrev pub with_first : Option Entry → List Entry → List Entry
with_first None es = es
with_first (Some e) es = e ∷ es

-- the entries under these keys
abbrev pub entries_at : (ℕ → Option Entry) → List ℕ → List Entry
entries_at slots [] = []
entries_at slots (k ∷ ks) = with_first (slots k) (entries_at slots ks)

-- no key stands twice
abbrev pub Differ : List ℕ → Type 0
Differ [] = Unit {0}
Differ (k ∷ ks) = AllByRecursion (λ other. other ≢ k) ks × Differ ks

-- the key has an entry, and where that is a waiting stroke, it is found by its number
pub record IsFound (slots : ℕ → Option Entry) (waiting : ℕ → Option ℕ) (k : ℕ) : Type 0 where
  pub held : is_some (slots k) ≡ true
  pub known : (s : Fed) → slots k ≡ Some (Waiting s) → waiting s.no ≡ Some k

-- each of the keys is found, and none stands twice
pub record IsIndexed (slots : ℕ → Option Entry) (waiting : ℕ → Option ℕ) (keys : List ℕ) : Type 0 where
  pub each : AllByRecursion (IsFound slots waiting) keys
  pub differ : Differ keys

-- a waiting stroke is under the key
abbrev pub HasWaiting : (ℕ → Option Entry) → ℕ → Type 0
HasWaiting slots k = (s : Fed) × (slots k ≡ Some (Waiting s))
