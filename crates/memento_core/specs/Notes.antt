-- A revision as it is kept: notes in the order in which they were made.
use Rattle.std.specs.Prelude.{◌≡◌, Option, List, length, map}
use Rattle.std.specs.FinMap as fin
use Rattle.std.specs.FinSet as set
use Rattle.std.specs.FinSet.{FinSet}
use Rattle.geom_core.specs.Grid.{Key, key_cmp}
use Rattle.memento_core.specs.Planes.{Keyed}
use Rattle.memento_core.specs.declared.revision.Note.{Note}

-- no key stands twice
abbrev pub IsEachOnce : List Key → Type 0
IsEachOnce ks = set.len (set.from_list {R = key_cmp} ks) ≡ length ks

module _ {T : Type 0} where
  -- the note of that tile or None under the key
  abbrev pub note : Key → Option T → Note T
  note k t = record { key = k; tile = t }

  -- the keys of notes
  abbrev pub keys_noted : List (Note T) → List Key
  keys_noted = map (λ (n : Note T). n.key)

  -- what notes tell
  abbrev pub noted : List (Note T) → Keyed T
  noted notes = fin.from_entries (map (λ (n : Note T). (n.key, n.tile)) notes)

  -- the set has the keys of the notes, each of which is noted once
  pub record IsRevision (keys : FinSet key_cmp) (notes : List (Note T)) : Type 0 where
    pub keys_are : keys ≡ set.from_list (keys_noted notes)
    pub once : IsEachOnce (keys_noted notes)
