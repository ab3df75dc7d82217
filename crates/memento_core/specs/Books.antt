-- A book of a plane's revisions, as contracts see it.
use Rattle.std.specs.Prelude.{◌≡◌, Option, None, List, [], ◌∷◌, refl}
use Rattle.std.specs.FinSet as set
use Rattle.std.specs.FinSet.{FinSet}
use Rattle.std.specs.Coded.{Coded, code_by, coded×, coded_list, coded_option}
use Rattle.geom_core.specs.Grid.{key_cmp}
use Rattle.memento_core.specs.Planes.{Keyed}
use Rattle.memento_core.specs.Revisions.{AllStand, Exchanges, keys_in, keyed_code}

-- the revisions that can be rolled back and those that can be rolled forward, each from the next one on, and what was noted in the open transaction, if one is open
pub record Pages (T : Type 0) : Type 0 where
  pub past : List (Keyed T)
  pub redo : List (Keyed T)
  pub index : Option (Keyed T)

-- the code by which contracts tell books apart
abbrev pub pages_code : {T : Type 0} → Coded T → Coded (Pages T)
pages_code {T} code = code_by (List (Keyed T) × (List (Keyed T) × Option (Keyed T))) (coded× (coded_list (keyed_code code)) (coded× (coded_list (keyed_code code)) (coded_option (keyed_code code))))
    (λ b. (b.past, (b.redo, b.index))) (λ t. record { past = t.0; redo = t.1.0; index = t.1.1 }) (λ _. refl)

module _ {T : Type 0} where
  -- nothing was done
  abbrev pub empty_book : Pages T
  empty_book = record { past = []; redo = []; index = None }

  -- the keys of the first of these revisions are there
  abbrev pub FirstStands : List (Keyed T) → Keyed T → Type 0
  FirstStands [] plane = Unit {0}
  FirstStands (r ∷ rest) plane = AllStand r plane

  -- the keys of the first of these revisions
  abbrev pub first_keys : List (Keyed T) → FinSet key_cmp
  first_keys [] = set.empty
  first_keys (r ∷ rest) = keys_in r

  -- the transaction is the newest of the past, and nothing can be rolled forward any more
  abbrev pub committed : Keyed T → Pages T → Pages T
  committed r b = record { past = r ∷ b.past; redo = []; index = None }

  -- the newest of the past is exchanged with the plane, and what stood there is the next to be rolled forward
  pub record RollsBack (old new : Pages T) (plane after : Keyed T) : Type 0 where
    pub revision : Keyed T
    pub given : Keyed T
    pub past : old.past ≡ revision ∷ new.past
    pub redo : new.redo ≡ given ∷ old.redo
    pub index : new.index ≡ old.index
    pub exchanges : Exchanges revision given plane after

  -- the next to be rolled forward is exchanged with the plane, and what stood there is the newest of the past
  pub record RollsForward (old new : Pages T) (plane after : Keyed T) : Type 0 where
    pub revision : Keyed T
    pub given : Keyed T
    pub past : new.past ≡ given ∷ old.past
    pub redo : old.redo ≡ revision ∷ new.redo
    pub index : new.index ≡ old.index
    pub exchanges : Exchanges revision given plane after
