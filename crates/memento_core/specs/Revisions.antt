-- Revisions of a plane: under each of some keys a tile or None.
use Rattle.std.specs.Prelude.{◌≡◌, true, false, if◌then◌else◌, Option}
use Rattle.std.specs.FinMap as map
use Rattle.std.specs.FinSet as set
use Rattle.std.specs.FinSet.{FinSet}
use Rattle.std.specs.Coded.{Coded, coded_option}
use Rattle.geom_core.specs.Grid.{Key, key_cmp}
use Rattle.geom_core.specs.Keys.{key_code}
use Rattle.memento_core.specs.Planes.{Keyed}

-- the code by which contracts tell planes and revisions apart
abbrev pub keyed_code : {T : Type 0} → Coded T → Coded (Keyed T)
keyed_code code = map.code key_code (coded_option code)

module _ {T : Type 0} where
  -- the keys of which something was noted
  abbrev pub keys_in : Keyed T → FinSet key_cmp
  keys_in revision = set.from_list (map.keys revision)

  -- that tile or None is noted under the key where nothing was noted of it before
  abbrev pub noted_under : Keyed T → Key → Option T → Keyed T
  noted_under revision k t = if map.contains_key revision k then revision else map.insert revision k t

  -- each key of which something was noted is there
  abbrev pub AllStand : Keyed T → Keyed T → Type 0
  AllStand revision plane = (k : Key) → map.contains_key revision k ≡ true → map.contains_key plane k ≡ true

  -- what was noted stands under its keys, and all else stays
  pub record PutsBack (revision old new : Keyed T) : Type 0 where
    pub laid : (k : Key) → map.contains_key revision k ≡ true → map.get new k ≡ map.get revision k
    pub others : (k : Key) → map.contains_key revision k ≡ false → map.get new k ≡ map.get old k

  -- what was noted goes into the plane, and what stood there is noted of the same keys
  pub record Exchanges (revision after old new : Keyed T) : Type 0 where
    pub puts : PutsBack revision old new
    pub keys : (k : Key) → map.contains_key after k ≡ map.contains_key revision k
    pub lifted : (k : Key) → map.contains_key revision k ≡ true → map.get after k ≡ map.get old k

  -- of each key that was changed since then it is noted what stood there
  pub record IsIndex (revision before now : Keyed T) : Type 0 where
    pub noted : (k : Key) → map.contains_key revision k ≡ true → map.get revision k ≡ map.get before k
    pub others : (k : Key) → map.contains_key revision k ≡ false → map.get now k ≡ map.get before k
