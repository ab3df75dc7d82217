-- Walks as pieces of work.
use Rattle.std.specs.Prelude.{◌≡◌, ◌≤◌, ◌==◌, ◌*◌, ◌/◌, ◌&&◌, ◌++◌, ℕ, nat_le, max, if◌then◌else◌, Option, Some, None, List, [], length, refl}
use Rattle.std.specs.Coded.{Coded, code_by, coded×, coded_ℕ, coded_list}
use Rattle.geom_core.specs.Areas.{Area}
use Rattle.geom_core.specs.Grid.{Key, keys_of}
use Rattle.geom_core.specs.Keys.{key_code}
use Rattle.walker_core.specs.Composing.{AreOf, Composition, composition, tiles_in}
use Rattle.walker_core.specs.Readings.{Readings}
use Rattle.walker_core.specs.declared.rows.Rows.{Rows}
use Rattle.desk_events.specs.contracts.tickets.WalkTicket as ticket
use Rattle.desk_events.specs.declared.tickets.WalkTicket.{WalkTicket}
use Rattle.host_pieces.specs.Fronts.{IsFront}
use Rattle.host_pieces.specs.Parts.{Tiles, area_of}

-- the walk's ticket, the piece's tiles, and those of them that are composed; and about how many points are laid to compose the patch, as it was estimated when the walk was taken, or 0 where there was no memory for parts of it then
pub record WalkWork : Type 0 where
  pub ticket : WalkTicket
  pub keys : List Key
  pub tiles : List Key
  pub load : ℕ

-- these together
abbrev pub walk_work : WalkTicket → List Key → List Key → ℕ → WalkWork
walk_work k keys tiles load = record { ticket = k; keys = keys; tiles = tiles; load = load }

-- the tiles of the walk's patch
abbrev pub patch_keys : WalkTicket → List Key
patch_keys k = keys_of k.inputs.patch.rect

-- the rows are those of a walk that reads this, on the first of the tiles
pub record AreFirstRows (r : Readings) (keys : List Key) (x : Rows) : Type 0 where
  pub of : AreOf r x
  pub front : IsFront keys (tiles_in x)

-- the tiles are some of the walk's, and these rows are composed of them
pub record IsPartOfWalk (k : WalkTicket) (p : Tiles) (x : Rows) : Type 0 where
  pub rect : p.rect ≡ k.inputs.patch.rect
  pub rows : AreFirstRows k.inputs p.keys x

-- what the patch has of the least rectangle round the piece's tiles
abbrev pub area_in : WalkWork → Option Area
area_in w = area_of (record { rect = w.ticket.inputs.patch.rect; keys = w.keys })

-- what it has composed
abbrev pub composed_by : WalkWork → Composition
composed_by w = composition w.ticket.inputs w.tiles

-- all its tiles are composed
abbrev pub HasAllRows : WalkWork → Type 0
HasAllRows w = w.tiles ≡ w.keys

-- its tiles are all of the patch
abbrev pub IsWhole : WalkWork → Type 0
IsWhole w = w.keys ≡ patch_keys w.ticket

-- the composing went on, or stayed where it was
pub record WalksOn (old new : WalkWork) : Type 0 where
  pub ticket : new.ticket ≡ old.ticket
  pub keys : new.keys ≡ old.keys
  pub load : new.load ≡ old.load
  pub count : length old.tiles ≤ length new.tiles

-- a part is worth another thread where so many points are laid for it
abbrev pub worth_a_thread : ℕ
worth_a_thread = 15000

-- about how many of the patch's tiles that takes
abbrev pub tiles_worth : WalkWork → ℕ
tiles_worth w = worth_a_thread * length (patch_keys w.ticket) / max w.load 1

-- how many tiles one of so many equal shares has: one or more, and no fewer than are worth a thread
abbrev pub share_size : ℕ → WalkWork → ℕ
share_size shares w = max (tiles_worth w) (max (length w.keys / shares) 1)

-- how many are given away: a share, where there are two or more, nothing is composed, and it is no more than half of the tiles
abbrev pub share_of : ℕ → WalkWork → Option ℕ
share_of shares w = if nat_le 2 shares && (length w.tiles == 0) && nat_le (share_size shares w) (length w.keys / 2) then Some (share_size shares w) else None

-- another piece has the last tiles of a walk of which nothing is composed, as many as a share has; this one has the others
pub record IsParted (shares : ℕ) (old new other : WalkWork) : Type 0 where
  pub ticket : new.ticket ≡ old.ticket
  pub same : other.ticket ≡ old.ticket
  pub load : new.load ≡ old.load
  pub same_load : other.load ≡ old.load
  pub keys : old.keys ≡ new.keys ++ other.keys
  pub share : share_of shares old ≡ Some (length other.keys)
  pub none : new.tiles ≡ []
  pub other_none : other.tiles ≡ []

-- the code by which contracts tell such walks apart
abbrev pub walk_work_code : Coded WalkWork
walk_work_code = code_by (WalkTicket × (List Key × (List Key × ℕ))) (coded× (ticket.the_row).coded (coded× (coded_list key_code) (coded× (coded_list key_code) coded_ℕ))) (λ w. (w.ticket, (w.keys, (w.tiles, w.load)))) (λ t. walk_work t.0 t.1.0 t.1.1.0 t.1.1.1) (λ _. refl)
