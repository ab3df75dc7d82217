-- How a tree becomes another one, and back.
use Rattle.std.specs.Prelude.{◌≡◌, ℕ, ◌+◌, ◌-◌, ◌≤◌, min, List, ◌++◌, length, take, drop, map, vec_capacity}
use Rattle.doc_model.specs.Flat.{Row, flat, read}
use Rattle.doc_model.specs.Laws.{IsDocument}
use Rattle.tree_core.specs.Nodes.{Tree, rows_of}
use Rattle.tree_core.specs.declared.exchange.Exchange.{Exchange}
use Rattle.tree_core.specs.declared.exchange.Exchange.TheVariants.{Nodes, Turns}
use Rattle.tree_core.specs.declared.stretch.Stretch.{Stretch}
use Rattle.tree_core.specs.declared.turn.Lot.{Lot}
use Rattle.tree_core.specs.declared.turn.Turn.{Turn}

-- so many items from a place on
abbrev pub part : {A : Type 0} → ℕ → ℕ → List A → List A
part at count xs = take count (drop at xs)

-- others in their place
abbrev pub replaced : {A : Type 0} → ℕ → ℕ → List A → List A → List A
replaced at count others xs = take at xs ++ (others ++ drop (at + count) xs)

-- a node of a part, so many levels further down or up
abbrev pub brought : Lot → Row (Unit {0}) → Row (Unit {0})
brought l row = record row { depth = min ((row.depth + l.down) - l.up) 255 }

-- two parts side by side in each other's place, each on its new levels
abbrev pub turned : Turn → List (Row (Unit {0})) → List (Row (Unit {0}))
turned t rows = replaced t.at (t.first.count + t.second.count)
    (map (brought t.second) (part (t.at + t.first.count) t.second.count rows) ++ map (brought t.first) (part t.at t.first.count rows)) rows

-- what takes the turn back
abbrev pub turned_back : Turn → Turn
turned_back t = record {
  at = t.at;
  first = record { count = t.second.count; down = t.second.up; up = t.second.down };
  second = record { count = t.first.count; down = t.first.up; up = t.first.down };
}

-- the rows of the tree that it leads to
abbrev pub exchanged : Exchange → List (Row (Unit {0})) → List (Row (Unit {0}))
exchanged (Nodes s) rows = replaced s.at s.count (rows_of s.others.items) rows
exchanged (Turns t) rows = turned t rows

-- the rows that others replace are there, and there is room for them
pub record HasRoom (s : Stretch) (rows : List (Row (Unit {0}))) : Type 0 where
  pub there : s.at + s.count ≤ length rows
  pub room : s.count ≤ vec_capacity s.others

-- the parts are there, and can be turned back
pub record TurnsBack (t : Turn) (rows : List (Row (Unit {0}))) : Type 0 where
  pub there : t.at + (t.first.count + t.second.count) ≤ length rows
  pub back : turned (turned_back t) (turned t rows) ≡ rows

-- it can be exchanged with these rows
abbrev pub Fits : Exchange → List (Row (Unit {0})) → Type 0
Fits (Nodes s) rows = HasRoom s rows
Fits (Turns t) rows = TurnsBack t rows

-- the tree that it leads to
abbrev pub led : Exchange → Tree → Tree
led x t = read 0 (exchanged x (flat 0 t))

-- it leads from this tree to another one of the limits
pub record Leads (x : Exchange) (t : Tree) : Type 0 where
  pub whole : exchanged x (flat 0 t) ≡ flat 0 (led x t)
  pub limits : IsDocument (led x t)
  pub fits : Fits x (flat 0 t)
