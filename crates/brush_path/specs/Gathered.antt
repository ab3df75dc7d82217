-- How the tiles of a track are gathered, dab by dab.
use Rattle.std.specs.Prelude.{List, [], ◌∷◌}
use Rattle.std.specs.BTreeSet.{insert_key}
use Rattle.geom_core.specs.Grid.{Key, key_cmp, count_from, how_many, keys_in_rows}

-- keys in row order with more of them, each at its place unless it is there
abbrev pub in_order : List Key → List Key → List Key
in_order ks [] = ks
in_order ks (x ∷ xs) = in_order (insert_key key_cmp ks x) xs

-- the tiles of the columns and rows from one tile to another, in row order
abbrev pub keys_between : Key → Key → List Key
keys_between a b = keys_in_rows (count_from a.col (how_many a.col b.col)) (count_from a.row (how_many a.row b.row))
