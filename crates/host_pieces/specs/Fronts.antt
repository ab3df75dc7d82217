-- The first items of a list.
use Rattle.std.specs.Prelude.{◌≡◌, List, length, take}

-- these are the first of all
abbrev pub IsFront : {A : Type 0} → List A → List A → Type 0
IsFront all some = some ≡ take (length some) all
