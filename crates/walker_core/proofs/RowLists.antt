-- The rows of a composition.
use Rattle.std.proofs.Common.{◌≡◌, ℕ, ◌+◌, ◌<◌, Bool, true, false, ◌||◌, ◌&&◌, cond, List, [], ◌∷◌, ◌++◌, take, length, get_or, Option, Some, None, is_some, refl, sym, ap, subst, ◌∙◌, arith, eqb}
use Rattle.std.specs.Prelude.{IfSome, pos}
use Rattle.std.specs.Borrow.{Bor}
use Rattle.std.specs.Ordering.{int_eq}
use Rattle.std.specs.List.{list_any}
use Rattle.std.specs.Option.{option_copied, unwrap_or}
use Rattle.std.proofs.lemmas.List.{take_more, map-append, length-map, get_or-map}
use Rattle.std.proofs.lemmas.List.Elements.{All-push}
use Rattle.std.proofs.lemmas.List.Folds.{list_any_at}
use borrow.Author.Differences.{ints}
use Rattle.pixel_core.specs.Rgba.{Rgba, clear}
use Rattle.geom_core.specs.Areas.{Point, point}
use Rattle.geom_core.specs.Grid.{Key, key, same_key}
use Rattle.geom_core.proofs.Tiles.{key_is}
use Rattle.doc_model.specs.Shots.{in_tile}
use Rattle.machine_model.specs.State.{Child}
use Rattle.machine_model.specs.Groups.{on}
use Rattle.machine_model.specs.Walks.{walk_value, walk_values}
use Rattle.compose_core.specs.declared.children.Given.{Given}
use Rattle.walker_core.specs.declared.row.Row.{Row}
use Rattle.walker_core.specs.Readings.{Readings, path_in}
use Rattle.compose_core.specs.Spots.{given_on}
use Rattle.walker_core.specs.Rows.{given_values, found, maybe_on, IsRow, ShowsWalk}
use Rattle.walker_core.specs.Composing.{Composition, composition, has_pair, keys_in, AreRows, IsRowOf}
use Rattle.walker_core.proofs.Given.{looked_found}
use Rattle.geom_core.proofs.Tests.{or-false}

-- keys with equal columns and rows
pub keys_same : (a b : Key) → true ≡ (int_eq a.row b.row && int_eq a.col b.col) → a ≡ b
keys_same a b e =
    let r : a.row ≡ b.row = grind (arith, ints) in
    let c : a.col ≡ b.col = grind (arith, ints) in
    λ i. key (c i) (r i)

-- one tile more
pub keys_more : (rows new : List Row) (row : Row) (k : Key) → new ≡ rows ++ row ∷ [] → row.key ≡ k → keys_in new ≡ keys_in rows ++ k ∷ []
keys_more rows new row k e same = ap keys_in e ∙ map-append (λ (r : Row). r.key) rows (row ∷ []) ∙ ap (λ q. keys_in rows ++ q ∷ []) same

pub keys_next : (so_far new keys : List Key) (k : Key) (i : ℕ) (d : Key) → new ≡ so_far ++ k ∷ [] → so_far ≡ take i keys → i < length keys → k ≡ get_or keys i d → new ≡ take (i + 1) keys
keys_next so_far new keys k i d e before h same = e ∙ (λ j. before j ++ same j ∷ []) ∙ sym (take_more keys i d h)

pub rows_more : (r : Readings) (rows new : List Row) (row : Row) → new ≡ rows ++ row ∷ [] → AreRows r rows → IsRowOf r row → AreRows r new
rows_more r rows new row e are is = subst (AreRows r) (sym e) (All-push (IsRowOf r) rows row are is)

-- what a row has for a group
pub given_right : (r : Readings) (k : Key) (g : ℕ) (row : Row) (path : List ℕ) (xs : List Given) (o : Option (Bor Given)) → IsRow r row.key row.given.items → row.key ≡ k → path ≡ path_in r → xs ≡ row.given.items
    → ((p : Point) → found (given_values path xs [] p) g ≡ maybe_on (option_copied o) p) → IfSome o (λ x. ShowsWalk r g k x.now)
unfolding walk_value
given_right r k g row path xs None is same e f at = tt
given_right r k g row path xs (Some x) is same e f at = λ p h t. sym (
    looked_found (walk_values r.groups [] p) g
    ∙ ap (λ vs. unwrap_or (found vs g) clear) (sym (is.values p h (ap (λ q. in_tile q p) same ∙ t)))
    ∙ (λ i. unwrap_or (found (given_values (sym e i) (sym f i) [] p) g) clear)
    ∙ ap (λ o. unwrap_or o clear) (at p))

-- a value is found where the group is on the path
found_on : (gs : List ℕ) (xs : List Given) (vs : List (ℕ × Rgba)) (g : ℕ) (p : Point) → length gs ≡ length xs → is_some (found (given_values gs xs vs p) g) ≡ (on g gs || is_some (found vs g))
found_on [] [] vs g p e = refl
found_on [] (x ∷ xs) vs g p e = absurd (omega arith)
found_on (h ∷ gs) [] vs g p e = absurd (omega arith)
found_on (h ∷ gs) (x ∷ xs) vs g p e = found_on gs xs ((h, given_on x p) ∷ vs) g p (omega arith) ∙ go (eqb h g) (on g gs)
  where
    go : (b c : Bool) → (c || is_some (cond b (Some (given_on x p)) (found vs g))) ≡ ((b || c) || is_some (found vs g))
    go true true = refl
    go true false = refl
    go false c = refl

any_row : (k : Key) (rows : List Row) (i : ℕ) (d : Row) → i < length rows → same_key k (get_or rows i d).key ≡ true → list_any (same_key k) (keys_in rows) ≡ true
any_row k rows i d h e = list_any_at (same_key k) (keys_in rows) i d.key (let n : length (keys_in rows) ≡ length rows = length-map rows (λ (r : Row). r.key) in omega arith) (ap (same_key k) (get_or-map (λ (r : Row). r.key) rows i d d.key h) ∙ e)

none_and : (b c : Bool) → c ≡ true → b ≡ (b && c)
none_and true c e = sym e
none_and false c e = refl

pub given_there : (c : Composition) (r : Readings) (rows : List Row) (k : Key) (g i : ℕ) (row : Row) (path : List ℕ) (xs : List Given) (o : Option (Bor Given)) → composition r (keys_in rows) ≡ c → i < length rows → row ≡ get_or rows i row → row.key ≡ k → IsRow r row.key row.given.items → path ≡ path_in r → xs ≡ row.given.items
    → ((p : Point) → found (given_values path xs [] p) g ≡ maybe_on (option_copied o) p) → is_some o ≡ has_pair c g k
given_there c r rows k g i row path xs o v h at same is e f found_at =
    some_of o
    ∙ ap is_some (sym (found_at origin))
    ∙ (λ j. is_some (found (given_values (e j) (f j) [] origin) g))
    ∙ found_on (path_in r) row.given.items [] g origin (length-map r.groups (λ (t : ℕ × List Child). t.0) ∙ sym is.all)
    ∙ or-false (on g (path_in r))
    ∙ none_and (on g (path_in r)) (list_any (same_key k) (keys_in rows)) (any_row k rows i row h (ap (λ (t : Row). same_key k t.key) (sym at) ∙ key_is k row.key (sym same)))
    ∙ ap (λ d. has_pair d g k) v
  where
    origin : Point
    origin = point (pos 0) (pos 0)

    some_of : (o : Option (Bor Given)) → is_some o ≡ is_some (maybe_on (option_copied o) origin)
    some_of None = refl
    some_of (Some x) = refl
