-- What is known of a walk's values, and what is laid over it.
use Rattle.std.proofs.Common.{◌≡◌, ℕ, zero, suc, ◌+◌, ◌*◌, ◌%◌, ◌<◌, replicate, Bool, true, false, cond, List, [], ◌∷◌, take, drop, length, get_or, Option, Some, refl, sym, ap, ◌∙◌, arith}
use Rattle.std.specs.Prelude.{slice_get, ◌&&◌, nat_lt}
use Rattle.std.proofs.lemmas.Bool.Decides.{nat_tests}
use Rattle.std.proofs.lemmas.Option.{slice_get-get_or}
use Rattle.std.proofs.lemmas.List.{get_or-replicate}
use Rattle.std.specs.Ordering.{int_eq}
use borrow.Author.Differences.{ints}
use Rattle.std.proofs.Math.Seq.{drop-cons}
use Rattle.pixel_core.specs.Rgba.{Rgba, clear}
use Rattle.geom_core.specs.Areas.{Area, holds, Point}
use Rattle.geom_core.specs.Grid.{Key, key_of, same_key, tile}
use Rattle.geom_core.proofs.Tests.{taken, kept}
use Rattle.geom_core.proofs.Tiles.{key_same}
use Rattle.tile_core.specs.Pixels.{Pixels, pixel_at, HasPixels}
use Rattle.geom_core.specs.Place.{across, down}
use Rattle.tile_core.specs.Blocks.{Piece, piece, piece_at, LaysBlock}
use Rattle.frame_core.specs.Damage.{part_has}
use Rattle.tile_core.specs.Shots.{Sight, sight_at}
use Rattle.doc_model.specs.Shots.{in_tile}
use Rattle.machine_model.specs.State.{Child}
use Rattle.machine_model.specs.Walks.{walk_folded, walk_values}
use Rattle.compose_core.specs.declared.children.Given.{Given}
use Rattle.compose_core.specs.declared.spot.Spot.{Spot}
use Rattle.compose_core.specs.Spots.{given_on, Catches}
use Rattle.compose_core.proofs.SpotPoints.{tile_held}
use Rattle.walker_core.specs.declared.gathered.Source.{Source}
use Rattle.walker_core.specs.declared.known.Damaged.{Damaged}
use Rattle.walker_core.specs.declared.known.Known.{Known}
use Rattle.walker_core.specs.Readings.{Readings}
use Rattle.walker_core.specs.Views.{children_in, groups_of}
use Rattle.walker_core.specs.Knowing.{stale_in, is_stale, ShowValues, IsKnown, value_at}

-- the first of the parts that are left, and the others
stale_next : (ds : List Damaged) (i : ℕ) (k : Key) (d : Damaged) → i < length ds → d ≡ get_or ds i d → stale_in (drop i ds) k ≡ cond (same_key k d.key) (Some d.part) (stale_in (drop (i + 1) ds) k)
stale_next ds i k d h is =
    let next : suc i ≡ i + 1 = omega arith in
    ap (λ xs. stale_in xs k) (drop-cons ds i d h) ∙ ap (λ (x : Damaged). cond (same_key k x.key) (Some x.part) (stale_in (drop (suc i) ds) k)) (sym is) ∙ ap (λ n. cond (same_key k d.key) (Some d.part) (stale_in (drop n ds) k)) next

-- keys by their columns and rows, either way round
keys_turned : (a b : Key) → (int_eq a.row b.row && int_eq a.col b.col) ≡ same_key b a
keys_turned a b = grind (arith, ints)

-- where the first of the parts that are left is of the tile, it is the tile's
pub stale_found : (ds : List Damaged) (i : ℕ) (k : Key) (d : Damaged) (b : Bool) → i < length ds → d ≡ get_or ds i d → b ≡ (int_eq d.key.row k.row && int_eq d.key.col k.col) → b ≡ true → stale_in (drop i ds) k ≡ Some d.part
stale_found ds i k d b h is e f = stale_next ds i k d h is ∙ taken _ _ _ (sym (keys_turned d.key k) ∙ sym e ∙ f)

-- else it is among the others
pub stale_passed : (ds : List Damaged) (i : ℕ) (k : Key) (d : Damaged) (b : Bool) → i < length ds → d ≡ get_or ds i d → b ≡ (int_eq d.key.row k.row && int_eq d.key.col k.col) → b ≡ false → stale_in (drop i ds) k ≡ stale_in (drop (i + 1) ds) k
stale_passed ds i k d b h is e f = stale_next ds i k d h is ∙ kept _ _ _ (sym (keys_turned d.key k) ∙ sym e ∙ f)

-- the shot at a place has the walk's value of the group there
pub shown_at : (es : List (ℕ × List Child)) (shots : List Sight) (values : List (ℕ × Rgba)) (p : Point) (i : ℕ) (s : Sight) → ShowValues es shots values p → slice_get shots i ≡ Some s → i < length es
    → sight_at s p ≡ walk_folded (walk_values (take i es) values p) (get_or {A = ℕ × List Child} es i (0, [])).1 p clear
shown_at [] shots values p i s show at h = absurd (omega arith)
shown_at (e ∷ es) [] values p i s show at h = absurd show
shown_at (e ∷ es) (x ∷ shots) values p zero s show at h = let is : x ≡ s = cc in ap (λ y. sight_at y p) (sym is) ∙ show.0
shown_at (e ∷ es) (x ∷ shots) values p (suc i) s show at h = shown_at es shots ((e.0, walk_folded values e.1 p clear) ∷ values) p i s show.1 at (omega arith)

-- the children of the group at a place
group_at : (rect : Area) (ss : List Source) (path : List ℕ) (i : ℕ) → i < length path → (get_or {A = ℕ × List Child} (groups_of rect ss path) i (0, [])).1 ≡ children_in rect (get_or path i 0) ss
group_at rect ss [] i h = absurd (omega arith)
group_at rect ss (g ∷ path) zero h = refl
group_at rect ss (g ∷ path) (suc i) h = group_at rect ss path i (omega arith)

-- what is composed of them is the walk's value
pub value_composed : (groups : List (ℕ × List Child)) (rect : Area) (ss : List Source) (path : List ℕ) (n g : ℕ) (values : List (ℕ × Rgba)) (p : Point) → groups ≡ groups_of rect ss path → n < length path → g ≡ get_or path n 0
    → values ≡ walk_values (take n groups) [] p → walk_folded values (children_in rect g ss) p clear ≡ value_at groups n p
value_composed groups rect ss path n g values p e h at so_far =
    let children : children_in rect g ss ≡ (get_or {A = ℕ × List Child} groups n (0, [])).1 = ap (λ q. children_in rect q ss) at ∙ sym (group_at rect ss path n h) ∙ ap (λ (es : List (ℕ × List Child)). (get_or {A = ℕ × List Child} es n (0, [])).1) (sym e) in
    λ j. walk_folded (so_far j) (children j) p clear

-- a tile that a block was laid on
pub overlaid_at : (spot : Spot) (b : Piece) (old new : Pixels) (given fresh : Given) (pixels : List Rgba) (p : Point) → b ≡ piece spot.key spot.part pixels → LaysBlock old new b → HasPixels spot.part (given_on fresh) pixels
    → pixel_at old p ≡ given_on given p → in_tile spot.key p ≡ true → pixel_at new p ≡ cond (holds spot.part p) (given_on fresh p) (given_on given p)
overlaid_at spot b old new given fresh pixels p e lays has same k =
    lays p (ap (λ (q : Piece). holds (tile q.key) p) e ∙ tile_held spot.key p k)
    ∙ (λ j. cond (holds (e j).rect p) (piece_at (e j) p) (same j))
    ∙ go (holds spot.part p) refl
  where
    go : (b : Bool) → holds spot.part p ≡ b → cond b (piece_at (piece spot.key spot.part pixels) p) (given_on given p) ≡ cond b (given_on fresh p) (given_on given p)
    go true h = has p h
    go false h = refl

-- a point of a tile is stale where the tile's part has it
pub stale_at : (ds : List Damaged) (key : Key) (p : Point) → in_tile key p ≡ true → is_stale ds p ≡ part_has (stale_in ds key) p
stale_at ds key p k = ap (λ q. part_has (stale_in ds q) p) (key_same (key_of p) key k)

-- outside the damaged part of a tile a group's shot has the walk's value
pub kept_here : (r : Readings) (k : Known) (key : Key) (i : ℕ) (s : Sight) (given : Given) (p : Point) → IsKnown r k → i < length r.groups → true ≡ nat_lt i (length k.shots.items) → s ≡ get_or k.shots.items i s → ((q : Point) → in_tile key q ≡ true → given_on given q ≡ sight_at s q)
    → holds r.patch.rect p ≡ true → in_tile key p ≡ true → part_has (stale_in k.damaged.items key) p ≡ false → given_on given p ≡ value_at r.groups i p
kept_here r k key i s given p known n few at shows h t fresh =
    let within : i < length k.shots.items = grind (arith, nat_tests) in
    shows p t ∙ shown_at r.groups k.shots.items [] p i s (known.values p h (stale_at k.damaged.items key p t ∙ fresh)) (slice_get-get_or k.shots.items i s within ∙ ap Some (sym at)) n

-- a point outside the spot that the part is isn't damaged
pub outside_spot : (o : Option Area) (part : Area) (spot : Spot) (key : Key) (p : Point) → o ≡ Some part → Catches part spot → spot.key ≡ key → in_tile key p ≡ true → holds spot.part p ≡ false → part_has o p ≡ false
outside_spot o part spot key p e catches same t out = ap (λ q. part_has q p) e ∙ go (holds part p) refl
  where
    go : (b : Bool) → holds part p ≡ b → b ≡ false
    go true f = absurd (let h : holds spot.part p ≡ true = catches p f (ap (λ q. in_tile q p) same ∙ t) in cc)
    go false f = refl

-- either of two that are both the third
pub either_way : (b : Bool) (x y z : Rgba) → (b ≡ true → x ≡ z) → (b ≡ false → y ≡ z) → cond b x y ≡ z
either_way true x y z e h = e refl
either_way false x y z e h = h refl

-- a tile of one pixel
pub plain_pixel : (c : Rgba) (p : Point) → pixel_at (replicate 4096 c) p ≡ c
plain_pixel c p = get_or-replicate 4096 (64 * (down p % 64) + across p % 64) c clear (omega arith)
