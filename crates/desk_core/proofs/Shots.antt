-- Shots of caches, and the damaged parts beside them.
use Rattle.std.proofs.Common.{◌≡◌, ℕ, ◌+◌, ◌<◌, ◌≤◌, Bool, true, false, ◌||◌, cond, List, [], ◌∷◌, ◌++◌, take, length, get_or, Option, Some, None, refl, sym, ap, subst, ◌∙◌, arith}
use Rattle.std.specs.Prelude.{slice_get}
use Rattle.std.specs.Ordering.{nat_cmp}
use Rattle.std.specs.FinMap.{FinMap}
use Rattle.std.specs.List.{list_any}
use Rattle.std.proofs.lemmas.List.{take_more, length-take-le, take_all}
use Rattle.std.proofs.lemmas.List.Folds.{list_any-append}
use Rattle.std.proofs.lemmas.Option.{slice_get_within, get_or_from_slice_get}
use Rattle.pixel_core.specs.Rgba.{Rgba, clear}
use Rattle.geom_core.specs.Areas.{Area, holds, Point}
use Rattle.geom_core.specs.Grid.{Key, key_of, keys_of, same_key}
use Rattle.geom_core.proofs.Keys.{key_of_held}
use Rattle.geom_core.proofs.Tests.{taken, or_left, is_some-None}
use Rattle.geom_core.proofs.Tiles.{key_same}
use Rattle.frame_core.specs.Damage.{Parts, part_at, part_has, is_damaged}
use Rattle.tile_core.specs.Shots.{Sight, sight_at}
use Rattle.doc_model.specs.Layers.{Layer, at, plain}
use Rattle.std.specs.FinMap as finite
use Rattle.std.specs.Option.{unwrap_or}
use Rattle.geom_core.specs.Rects.{any_holds}
use Rattle.paint_device.specs.Sheets.{Sheet, sheet_at}
use Rattle.paint_device.specs.Seen.{layer_of}
use Rattle.paint_device.proofs.Shown.{at-layer_of}
use Rattle.machine_model.specs.Groups.{cache}
use Rattle.machine_model.specs.State.{Child}
use Rattle.machine_model.specs.Walks.{walk_folded, walk_values}
use Rattle.walker_core.specs.declared.known.Damaged.{Damaged}
use Rattle.walker_core.specs.Knowing.{stale_in, is_stale, ShowValues}
use Rattle.desk_core.specs.UpToDate.{AreCached, cached_at}
use Rattle.desk_core.specs.Shown.{ShowCaches}
use Rattle.machine_model.proofs.WalkEndCaches.{firsts}

-- what was grabbed of a group's cache
pub cache_shown : (caches : FinMap nat_cmp Layer) (g : ℕ) (rect : Area) (rects : List Area) (d : Sheet) (s : Sight) → rects ≡ rect ∷ [] → layer_of d ≡ cache caches g → ((p : Point) → any_holds rects p ≡ true → sight_at s p ≡ sheet_at d p)
    → (p : Point) → holds rect p ≡ true → sight_at s p ≡ cached_at caches p g
cache_shown caches g rect rects d s lone is same p h = same p (ap (λ rs. any_holds rs p) lone ∙ or_left (holds rect p) _ h) ∙ sym (at-layer_of d p) ∙ ap (λ l. at l p) is

-- a group without a cache
pub no_cache : (caches : FinMap nat_cmp Layer) (g : ℕ) → false ≡ finite.contains_key caches g → plain clear ≡ cache caches g
no_cache caches g e = ap (λ o. unwrap_or o (plain clear)) (sym (is_some-None (finite.get caches g) (sym e)))

-- one shot more
caches_more : (caches : FinMap nat_cmp Layer) (gs : List ℕ) (ss : List Sight) (g : ℕ) (s : Sight) (p : Point) → length ss ≡ length gs → ShowCaches caches gs ss p → sight_at s p ≡ cached_at caches p g → ShowCaches caches (gs ++ g ∷ []) (ss ++ s ∷ []) p
caches_more caches [] [] g s p n show e = (e, tt)
caches_more caches [] (x ∷ ss) g s p n show e = absurd (omega arith)
caches_more caches (h ∷ gs) [] g s p n show e = absurd show
caches_more caches (h ∷ gs) (x ∷ ss) g s p n show e = (show.0, caches_more caches gs ss g s p (omega arith) show.1 e)

pub shots_more : (caches : FinMap nat_cmp Layer) (gs : List ℕ) (ss new : List Sight) (i g : ℕ) (s : Sight) (p : Point) → i < length gs → length ss ≡ i → g ≡ get_or gs i 0 → new ≡ ss ++ s ∷ [] → ShowCaches caches (take i gs) ss p → sight_at s p ≡ cached_at caches p g
    → ShowCaches caches (take (i + 1) gs) new p
shots_more caches gs ss new i g s p h n at is show e =
    let longer : take (i + 1) gs ≡ take i gs ++ g ∷ [] = take_more gs i 0 h ∙ ap (λ q. take i gs ++ q ∷ []) (sym at) in
    subst (λ xs. ShowCaches caches xs new p) (sym longer) (subst (λ xs. ShowCaches caches (take i gs ++ g ∷ []) xs p) (sym is) (caches_more caches (take i gs) ss g s p (n ∙ sym (length-take-le i gs (omega arith))) show e))

-- the first that is there
abbrev or_else : Option Area → Option Area → Option Area
or_else None o = o
or_else (Some a) o = Some a

-- one part more
stale_more : (ds : List Damaged) (d : Damaged) (k : Key) → stale_in (ds ++ d ∷ []) k ≡ or_else (stale_in ds k) (cond (same_key k d.key) (Some d.part) None)
stale_more [] d k = refl
stale_more (e ∷ ds) d k = go (same_key k e.key) (stale_more ds d k)
  where
    go : (b : Bool) → stale_in (ds ++ d ∷ []) k ≡ or_else (stale_in ds k) (cond (same_key k d.key) (Some d.part) None)
        → cond b (Some e.part) (stale_in (ds ++ d ∷ []) k) ≡ or_else (cond b (Some e.part) (stale_in ds k)) (cond (same_key k d.key) (Some d.part) None)
    go true rest = refl
    go false rest = rest

any_more : (keys : List Key) (i : ℕ) (key k : Key) → slice_get keys i ≡ Some key → list_any (same_key k) (take (i + 1) keys) ≡ (list_any (same_key k) (take i keys) || same_key k key)
any_more keys i key k e =
    ap (list_any (same_key k)) (take_more keys i key (slice_get_within keys i key e) ∙ ap (λ (x : Key). take i keys ++ x ∷ []) (get_or_from_slice_get keys i key key e))
    ∙ list_any-append (same_key k) (take i keys) (key ∷ []) ∙ ap (λ b. list_any (same_key k) (take i keys) || b) (lone (same_key k key))
  where
    lone : (b : Bool) → (b || false) ≡ b
    lone true = refl
    lone false = refl

-- the part of one tile more
pub part_more : (damage : Parts) (keys : List Key) (i : ℕ) (key : Key) (part : Area) (ds new : List Damaged) (d : Damaged) → slice_get keys i ≡ Some key → Some part ≡ part_at damage key → d ≡ record { key = key; part = part } → new ≡ ds ++ d ∷ []
    → ((k : Key) → stale_in ds k ≡ cond (list_any (same_key k) (take i keys)) (part_at damage k) None) → (k : Key) → stale_in new k ≡ cond (list_any (same_key k) (take (i + 1) keys)) (part_at damage k) None
part_more damage keys i key part ds new d at is same e so_far k =
    ap (λ xs. stale_in xs k) e ∙ stale_more ds d k
    ∙ (λ j. or_else (so_far k j) (cond (same_key k (same j).key) (Some (same j).part) None))
    ∙ (λ j. or_else (cond (list_any (same_key k) (take i keys)) (part_at damage k) None) (cond (same_key k key) (is j) None))
    ∙ go (list_any (same_key k) (take i keys)) (same_key k key) refl (part_at damage k) refl
    ∙ ap (λ b. cond b (part_at damage k) None) (sym (any_more keys i key k at))
  where
    go : (a b : Bool) → same_key k key ≡ b → (o : Option Area) → part_at damage k ≡ o → or_else (cond a o None) (cond b (part_at damage key) None) ≡ cond (a || b) o None
    go true true f (Some x) g = refl
    go true false f (Some x) g = refl
    go true true f None g = ap (part_at damage) (sym (key_same k key f)) ∙ g
    go true false f None g = refl
    go false true f o g = ap (part_at damage) (sym (key_same k key f)) ∙ g
    go false false f o g = refl

-- a tile more that isn't damaged
pub part_none : (damage : Parts) (keys : List Key) (i : ℕ) (key : Key) (ds : List Damaged) → slice_get keys i ≡ Some key → None ≡ part_at damage key
    → ((k : Key) → stale_in ds k ≡ cond (list_any (same_key k) (take i keys)) (part_at damage k) None) → (k : Key) → stale_in ds k ≡ cond (list_any (same_key k) (take (i + 1) keys)) (part_at damage k) None
part_none damage keys i key ds at is so_far k = so_far k ∙ go (list_any (same_key k) (take i keys)) (same_key k key) refl ∙ ap (λ b. cond b (part_at damage k) None) (sym (any_more keys i key k at))
  where
    go : (a b : Bool) → same_key k key ≡ b → cond a (part_at damage k) None ≡ cond (a || b) (part_at damage k) None
    go true b f = refl
    go false true f = is ∙ ap (part_at damage) (sym (key_same k key f))
    go false false f = refl

-- the points that are damaged
pub stale_whole : (damage : Parts) (rect : Area) (i : ℕ) (ds : List Damaged) (p : Point) → length (keys_of rect) ≤ i → ((k : Key) → stale_in ds k ≡ cond (list_any (same_key k) (take i (keys_of rect))) (part_at damage k) None)
    → holds rect p ≡ true → is_stale ds p ≡ is_damaged damage p
stale_whole damage rect i ds p h so_far held = ap (λ o. part_has o p) (so_far (key_of p) ∙ taken _ _ _ (ap (list_any (same_key (key_of p))) (take_all i (keys_of rect) h) ∙ key_of_held rect p held))

-- values that all are those of the caches were so before
are_before : (cached : ℕ → Rgba) (es : List (ℕ × List Child)) (vs : List (ℕ × Rgba)) (p : Point) → AreCached cached (walk_values es vs p) → AreCached cached vs
are_before cached [] vs p are = are
are_before cached (e ∷ es) vs p are = (are_before cached es ((e.0, walk_folded vs e.1 p clear) ∷ vs) p are).1

-- so shots of the caches have the walk's values
pub show_values : (caches : FinMap nat_cmp Layer) (es : List (ℕ × List Child)) (ss : List Sight) (vs : List (ℕ × Rgba)) (p : Point) → AreCached (cached_at caches p) (walk_values es vs p) → ShowCaches caches (firsts es) ss p → ShowValues es ss vs p
show_values caches [] ss vs p are show = tt
show_values caches (e ∷ es) [] vs p are show = absurd show
show_values caches (e ∷ es) (s ∷ ss) vs p are show = (
  show.0 ∙ sym (are_before (cached_at caches p) es ((e.0, walk_folded vs e.1 p clear) ∷ vs) p are).0,
  show_values caches es ss ((e.0, walk_folded vs e.1 p clear) ∷ vs) p are show.1,
)
