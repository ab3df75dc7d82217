-- Tiles that are owed, put and laid down.
use Rattle.std.proofs.Common.{◌≡◌, ℕ, suc, zero, ◌+◌, ◌*◌, ◌≤◌, Bool, true, false, not, ◌&&◌, ◌||◌, cond, List, [], ◌∷◌, ◌++◌, length, take, drop, map, Option, Some, None, Result, Ok, Err, ◌⊎◌, inl, inr, refl, sym, ap, ◌∙◌, subst, append_assoc, append-nil, arith}
use Rattle.std.specs.Prelude.{ℤ, pos, ◌+ℤ◌, ◌-ℤ◌, OnOk, OnErr, slice_get, remove}
use Rattle.std.specs.List.{list_any}
use Rattle.std.proofs.lemmas.List.{length-append, take_all, take_at, take_more}
use Rattle.std.proofs.lemmas.List.Folds.{list_any_more}
use Rattle.std.proofs.lemmas.List.Sums.{fold-append}
use Rattle.std.proofs.lemmas.Option.{slice_get_within, get_or_from_slice_get}
use borrow.Author.Differences.{ints}
use Rattle.pixel_core.specs.Rgba.{Rgba, clear}
use Rattle.geom_core.specs.Areas.{Area, Point}
use Rattle.geom_core.specs.Grid.{Key, key_of, same_key, keys_of, pieces, count_from, how_many, floor_by}
use Rattle.geom_core.proofs.Counts.{length-count_from, length-keys_in_rows}
use Rattle.geom_core.proofs.Tests.{or_cases, taken, kept}
use Rattle.tile_core.specs.Pixels.{pixel_or}
use Rattle.doc_model.specs.declared.canvas.Canvas.{Canvas}
use Rattle.doc_model.specs.Canvases.{IsOfLimits}
use Rattle.doc_model.specs.Layers.{at}
use Rattle.doc_model.specs.Picture.{canvas_area}
use Rattle.doc_model.specs.Shots.{in_tile}
use Rattle.machine_model.specs.State.{State}
use Rattle.machine_model.specs.Groups.{cache}
use Rattle.crew_run.specs.Watched.{SeesRoot, SeesRootBut, OwesAll, SeesTheSame}
use Rattle.live_view.specs.declared.update.Update.{Update}
use Rattle.live_view.specs.Shown.{Rows, updates_of, newer, shown, with_row, StartsWith}
use Rattle.live_view.specs.Views.{Feed, published, pending, all_updates, total}
use Rattle.live_view.proofs.Keeping.{starts_self}
use Rattle.live_run.specs.declared.owed.Owed.{Owed}
use Rattle.live_run.specs.Owing.{owes, shown_at, seen_in, BeginsWith, OwesBut, OwesMore, OwesEach, ShowsAt, LaysDown}
use Rattle.live_run.specs.Showing.{PutsRoot, ShowsTiles}
use Rattle.live_run.proofs.RootTiles.{all_published}

-- ---- which tiles are owed

abbrev pub owing : Key → Owed
owing k = record { key = k }

same_false : (a b : Bool) → (a || b) ≡ false → (a ≡ false) × (b ≡ false)
same_false false b h = (refl, h)
same_false true b h = absurd (let t : true ≡ false = h in cc)

none_of : (a b : Bool) → a ≡ false → b ≡ false → (a || b) ≡ false
none_of a b e f = ap (λ x. x || b) e ∙ f

-- one tile more
owes_more : (owed : List Owed) (o : Owed) (k : Key) → owes (owed ++ o ∷ []) k ≡ false → (owes owed k ≡ false) × (same_key k o.key ≡ false)
owes_more [] o k h = (refl, (same_false (same_key k o.key) false h).0)
owes_more (x ∷ owed) o k h =
    let both : (same_key k x.key ≡ false) × (owes (owed ++ o ∷ []) k ≡ false) = same_false (same_key k x.key) (owes (owed ++ o ∷ []) k) h in
    let rest : (owes owed k ≡ false) × (same_key k o.key ≡ false) = owes_more owed o k both.1 in
    (none_of (same_key k x.key) (owes owed k) both.0 rest.0, rest.1)

pub owed_more : (tiles : Area) (owed : List Owed) (key : Key) → OwesMore key tiles owed (owed ++ owing key ∷ [])
owed_more tiles owed key k on h = let both = owes_more owed (owing key) k h in (both.1, both.0)

-- one tile less
pub owed_less : (owed : List Owed) (i : ℕ) (key : Key) → slice_get owed i ≡ Some (owing key) → OwesBut key owed (remove owed i)
owed_less [] i key there k h other = cc
owed_less (o ∷ owed) zero key there k h other =
    let is : o ≡ owing key = cc in
    none_of (same_key k o.key) (owes owed k) (ap (λ (x : Owed). same_key k x.key) is ∙ other) h
owed_less (o ∷ owed) (suc i) key there k h other =
    let both : (same_key k o.key ≡ false) × (owes (remove owed i) k ≡ false) = same_false (same_key k o.key) (owes (remove owed i) k) h in
    none_of (same_key k o.key) (owes owed k) both.0 (owed_less owed i key there k both.1 other)

-- all tiles
pub owed_each : (keys : List Key) (k : Key) → list_any (same_key k) keys ≡ true → owes (map owing keys) k ≡ true
owed_each [] k h = h
owed_each (x ∷ keys) k h = go (same_key k x) (owed_each keys k) h
  where
    go : (b : Bool) → (list_any (same_key k) keys ≡ true → owes (map owing keys) k ≡ true) → (b || list_any (same_key k) keys) ≡ true → (b || owes (map owing keys) k) ≡ true
    go true more t = refl
    go false more t = more t

pub each_is_more : (tiles : Area) (key : Key) (old new : List Owed) → OwesEach tiles new → OwesMore key tiles old new
each_is_more tiles key old new each k on h = absurd (let t : true ≡ false = sym (each k on) ∙ h in cc)

owing_both : (xs ys : List Key) → map owing (xs ++ ys) ≡ map owing xs ++ map owing ys
owing_both [] ys = refl
owing_both (x ∷ xs) ys = ap (λ zs. owing x ∷ zs) (owing_both xs ys)

-- a list of keys grows by one
pub owing_more : (keys : List Key) (i : ℕ) (key : Key) → slice_get keys i ≡ Some key → map owing (take i keys) ++ owing key ∷ [] ≡ map owing (take (i + 1) keys)
owing_more keys i key there =
    sym (ap (λ (xs : List Key). map owing xs) (take_more keys i key (slice_get_within keys i key there) ∙ ap (λ y. take i keys ++ y ∷ []) (get_or_from_slice_get keys i key key there)) ∙ owing_both (take i keys) (key ∷ []))

-- ---- one update more

module _ {old new : List Update} {s : State} {key : Key} (put : PutsRoot old new s key) (p : Point) where
  here : shown new (key_of p) ≡ cond (same_key (key_of p) key) (Some put.tile) (shown old (key_of p))
  here = ap (λ us. shown us (key_of p)) put.more ∙ fold-append (newer (key_of p)) None old ((record { key = key; tile = put.tile }) ∷ [])

  put_shows : in_tile key p ≡ true → ShowsAt new s p
  put_shows e = ap (λ o. pixel_or o clear p) (here ∙ taken (same_key (key_of p) key) (Some put.tile) (shown old (key_of p)) e) ∙ put.is p e

  put_keeps : in_tile key p ≡ false → shown_at new p ≡ shown_at old p
  put_keeps e = ap (λ o. pixel_or o clear p) (here ∙ kept (same_key (key_of p) key) (Some put.tile) (shown old (key_of p)) e)

-- ---- what is seen

-- what isn't owed is shown
seen_when : (tiles : Area) (owed : List Owed) (us : List Update) (s : State) (p : Point)
    → (list_any (same_key (key_of p)) (keys_of tiles) ≡ true → owes owed (key_of p) ≡ false → ShowsAt us s p) → (c : Rgba) → seen_in tiles owed us p ≡ Some c → c ≡ at (cache s.caches 0) p
seen_when tiles owed us s p so c = go (list_any (same_key (key_of p)) (keys_of tiles)) (owes owed (key_of p)) refl refl
  where
    none : None ≡ Some c → ⊥
    none h = cc

    one : Some (shown_at us p) ≡ Some c → shown_at us p ≡ c
    one h = cc

    go : (a b : Bool) → list_any (same_key (key_of p)) (keys_of tiles) ≡ a → owes owed (key_of p) ≡ b → cond (a && not b) (Some (shown_at us p)) None ≡ Some c → c ≡ at (cache s.caches 0) p
    go false b e f h = absurd (none h)
    go true true e f h = absurd (none h)
    go true false e f h = sym (one h) ∙ so e f

shown_when : (tiles : Area) (owed : List Owed) (us : List Update) (s : State) (p : Point) → list_any (same_key (key_of p)) (keys_of tiles) ≡ true → owes owed (key_of p) ≡ false
    → ((c : Rgba) → seen_in tiles owed us p ≡ Some c → c ≡ at (cache s.caches 0) p) → ShowsAt us s p
shown_when tiles owed us s p on none so = so (shown_at us p) (λ i. cond (on i && not (none i)) (Some (shown_at us p)) None)

-- a tile was put
pub put_seen : {old new : List Update} {s : State} {key : Key} (tiles : Area) (owed less : List Owed) → PutsRoot old new s key → OwesBut key owed less → SeesRootBut key (seen_in tiles owed old) s → SeesRoot (seen_in tiles less new) s
put_seen {old = old} {new = new} {s = s} {key = key} tiles owed less put but seen = record { shows = λ p. seen_when tiles less new s p (λ on none. go p (in_tile key p) refl on none) }
  where
    go : (p : Point) (b : Bool) → in_tile key p ≡ b → list_any (same_key (key_of p)) (keys_of tiles) ≡ true → owes less (key_of p) ≡ false → ShowsAt new s p
    go p true e on none = put_shows put p e
    go p false e on none = put_keeps put p e ∙ shown_when tiles owed old s p on (but (key_of p) none e) (λ c h. seen.shows p c e h)

-- a tile wasn't put
pub refused_seen : {old new : List Update} {s : State} {key : Key} (tiles : Area) (owed more : List Owed) → new ≡ old → OwesMore key tiles owed more → SeesRootBut key (seen_in tiles owed old) s → SeesRoot (seen_in tiles more new) s
refused_seen {old = old} {new = new} {s = s} {key = key} tiles owed more same owing' seen =
    record { shows = λ p. seen_when tiles more new s p (λ on none. ap (λ us. shown_at us p) same ∙ shown_when tiles owed old s p on (owing' (key_of p) on none).1 (λ c h. seen.shows p c (owing' (key_of p) on none).0 h)) }

-- all is owed
pub each_owed : (tiles : Area) (owed : List Owed) (us : List Update) → OwesEach tiles owed → OwesAll (seen_in tiles owed us)
each_owed tiles owed us each = record { owes = λ p. go p (list_any (same_key (key_of p)) (keys_of tiles)) refl }
  where
    go : (p : Point) (b : Bool) → list_any (same_key (key_of p)) (keys_of tiles) ≡ b → cond (b && not (owes owed (key_of p))) (Some (shown_at us p)) None ≡ None
    go p false e = refl
    go p true e = ap (λ b. cond (true && not b) (Some (shown_at us p)) None) (each (key_of p) e)

-- the same updates
pub same_seen : (tiles : Area) (owed : List Owed) (old new : List Update) → new ≡ old → SeesTheSame (seen_in tiles owed old) (seen_in tiles owed new)
same_seen tiles owed old new same = record { same = λ p. ap (λ us. seen_in tiles owed us p) same }

-- ---- what is owed is laid down

pub lays_none : (us : List Update) (s : State) (owed : List Owed) → LaysDown (take 0 owed) us us s
lays_none us s owed p (inl h) = absurd (let t : false ≡ true = h in cc)
lays_none us s owed p (inr h) = h

pub lays_more : (old mid new : List Update) (s : State) (owed : List Owed) (i : ℕ) (o : Owed) → slice_get owed i ≡ Some o → PutsRoot mid new s o.key → LaysDown (take i owed) old mid s → LaysDown (take (i + 1) owed) old new s
lays_more old mid new s owed i o at_i put so p h = go (in_tile o.key p) refl
  where
    more : owes (take (i + 1) owed) (key_of p) ≡ (owes (take i owed) (key_of p) || same_key (key_of p) o.key)
    more = list_any_more (λ (x : Owed). same_key (key_of p) x.key) owed i o (slice_get_within owed i o at_i) ∙ ap (λ (x : Owed). owes (take i owed) (key_of p) || same_key (key_of p) x.key) (get_or_from_slice_get owed i o o at_i)

    earlier : same_key (key_of p) o.key ≡ false → (owes (take (i + 1) owed) (key_of p) ≡ true) ⊎ ShowsAt old s p → (owes (take i owed) (key_of p) ≡ true) ⊎ ShowsAt old s p
    earlier e (inr t) = inr t
    earlier e (inl t) = elim (or_cases (owes (take i owed) (key_of p)) (same_key (key_of p) o.key) (sym more ∙ t)) [ inl a ↦ inl a | inr b ↦ absurd (let u : false ≡ true = sym e ∙ b in cc) ]

    go : (b : Bool) → in_tile o.key p ≡ b → ShowsAt new s p
    go true e = put_shows put p e
    go false e = put_keeps put p e ∙ so p (earlier e h)

pub lays_all : (old new : List Update) (s : State) (owed : List Owed) (i : ℕ) → length owed ≤ i → LaysDown (take i owed) old new s → LaysDown owed old new s
lays_all old new s owed i past so = subst (λ xs. LaysDown xs old new s) (take_all i owed past) so

-- then the updates show all tiles
pub laid_shown : (tiles : Area) (owed : List Owed) (old new : List Update) (s : State) → SeesRoot (seen_in tiles owed old) s → LaysDown owed old new s → ShowsTiles new s (keys_of tiles)
laid_shown tiles owed old new s seen lays p on = go (owes owed (key_of p)) refl
  where
    go : (b : Bool) → owes owed (key_of p) ≡ b → ShowsAt new s p
    go true e = lays p (inl e)
    go false e = lays p (inr (shown_when tiles owed old s p on e (seen.shows p)))

-- ---- a publish

published_starts : (rows : Rows) (row : List Update) → StartsWith (with_row rows row) rows
published_starts rows [] = starts_self rows
published_starts rows (u ∷ more) = ((u ∷ more) ∷ [], refl)

pub publish_keeps : {X E : Type 0} (r : Result X E) (old new : Feed) → OnOk r (published new ≡ with_row (published old) (pending old)) → OnOk r (pending new ≡ []) → OnErr r (new ≡ old)
    → (all_updates new ≡ all_updates old) × StartsWith (published new) (published old)
publish_keeps (Err e) old new rows none same = (ap all_updates same, subst (λ (w : Feed). StartsWith (published w) (published old)) (sym same) (starts_self (published old)))
publish_keeps (Ok x) old new rows none same = (
  (λ i. updates_of (rows i) ++ none i) ∙ append-nil (updates_of (with_row (published old) (pending old))) ∙ all_published (published old) (pending old),
  subst (λ (w : Rows). StartsWith w (published old)) (sym rows) (published_starts (published old) (pending old)),
)

pub total_is : (w : Feed) → total w ≡ length (all_updates w)
total_is w = sym (length-append (updates_of (published w)) (pending w))

pub same_total : (old new : Feed) → all_updates new ≡ all_updates old → total new ≡ total old
same_total old new same = total_is new ∙ ap (λ (us : List Update). length us) same ∙ sym (total_is old)

-- ---- a put

pub put_total : {X E : Type 0} (r : Result X E) (old new : Feed) (u : Update) (most : ℕ) → published new ≡ published old → OnOk r (pending new ≡ pending old ++ u ∷ []) → OnErr r (pending new ≡ pending old) → total old + 1 ≤ most → total new ≤ most
put_total (Ok x) old new u most same more none few =
    let n : length (updates_of (published new)) ≡ length (updates_of (published old)) = ap (λ (rows : Rows). length (updates_of rows)) same in
    let m : length (pending new) ≡ length (pending old) + 1 = ap (λ (us : List Update). length us) more ∙ length-append (pending old) (u ∷ []) in
    omega arith
put_total (Err e) old new u most same more none few =
    let n : length (updates_of (published new)) ≡ length (updates_of (published old)) = ap (λ (rows : Rows). length (updates_of rows)) same in
    let m : length (pending new) ≡ length (pending old) = ap (λ (us : List Update). length us) none in
    omega arith

pub put_none : {X E : Type 0} (r : Result X E) (old new : Feed) → published new ≡ published old → OnErr r (pending new ≡ pending old) → OnErr r (all_updates new ≡ all_updates old)
put_none (Ok x) old new same none = tt
put_none (Err e) old new same none = λ i. updates_of (same i) ++ none i

-- what was laid down is published
pub laid_published : {X E : Type 0} (r : Result X E) (tiles : Area) (owed : List Owed) (us : List Update) (mid now : Feed) (s : State) → SeesRoot (seen_in tiles owed us) s
    → LaysDown owed us (all_updates mid) s → all_updates now ≡ all_updates mid → OnOk r (pending now ≡ []) → OnOk r (ShowsTiles (updates_of (published now)) s (keys_of tiles))
laid_published (Err e) tiles owed us mid now s seen lays same none = tt
laid_published (Ok x) tiles owed us mid now s seen lays same none =
    let all : all_updates mid ≡ updates_of (published now) = sym same ∙ (ap (λ (row : List Update). updates_of (published now) ++ row) none ∙ append-nil (updates_of (published now))) in
    subst (λ (shown_ones : List Update). ShowsTiles shown_ones s (keys_of tiles)) all (laid_shown tiles owed us (all_updates mid) s seen lays)

-- ---- rows that begin with others

rejoined : {A : Type 0} (n : ℕ) (xs : List A) → take n xs ++ drop n xs ≡ xs
rejoined zero xs = refl
rejoined (suc n) [] = refl
rejoined (suc n) (x ∷ xs) = ap (λ ys. x ∷ ys) (rejoined n xs)

pub begins_starts : (rows front : Rows) → BeginsWith rows front → StartsWith rows front
begins_starts rows front e = (drop (length front) rows, sym (rejoined (length front) rows) ∙ ap (λ xs. xs ++ drop (length front) rows) (sym e))

pub starts_begins : (rows front : Rows) → StartsWith rows front → BeginsWith rows front
starts_begins rows front h = sym (ap (λ xs. take (length front) xs) h.1 ∙ take_at front h.0 (length front) refl)

pub begins_self : (rows : Rows) → BeginsWith rows rows
begins_self rows = sym (take_all (length rows) rows (omega arith))

-- more rows begin with those too
pub begins_on : (a b c : Rows) → StartsWith c b → BeginsWith b a → BeginsWith c a
begins_on a b c more begins =
    let first : StartsWith b a = begins_starts b a begins in
    starts_begins c a (first.0 ++ more.0, more.1 ∙ ap (λ rows. rows ++ more.0) first.1 ∙ append_assoc a first.0 more.0)

-- ---- the tiles of a canvas

side_small : (n : ℕ) → 1 ≤ n → n ≤ 2048 → length (pieces 64 (pos 0) ((pos 0 +ℤ pos n) -ℤ pos 1)) ≤ 32
side_small zero some few = absurd (omega (arith, some))
side_small (suc m) some few = rw (length-count_from (floor_by 64 (pos 0)) (how_many (floor_by 64 (pos 0)) (floor_by 64 ((pos 0 +ℤ pos (suc m)) -ℤ pos 1)))) (grind (arith, ints))

products_small : (a b : ℕ) → a ≤ 32 → b ≤ 32 → a * b ≤ 1024
products_small a b h k = grind arith

pub tiles_few : (canvas : Canvas) → IsOfLimits canvas → length (keys_of (canvas_area canvas)) ≤ 1024
tiles_few canvas limits =
    let cs : List ℤ = pieces 64 (pos 0) ((pos 0 +ℤ pos canvas.w) -ℤ pos 1) in
    let rs : List ℤ = pieces 64 (pos 0) ((pos 0 +ℤ pos canvas.h) -ℤ pos 1) in
    subst (λ n. n ≤ 1024) (sym (length-keys_in_rows cs rs)) (products_small (length cs) (length rs) (side_small canvas.w limits.w.0 limits.w.1) (side_small canvas.h limits.h.0 limits.h.1))
