-- What stands on a tile of a job at work that no other job can have changed since it started.
use Rattle.std.proofs.Common.{◌≡◌, ℕ, suc, zero, ◌+◌, ◌*◌, ◌<◌, ◌≤◌, Bool, true, false, ◌&&◌, Some, None, List, [], ◌∷◌, length, refl, sym, ap, ◌∙◌, subst, arith, eqb, leb, inl, inr}
use Rattle.std.specs.Prelude.{ℤ, pos, ◌+ℤ◌, ◌-ℤ◌, int_le, int_lt, slice_get}
use Rattle.std.specs.Option.{unwrap_or}
use Rattle.std.specs.List.{list_any}
use Rattle.std.proofs.lemmas.Bool.Decides.{nat_tests}
use Rattle.std.proofs.lemmas.List.Folds.{list_any-append}
use borrow.Author.Differences.{ints}
use Rattle.pixel_core.specs.Rgba.{clear}
use Rattle.geom_core.specs.Areas.{Area, Point, holds, meets}
use Rattle.geom_core.specs.Rects.{any_holds}
use Rattle.geom_core.specs.Grid.{Key, key_of, same_key, tile, keys_of, all_keys_of}
use Rattle.geom_core.proofs.Keys.{key_of_any_held}
use Rattle.geom_core.proofs.Tests.{kept, or_cases, or_left, or_right, and_left, and_right, both_true, no_second, no_first}
use Rattle.geom_core.proofs.Tiles.{key_same, own_tile}
use Rattle.tile_core.specs.Shots.{sight_at}
use Rattle.doc_model.specs.declared.job.Job.{Job}
use Rattle.doc_model.specs.declared.job.Kind.{Kind}
use Rattle.doc_model.specs.declared.job.Job.TheVariants.{Fill, Dab, Move, Blur, Track}
use Rattle.doc_model.specs.Layers.{Layer, at, plain}
use Rattle.doc_model.specs.Jobs.{reads, writes, grown}
use Rattle.doc_model.specs.Lawful.{within_limits, of_limits}
use Rattle.doc_model.specs.Shots.{in_tile}
use Rattle.doc_model.specs.Forest.{content}
use Rattle.doc_model.specs.Strokes.{Jobs, Stroke}
use Rattle.doc_model.proofs.Contents.{content-with_content}
use Rattle.job_core.proofs.Values.{HasPoints, some_of_limits}
use Rattle.whole_tiles.specs.Wholes.{Entire}
use Rattle.machine_model.specs.State.{State, Painter, Slot, Free, Paints, Walks, head_stroke}
use Rattle.machine_model.specs.Painters.{painter_in, done, is_done}
use Rattle.machine_model.specs.Effects.{layer_in}
use Rattle.machine_model.specs.Guards.{kept_jobs}
use Rattle.machine_model.specs.UnderWay.{UnderWay, SlotIsStarted, shown, after_jobs, writes_at}
use Rattle.machine_model.proofs.Lists.{all_get, length_above}
use Rattle.machine_model.proofs.ShownPixels.{shown_all}
use Rattle.machine_model.proofs.SlotPainters.{painter_found}
use Rattle.desk_state.specs.Parts.{Parts, state_of}
use Rattle.desk_state.specs.Tied.{IsDesk}
use Rattle.slot_core.specs.Busy.{work_at}
use Rattle.desk_steps.specs.Archives.{layer_under_way}
use Rattle.desk_state.specs.declared.work.Painter as desk
use Rattle.desk_state.specs.declared.work.Work.TheVariants as work
use Rattle.desk_state.proofs.Keeping.{IsGoing, going_at_work}
use Rattle.desk_state.proofs.Taking.{job_is}
use Rattle.desk_state.proofs.TilePoints.{HasPointIn, point_in}
use Rattle.desk_events.specs.Commits.{TakesWhole}
use Rattle.desk_events.specs.Sparing.{AreFrom, Spared, SparesTile, IsPriorAt, StandsAs}

-- ---- the law

-- no job before those at work is at work
none_below : (since j : ℕ) (slots : List Slot) → AreFrom since slots → j < since → painter_in j slots ≡ None
none_below since j [] from below = refl
none_below since j (Free ∷ slots) from below = none_below since j slots (λ q w h. from (suc q) w h) below
none_below since j (Walks v ∷ slots) from below = none_below since j slots (λ q w h. from (suc q) w h) below
none_below since j (Paints v ∷ slots) from below = let h : since ≤ v.index = from 0 v refl in kept (eqb v.index j) _ _ (grind (arith, nat_tests)) ∙ none_below since j slots (λ q w h. from (suc q) w h) below

-- a started job whose writes hold the point, and which isn't among those that may not, is done
done_before : (jobs : Jobs) (since i j : ℕ) (slots : List Slot) (p : Point) → AreFrom since slots → Spared jobs since i i p → j < i → any_holds (writes_at jobs j) p ≡ true → done slots j (key_of p) ≡ true
done_before jobs since i j slots p from spared h held = go (leb since j) refl
  where
    go : (b : Bool) → leb since j ≡ b → done slots j (key_of p) ≡ true
    go true e = let none : any_holds (writes_at jobs j) p ≡ false = spared j (grind (arith, nat_tests)) h (λ q. omega arith) in cc
    go false e = ap (λ o. is_done o (key_of p)) (none_below since j slots from (grind (arith, nat_tests)))

-- what the first i jobs leave stands there once they were started
pub before_is : (jobs : Jobs) (base : Layer) (since i : ℕ) (slots : List Slot) (p : Point) → AreFrom since slots → Spared jobs since i i p → shown jobs base (done slots) i p ≡ at (after_jobs jobs base i) p
before_is jobs base since i slots p from spared = shown_all jobs base (done slots) i p (λ j h held. done_before jobs since i j slots p from spared h held)

-- and still does when further ones were
later_same : (jobs : Jobs) (base : Layer) (d : ℕ → Key → Bool) (since i n : ℕ) (p : Point) → since ≤ i → i ≤ n → d i (key_of p) ≡ false → Spared jobs since i n p → shown jobs base d n p ≡ shown jobs base d i p
later_same jobs base d since i zero p low few left spared = let e : i ≡ 0 = omega arith in ap (λ m. shown jobs base d m p) (sym e)
later_same jobs base d since i (suc n) p low few left spared = go (λ h. later_same jobs base d since i n p low h left (λ j a b. spared j a (omega arith))) (eqb i (suc n)) refl (eqb n i) refl
  where
    go : (i ≤ n → shown jobs base d n p ≡ shown jobs base d i p) → (b : Bool) → eqb i (suc n) ≡ b → (c : Bool) → eqb n i ≡ c → shown jobs base d (suc n) p ≡ shown jobs base d i p
    go rest true e c f = let same : i ≡ suc n = grind (arith, nat_tests) in ap (λ m. shown jobs base d m p) (sym same)
    go rest false e true f =
        let same : n ≡ i = grind (arith, nat_tests) in
        kept _ _ _ (no_second (any_holds (writes_at jobs n) p) _ (ap (λ m. d m (key_of p)) same ∙ left)) ∙ rest (omega (arith, same))
    go rest false e false f =
        let above : i ≤ n = grind (arith, nat_tests) in
        kept _ _ _ (no_first _ _ (spared n (omega arith) (omega arith) (λ q. grind (arith, nat_tests)))) ∙ rest above

-- what the jobs before one at work left stands, until it publishes, where no job can have changed it
pub untouched : (jobs : Jobs) (base : Layer) (since i n : ℕ) (slots : List Slot) (w : Painter) (p : Point) → AreFrom since slots → since ≤ i → i < n → painter_in i slots ≡ Some w → list_any (same_key (key_of p)) w.published ≡ false → Spared jobs since i n p
    → shown jobs base (done slots) n p ≡ at (after_jobs jobs base i) p
untouched jobs base since i n slots w p from low few at_work fresh spared =
    later_same jobs base (done slots) since i n p low (omega arith) (ap (λ o. is_done o (key_of p)) at_work ∙ fresh) spared
    ∙ before_is jobs base since i slots p from (λ j a b. spared j a (omega arith))

-- ---- the layer under way

-- the layer of the stroke under way
pub layer_is : (s : State) (n : ℕ) (u : UnderWay s n) → layer_in u.stroke.layer s.present ≡ u.layer
layer_is s n u = ap (λ o. unwrap_or o (plain clear)) (ap (content u.stroke.layer) u.is ∙ content-with_content u.stroke.layer u.layer u.base_layer s.base u.was)

one_stroke : (a b : Stroke) → Some a ≡ Some b → a ≡ b
one_stroke a b e = cc

-- it has the pixels that a tile was made from, where no job can have changed them
pub stands_as : (s : State) (n place since : ℕ) (x : Entire) → UnderWay s n → s.way ≡ Some n → (t : TakesWhole s place x) → AreFrom since s.slots → since ≤ t.painter.index → SparesTile s since t.painter.index x.key → IsPriorAt s place since x → StandsAs s x
stands_as s n place since x u way t from low spares prior stroke at_head p h =
    prior t.painter t.runs u.stroke u.at_head u.base_layer u.was p h t.in_job (λ j a b. spared j a (omega (arith, few)))
    ∙ sym (untouched (kept_jobs u.stroke) u.base_layer since t.painter.index n s.slots t.painter p from low few (painter_found s.slots place t.painter t.runs u.once) fresh spared)
    ∙ sym (u.painted.pixels p)
    ∙ ap (λ l. at l p) (sym (layer_is s n u))
    ∙ ap (λ (a : Stroke). at (layer_in a.layer s.present) p) (one_stroke u.stroke stroke (sym u.at_head ∙ at_head))
  where
    few : t.painter.index < n
    few = (all_get (SlotIsStarted (kept_jobs u.stroke) n) s.slots place (Paints t.painter) u.started t.runs).0

    fresh : list_any (same_key (key_of p)) t.painter.published ≡ false
    fresh = ap (λ k. list_any (same_key k) t.painter.published) (key_same (key_of p) x.key h) ∙ t.fresh

    spared : Spared (kept_jobs u.stroke) since t.painter.index n p
    spared = spares u.stroke u.at_head n way p h

-- ---- tiles

axis_grown : (x a : ℤ) (n r : ℕ) → (int_le x a && int_lt a (x +ℤ pos n)) ≡ true → (int_le (x -ℤ pos r) a && int_lt a ((x -ℤ pos r) +ℤ pos (n + 2 * r))) ≡ true
axis_grown x a n r h = grind (arith, ints)

-- a rectangle with more columns and rows meets the tiles that it meets
grown_meets : (a : Area) (r : ℕ) (k : Key) → 1 ≤ a.w → 1 ≤ a.h → list_any (same_key k) (keys_of a) ≡ true → list_any (same_key k) (all_keys_of (grown a r ∷ [])) ≡ true
grown_meets a r k wide high h =
    let x : HasPointIn a k = point_in a k wide high h in
    ap (λ q. list_any (same_key q) (all_keys_of (grown a r ∷ []))) (sym (key_same (key_of x.point) k x.in_tile))
    ∙ key_of_any_held (grown a r ∷ []) x.point (or_left _ _ (both_true _ _ (axis_grown a.x x.point.x a.w r (and_left _ _ x.held)) (axis_grown a.y x.point.y a.h r (and_right _ _ x.held))))

-- a job looks at each tile that it writes in
pub writes_read : (job : Job) (k : Key) → within_limits job ≡ true → list_any (same_key k) (all_keys_of (writes job)) ≡ true → list_any (same_key k) (all_keys_of (reads job)) ≡ true
writes_read (Fill rect colour op strength) k l h = h
writes_read (Dab x y n soft colour op strength) k l h = h
writes_read (Move rect dx dy) k l h = h
writes_read (Track t cell) k l h = h
writes_read (Blur rect n) k l h = elim (or_cases (list_any (same_key k) (keys_of rect)) false (sym (list_any-append (same_key k) (keys_of rect) []) ∙ h)) [
  | inl e ↦ (let some : HasPoints rect = some_of_limits rect (and_left (of_limits rect) _ l) in grown_meets rect n k some.0 some.1 e)
  | inr e ↦ cc
]

axes_meet : (x y a : ℤ) (n m : ℕ) → (int_le x a && int_lt a (x +ℤ pos n)) ≡ true → (int_le y a && int_lt a (y +ℤ pos m)) ≡ true → (int_lt x (y +ℤ pos m) && int_lt y (x +ℤ pos n)) ≡ true
axes_meet x y a n m h k = grind (arith, ints)

both_hold : (a b : Area) (p : Point) → holds a p ≡ true → holds b p ≡ true → meets a b ≡ true
both_hold a b p h k = both_true _ _ (axes_meet a.x b.x p.x a.w b.w (and_left _ _ h) (and_left _ _ k)) (axes_meet a.y b.y p.y a.h b.h (and_right _ _ h) (and_right _ _ k))

-- rectangles that don't meet a tile hold none of its points
pub none_held : (rects : List Area) (k : Key) (p : Point) → list_any (λ r. meets r (tile k)) rects ≡ false → in_tile k p ≡ true → any_holds rects p ≡ false
none_held rects k p apart h = go (any_holds rects p) refl
  where
    held_meets : (rects : List Area) → holds (tile k) p ≡ true → any_holds rects p ≡ true → list_any (λ r. meets r (tile k)) rects ≡ true
    held_meets [] there e = cc
    held_meets (a ∷ rects) there e = elim (or_cases (holds a p) (any_holds rects p) e) [
      | inl f ↦ or_left (meets a (tile k)) _ (both_hold a (tile k) p f there)
      | inr f ↦ or_right (meets a (tile k)) _ (held_meets rects there f)
    ]

    go : (b : Bool) → any_holds rects p ≡ b → any_holds rects p ≡ false
    go false e = e
    go true e = let met : list_any (λ r. meets r (tile k)) rects ≡ true = held_meets rects (ap (λ q. holds (tile q) p) (sym (key_same (key_of p) k h)) ∙ own_tile p) e in cc

-- ---- a pass over the slots for the least index

pub least_more : (slots : List Slot) (place least new : ℕ) → ((q : ℕ) (w : Painter) → q < place → slice_get slots q ≡ Some (Paints w) → least ≤ w.index) → new ≤ least → ((w : Painter) → slice_get slots place ≡ Some (Paints w) → new ≤ w.index)
    → (q : ℕ) (w : Painter) → q < place + 1 → slice_get slots q ≡ Some (Paints w) → new ≤ w.index
least_more slots place least new so low here q w lt there = go (eqb q place) refl
  where
    go : (b : Bool) → eqb q place ≡ b → new ≤ w.index
    go true e = let same : place ≡ q = grind (arith, nat_tests) in here w (ap (slice_get slots) same ∙ there)
    go false e = let h : least ≤ w.index = so q w (grind (arith, nat_tests)) there in omega arith

pub least_all : (slots : List Slot) (place least : ℕ) → length slots ≤ place → ((q : ℕ) (w : Painter) → q < place → slice_get slots q ≡ Some (Paints w) → least ≤ w.index) → AreFrom least slots
least_all slots place least many so q w there = let h : suc q ≤ length slots = length_above slots q (Paints w) there in so q w (omega arith) there

-- ---- of the desk

-- the job in a slot of the desk and that of the machine are of one index
pub index_is : (d : Parts) (place : ℕ) (w : desk.Painter) (p : Painter) → work_at place d.slots ≡ Some (work.Paint w) → slice_get (state_of d).slots place ≡ Some (Paints p) → w.index ≡ p.index
index_is d place w p h runs = ap (λ (q : Painter). q.index) (job_is d place w p h runs)

-- the layer under way has the pixels that the tile was made from, if it is known by the jobs
pub stands_desk : (d : Parts) (place since least : ℕ) (w : desk.Painter) (x : Entire) → IsDesk d → work_at place d.slots ≡ Some (work.Paint w) → TakesWhole (state_of d) place x → IsPriorAt (state_of d) place since x → since ≤ least → least ≤ w.index → AreFrom least (state_of d).slots → SparesTile (state_of d) since w.index x.key → StandsAs (state_of d) x
stands_desk d place since least w x desk h t prior low few from spares =
    let g : IsGoing d = going_at_work d place t.painter desk t.runs in
    let e : w.index ≡ t.painter.index = index_is d place w t.painter h t.runs in
    stands_as (state_of d) g.n place since x g.under g.way t (λ q v r. let b : least ≤ v.index = from q v r in omega arith) (omega (arith, e)) (subst (λ i. SparesTile (state_of d) since i x.key) e spares) prior

-- so the store has them
pub known_tile : (d : Parts) (place : ℕ) (p : Painter) (x : Entire) → IsDesk d → slice_get (state_of d).slots place ≡ Some (Paints p) → StandsAs (state_of d) x → (q : Point) → in_tile x.key q ≡ true → sight_at x.base q ≡ at (layer_under_way d.store.way d.store.present) q
known_tile d place p x desk runs stands q h =
    let g : IsGoing d = going_at_work d place p desk runs in
    stands g.begun.stroke g.begun.at_head q h ∙ ap (λ way. at (layer_under_way way d.store.present) q) (sym g.begun.way)

one_number : (a b : ℕ) → Some a ≡ Some b → a ≡ b
one_number a b e = cc

-- no job of the stroke at the head may change the tile
pub spares_is : (s : State) (jobs : Jobs) (since own started : ℕ) (key : Key) → ((stroke : Stroke) → head_stroke s ≡ Some stroke → jobs ≡ kept_jobs stroke) → s.way ≡ Some started → ((p : Point) → in_tile key p ≡ true → Spared jobs since own started p) → SparesTile s since own key
spares_is s jobs since own started key are way spared stroke at_head n e p h =
    subst (λ m. Spared (kept_jobs stroke) since own m p) (one_number started n (sym way ∙ e)) (subst (λ js. Spared js since own started p) (are stroke at_head) (spared p h))

-- ---- a pass over the jobs for one that may change a tile

-- none of those before n
abbrev pub SparedBelow : Jobs → ℕ → ℕ → ℕ → Key → Type 0
SparedBelow jobs since own n key = (p : Point) → in_tile key p ≡ true → Spared jobs since own n p

pub none_so_far : (jobs : Jobs) (since own : ℕ) (key : Key) → SparedBelow jobs since own since key
none_so_far jobs since own key p h j low few other = absurd (omega arith)

pub spared_more : (jobs : Jobs) (since own n : ℕ) (key : Key) → SparedBelow jobs since own n key → ((n ≡ own → ⊥) → (p : Point) → in_tile key p ≡ true → any_holds (writes_at jobs n) p ≡ false) → SparedBelow jobs since own (n + 1) key
spared_more jobs since own n key so here p h j low few other = go (eqb j n) refl
  where
    go : (b : Bool) → eqb j n ≡ b → any_holds (writes_at jobs j) p ≡ false
    go true e = let same : n ≡ j = grind (arith, nat_tests) in ap (λ m. any_holds (writes_at jobs m) p) (sym same) ∙ here (λ q. other (sym same ∙ q)) p h
    go false e = so p h j low (grind (arith, nat_tests)) other

pub spared_all : (jobs : Jobs) (since own n m : ℕ) (key : Key) → m ≤ n → SparedBelow jobs since own n key → SparedBelow jobs since own m key
spared_all jobs since own n m key low so p h j a b other = so p h j a (omega arith) other

-- a job that isn't there changes nothing, and one whose rectangles don't meet the tile nothing in it
pub not_there : (jobs : Jobs) (j : ℕ) (p : Point) → slice_get jobs j ≡ None → any_holds (writes_at jobs j) p ≡ false
not_there jobs j p e = rw e refl

pub not_met : (jobs : Jobs) (j : ℕ) (k : Kind × Job) (key : Key) (p : Point) → slice_get jobs j ≡ Some k → list_any (λ r. meets r (tile key)) (writes k.1) ≡ false → in_tile key p ≡ true → any_holds (writes_at jobs j) p ≡ false
not_met jobs j k key p e apart h = rw e (none_held (writes k.1) key p apart h)
