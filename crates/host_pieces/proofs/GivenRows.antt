-- What work that is given leaves of the root's cache.
use Rattle.std.proofs.Common.{◌≡◌, ℕ, zero, suc, ◌+◌, Bool, true, false, cond, eqb, Option, Some, None, Ok, Err, List, [], ◌∷◌, ◌++◌, take, refl, sym, ap, ◌∙◌, subst, arith, inl, inr}
use Rattle.std.specs.Prelude.{Result, map, slice_get}
use Rattle.std.specs.List.{list_any}
use Rattle.std.specs.Result.{IsErr}
use Rattle.std.specs.Ordering.{nat_cmp}
use Rattle.std.specs.FinMap.{FinMap}
use Rattle.std.proofs.lemmas.Bool.Decides.{nat_tests}
use Rattle.geom_core.specs.Areas.{Area, Point, holds}
use Rattle.geom_core.proofs.Tests.{never}
use Rattle.geom_core.specs.Grid.{Key}
use Rattle.doc_model.specs.declared.canvas.Patch.{Patch}
use Rattle.doc_model.specs.Layers.{Layer, at}
use Rattle.doc_model.specs.Shots.{in_tile}
use Rattle.whole_tiles.specs.Wholes.{Entire}
use Rattle.machine_model.specs.Guards.{same_pair}
use Rattle.machine_model.specs.State.{Child, State, Walker, Walks}
use Rattle.machine_model.specs.Event.{Event, Feed, Init, Start, Publish, End, Finish, Cancel, Act, WalkStart, WalkPublish, WalkEnd}
use Rattle.machine_model.specs.EffectLaws.{ComposesTile}
use Rattle.machine_model.specs.Groups.{cache}
use Rattle.machine_model.specs.Step.{Run, Step, WalkPublishStep}
use Rattle.machine_model.proofs.EffectsHold.{walk_stays_in_tile}
use Rattle.machine_model.proofs.Lists.{get_set}
use Rattle.walker_core.specs.Composing.{Composition}
use Rattle.slot_work.specs.LaidTiles.{lacking, pairs_at}
use Rattle.desk_state.specs.Enabled.{ends}
use Rattle.desk_events.specs.Commits.{MayPublishRow, lacking_at, pair_events, row_events}
use Rattle.desk_events.specs.declared.tickets.SlotId.{SlotId}
use Rattle.desk_core.specs.Commits.{commit_events}
use Rattle.desk_core.specs.declared.answers.Published.{Published}
use Rattle.host_lines.specs.declared.answer.Answer.{Answer}
use Rattle.host_lines.specs.declared.answer.Answer.TheVariants as answer
use Rattle.host_pieces.specs.declared.piece.Piece.{Piece}
use Rattle.host_pieces.specs.declared.piece.Piece.TheVariants as piece
use Rattle.host_pieces.specs.Giving.{AwaitsWalk, BreaksOff, ChangesWithin, PartGiven, RowsAnswered, RowsGiven, StaysOutside, TilesGiven, WalkEnded, WalkGiven, WalkKept, WorkGiven}
use Rattle.host_pieces.specs.Jobs.{are_made}
use Rattle.host_pieces.specs.Walks.{WalkWork, area_in, composed_by}
use Rattle.host_pieces.proofs.Fronts.{next_taken}
use Rattle.host_pieces.proofs.Parts.{IsAway, IsIn, away, away_at, away_taken}

-- ---- one tile after another

rows_then : (slot : SlotId) (c : Composition) (keys : List Key) (key : Key) (s mid t : State) → RowsGiven slot c keys s mid → MayPublishRow mid slot.place slot.serial c key → Run mid (row_events mid slot.place key) t → RowsGiven slot c (keys ++ key ∷ []) s t
rows_then slot c [] key s mid t given may run = (t, subst (λ x. MayPublishRow x slot.place slot.serial c key) given may, subst (λ x. Run x (row_events x slot.place key) t) given run, refl)
rows_then slot c (k ∷ keys) key s mid t given may run = (given.0, given.1, given.2, rows_then slot c keys key given.0 mid t given.3 may run)

-- the tile at an index too
pub rows_more : (slot : SlotId) (c : Composition) (keys : List Key) (i : ℕ) (key : Key) (s mid t : State) → slice_get keys i ≡ Some key → RowsGiven slot c (take i keys) s mid → MayPublishRow mid slot.place slot.serial c key × Run mid (row_events mid slot.place key) t → RowsGiven slot c (take (i + 1) keys) s t
rows_more slot c keys i key s mid t here given stored = subst (λ ks. RowsGiven slot c ks s t) (sym (next_taken keys i key here)) (rows_then slot c (take i keys) key s mid t given stored.0 stored.1)

-- memory ended
pub rows_break : {E : Type 0} (s t : State) (slot : SlotId) (c : Composition) (keys : List Key) (r : Result Published E) → IsErr r → BreaksOff s slot c keys t → RowsAnswered s slot c keys r t
rows_break s t slot c keys (Ok p) is breaks = cc
rows_break s t slot c keys (Err e) is breaks = breaks

-- ---- walks

one_walker : (a b : Walker) → Some (Walks a) ≡ Some (Walks b) → a ≡ b
one_walker a b e = cc

-- all pairs are of that tile
abbrev pub OfKey : Key → List (ℕ × Key) → Type 0
OfKey k [] = Unit {0}
OfKey k (q ∷ ps) = (q.1 ≡ k) × OfKey k ps

lacking_of_key : (published : List (ℕ × Key)) (gs : List ℕ) (k : Key) → OfKey k (lacking published (pairs_at gs k))
lacking_of_key published [] k = tt
lacking_of_key published (g ∷ gs) k = go (list_any (same_pair g k) published) (λ qs. lacking_of_key qs gs k)
  where
    go : (b : Bool) → ((qs : List (ℕ × Key)) → OfKey k (lacking qs (pairs_at gs k))) → OfKey k (cond b (lacking published (pairs_at gs k)) ((g, k) ∷ lacking ((g, k) ∷ published) (pairs_at gs k)))
    go true rest = rest published
    go false rest = (refl, rest ((g, k) ∷ published))

module _ (place : ℕ) (k : Key) (p : Point) where
  pairs_within : (ps : List (ℕ × Key)) (w : Walker) (s t : State) → (in_tile k p ≡ true → holds w.patch.rect p ≡ true → ⊥) → OfKey k ps → slice_get s.slots place ≡ Some (Walks w) → Run s (pair_events place ps) t → at (cache t.caches 0) p ≡ at (cache s.caches 0) p
  pairs_within [] w s t out of runs run = ap (λ (x : State). at (cache x.caches 0) p) run
  pairs_within (q ∷ ps) w s t out of runs run = pairs_within ps next run.0 t (λ e h. out e (subst (λ (x : Walker). holds x.patch.rect p ≡ true) mine h)) of.1 there run.2 ∙ here (eqb 0 q.0) refl
    where
      step : WalkPublishStep s place q.0 q.1 run.0
      step = run.1

      told : ComposesTile s run.0 place q.0 q.1
      told = walk_stays_in_tile s run.0 place q.0 q.1 step

      mine : step.walker ≡ w
      mine = one_walker step.walker w (sym step.runs ∙ runs)

      next : Walker
      next = record step.walker { published = (q.0, q.1) ∷ step.walker.published }

      there : slice_get run.0.slots place ≡ Some (Walks next)
      there = ap (λ (x : State). slice_get x.slots place) step.new_is ∙ get_set s.slots place (Walks step.walker) (Walks next) step.runs

      same : (b c : Bool) → in_tile q.1 p ≡ b → holds told.walker.patch.rect p ≡ c → at (cache run.0.caches q.0) p ≡ at (cache s.caches q.0) p
      same false c e f = told.out_of_tile p e
      same true false e f = told.out_of_patch p f
      same true true e f = absurd (out (subst (λ (m : Key). in_tile m p ≡ true) of.0 e) (subst (λ (x : Walker). holds x.patch.rect p ≡ true) (one_walker told.walker w (sym told.at_work ∙ runs)) f))

      here : (b : Bool) → eqb 0 q.0 ≡ b → at (cache run.0.caches 0) p ≡ at (cache s.caches 0) p
      here true e = let is : q.0 ≡ 0 = grind (arith, nat_tests) in
          subst (λ n. at (cache run.0.caches n) p ≡ at (cache s.caches n) p) is (same (in_tile q.1 p) (holds told.walker.patch.rect p) refl refl)
      here false e = told.others 0 p (grind (arith, nat_tests))

-- a walk that takes a tile takes it still
pair_keeps : (place : ℕ) (k : Key) (g serial : ℕ) (c : Composition) (m : Key) (s t : State) → WalkPublishStep s place g k t → MayPublishRow s place serial c m → MayPublishRow t place serial c m
pair_keeps place k g serial c m s t step may =
    let same : step.walker ≡ may.walker = one_walker step.walker may.walker (sym step.runs ∙ may.runs) in
    record {
      walker = record may.walker { published = (g, k) ∷ may.walker.published };
      runs = ap (λ (x : State). slice_get x.slots place) step.new_is
          ∙ get_set s.slots place (Walks step.walker) (Walks (record step.walker { published = (g, k) ∷ step.walker.published })) step.runs
          ∙ ap (λ (w : Walker). Some (Walks (record w { published = (g, k) ∷ w.published }))) same;
      drawn = may.drawn;
      of = may.of;
    }

pairs_keep : (place serial : ℕ) (c : Composition) (m : Key) (ps : List (ℕ × Key)) (s t : State) → Run s (pair_events place ps) t → MayPublishRow s place serial c m → MayPublishRow t place serial c m
pairs_keep place serial c m [] s t run may = subst (λ x. MayPublishRow x place serial c m) (sym run) may
pairs_keep place serial c m (q ∷ ps) s t run may = pairs_keep place serial c m ps run.0 t run.2 (pair_keeps place q.1 q.0 serial c m s run.0 run.1 may)

rows_keep : (slot : SlotId) (c d : Composition) (keys : List Key) (m : Key) (s t : State) → RowsGiven slot d keys s t → MayPublishRow s slot.place slot.serial c m → MayPublishRow t slot.place slot.serial c m
rows_keep slot c d [] m s t given may = subst (λ x. MayPublishRow x slot.place slot.serial c m) (sym given) may
rows_keep slot c d (k ∷ keys) m s t given may = rows_keep slot c d keys m given.0 t given.3 (pairs_keep slot.place slot.serial c m (lacking_at (slice_get s.slots slot.place) k) s given.0 given.2 may)

-- some of the pairs, from the first on
taken_pairs : (place n : ℕ) (ps : List (ℕ × Key)) → take n (pair_events place ps) ≡ pair_events place (take n ps)
taken_pairs place zero ps = refl
taken_pairs place (suc n) [] = refl
taken_pairs place (suc n) (q ∷ ps) = ap (λ es. WalkPublish place q.0 q.1 ∷ es) (taken_pairs place n ps)

taken_of_key : (k : Key) (n : ℕ) (ps : List (ℕ × Key)) → OfKey k ps → OfKey k (take n ps)
taken_of_key k zero ps of = tt
taken_of_key k (suc n) [] of = tt
taken_of_key k (suc n) (q ∷ ps) of = (of.0, taken_of_key k n ps of.1)

module _ (slot : SlotId) (c : Composition) where
  lacking_there : (k : Key) (s : State) → MayPublishRow s slot.place slot.serial c k → OfKey k (lacking_at (slice_get s.slots slot.place) k)
  lacking_there k s may =
      subst (λ o. OfKey k (lacking_at o k)) (sym may.runs) (lacking_of_key may.walker.published (map (λ (e : ℕ × List Child). e.0) may.walker.shot) k)

  row_within : (k : Key) (ps : List (ℕ × Key)) (s t : State) → MayPublishRow s slot.place slot.serial c k → OfKey k ps → Run s (pair_events slot.place ps) t
      → (p : Point) → (in_tile k p ≡ true → holds c.readings.patch.rect p ≡ true → ⊥) → at (cache t.caches 0) p ≡ at (cache s.caches 0) p
  row_within k ps s t may of run p out =
      pairs_within slot.place k p ps may.walker s t (λ e h. out e (subst (λ (q : Patch). holds q.rect p ≡ true) may.of.of.same.patch h)) of may.runs run

  rows_within : (keys : List Key) (s t : State) → RowsGiven slot c keys s t → (p : Point) → IsAway c.readings.patch.rect p keys → at (cache t.caches 0) p ≡ at (cache s.caches 0) p
  rows_within [] s t given p out = ap (λ (x : State). at (cache x.caches 0) p) given
  rows_within (k ∷ keys) s t given p out =
      rows_within keys given.0 t given.3 p out.1
      ∙ row_within k (lacking_at (slice_get s.slots slot.place) k) s given.0 given.1 (lacking_there k s given.1) given.2 p out.0

-- the end of a walk
end_leaves : (s t : State) (place : ℕ) (e : Event) → ends place e ≡ true → Step s e t → t.caches ≡ s.caches
end_leaves s t place (End p) h step = ap (λ (x : State). x.caches) step.new_is
end_leaves s t place (WalkEnd p) h step = ap (λ (x : State). x.caches) step.new_is
end_leaves s t place (Feed c) h step = cc
end_leaves s t place Init h step = cc
end_leaves s t place (Start p) h step = cc
end_leaves s t place (Publish p k) h step = cc
end_leaves s t place Finish h step = cc
end_leaves s t place Cancel h step = cc
end_leaves s t place Act h step = cc
end_leaves s t place (WalkStart p q) h step = cc
end_leaves s t place (WalkPublish p g k) h step = cc

-- ---- jobs

commit_leaves : (place n : ℕ) (tiles : List Entire) (s t : State) → Run s (take n (commit_events place tiles)) t → t.caches ≡ s.caches
commit_leaves place zero tiles s t run = ap (λ (x : State). x.caches) run
commit_leaves place (suc zero) [] s t run = ap (λ (x : State). x.caches) run.2 ∙ ap (λ (x : State). x.caches) run.1.new_is
commit_leaves place (suc (suc n)) [] s t run = ap (λ (x : State). x.caches) run.2 ∙ ap (λ (x : State). x.caches) run.1.new_is
commit_leaves place (suc n) (x ∷ tiles) s t run = commit_leaves place n tiles run.0 t run.2 ∙ ap (λ (x : State). x.caches) run.1.new_is

all_leave : (place : ℕ) (tiles : List Entire) (s t : State) → Run s (commit_events place tiles) t → t.caches ≡ s.caches
all_leave place [] s t run = ap (λ (x : State). x.caches) run.2 ∙ ap (λ (x : State). x.caches) run.1.new_is
all_leave place (x ∷ tiles) s t run = all_leave place tiles run.0 t run.2 ∙ ap (λ (x : State). x.caches) run.1.new_is

tiles_leave : (slot : SlotId) (tiles : Option (List Entire)) (a : Answer) (s t : State) → TilesGiven s slot tiles a t → t.caches ≡ s.caches
tiles_leave slot None a s t h = ap (λ (x : State). x.caches) h.1
tiles_leave slot (Some tiles) answer.Done s t h = all_leave slot.place tiles s t h.1
tiles_leave slot (Some tiles) answer.Stranger s t h = ap (λ (x : State). x.caches) h.1
tiles_leave slot (Some tiles) answer.NoMemory s t h = commit_leaves slot.place h.count tiles s t h.run
tiles_leave slot (Some tiles) answer.Again s t h = absurd h
tiles_leave slot (Some tiles) answer.Idle s t h = absurd h
tiles_leave slot (Some tiles) answer.Settled s t h = absurd h
tiles_leave slot (Some tiles) answer.Nothing s t h = absurd h
tiles_leave slot (Some tiles) answer.Shut s t h = absurd h
tiles_leave slot (Some tiles) answer.InUse s t h = absurd h
tiles_leave slot (Some tiles) answer.Undone s t h = absurd h
tiles_leave slot (Some tiles) answer.Outside s t h = absurd h
tiles_leave slot (Some tiles) answer.NoRoom s t h = absurd h
tiles_leave slot (Some tiles) answer.Full s t h = absurd h
tiles_leave slot (Some tiles) (answer.Fault c) s t h = absurd h
tiles_leave slot (Some tiles) answer.SecondLine s t h = absurd h

-- ---- walks as pieces

ended_leaves : (s t : State) (w : WalkWork) (a : Answer) → WalkEnded s w a t → t.caches ≡ s.caches
ended_leaves s t w answer.Done (inl h) = end_leaves s t w.ticket.slot.place h.1.0 h.1.1 h.1.2
ended_leaves s t w answer.Done (inr h) = ap (λ (x : State). x.caches) h.2
ended_leaves s t w answer.Stranger h = ap (λ (x : State). x.caches) h.2
ended_leaves s t w answer.NoMemory h = absurd h
ended_leaves s t w answer.Again h = absurd h
ended_leaves s t w answer.Idle h = absurd h
ended_leaves s t w answer.Settled h = absurd h
ended_leaves s t w answer.Nothing h = absurd h
ended_leaves s t w answer.Shut h = absurd h
ended_leaves s t w answer.InUse h = absurd h
ended_leaves s t w answer.Undone h = absurd h
ended_leaves s t w answer.Outside h = absurd h
ended_leaves s t w answer.NoRoom h = absurd h
ended_leaves s t w answer.Full h = absurd h
ended_leaves s t w (answer.Fault c) h = absurd h
ended_leaves s t w answer.SecondLine h = absurd h

module _ (s t : State) (w : WalkWork) where
  -- memory ended within a tile
  breaks_within : AwaitsWalk s w → BreaksOff s w.ticket.slot (composed_by w) w.keys t → (p : Point) → IsAway w.ticket.inputs.patch.rect p w.keys → at (cache t.caches 0) p ≡ at (cache s.caches 0) p
  breaks_within waits breaks p out =
      let mid : State = breaks.0 in
      let key : Key = breaks.1 in
      let comes = breaks.2 in
      let front = breaks.3 in
      let may : MayPublishRow mid w.ticket.slot.place w.ticket.slot.serial (composed_by w) key =
      rows_keep w.ticket.slot (composed_by w) (composed_by w) (take comes.count w.keys) key s mid comes.given (waits comes.count key comes.here) in
      let ps : List (ℕ × Key) = lacking_at (slice_get mid.slots w.ticket.slot.place) key in
      row_within w.ticket.slot (composed_by w) key (take front.count ps) mid t may (taken_of_key key front.count ps (lacking_there w.ticket.slot (composed_by w) key mid may))
      (subst (λ es. Run mid es t) (taken_pairs w.ticket.slot.place front.count ps) front.run) p (away_at w.ticket.inputs.patch.rect p w.keys comes.count key out comes.here)
      ∙ rows_within w.ticket.slot (composed_by w) (take comes.count w.keys) s mid comes.given p (away_taken w.ticket.inputs.patch.rect p w.keys comes.count out)

  part_within : (a : Answer) → (a ≡ answer.NoMemory → AwaitsWalk s w) → PartGiven s w w.keys a t → (p : Point) → IsAway w.ticket.inputs.patch.rect p w.keys → at (cache t.caches 0) p ≡ at (cache s.caches 0) p
  part_within a waits (inl g) p out =
      ap (λ (l : FinMap nat_cmp Layer). at (cache l 0) p) (ended_leaves g.0 t w a g.2)
      ∙ rows_within w.ticket.slot (composed_by w) w.keys s g.0 g.1 p out
  part_within a waits (inr (inl g)) p out =
      let comes = g.1.1 in
      rows_within w.ticket.slot (composed_by w) (take comes.count w.keys) s t comes.given p (away_taken w.ticket.inputs.patch.rect p w.keys comes.count out)
  part_within a waits (inr (inr g)) p out = breaks_within (waits g.0) g.1 p out

  walk_within : (a : Answer) → (a ≡ answer.NoMemory → AwaitsWalk s w) → WalkGiven s w a t → ChangesWithin (area_in w) s t
  walk_within a waits given = go (area_in w) refl
    where
      leaves : (p : Point) → (IsIn (area_in w) p → ⊥) → at (cache t.caches 0) p ≡ at (cache s.caches 0) p
      leaves p out = elim given [
        | inl h ↦ part_within a waits h.1 p (away w.ticket.inputs.patch.rect None w.keys p out)
        | inr h ↦ ap (λ (x : State). at (cache x.caches 0) p) h.2
      ]

      go : (o : Option Area) → area_in w ≡ o → ChangesWithin o s t
      go None e = λ p. leaves p (λ i. subst (λ o. IsIn o p) e i)
      go (Some rect) e = λ p out. leaves p (λ i. never (sym out ∙ subst (λ o. IsIn o p) e i))

  -- and then the desk waits for it as before
  walk_waits : WalkGiven s w answer.NoMemory t → AwaitsWalk s w → AwaitsWalk t w
  walk_waits (inr h) waits i key here = let e : answer.NoMemory ≡ answer.Undone = h.1 in cc
  walk_waits (inl h) waits i key here = elim h.1 [
    | inl g ↦ absurd g.2
    | inr more ↦ elim more [
      | inl g ↦ (let e : answer.NoMemory ≡ answer.Stranger = g.0 in cc)
      | inr g ↦ go g.1
    ]
  ]
    where
      go : BreaksOff s w.ticket.slot (composed_by w) w.keys t → MayPublishRow t w.ticket.slot.place w.ticket.slot.serial (composed_by w) key
      go breaks =
          let mid : State = breaks.0 in
          let comes = breaks.2 in
          let front = breaks.3 in
          let ps : List (ℕ × Key) = lacking_at (slice_get mid.slots w.ticket.slot.place) breaks.1 in
          pairs_keep w.ticket.slot.place w.ticket.slot.serial (composed_by w) key (take front.count ps) mid t (subst (λ es. Run mid es t) (taken_pairs w.ticket.slot.place front.count ps) front.run)
          (rows_keep w.ticket.slot (composed_by w) (composed_by w) (take comes.count w.keys) key s mid comes.given (waits i key here))

  pub walk_kept : (a : Answer) (new : WalkWork) → WalkGiven s w a t → new ≡ w → WalkKept s t w a new
  walk_kept a new given same = record { same = same; goes_on = λ e. walk_waits (subst (λ b. WalkGiven s w b t) e given) }

-- ---- pieces

-- the root's cache changes within the rectangle of the work alone
pub given_within : (s t : State) (p : Piece) (a : Answer) → WorkGiven s p a t → StaysOutside s p a t
given_within s t piece.Empty a h waits = λ p. ap (λ (x : State). at (cache x.caches 0) p) h.1
given_within s t (piece.Job j) a h waits = λ p. ap (λ (c : FinMap nat_cmp Layer). at (cache c 0) p) (tiles_leave j.slot (are_made j.stage) a s t h)
given_within s t (piece.Walk w) a h waits = walk_within s t w a waits h
