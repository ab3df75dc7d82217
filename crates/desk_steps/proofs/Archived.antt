-- A store's invariant through its calls.
use Rattle.std.proofs.Common.{◌≡◌, ℕ, suc, ◌≤◌, Bool, true, false, ◌&&◌, ◌||◌, cond, max, Option, Some, None, is_some, Result, Ok, Err, List, [], ◌∷◌, take, drop, refl, sym, ap, ◌∙◌, subst, arith}
use Rattle.std.specs.Prelude.{OnOk, OnErr, IfOk, IfSome, IfNone}
use Rattle.std.specs.Borrow.{Bor}
use Rattle.std.specs.Option.{option_copied, unwrap_or}
use Rattle.std.specs.FinMap as map
use Rattle.std.specs.FinSet as set
use Rattle.std.specs.FinSet.{FinSet}
use Rattle.pixel_core.specs.Rgba.{clear}
use Rattle.geom_core.specs.Areas.{Area, Point}
use Rattle.geom_core.specs.Rects.{any_holds}
use Rattle.geom_core.specs.Grid.{Key, key_cmp, key_of, same_key, all_keys_of}
use Rattle.geom_core.specs.Keys.{key_cmp_total}
use Rattle.geom_core.specs.declared.NoMemory.{NoMemory}
use Rattle.geom_core.proofs.Tests.{none_left, none_right, kept}
use Rattle.geom_core.proofs.Tiles.{key_same}
use Rattle.tile_core.specs.Pixels.{Pixels, pixel_at, pixel_or}
use Rattle.tile_core.specs.Shots.{Sight, sight_at}
use Rattle.memento_core.specs.Planes.{Keyed, tile_under}
use Rattle.doc_model.specs.declared.tree.Change.{Change}
use Rattle.doc_model.specs.Layers.{Layer, at, plain}
use Rattle.doc_model.proofs.LayerLaws.{layer_ext, at-painted, default-painted, at-plain, default-plain}
use Rattle.doc_model.specs.declared.job.Job.{Job}
use Rattle.doc_model.specs.Jobs.{writes}
use Rattle.doc_model.specs.Shots.{published, in_tile, shot_of}
use Rattle.doc_model.proofs.Shots.{at-published, default-published}
use Rattle.doc_model.specs.Changes.{changed}
use Rattle.doc_model.specs.Forest.{Forest, none, paint, group, height, content, with_content}
use Rattle.doc_model.specs.Adjusting.{adjusted}
use Rattle.doc_model.specs.Ids.{weight}
use Rattle.doc_model.specs.Picture.{Doc}
use Rattle.doc_model.specs.Laws.{IsDocument}
use Rattle.doc_model.proofs.Contents.{content-with_content, adjusted-with_content}
use Rattle.doc_model.proofs.SameContent.{with_same}
use Rattle.doc_model.proofs.Weights.{tree_distinct, tree_with_content, weight_count, weight_with_content}
use Rattle.doc_model.proofs.Limits.{changes_keep_limits}
use Rattle.machine_model.specs.Effects.{layer_in}
use Rattle.machine_model.specs.State.{Whole}
use Rattle.machine_model.specs.Reached.{DifferWithin, ReachesOneLayer, Reaches, PastReaches, FutureReaches}
use Rattle.job_core.specs.Paints as paints
use Rattle.paint_device.specs.Sheets.{Sheet, sheet_at}
use Rattle.paint_device.specs.Seen.{layer_of}
use Rattle.paint_device.proofs.Shown.{at-layer_of, default-layer_of}
use Rattle.history_core.specs.Stacks.{Stack, IsUndone, IsRedone}
use Rattle.history_core.proofs.Lent.{first_is}
use Rattle.paint_device.specs.Grabs.{SharesTiles}
use Rattle.desk_steps.specs.Tiles.{ShowsTiles}
use Rattle.desk_steps.specs.declared.entry.HistoryEntry.{HistoryEntry}
use Rattle.desk_steps.specs.declared.entry.HistoryEntry.TheVariants as entry
use Rattle.desk_steps.specs.declared.entry.Way.{Way}
use Rattle.desk_steps.specs.Archives.{Archive, IsArchive, IsUnderWay, layer_under_way, reverted, undone, redone}
use Rattle.memento_core.specs.Revisions.{keys_in}
use Rattle.desk_steps.specs.Founds.{patched}
use Rattle.desk_steps.specs.Entries.{doc_of, reach_in, FitsOn, laid, base_of, way_of, archive_of, IsKept, standing_after, FitsKeys, AllFit, Trades, WayFits, KeysStand, IsStored}
use Rattle.desk_steps.specs.Slots.{Standing, standing, Grows}
use Rattle.desk_steps.specs.Documents.{doc_in}
use Rattle.desk_steps.specs.declared.document.Document.{Document}
use Rattle.doc_model.proofs.Natural.{adjusted_nothing}
use Rattle.doc_model.proofs.PaintTests.{false-true}
use Rattle.desk_steps.proofs.Patched.{patched-empty, keys_in-empty}
use Rattle.desk_steps.proofs.Exchanged.{fits_new, fits_old, laid_back, laid_take, past_take, more_fit, take_fit, next_fit, back_fit}

-- another content keeps a document within the limits
pub is_document_with : {A : Type 0} (q : ℕ) (x : A) (f : Forest A) → IsDocument f → IsDocument (with_content q x f)
is_document_with {A = A} q x f d = record {
  tree = tree_with_content q x f d.tree;
  few = (let e : weight (λ _. 1) (with_content q x f) ≡ weight (λ _. 1) f = weight_with_content (λ _. 1) q x f in omega (arith, d.few, weight_count f, weight_count (with_content q x f)));
  low = (let e : height (with_content q x f) ≡ height f = same f in omega (arith, d.low));
}
  where
    same : (f : Forest A) → height (with_content q x f) ≡ height f
    same none = refl
    same (paint id look y rest) = ap (max 1) (same rest)
    same (group id look nodes rest) = λ i. max (suc (same nodes i)) (same rest i)

reached_some : (id : ℕ) (keys : FinSet key_cmp) (old new : Doc) → ReachesOneLayer id keys old new → is_some (content id new) ≡ true
reached_some id keys old new r = ap (λ d. is_some (content id d)) r.changed ∙ ap is_some (content-with_content id r.after r.before old r.was)

module _ (doc : Doc) (history : Stack HistoryEntry) (room : Bool) where
  -- the layer of the stroke under way is there
  pub way_there : (way : Option Way) (w : Way) → way ≡ Some w → IsKept doc history way room → is_some (content w.id doc) ≡ true
  way_there way w e k = reached_some w.id (keys_in w.found) (adjusted w.id (patched w.found) doc) doc (subst (λ v. IsUnderWay (way_of v) (base_of v doc) doc) e k.archive.under_way)

  present_document : (w : Way) → IsKept doc history (Some w) room → IsDocument doc
  present_document w k =
      let r = k.archive.under_way in
      subst IsDocument (sym r.changed) (is_document_with w.id r.after (adjusted w.id (patched w.found) doc) k.archive.limits)

  -- a finished stroke is the newest change
  pub finish_kept : (way after : Option Way) (w : Way) (new : Stack HistoryEntry) → way ≡ Some w → after ≡ None → new.past ≡ entry.Layer w.id w.found ∷ history.past → new.future ≡ []
      → IsKept doc history way room → IsKept doc new after false
  finish_kept way after w new is gone past future k =
      let s : IsKept doc history (Some w) room = subst (λ v. IsKept doc history v room) is k in
      subst (λ v. IsKept doc new v false) (sym gone) (record {
        archive = record {
          past_reaches = subst (λ es. PastReaches (laid doc es) doc) (sym past) (s.archive.under_way, s.archive.past_reaches);
          future_reaches = subst (λ es. FutureReaches doc (laid doc es)) (sym future) tt;
          under_way = refl;
          limits = present_document w s;
        };
        spare = λ e. false-true e;
      })

  -- the oldest changes are forgotten
  pub purge_kept : (way : Option Way) (n : ℕ) (new : Stack HistoryEntry) → new.past ≡ take n history.past → new.future ≡ history.future → history.spare ≤ new.spare → IsKept doc history way room → IsKept doc new way room
  purge_kept way n new past future spare k = record {
    archive = record {
      past_reaches = subst (λ es. PastReaches es (base_of way doc)) (sym (ap (laid (base_of way doc)) past ∙ laid_take n (base_of way doc) history.past)) (past_take n _ _ k.archive.past_reaches);
      future_reaches = subst (λ es. FutureReaches (base_of way doc) (laid (base_of way doc) es)) (sym future) k.archive.future_reaches;
      under_way = k.archive.under_way;
      limits = k.archive.limits;
    };
    spare = λ e. (let h = k.spare e in omega (arith, h, spare));
  }

  pub purged_is : (way : Option Way) (n : ℕ) (new : Stack HistoryEntry) (old : Archive) → new.past ≡ take n history.past → new.future ≡ history.future → archive_of doc history way room ≡ old → archive_of doc new way room ≡ record old { past = take n old.past }
  purged_is way n new old past future view =
      (λ i. record (archive_of doc history way room) { past = (ap (laid (base_of way doc)) past ∙ laid_take n (base_of way doc) history.past) i; future = laid (base_of way doc) (future i) })
      ∙ ap (λ (a : Archive). record a { past = take n a.past }) view

  -- a stroke begins on a layer
  begun_base : (id : ℕ) (found : Keyed Pixels) → found ≡ map.empty → adjusted id (patched found) doc ≡ doc
  begun_base id found empty = (λ i. adjusted id (λ l. (ap (λ f. patched f l) empty ∙ patched-empty l) i) doc) ∙ adjusted_nothing id doc

  pub begin_kept : (way : Option Way) (id : ℕ) (found : Keyed Pixels) (l : Layer) → way_of way ≡ None → content id doc ≡ Some l → found ≡ map.empty
      → IsKept doc history way room → IsKept doc history (Some (record { id = id; found = found })) room
  begin_kept (Some w) id found l free is empty k = absurd (no_way free)
    where
      no_way : {A : Type 0} {x : A} → Some x ≡ None → ⊥
      no_way e = cc
  begin_kept None id found l free is empty k =
      let base : adjusted id (patched found) doc ≡ doc = begun_base id found empty in
      record {
        archive = record {
          past_reaches = subst (λ d. PastReaches (laid d history.past) d) (sym base) k.archive.past_reaches;
          future_reaches = subst (λ d. FutureReaches d (laid d history.future)) (sym base) k.archive.future_reaches;
          under_way = subst (λ d. ReachesOneLayer id (keys_in found) d doc) (sym base) (record {
            before = l;
            after = l;
            was = is;
            changed = sym (with_same id l doc (tree_distinct doc k.archive.limits.tree) is);
            within = record { default_pixel = refl; pixels = λ p e. refl };
          });
          limits = subst IsDocument (sym base) k.archive.limits;
        };
        spare = k.spare;
      }

  pub begun_is : (way : Option Way) (id : ℕ) (found : Keyed Pixels) (old : Archive) → old.way ≡ None → found ≡ map.empty
      → archive_of doc history way room ≡ old → archive_of doc history (Some (record { id = id; found = found })) room ≡ record old { way = Some (id, set.empty) }
  begun_is way id found old free empty view = go way view (ap (λ (a : Archive). a.way) view ∙ free)
    where
      no_way : {A B : Type 0} {x : A} → Some x ≡ None → B
      no_way e = absurd (never e)
        where
          never : {A : Type 0} {x : A} → Some x ≡ None → ⊥
          never e = cc

      go : (way : Option Way) → archive_of doc history way room ≡ old → way_of way ≡ None → archive_of doc history (Some (record { id = id; found = found })) room ≡ record old { way = Some (id, set.empty) }
      go (Some w) view e = no_way e
      go None view e =
          let base : adjusted id (patched found) doc ≡ doc = begun_base id found empty in
          (λ i. record { past = laid (base i) history.past; base = base i; present = doc; future = laid (base i) history.future; way = Some (id, (ap keys_in empty ∙ keys_in-empty) i); room = room })
          ∙ ap (λ (a : Archive). record a { way = Some (id, set.empty) }) view

  -- a stroke is taken back
  pub revert_kept : (way after : Option Way) (w : Way) (new : Doc) → way ≡ Some w → after ≡ None → new ≡ adjusted w.id (patched w.found) doc → IsKept doc history way room → IsKept new history after room
  revert_kept way after w new is gone back k =
      let s : IsKept doc history (Some w) room = subst (λ v. IsKept doc history v room) is k in
      subst (λ v. IsKept new history v room) (sym gone) (subst (λ d. IsKept d history None room) (sym back) (record {
        archive = record { past_reaches = s.archive.past_reaches; future_reaches = s.archive.future_reaches; under_way = refl; limits = s.archive.limits };
        spare = s.spare;
      }))

  pub reverted_is : (way after : Option Way) (w : Way) (new : Doc) (old : Archive) → way ≡ Some w → after ≡ None → new ≡ adjusted w.id (patched w.found) doc → archive_of doc history way room ≡ old → archive_of new history after room ≡ reverted old
  reverted_is way after w new old is gone back view = (λ i. archive_of (back i) history (gone i) room) ∙ ap reverted (ap (λ v. archive_of doc history v room) (sym is) ∙ view)

-- only pixels of one tile change
pub record ChangesTile (key : Key) (old new : Layer) : Type 0 where
  pub default_pixel : new.default_pixel ≡ old.default_pixel
  pub pixels : (p : Point) → in_tile key p ≡ false → at new p ≡ at old p

-- a job's tile, whichever layer stands for its shot
pub published_changes : (job : Job) (shot : Layer) (key : Key) (l : Layer) → ChangesTile key l (published job shot key l)
published_changes job shot key l = record {
  default_pixel = default-published job shot key l;
  pixels = λ p out. at-published job shot key l p ∙ kept (any_holds (writes job) p && in_tile key p) _ _ (no_tile (any_holds (writes job) p) (in_tile key p) out);
}
  where
    no_tile : (a b : Bool) → b ≡ false → (a && b) ≡ false
    no_tile true b e = e
    no_tile false b e = refl

put_within : (keys : FinSet key_cmp) (key : Key) (before after new : Layer) → ChangesTile key after new → DifferWithin keys before after → DifferWithin (set.insert keys key) before new
put_within keys key before after new c d = record {
  default_pixel = d.default_pixel ∙ sym c.default_pixel;
  pixels = λ p out.
      let e : (same_key (key_of p) key || set.contains keys (key_of p)) ≡ false = sym (set.contains-insert key_cmp_total keys key (key_of p)) ∙ out in
      d.pixels p (none_right (same_key (key_of p) key) _ e) ∙ sym (c.pixels p (none_left (same_key (key_of p) key) _ e));
}

-- a tile of the stroke's layer is changed, and what was noted gives back the same document
module _ (doc new : Doc) (history : Stack HistoryEntry) (room : Bool) (w : Way) (found : Keyed Pixels) (key : Key) (f : Layer → Layer) (base : adjusted w.id (patched found) new ≡ adjusted w.id (patched w.found) doc) where
  put_done : ((l : Layer) → ChangesTile key l (f l)) → new ≡ adjusted w.id f doc → keys_in found ≡ set.insert (keys_in w.found) key → IsKept doc history (Some w) room → IsKept new history (Some (record { id = w.id; found = found })) room
  put_done changes is more k =
      let r = k.archive.under_way in
      record {
        archive = record {
          past_reaches = subst (λ d. PastReaches (laid d history.past) d) (sym base) k.archive.past_reaches;
          future_reaches = subst (λ d. FutureReaches d (laid d history.future)) (sym base) k.archive.future_reaches;
          under_way = subst (λ d. ReachesOneLayer w.id (keys_in found) d new) (sym base) (record {
            before = r.before;
            after = f r.after;
            was = r.was;
            changed = is ∙ ap (adjusted w.id f) r.changed ∙ adjusted-with_content w.id f r.after _;
            within = subst (λ ks. DifferWithin ks r.before (f r.after)) (sym more) (put_within (keys_in w.found) key r.before r.after (f r.after) (changes r.after) r.within);
          });
          limits = subst IsDocument (sym base) k.archive.limits;
        };
        spare = k.spare;
      }

  -- whether it was changed or not
  pub put_kept : ((l : Layer) → ChangesTile key l (f l)) → (way : Option Way) (r : Result (Unit {0}) NoMemory) → way ≡ Some w → OnOk r (new ≡ adjusted w.id f doc) → OnOk r (keys_in found ≡ set.insert (keys_in w.found) key) → OnErr r (new ≡ doc) → OnErr r (found ≡ w.found)
      → IsKept doc history way room → IsKept new history (Some (record { id = w.id; found = found })) room
  put_kept changes way (Ok x) is ok more err same k = put_done changes ok more (subst (λ v. IsKept doc history v room) is k)
  put_kept changes way (Err x) is ok more err same k =
      subst (λ d. IsKept d history (Some (record { id = w.id; found = found })) room) (sym err)
      (subst (λ f. IsKept doc history (Some (record { id = w.id; found = f })) room) (sym same) (subst (λ v. IsKept doc history v room) is k))

  -- and the store is what g says, which puts the tile on the layer under way
  pub put_is : (g : Archive → Archive) (way : Option Way) (old : Archive)
      → g (archive_of doc history (Some w) room) ≡ record (archive_of doc history (Some w) room) { present = adjusted w.id f doc; way = Some (w.id, set.insert (keys_in w.found) key) }
      → way ≡ Some w → new ≡ adjusted w.id f doc → keys_in found ≡ set.insert (keys_in w.found) key → archive_of doc history way room ≡ old
      → archive_of new history (Some (record { id = w.id; found = found })) room ≡ g old
  put_is g way old here e is more view =
      (λ i. record { past = laid (base i) history.past; base = base i; present = is i; future = laid (base i) history.future; way = Some (w.id, more i); room = room })
      ∙ sym here ∙ ap g (ap (λ v. archive_of doc history v room) (sym e) ∙ view)

no_way : {A : Type 0} (way : Option Way) → way_of way ≡ None → (way ≡ None → A) → A
no_way None e f = f refl
no_way (Some w) e f = absurd (never e)
  where
    never : {A : Type 0} {x : A} → Some x ≡ None → ⊥
    never e = cc

-- a change of the tree is the newest one
pub change_kept : (doc next : Doc) (e : HistoryEntry) (history new : Stack HistoryEntry) (way : Option Way) (room : Bool) (change : Change) → way_of way ≡ None → changed plain change doc ≡ Ok next → doc_of next e ≡ doc → reach_in e ≡ Whole → new.past ≡ e ∷ history.past → new.future ≡ []
    → IsKept doc history way room → IsKept next new way false
change_kept doc next e history new way room change free made back whole past future k = no_way way free (λ h. subst (λ v. IsKept next new v false) (sym h) (go (subst (λ v. IsKept doc history v room) h k)))
  where
    go : IsKept doc history None room → IsKept next new None false
    go s = record {
      archive = record {
        past_reaches = subst (λ es. PastReaches (laid next es) next) (sym past) (subst (λ r. Reaches r (doc_of next e) next) (sym whole) tt, subst (λ d. PastReaches (laid d history.past) d) (sym back) s.archive.past_reaches);
        future_reaches = subst (λ es. FutureReaches next (laid next es)) (sym future) tt;
        under_way = refl;
        limits = changes_keep_limits change doc next made s.archive.limits;
      };
      spare = λ h. false-true h;
    }

-- the shot of a device is that of its layer
pub shot_is : (s : Sight) (d : Sheet) (rects : List Area) → s.default_pixel ≡ d.default_pixel → s.rects ≡ rects → ((p : Point) → any_holds rects p ≡ true → sight_at s p ≡ sheet_at d p) → paints.layer_of s ≡ shot_of rects (layer_of d)
unfolding paints.layer_of shot_of
shot_is s d rects default rects_are pixels = layer_ext _ _
    (default-painted s.rects _ (sight_at s) _ ∙ default-plain s.default_pixel ∙ default ∙ sym (default-layer_of d) ∙ sym (default-painted rects _ (at (layer_of d)) _ ∙ default-plain (layer_of d).default_pixel))
    (λ p. at-painted s.rects _ (sight_at s) _ p ∙ ap (λ rs. cond (any_holds rs p && true) (sight_at s p) (at (plain s.default_pixel) p)) rects_are ∙ go p (any_holds rects p) refl ∙ sym (at-painted rects _ (at (layer_of d)) _ p))
  where
    go : (p : Point) (b : Bool) → any_holds rects p ≡ b → cond (any_holds rects p && true) (sight_at s p) (at (plain s.default_pixel) p) ≡ cond (any_holds rects p && true) (at (layer_of d) p) (at (plain (layer_of d).default_pixel) p)
    go p true h = ap (λ b. cond (b && true) (sight_at s p) (at (plain s.default_pixel) p)) h ∙ pixels p h ∙ sym (at-layer_of d p) ∙ ap (λ b. cond (b && true) (at (layer_of d) p) (at (plain (layer_of d).default_pixel) p)) (sym h)
    go p false h = ap (λ b. cond (b && true) (sight_at s p) (at (plain s.default_pixel) p)) h ∙ at-plain s.default_pixel p ∙ default ∙ sym (default-layer_of d) ∙ sym (at-plain (layer_of d).default_pixel p) ∙ ap (λ b. cond (b && true) (at (layer_of d) p) (at (plain (layer_of d).default_pixel) p)) (sym h)

-- the layer of an id that has one
pub layer_is : (id : ℕ) (doc present : Doc) (l : Layer) → doc ≡ present → content id doc ≡ Some l → layer_in id present ≡ l
layer_is id doc present l e is = ap (layer_in id) (sym e) ∙ ap (λ o. unwrap_or o (plain clear)) is

pub way_layer : (doc : Doc) (history : Stack HistoryEntry) (way : Option Way) (room : Bool) (w : Way) (l : Layer) (old : Archive) → way ≡ Some w → archive_of doc history way room ≡ old → content w.id doc ≡ Some l → layer_under_way old.way old.present ≡ l
way_layer doc history way room w l old e view is = ap (λ (a : Archive). layer_under_way a.way a.present) (sym view ∙ ap (λ v. archive_of doc history v room) e) ∙ layer_is w.id doc doc l refl is

pub tile_held : (id : ℕ) (doc present : Doc) (d : Sheet) (k : Key) (r : Option (Bor Pixels)) → doc ≡ present → content id doc ≡ Some (layer_of d) → option_copied r ≡ tile_under d.tiles k
    → IfSome r (λ t. (p : Point) → same_key (key_of p) k ≡ true → at (layer_in id present) p ≡ pixel_at t.now p)
tile_held id doc present d k None e is under = tt
tile_held id doc present d k (Some t) e is under = λ p h. ap (λ l. at l p) (layer_is id doc present (layer_of d) e is) ∙ at-layer_of d p ∙ ap (λ o. pixel_or o d.default_pixel p) (ap (tile_under d.tiles) (key_same (key_of p) k h) ∙ sym under)

pub no_tile_held : (id : ℕ) (doc present : Doc) (d : Sheet) (k : Key) (r : Option (Bor Pixels)) → doc ≡ present → content id doc ≡ Some (layer_of d) → option_copied r ≡ tile_under d.tiles k
    → IfNone r ((p : Point) → same_key (key_of p) k ≡ true → is_some (content id present) ≡ true → at (layer_in id present) p ≡ (layer_in id present).default_pixel)
no_tile_held id doc present d k (Some t) e is under = tt
no_tile_held id doc present d k None e is under = λ p h there.
    let l = layer_is id doc present (layer_of d) e is in
    ap (λ l. at l p) l ∙ at-layer_of d p ∙ ap (λ o. pixel_or o d.default_pixel p) (ap (tile_under d.tiles) (key_same (key_of p) k h) ∙ sym under) ∙ sym (default-layer_of d) ∙ ap (λ (l : Layer). l.default_pixel) (sym l)

-- the entry to be undone or redone can be laid
pub undo_fits : (doc : Doc) (history : Stack HistoryEntry) (way : Option Way) (room : Bool) (was : HistoryEntry) → way_of way ≡ None → take 1 history.past ≡ was ∷ [] → IsKept doc history way room → FitsOn doc was
undo_fits doc history way room was free first k = no_way way free (λ e.
    let s : IsKept doc history None room = subst (λ v. IsKept doc history v room) e k in
    let r : PastReaches (laid doc (was ∷ drop 1 history.past)) doc = subst (λ es. PastReaches (laid doc es) doc) (first_is history.past was first) s.archive.past_reaches in
    fits_new doc was r.0)

pub redo_fits : (doc : Doc) (history : Stack HistoryEntry) (way : Option Way) (room : Bool) (was : HistoryEntry) → way_of way ≡ None → take 1 history.future ≡ was ∷ [] → IsKept doc history way room → FitsOn doc was
redo_fits doc history way room was free first k = no_way way free (λ e.
    let s : IsKept doc history None room = subst (λ v. IsKept doc history v room) e k in
    let r : FutureReaches doc (laid doc (was ∷ drop 1 history.future)) = subst (λ es. FutureReaches doc (laid doc es)) (first_is history.future was first) s.archive.future_reaches in
    fits_old doc was r.0)

module _ (doc new : Doc) (history after : Stack HistoryEntry) (way : Option Way) (room : Bool) (was is : HistoryEntry) where
  -- the newest of the past has become the document
  pub undo_kept : way_of way ≡ None → take 1 history.past ≡ was ∷ [] → IsUndone history after is → new ≡ doc_of doc was → doc_of new is ≡ doc → reach_in is ≡ reach_in was → IsDocument new → IsKept doc history way room → IsKept new after way room
  undo_kept free first u made back same limits k = no_way way free (λ e. subst (λ v. IsKept new after v room) (sym e) (go (subst (λ v. IsKept doc history v room) e k)))
    where
      go : IsKept doc history None room → IsKept new after None room
      go s =
          let r : PastReaches (laid doc (was ∷ drop 1 history.past)) doc = subst (λ es. PastReaches (laid doc es) doc) (first_is history.past was first) s.archive.past_reaches in
          record {
            archive = record {
              past_reaches = subst (λ es. PastReaches (laid new es) new) (sym u.past) (subst (λ d. PastReaches (laid d (drop 1 history.past)) d) (sym made) r.1);
              future_reaches = subst (λ es. FutureReaches new es) (sym (ap (laid new) u.future ∙ laid_back doc new was is history.future back same)) (subst (λ d. Reaches (reach_in was) d doc) (sym made) r.0, s.archive.future_reaches);
              under_way = refl;
              limits = limits;
            };
            spare = λ e. subst (λ n. 1 ≤ n) (sym u.spare) (s.spare e);
          }

  pub undone_is : (old : Archive) → way_of way ≡ None → take 1 history.past ≡ was ∷ [] → IsUndone history after is → new ≡ doc_of doc was → doc_of new is ≡ doc → reach_in is ≡ reach_in was → archive_of doc history way room ≡ old → archive_of new after way room ≡ undone old.past old
  undone_is old free first u made back same view = no_way way free (λ e. ap (λ v. archive_of new after v room) e ∙ made_is ∙ ap (λ (a : Archive). undone a.past a) (ap (λ v. archive_of doc history v room) (sym e) ∙ view))
    where
      made_is : archive_of new after None room ≡ undone (laid doc history.past) (archive_of doc history None room)
      made_is = (λ i. record { past = (ap (laid new) u.past ∙ ap (λ d. laid d (drop 1 history.past)) made) i; base = made i; present = made i; future = (ap (laid new) u.future ∙ laid_back doc new was is history.future back same) i; way = None; room = room })
          ∙ ap (λ es. undone (laid doc es) (archive_of doc history None room)) (sym (first_is history.past was first))

  -- the next of the future has become the document
  pub redo_kept : way_of way ≡ None → take 1 history.future ≡ was ∷ [] → IsRedone history after is → new ≡ doc_of doc was → doc_of new is ≡ doc → reach_in is ≡ reach_in was → IsDocument new → IsKept doc history way room → IsKept new after way room
  redo_kept free first u made back same limits k = no_way way free (λ e. subst (λ v. IsKept new after v room) (sym e) (go (subst (λ v. IsKept doc history v room) e k)))
    where
      go : IsKept doc history None room → IsKept new after None room
      go s =
          let r : FutureReaches doc (laid doc (was ∷ drop 1 history.future)) = subst (λ es. FutureReaches doc (laid doc es)) (first_is history.future was first) s.archive.future_reaches in
          record {
            archive = record {
              past_reaches = subst (λ es. PastReaches es new) (sym (ap (laid new) u.past ∙ laid_back doc new was is history.past back same)) (subst (λ d. Reaches (reach_in was) doc d) (sym made) r.0, s.archive.past_reaches);
              future_reaches = subst (λ es. FutureReaches new (laid new es)) (sym u.future) (subst (λ d. FutureReaches d (laid d (drop 1 history.future))) (sym made) r.1);
              under_way = refl;
              limits = limits;
            };
            spare = λ e. subst (λ n. 1 ≤ n) (sym u.spare) (s.spare e);
          }

  pub redone_is : (old : Archive) → way_of way ≡ None → take 1 history.future ≡ was ∷ [] → IsRedone history after is → new ≡ doc_of doc was → doc_of new is ≡ doc → reach_in is ≡ reach_in was → archive_of doc history way room ≡ old → archive_of new after way room ≡ redone old.future old
  redone_is old free first u made back same view = no_way way free (λ e. ap (λ v. archive_of new after v room) e ∙ made_is ∙ ap (λ (a : Archive). redone a.future a) (ap (λ v. archive_of doc history v room) (sym e) ∙ view))
    where
      made_is : archive_of new after None room ≡ redone (laid doc history.future) (archive_of doc history None room)
      made_is = (λ i. record { past = (ap (laid new) u.past ∙ laid_back doc new was is history.past back same) i; base = made i; present = made i; future = (ap (laid new) u.future ∙ ap (λ d. laid d (drop 1 history.future)) made) i; way = None; room = room })
          ∙ ap (λ es. redone (laid doc es) (archive_of doc history None room)) (sym (first_is history.future was first))

pub shot_told : (r : Result Sight NoMemory) (d : Sheet) (rects : List Area) (l : Layer) → l ≡ layer_of d → IfOk r (λ s. s.default_pixel ≡ d.default_pixel) → IfOk r (λ s. s.rects ≡ rects)
    → IfOk r (λ s. (p : Point) → any_holds rects p ≡ true → sight_at s p ≡ sheet_at d p) → IfOk r (λ s. paints.layer_of s ≡ shot_of rects l)
shot_told (Ok s) d rects l e default rects_are pixels = shot_is s d rects default rects_are pixels ∙ ap (shot_of rects) (sym e)
shot_told (Err x) d rects l e default rects_are pixels = tt

-- it shows the whole of the tiles that it shares
pub tiles_shown : (r : Result Sight NoMemory) (d : Sheet) (rects : List Area) (l : Layer) → l ≡ layer_of d → IfOk r (λ s. s.default_pixel ≡ d.default_pixel) → IfOk r (SharesTiles d (all_keys_of rects)) → IfOk r (ShowsTiles rects l)
tiles_shown (Ok s) d rects l e default shares = λ p h. ap (λ o. pixel_or o s.default_pixel p) (shares (key_of p) h) ∙ ap (λ c. pixel_or (tile_under d.tiles (key_of p)) c p) default ∙ sym (at-layer_of d p) ∙ ap (λ l. at l p) (sym e)
tiles_shown (Err x) d rects l e default shares = tt

-- the keys that were noted stand: of a stroke that begins
pub begin_stands : (ks : Standing) (history : Stack HistoryEntry) (way : Option Way) (id : ℕ) (found : Keyed Pixels) → found ≡ map.empty → KeysStand ks history way → KeysStand ks history (Some (record { id = id; found = found }))
begin_stands ks history way id found empty s = record { past = s.past; future = s.future; under_way = λ k h. false-true (sym (ap (λ f. map.contains_key f k) empty ∙ ap is_some (map.get-empty key_cmp k)) ∙ h) }

-- of the stroke under way
pub way_stands : (ks : Standing) (history : Stack HistoryEntry) (way : Option Way) (w : Way) → way ≡ Some w → KeysStand ks history way → (k : Key) → map.contains_key w.found k ≡ true → ks.keys w.id k ≡ true
way_stands ks history way w is s = subst (WayFits ks) is s.under_way

-- once more keys stand
pub put_stands : (ks more : Standing) (history : Stack HistoryEntry) (way : Option Way) (id : ℕ) (found : Keyed Pixels) → Grows ks more → ((k : Key) → map.contains_key found k ≡ true → more.keys id k ≡ true)
    → KeysStand ks history way → KeysStand more history (Some (record { id = id; found = found }))
put_stands ks more history way id found grows own s = record { past = more_fit ks more grows history.past s.past; future = more_fit ks more grows history.future s.future; under_way = own }

-- once the stroke is finished
pub finish_stands : (ks : Standing) (history new : Stack HistoryEntry) (way after : Option Way) (w : Way) → way ≡ Some w → after ≡ None → new.past ≡ entry.Layer w.id w.found ∷ history.past → new.future ≡ [] → KeysStand ks history way → KeysStand ks new after
finish_stands ks history new way after w is gone past future s = record {
  past = subst (AllFit ks) (sym past) (way_stands ks history way w is s, s.past);
  future = subst (AllFit ks) (sym future) tt;
  under_way = subst (WayFits ks) (sym gone) tt;
}

-- or taken back
pub revert_stands : (ks others : Standing) (history : Stack HistoryEntry) (way after : Option Way) → after ≡ None → ks ≡ others → KeysStand ks history way → KeysStand others history after
revert_stands ks others history way after gone same s = record { past = subst (λ k. AllFit k history.past) same s.past; future = subst (λ k. AllFit k history.future) same s.future; under_way = subst (WayFits others) (sym gone) tt }

-- once there is more room for layers
pub grow_stands : (ks more : Standing) (history : Stack HistoryEntry) (way : Option Way) → Grows ks more → KeysStand ks history way → KeysStand more history way
grow_stands ks more history way grows s = record { past = more_fit ks more grows history.past s.past; future = more_fit ks more grows history.future s.future; under_way = go way s.under_way }
  where
    go : (way : Option Way) → WayFits ks way → WayFits more way
    go None h = tt
    go (Some w) h = λ k i. grows.keys w.id k (h k i)

pub grown : (old new : Document) (history after : Stack HistoryEntry) (way : Option Way) (room : Bool) → doc_in new ≡ doc_in old → Grows (standing old.tree old.slots) (standing new.tree new.slots) → after.past ≡ history.past → after.future ≡ history.future → history.spare ≤ after.spare
    → IsStored old history way room → IsStored new after way room
grown old new history after way room same grows past future spare s =
    let stands = grow_stands (standing old.tree old.slots) (standing new.tree new.slots) history way grows s.stand in
    record {
      kept = record {
        archive = subst IsArchive (λ i. record { past = laid (base_of way (sym same i)) (sym past i); base = base_of way (sym same i); present = sym same i; future = laid (base_of way (sym same i)) (sym future i); way = way_of way; room = room }) s.kept.archive;
        spare = λ e. (let h = s.kept.spare e in omega (arith, h, spare));
      };
      stand = record { past = subst (AllFit (standing new.tree new.slots)) (sym past) stands.past; future = subst (AllFit (standing new.tree new.slots)) (sym future) stands.future; under_way = stands.under_way };
    }

-- after a change of the tree, which the entry takes back
pub change_stands : (ks next : Standing) (e : HistoryEntry) (history new : Stack HistoryEntry) (way : Option Way) → way_of way ≡ None → new.past ≡ e ∷ history.past → new.future ≡ [] → FitsKeys next e → standing_after next e ≡ ks → KeysStand ks history way → KeysStand next new way
change_stands ks next e history new way free past future fits back s = record {
  past = subst (AllFit next) (sym past) (fits, subst (λ k. AllFit k history.past) (sym back) s.past);
  future = subst (AllFit next) (sym future) tt;
  under_way = no_way way free (λ e. subst (WayFits next) (sym e) tt);
}

-- after a purge
pub purge_stands : (ks : Standing) (history new : Stack HistoryEntry) (way : Option Way) (n : ℕ) → new.past ≡ take n history.past → new.future ≡ history.future → KeysStand ks history way → KeysStand ks new way
purge_stands ks history new way n past future s = record { past = subst (AllFit ks) (sym past) (take_fit n ks history.past s.past); future = subst (AllFit ks) (sym future) s.future; under_way = s.under_way }

-- of the entry that is to be exchanged
pub first_stands : (ks : Standing) (es : List HistoryEntry) (was : HistoryEntry) → take 1 es ≡ was ∷ [] → AllFit ks es → FitsKeys ks was
first_stands ks es was first h = (subst (AllFit ks) (first_is es was first) h).0

-- and after it was
module _ (old new : Standing) (history after : Stack HistoryEntry) (way : Option Way) (was is : HistoryEntry) (free : way_of way ≡ None) (trades : Trades old new was is) (s : KeysStand old history way) where
  pub undo_stands : take 1 history.past ≡ was ∷ [] → IsUndone history after is → KeysStand new after way
  undo_stands first u = record {
    past = subst (AllFit new) (sym u.past) (next_fit old new was is trades (drop 1 history.past) (subst (AllFit old) (first_is history.past was first) s.past));
    future = subst (AllFit new) (sym u.future) (back_fit old new was is trades history.future s.future);
    under_way = no_way way free (λ e. subst (WayFits new) (sym e) tt);
  }

  pub redo_stands : take 1 history.future ≡ was ∷ [] → IsRedone history after is → KeysStand new after way
  redo_stands first u = record {
    past = subst (AllFit new) (sym u.past) (back_fit old new was is trades history.past s.past);
    future = subst (AllFit new) (sym u.future) (next_fit old new was is trades (drop 1 history.future) (subst (AllFit old) (first_is history.future was first) s.future));
    under_way = no_way way free (λ e. subst (WayFits new) (sym e) tt);
  }
