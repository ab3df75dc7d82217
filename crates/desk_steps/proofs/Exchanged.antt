-- Entries that are laid on documents.
use Rattle.std.proofs.Common.{◌≡◌, ℕ, zero, suc, Bool, true, false, cond, Some, is_some, List, [], ◌∷◌, take, refl, sym, ap, ◌∙◌, subst, eqb, ◌||◌}
use Rattle.std.specs.FinSet.{FinSet}
use Rattle.geom_core.specs.Grid.{Key, key_cmp}
use Rattle.geom_core.specs.declared.Touched.{Touched}
use Rattle.doc_model.specs.Layers.{Layer}
use Rattle.doc_model.specs.Forest.{Forest, has, content}
use Rattle.doc_model.specs.Adjusting.{adjusted}
use Rattle.doc_model.specs.Readers.{parent}
use Rattle.doc_model.specs.Changes.{there}
use Rattle.doc_model.specs.Picture.{Doc}
use Rattle.doc_model.proofs.Contents.{content-with_content}
use Rattle.doc_model.proofs.SameContent.{content_has}
use Rattle.machine_model.specs.State.{Reach, Part}
use Rattle.tree_core.specs.Exchanges.{Leads, led}
use Rattle.machine_model.specs.Reached.{Reaches, PastReaches}
use Rattle.desk_steps.specs.declared.reach.Reach.TheVariants as tells
use Rattle.desk_steps.specs.declared.entry.HistoryEntry.{HistoryEntry}
use Rattle.desk_steps.specs.declared.entry.HistoryEntry.TheVariants as entry
use Rattle.geom_core.specs.Exchanged.{HasTouched}
use Rattle.desk_steps.specs.Archives.{TellsReach, shape}
use Rattle.desk_steps.specs.declared.arrangement.Arrangement.{Arrangement}
use Rattle.desk_steps.specs.declared.arrangement.SlotDevice.{SlotDevice}
use Rattle.desk_steps.specs.Slots.{Standing, Grows, once_filled}
use Rattle.desk_steps.specs.Documents.{arranged_standing}
use Rattle.desk_steps.specs.Founds.{has_key, patched}
use Rattle.desk_steps.specs.Entries.{doc_of, reach_in, FitsOn, laid, standing_after, AllFit, Trades}
use Rattle.desk_steps.proofs.Arranged.{have_more}
use Rattle.doc_model.proofs.Natural.{has_each, parent_each, some_adjusted}
use Rattle.doc_model.proofs.PaintTests.{false-true}
use Rattle.desk_steps.proofs.Devices.{some_is}

-- a layer of a document stands in its tree
pub stands : (id : ℕ) (doc : Doc) (t : Forest (Unit {0})) → t ≡ shape doc → is_some (content id doc) ≡ true → has id t ≡ false → ⊥
stands id doc t e is absent =
    let c = some_is (content id doc) is in
    false-true (sym absent ∙ ap (has id) e ∙ has_each (λ id layer. tt) id doc ∙ content_has id c.0 doc c.1)

pub there_shape : (id : ℕ) (doc : Doc) (t : Forest (Unit {0})) → t ≡ shape doc → there id t ≡ there id doc
there_shape id doc t e = ap (there id) e ∙ ap (λ b. eqb id 0 || b) (has_each (λ id layer. tt) id doc)

pub told_part : (id : ℕ) (keys : FinSet key_cmp) (doc : Doc) (t : Forest (Unit {0})) (g : ℕ) (touched : Touched) → t ≡ shape doc → Some g ≡ parent id 0 t → HasTouched keys touched → TellsReach (Part id keys) doc (tells.Part g touched)
told_part id keys doc t g touched e p h = (g, touched, refl, sym (p ∙ ap (parent id 0) e ∙ parent_each (λ id layer. tt) id 0 doc), h)

-- a layer that was changed is there
pub still_there : (id : ℕ) (f : Layer → Layer) (old new : Doc) → new ≡ adjusted id f old → is_some (content id old) ≡ true → is_some (content id new) ≡ true
still_there id f old new e is = ap (λ d. is_some (content id d)) e ∙ some_adjusted id id f old ∙ is

-- a reach between two documents lets the entry be laid on either
pub fits_new : (now : Doc) (e : HistoryEntry) → Reaches (reach_in e) (doc_of now e) now → FitsOn now e
fits_new now (entry.Tree a) r = tt
fits_new now (entry.Layer id found) r = ap (λ d. is_some (content id d)) r.changed ∙ ap is_some (content-with_content id r.after r.before (adjusted id (patched found) now) r.was)

pub fits_old : (now : Doc) (e : HistoryEntry) → Reaches (reach_in e) now (doc_of now e) → FitsOn now e
fits_old now (entry.Tree a) r = tt
fits_old now (entry.Layer id found) r = ap is_some r.was

-- an entry that gives back the old document is its neighbour
pub laid_back : (old new : Doc) (was is : HistoryEntry) (es : List HistoryEntry) → doc_of new is ≡ old → reach_in is ≡ reach_in was → laid new (is ∷ es) ≡ (old, reach_in was) ∷ laid old es
laid_back old new was is es e r = λ i. (e i, r i) ∷ laid (e i) es

pub laid_take : (n : ℕ) (now : Doc) (es : List HistoryEntry) → laid now (take n es) ≡ take n (laid now es)
laid_take zero now es = refl
laid_take (suc n) now [] = refl
laid_take (suc n) now (e ∷ es) = ap (λ r. (doc_of now e, reach_in e) ∷ r) (laid_take n (doc_of now e) es)

pub past_take : (n : ℕ) (past : List (Doc × Reach)) (now : Doc) → PastReaches past now → PastReaches (take n past) now
past_take zero past now h = tt
past_take (suc n) [] now h = tt
past_take (suc n) (e ∷ past) now h = (h.0, past_take n past e.0 h.1)

filled_more : (slots : List SlotDevice) (f g : ℕ → Key → Bool) → ((q : ℕ) (k : Key) → f q k ≡ true → g q k ≡ true) → (q : ℕ) (k : Key) → once_filled has_key f slots q k ≡ true → once_filled has_key g slots q k ≡ true
filled_more [] f g more = more
filled_more (s ∷ rest) f g more = filled_more rest (λ q. cond (eqb s.id q) (has_key s.device) (f q)) (λ q. cond (eqb s.id q) (has_key s.device) (g q)) (λ q k. go (eqb s.id q) q k)
  where
    go : (b : Bool) (q : ℕ) (k : Key) → cond b (has_key s.device) (f q) k ≡ true → cond b (has_key s.device) (g q) k ≡ true
    go true q k h = h
    go false q k h = more q k h

arranged_grows : (a : Arrangement) (ks more : Standing) → Grows ks more → Grows (arranged_standing a ks) (arranged_standing a more)
arranged_grows a ks more grows = record {
  tree = ap (led a.tree) grows.tree;
  slots = grows.slots;
  layers = λ q. λ i. once_filled is_some (λ p. grows.layers p i) a.slots.items q;
  keys = filled_more a.slots.items ks.keys more.keys grows.keys;
}

-- more stands
pub more_fit : (ks more : Standing) → Grows ks more → (es : List HistoryEntry) → AllFit ks es → AllFit more es
more_fit ks more grows [] h = tt
more_fit ks more grows (entry.Tree a ∷ es) h = (
  record { leads = subst (Leads a.tree) grows.tree h.0.leads; layers = λ q. ap (λ t. is_some (content q (led a.tree t))) (sym grows.tree) ∙ h.0.layers q ∙ (λ i. once_filled is_some (λ p. sym (grows.layers p) i) a.slots.items q); slots = have_more ks.slots more.slots grows.slots a.slots.items h.0.slots },
  more_fit (arranged_standing a ks) (arranged_standing a more) (arranged_grows a ks more grows) es h.1,
)
more_fit ks more grows (entry.Layer id found ∷ es) h = ((λ k i. grows.keys id k (h.0 k i)), more_fit ks more grows es h.1)

pub take_fit : (n : ℕ) (ks : Standing) (es : List HistoryEntry) → AllFit ks es → AllFit ks (take n es)
take_fit zero ks es h = tt
take_fit (suc n) ks [] h = tt
take_fit (suc n) ks (e ∷ es) h = (h.0, take_fit n (standing_after ks e) es h.1)

-- once an entry was exchanged, those that come after it fit, and it does on the other side
module _ (old new : Standing) (was is : HistoryEntry) (t : Trades old new was is) where
  pub next_fit : (es : List HistoryEntry) → AllFit old (was ∷ es) → AllFit new es
  next_fit es h = subst (λ ks. AllFit ks es) t.now h.1

  pub back_fit : (es : List HistoryEntry) → AllFit old es → AllFit new (is ∷ es)
  back_fit es h = (t.fits, subst (λ ks. AllFit ks es) (sym t.back) h)
