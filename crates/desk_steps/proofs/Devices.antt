-- A document as its tree and devices.
use Rattle.std.proofs.Common.{◌≡◌, ℕ, ◌+◌, Bool, true, false, cond, Option, Some, None, is_some, Result, Ok, Err, refl, sym, ap, ◌∙◌, subst, arith, eqb, ◌⊎◌, inl, inr}
use Rattle.std.proofs.lemmas.Bool.Decides.{nat_tests}
use Rattle.std.specs.Prelude.{IsSome, IfSome, IfNone, OnSome, OnOk, OnErr}
use Rattle.std.specs.Borrow.{Bor, MutBor}
use Rattle.std.specs.Option.{option_copied, option_map, unwrap_or}
use Rattle.std.specs.Ordering.{nat_cmp}
use Rattle.std.specs.FinMap as map
use Rattle.std.specs.BTreeMap as btree
use Rattle.std.specs.Cmp.{unsigned_tied}
use Rattle.pixel_core.specs.Rgba.{Rgba, clear}
use Rattle.geom_core.specs.Grid.{Key, key_cmp, key_of}
use Rattle.memento_core.specs.Planes.{Keyed}
use Rattle.tile_core.specs.Pixels.{Pixels, pixel_or}
use Rattle.geom_core.proofs.Tests.{taken, kept, is_some-None}
use Rattle.history_core.proofs.Lent.{lent_holds}
use Rattle.doc_model.specs.Layers.{Layer, plain}
use Rattle.doc_model.proofs.LayerLaws.{layer_ext, at-plain, default-plain}
use Rattle.doc_model.specs.declared.tree.Change.{Change}
use Rattle.doc_model.specs.Picture.{Doc}
use Rattle.doc_model.specs.declared.tree.TreeFault.{TreeFault}
use Rattle.doc_model.specs.Forest.{Forest, none, paint, group, content, count, height}
use Rattle.doc_model.specs.Adjusting.{adjusted}
use Rattle.doc_model.specs.Each.{each}
use Rattle.doc_model.specs.Changes.{changed}
use Rattle.doc_model.specs.Ids.{weight, mark, times}
use Rattle.doc_model.specs.Laws.{IsDocument}
use Rattle.doc_model.proofs.PaintTests.{false-true}
use Rattle.paint_device.specs.Sheets.{Sheet, sheet}
use Rattle.paint_device.specs.Seen.{layer_of}
use Rattle.paint_device.proofs.Shown.{at-layer_of, default-layer_of}
use Rattle.machine_model.specs.Effects.{layer_in}
use Rattle.desk_steps.specs.declared.document.Document.{Document}
use Rattle.desk_steps.specs.Slots.{Slots, HasDevices, has_slot, device_in, layer_or, ChangesDevice, standing, Grows}
use Rattle.desk_steps.specs.Documents.{doc_in, Regains}
use Rattle.desk_steps.specs.Founds.{GivesBack, StandIn, has_key, patched}
use Rattle.desk_steps.specs.declared.reach.TreeRefusal.{TreeRefusal}
use Rattle.desk_steps.specs.declared.reach.TreeRefusal.TheVariants.{Tree}
use Rattle.doc_model.proofs.Natural.{count_each, height_each, content_by, content_each, adjusted_each, adjusted_nothing, after, with_contents, changed_each, through_cond}

pub some_is : {A : Type 0} (o : Option A) → is_some o ≡ true → (x : A) × (o ≡ Some x)
some_is None e = false-true e
some_is (Some x) e = (x, refl)

pub by_some : {A B : Type 0} (y : B) (o : Option A) → is_some o ≡ true → content_by y o ≡ Some y
by_some y None e = false-true e
by_some y (Some x) e = refl

-- the layer of the device under an id
abbrev pub layer_under : (ℕ → Option Sheet) → ℕ → Layer
layer_under g q = layer_or (g q)

-- the document of a tree with devices
abbrev pub shown : Forest (Unit {0}) → (ℕ → Option Sheet) → Doc
shown t g = each (λ q u. layer_or (g q)) t

pub new_plain : (pixel : Rgba) → layer_of (sheet pixel map.empty) ≡ plain pixel
new_plain pixel = layer_ext _ _ (default-layer_of (sheet pixel map.empty) ∙ sym (default-plain pixel)) (λ p. at-layer_of (sheet pixel map.empty) p ∙ ap (λ o. pixel_or (unwrap_or o None) pixel p) (map.get-empty key_cmp (key_of p)) ∙ sym (at-plain pixel p))

some_map : {A B : Type 0} (f : A → B) (o : Option A) → is_some (option_map f o) ≡ is_some o
some_map f None = refl
some_map f (Some x) = refl

module _ (t : Forest (Unit {0})) (g : ℕ → Option Sheet) (has : (q : ℕ) → is_some (g q) ≡ is_some (content q t)) where
  -- the layer of a device is the content of the document
  pub content_shown : (id : ℕ) → content id (shown t g) ≡ option_map layer_of (g id)
  content_shown id = content_each (layer_under g) id t ∙ go (g id) refl
    where
      go : (o : Option Sheet) → g id ≡ o → content_by (layer_or (g id)) (content id t) ≡ option_map layer_of o
      go None e = ap (content_by (layer_or (g id))) (is_some-None (content id t) (sym (has id) ∙ ap is_some e))
      go (Some s) e = by_some _ (content id t) (sym (has id) ∙ ap is_some e) ∙ ap (λ o. Some (layer_or o)) e

  pub layer_shown : (q : ℕ) → layer_in q (shown t g) ≡ layer_or (g q)
  layer_shown q = ap (λ o. unwrap_or o (plain clear)) (content_shown q) ∙ go (g q)
    where
      go : (o : Option Sheet) → unwrap_or (option_map layer_of o) (plain clear) ≡ layer_or o
      go None = sym (new_plain clear)
      go (Some s) = refl

pub some_in : (id : ℕ) (d : Document) → is_some (content id (doc_in d)) ≡ is_some (device_in d.slots id)
some_in id d = ap is_some (content_shown d.tree (device_in d.slots) d.fits id) ∙ some_map layer_of (device_in d.slots id)

pub lent_some : (id : ℕ) (d : Document) (r : Option (Bor Sheet)) → option_copied r ≡ device_in d.slots id → IfSome r (λ s. content id (doc_in d) ≡ Some (layer_of s.now))
lent_some id d None e = tt
lent_some id d (Some s) e = content_shown d.tree (device_in d.slots) d.fits id ∙ ap (option_map layer_of) (sym e)

pub lent_none : (id : ℕ) (d : Document) (r : Option (Bor Sheet)) → option_copied r ≡ device_in d.slots id → IfNone r (content id (doc_in d) ≡ None)
lent_none id d None e = content_shown d.tree (device_in d.slots) d.fits id ∙ ap (option_map layer_of) (sym e)
lent_none id d (Some s) e = tt

-- another device under an id
module _ (m n : Slots) (id : ℕ) (R : Sheet → Sheet → Type 0) (c : ChangesDevice m n id R) where
  -- it is there, and under all other ids what was there
  either_device : (q : ℕ) → ((id ≡ q) × ((device_in n q ≡ Some c.device) × (device_in m q ≡ Some c.before))) ⊎ ((eqb id q ≡ false) × (device_in n q ≡ device_in m q))
  either_device q = go (eqb id q) refl
    where
      go : (b : Bool) → eqb id q ≡ b → ((id ≡ q) × ((device_in n q ≡ Some c.device) × (device_in m q ≡ Some c.before))) ⊎ ((eqb id q ≡ false) × (device_in n q ≡ device_in m q))
      go true e =
          let same : id ≡ q = grind (arith, nat_tests) in
          inl (same, (c.puts q ∙ taken (eqb id q) _ _ e, ap (device_in m) (sym same) ∙ c.was))
      go false e = inr (e, c.puts q ∙ kept (eqb id q) _ _ e)

  layers_stay : (q : ℕ) → is_some (device_in n q) ≡ is_some (device_in m q)
  layers_stay q = elim (either_device q) [ inl h ↦ ap is_some h.1.0 ∙ sym (ap is_some h.1.1) | inr h ↦ ap is_some h.1 ]

  both_layers : (F G : Layer → Layer) → F (layer_of c.device) ≡ G (layer_of c.before) → (q : ℕ) → cond (eqb id q) (F (layer_or (device_in n q))) (layer_or (device_in n q)) ≡ cond (eqb id q) (G (layer_or (device_in m q))) (layer_or (device_in m q))
  both_layers F G e q = elim (either_device q) [
    | inl h ↦
        let own : eqb id q ≡ true = (let same : id ≡ q = h.0 in grind (arith, nat_tests)) in
        taken (eqb id q) _ _ own ∙ ap (λ o. F (layer_or o)) h.1.0 ∙ e ∙ sym (taken (eqb id q) _ _ own ∙ ap (λ o. G (layer_or o)) h.1.1)
    | inr h ↦ kept (eqb id q) _ _ h.0 ∙ ap layer_or h.1 ∙ sym (kept (eqb id q) _ _ h.0)
  ]

  -- what stands
  keys_of_either : (P : Bool → Bool → Type 0) → ((b : Bool) → P b b) → ((k : Key) → P (map.contains_key c.before.tiles k) (map.contains_key c.device.tiles k)) → (q : ℕ) (k : Key) → P (has_key (device_in m q) k) (has_key (device_in n q) k)
  keys_of_either P itself own q k = elim (either_device q) [
    | inl h ↦ subst (λ o. P (has_key o k) (has_key (device_in n q) k)) (sym h.1.1) (subst (λ o. P (map.contains_key c.before.tiles k) (has_key o k)) (sym h.1.0) (own k))
    | inr h ↦ subst (λ o. P (has_key (device_in m q) k) (has_key o k)) (sym h.1) (itself (has_key (device_in m q) k))
  ]

  pub standing_same : ((k : Key) → map.contains_key c.device.tiles k ≡ map.contains_key c.before.tiles k) → (t : Forest (Unit {0})) → standing t m ≡ standing t n
  standing_same same t = λ i. record { tree = t; slots = λ q. sym (c.slots q) i; layers = λ q. sym (layers_stay q) i; keys = λ q k. keys_of_either (λ a b. a ≡ b) (λ b. refl) (λ k. sym (same k)) q k i }

  pub standing_grows : ((k : Key) → map.contains_key c.before.tiles k ≡ true → map.contains_key c.device.tiles k ≡ true) → (t : Forest (Unit {0})) → Grows (standing t m) (standing t n)
  standing_grows more t = record { tree = refl; slots = λ q h. c.slots q ∙ h; layers = layers_stay; keys = keys_of_either (λ a b. a ≡ true → b ≡ true) (λ b h. h) more }

  pub own_stands : (found : Keyed Pixels) → StandIn found (Some c.device) → StandIn found (device_in n id)
  own_stands found = subst (StandIn found) (sym (c.puts id ∙ taken (eqb id id) _ _ (own id)))
    where
      own : (q : ℕ) → eqb q q ≡ true
      own q = grind (arith, nat_tests)

  module _ (t : Forest (Unit {0})) where
    -- where F makes of its layer what G makes of the one before, they make one document of both
    pub both_adjusted : (F G : Layer → Layer) → F (layer_of c.device) ≡ G (layer_of c.before) → adjusted id F (shown t (device_in n)) ≡ adjusted id G (shown t (device_in m))
    both_adjusted F G e =
        sym (adjusted_each (layer_under (device_in n)) (λ q. cond (eqb id q) (F (layer_or (device_in n q))) (layer_or (device_in n q))) id F t (λ q. refl))
        ∙ adjusted_each (layer_under (device_in m)) (λ q. cond (eqb id q) (F (layer_or (device_in n q))) (layer_or (device_in n q))) id G t (both_layers F G e)

    pub doc_adjusted : (f : Layer → Layer) → layer_of c.device ≡ f (layer_of c.before) → shown t (device_in n) ≡ adjusted id f (shown t (device_in m))
    doc_adjusted f e = sym (adjusted_nothing id (shown t (device_in n))) ∙ both_adjusted (λ l. l) f e

    pub doc_same : layer_of c.device ≡ layer_of c.before → shown t (device_in n) ≡ shown t (device_in m)
    doc_same e = doc_adjusted (λ l. l) e ∙ adjusted_nothing id (shown t (device_in m))

    pub doc_back : (f : Layer → Layer) → f (layer_of c.device) ≡ layer_of c.before → adjusted id f (shown t (device_in n)) ≡ shown t (device_in m)
    doc_back f e = both_adjusted f (λ l. l) e ∙ adjusted_nothing id (shown t (device_in m))

-- what was noted gives back the same document
pub regained : (old new : Document) (id : ℕ) (found after : Keyed Pixels) → new.tree ≡ old.tree → (c : ChangesDevice old.slots new.slots id (GivesBack found after)) → Regains id found after old new
regained old new id found after tree c = record {
  same = ap (λ t. adjusted id (patched after) (shown t (device_in new.slots))) tree ∙ both_adjusted old.slots new.slots id (GivesBack found after) c old.tree (patched after) (patched found) c.holds.same;
  grows = subst (λ t. Grows (standing old.tree old.slots) (standing t new.slots)) (sym tree) (standing_grows old.slots new.slots id (GivesBack found after) c c.holds.keys old.tree);
  stand = own_stands old.slots new.slots id (GivesBack found after) c after c.holds.stand;
}

-- other contents keep a document within the limits
pub is_document_each : {A B : Type 0} (g : ℕ → B) (f : Forest A) → IsDocument f → IsDocument (each (λ q x. g q) f)
is_document_each g f d = record {
  tree = record { root = weight_each g (mark 0) f ∙ d.tree.root; once = λ q. (let e : times q (each (λ q x. g q) f) ≡ times q f = weight_each g (mark q) f in omega (arith, d.tree.once q)) };
  few = (let e : count (each (λ q x. g q) f) ≡ count f = count_each (λ q x. g q) f in omega (arith, d.few));
  low = (let e : height (each (λ q x. g q) f) ≡ height f = height_each (λ q x. g q) f in omega (arith, d.low));
}
  where
    weight_each : {A B : Type 0} (g : ℕ → B) (w : ℕ → ℕ) (f : Forest A) → weight w (each (λ q x. g q) f) ≡ weight w f
    weight_each g w none = refl
    weight_each g w (paint id look x rest) = ap (λ n. w id + n) (weight_each g w rest)
    weight_each g w (group id look nodes rest) = λ i. w id + (weight_each g w nodes i + weight_each g w rest i)

pub doc_refused : (c : Change) (t : Forest (Unit {0})) (g : ℕ → Option Sheet) (fault : TreeFault) → changed (λ pixel. tt) c t ≡ Err fault → changed plain c (shown t g) ≡ Err fault
doc_refused c t g fault e = changed_each plain (layer_under g) (λ pixel. tt) c t ∙ ap (with_contents (after plain c (layer_under g))) e

pub refusal_same : {X : Type 0} (f g : TreeFault) → ◌≡◌ {A = Result X TreeRefusal} (Err (Tree f)) (Err (Tree g)) → f ≡ g
refusal_same f g e = cc

pub more_ok : {A E : Type 0} (r : Result A E) {P Q : Type 0} → (P → Q) → OnOk r P → OnOk r Q
more_ok (Ok x) f h = f h
more_ok (Err x) f h = tt

pub more_err : {A E : Type 0} (r : Result A E) {P Q : Type 0} → (P → Q) → OnErr r P → OnErr r Q
more_err (Ok x) f h = tt
more_err (Err x) f h = f h

pub on_err : {A E : Type 0} (r : Result A E) {P : Type 0} → P → OnErr r P
on_err (Ok x) h = tt
on_err (Err x) h = h

some_there : {A : Type 0} (o : Option A) (s : A) → o ≡ Some s → IsSome o
some_there o s e = ap is_some e

module _ (m n : Slots) (id : ℕ) (was now : Option Sheet) (there : Some was ≡ btree.get nat_cmp m id) (through : btree.WritesThrough nat_cmp (nat_cmp id) m now n) where
  written : (q : ℕ) → btree.get nat_cmp n q ≡ cond (eqb id q) (Some now) (btree.get nat_cmp m q)
  written q = (through.3 (some_there (btree.get nat_cmp m id) was (sym there))).0 q ∙ ap (λ b. cond b (Some now) (btree.get nat_cmp m q)) (unsigned_tied id q)

  -- a slot that was written through what was lent
  pub written_device : (q : ℕ) → device_in n q ≡ cond (eqb id q) now (device_in m q)
  written_device q = ap (λ o. unwrap_or o None) (written q) ∙ through_cond (λ (o : Option (Option Sheet)). unwrap_or o None) (eqb id q) (Some now) (btree.get nat_cmp m q)

  pub written_slots : (q : ℕ) → has_slot n q ≡ has_slot m q
  written_slots q = ap is_some (written q) ∙ go (eqb id q) refl
    where
      go : (b : Bool) → eqb id q ≡ b → is_some (cond b (Some now) (btree.get nat_cmp m q)) ≡ is_some (btree.get nat_cmp m q)
      go true e =
          let same : id ≡ q = grind (arith, nat_tests) in
          sym (ap (λ p. is_some (btree.get nat_cmp m p)) (sym same) ∙ ap is_some (sym there))
      go false e = refl

in_slot : (o : Option (Option Sheet)) (s : Sheet) → unwrap_or o None ≡ Some s → o ≡ Some (Some s)
in_slot None s e = cc
in_slot (Some x) s e = ap Some e

-- a device that was lent, as it was left
module _ (m n : Slots) (id : ℕ) (device : Sheet) (r : Option (MutBor Sheet)) (lent : MutBor Sheet) (is : r ≡ Some lent) (there : Some lent.now ≡ device_in m id) (through : OnSome r (btree.WritesThrough nat_cmp (nat_cmp id) m (Some device) n)) where
  pub lent_changes : (R : Sheet → Sheet → Type 0) → R lent.now device → ChangesDevice m n id R
  lent_changes R holds =
      let slot : Some (Some lent.now) ≡ btree.get nat_cmp m id = sym (in_slot (btree.get nat_cmp m id) lent.now (sym there)) in
      let writes = lent_holds r lent is through in
      record {
        before = lent.now;
        device = device;
        was = sym there;
        puts = written_device m n id (Some lent.now) (Some device) slot writes;
        slots = written_slots m n id (Some lent.now) (Some device) slot writes;
        holds = holds;
      }

  -- just the paint nodes have devices still
  pub still_devices : (t : Forest (Unit {0})) → HasDevices t m → HasDevices t n
  still_devices t has q = layers_stay m n id (λ a b. Unit {0}) (lent_changes (λ a b. Unit {0}) tt) q ∙ has q

-- the lent one is there
pub lent_stands : (o : Option Sheet) (s : Sheet) (found : Keyed Pixels) → Some s ≡ o → StandIn found o → StandIn found (Some s)
lent_stands o s found e = subst (StandIn found) (sym e)

pub both_ok : {A E : Type 0} (r : Result A E) {P Q R : Type 0} → (P → Q → R) → OnOk r P → OnOk r Q → OnOk r R
both_ok (Ok x) f h k = f h k
both_ok (Err x) f h k = tt

-- what follows whether it went well or not
pub either_way : {A E : Type 0} (r : Result A E) {P Q R : Type 0} → (P → R) → (Q → R) → OnOk r P → OnErr r Q → R
either_way (Ok x) f g p q = f p
either_way (Err e) f g p q = g q
