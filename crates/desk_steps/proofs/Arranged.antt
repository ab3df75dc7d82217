-- Documents in other arrangements.
use Rattle.std.proofs.Common.{◌≡◌, ℕ, ◌+◌, ◌<◌, Bool, true, false, cond, Option, Some, None, is_some, Ok, List, [], ◌∷◌, ◌++◌, length, take, drop, refl, sym, ap, ◌∙◌, subst, arith, eqb, get_or, set, ◌⊎◌, inl, inr}
use Rattle.std.specs.Prelude.{reverse}
use Rattle.std.proofs.lemmas.Bool.Decides.{nat_tests}
use Rattle.std.proofs.lemmas.List.{reverse-append, drop_more, drop-set-lt, take_more_set, drop_all, take_all}
use Rattle.std.specs.Option.{unwrap_or}
use Rattle.std.specs.Ordering.{nat_cmp}
use Rattle.std.specs.Cmp.{unsigned_tied}
use Rattle.std.specs.FinMap as map
use Rattle.std.specs.BTreeMap as btree
use Rattle.std.specs.BTreeMap.{is_at}
use Rattle.std.specs.Map.{lookup}
use Rattle.geom_core.proofs.Tests.{taken, kept}
use Rattle.doc_model.specs.Layers.{plain}
use Rattle.doc_model.specs.Forest.{Forest, content}
use Rattle.doc_model.specs.Each.{each}
use Rattle.doc_model.specs.Changes.{changed}
use Rattle.doc_model.specs.declared.tree.Change.{Change}
use Rattle.doc_model.specs.declared.tree.Change.TheVariants as change
use Rattle.doc_model.proofs.Parents.{Distinct}
use Rattle.machine_model.specs.Effects.{layer_in}
use Rattle.tree_core.specs.Exchanges.{led}
use Rattle.paint_device.specs.Sheets.{Sheet, sheet}
use Rattle.desk_steps.specs.Founds.{has_key}
use Rattle.desk_steps.specs.Slots.{Slots, AllHave, device_in, devices_after, has_slot, layer_or, once_filled, standing}
use Rattle.desk_steps.specs.Documents.{Fits, arranged, arranged_standing, doc_in}
use Rattle.desk_steps.specs.declared.arrangement.Arrangement.{Arrangement}
use Rattle.desk_steps.specs.declared.arrangement.SlotDevice.{SlotDevice}
use Rattle.desk_steps.specs.declared.document.Document.{Document}
use Rattle.doc_model.proofs.Natural.{after, changed_each, content_before, each_same, each_shape, through_cond, with_contents}
use Rattle.doc_model.proofs.PaintTests.{false-true}
use Rattle.desk_steps.proofs.Devices.{layer_shown, layer_under, new_plain, shown}
use Rattle.desk_steps.proofs.Rearranged.{layer_comes, layers_stay}

-- what h makes of what stands is what stands of what h makes
pub filled_through : {A B : Type 0} (h : A → B) (f : Option Sheet → A) (g : ℕ → A) (slots : List SlotDevice) (q : ℕ) → h (once_filled f g slots q) ≡ once_filled (λ o. h (f o)) (λ p. h (g p)) slots q
filled_through h f g [] q = refl
filled_through h f g (s ∷ rest) q = filled_through h f (λ p. cond (eqb s.id p) (f s.device) (g p)) rest q ∙ (λ i. once_filled (λ o. h (f o)) (λ p. through_cond h (eqb s.id p) (f s.device) (g p) i) rest q)

-- one slot more
pub filled_push : {A : Type 0} (f : Option Sheet → A) (g : ℕ → A) (slots : List SlotDevice) (s : SlotDevice) (q : ℕ) → once_filled f g (slots ++ s ∷ []) q ≡ cond (eqb s.id q) (f s.device) (once_filled f g slots q)
filled_push f g [] s q = refl
filled_push f g (r ∷ slots) s q = filled_push f (λ p. cond (eqb r.id p) (f r.device) (g p)) slots s q

pub have_push : (has : ℕ → Bool) (slots : List SlotDevice) (s : SlotDevice) → AllHave has slots → has s.id ≡ true → AllHave has (slots ++ s ∷ [])
have_push has [] s all h = (h, tt)
have_push has (r ∷ slots) s all h = (all.0, have_push has slots s all.1 h)

pub have_more : (has more : ℕ → Bool) → ((q : ℕ) → has q ≡ true → more q ≡ true) → (slots : List SlotDevice) → AllHave has slots → AllHave more slots
have_more has more up [] h = tt
have_more has more up (s ∷ rest) h = (up s.id h.0, have_more has more up rest h.1)

-- what stands under an id, by what the slots get
abbrev devices : (ℕ → Option Sheet) → List SlotDevice → ℕ → Option Sheet
devices = once_filled (λ o. o)

-- devices up to a place were exchanged: the others end in the same, and those give back what was there
pub record UpTo (has : ℕ → Bool) (old : ℕ → Option Sheet) (all : List SlotDevice) (now : ℕ → Option Sheet) (front rest : List SlotDevice) : Type 0 where
  pub ends : (q : ℕ) → devices now rest q ≡ devices old all q
  pub back : (q : ℕ) → devices now (reverse front) q ≡ old q
  pub front_have : AllHave has (reverse front)
  pub rest_have : AllHave has rest

pub none_yet : (has : ℕ → Bool) (old : ℕ → Option Sheet) (all : List SlotDevice) → AllHave has all → UpTo has old all old [] all
none_yet has old all have = record { ends = λ q. refl; back = λ q. refl; front_have = tt; rest_have = have }

one_up : (has : ℕ → Bool) (old : ℕ → Option Sheet) (all : List SlotDevice) (now new : ℕ → Option Sheet) (front rest : List SlotDevice) (s t : SlotDevice) → ((q : ℕ) → new q ≡ cond (eqb s.id q) s.device (now q)) → t.id ≡ s.id → t.device ≡ now s.id
    → UpTo has old all now front (s ∷ rest) → UpTo has old all new (front ++ t ∷ []) rest
one_up has old all now new front rest s t is same stood so = record {
  ends = λ q. (λ i. devices (λ p. is p i) rest q) ∙ so.ends q;
  back = λ q. (λ i. devices new (turned i) q) ∙ (λ i. devices (λ p. gives p i) (reverse front) q) ∙ so.back q;
  front_have = subst (AllHave has) (sym turned) (ap has same ∙ so.rest_have.0, so.front_have);
  rest_have = so.rest_have.1;
}
  where
    turned : reverse (front ++ t ∷ []) ≡ t ∷ reverse front
    turned = reverse-append front (t ∷ [])

    gives : (p : ℕ) → cond (eqb t.id p) t.device (new p) ≡ now p
    gives p = ap (λ n. cond (eqb n p) t.device (new p)) same ∙ go (eqb s.id p) refl
      where
        go : (b : Bool) → eqb s.id p ≡ b → cond b t.device (new p) ≡ now p
        go true e = (let own : s.id ≡ p = grind (arith, nat_tests) in stood ∙ ap now own)
        go false e = is p ∙ kept (eqb s.id p) _ _ e

-- one place on
pub step_up : (has : ℕ → Bool) (old : ℕ → Option Sheet) (all : List SlotDevice) (now new : ℕ → Option Sheet) (slots : List SlotDevice) (i : ℕ) (d t : SlotDevice) → i < length slots → ((q : ℕ) → new q ≡ cond (eqb (get_or slots i d).id q) (get_or slots i d).device (now q)) → t.id ≡ (get_or slots i d).id → t.device ≡ now (get_or slots i d).id
    → UpTo has old all now (take i slots) (drop i slots) → UpTo has old all new (take (i + 1) (set slots i t)) (drop (i + 1) (set slots i t))
step_up has old all now new slots i d t h is same stood so =
    let up = one_up has old all now new (take i slots) (drop (i + 1) slots) (get_or slots i d) t is same stood (subst (UpTo has old all now (take i slots)) (drop_more slots i d h) so) in
    subst (UpTo has old all new (take (i + 1) (set slots i t))) (sym (drop-set-lt (i + 1) slots i t (omega arith)))
    (subst (λ front. UpTo has old all new front (drop (i + 1) slots)) (sym (take_more_set slots i t h)) up)

pub next_has : (has : ℕ → Bool) (old : ℕ → Option Sheet) (all : List SlotDevice) (now : ℕ → Option Sheet) (slots : List SlotDevice) (i : ℕ) (d : SlotDevice) → i < length slots → UpTo has old all now (take i slots) (drop i slots) → has (get_or slots i d).id ≡ true
next_has has old all now slots i d h so = (subst (UpTo has old all now (take i slots)) (drop_more slots i d h) so).rest_have.0

-- behind the last place
pub ended : (has : ℕ → Bool) (old : ℕ → Option Sheet) (all : List SlotDevice) (now : ℕ → Option Sheet) (slots : List SlotDevice) (i : ℕ) → i ≡ length slots → UpTo has old all now (take i slots) (drop i slots) → UpTo has old all now slots []
ended has old all now slots i last so = subst (λ front. UpTo has old all now front []) (take_all i slots (omega (arith, last))) (subst (UpTo has old all now (take i slots)) (drop_all i slots (omega (arith, last))) so)

-- None is to stand under the ids that were passed and are no layers of the tree
pub record Emptied (t : Forest (Unit {0})) (m : Slots) (slots : List SlotDevice) (rest : List (ℕ × Option Sheet)) : Type 0 where
  pub stays : (q : ℕ) → is_some (content q t) ≡ true → devices (device_in m) slots q ≡ device_in m q
  pub gone : (q : ℕ) → is_some (content q t) ≡ false → lookup (is_at (nat_cmp q)) rest ≡ None → devices (device_in m) slots q ≡ None
  pub empty : (q : ℕ) → device_in m q ≡ None → devices (device_in m) slots q ≡ None
  pub have : AllHave (has_slot m) slots

pub none_emptied : (t : Forest (Unit {0})) (m : Slots) (slots : List SlotDevice) → slots ≡ [] → Emptied t m slots m.entries
none_emptied t m slots e = record {
  stays = λ q is. ap (λ s. devices (device_in m) s q) e;
  gone = λ q is none. ap (λ s. devices (device_in m) s q) e ∙ ap (λ o. unwrap_or o None) none;
  empty = λ q none. ap (λ s. devices (device_in m) s q) e ∙ none;
  have = subst (AllHave (has_slot m)) (sym e) tt;
}

other_key : (k q : ℕ) → eqb k q ≡ false → is_at (nat_cmp q) k ≡ false
other_key k q e = unsigned_tied q k ∙ grind (arith, nat_tests)

module _ (t : Forest (Unit {0})) (m : Slots) (slots : List SlotDevice) (k : ℕ) (o : Option Sheet) (rest : List (ℕ × Option Sheet)) (so : Emptied t m slots ((k, o) ∷ rest)) where
  passed : (q : ℕ) → eqb k q ≡ false → is_some (content q t) ≡ false → lookup (is_at (nat_cmp q)) rest ≡ None → devices (device_in m) slots q ≡ None
  passed q other is none = so.gone q is (ap (λ b. cond b (Some o) (lookup (is_at (nat_cmp q)) rest)) (other_key k q other) ∙ none)

  -- one that stands empty, or is a layer
  pub one_left : btree.get nat_cmp m k ≡ Some o → (o ≡ None) ⊎ (is_some (content k t) ≡ true) → Emptied t m slots rest
  one_left there why = record { stays = so.stays; gone = λ q is none. go q (eqb k q) refl is none; empty = so.empty; have = so.have }
    where
      go : (q : ℕ) (b : Bool) → eqb k q ≡ b → is_some (content q t) ≡ false → lookup (is_at (nat_cmp q)) rest ≡ None → devices (device_in m) slots q ≡ None
      go q true e is none =
          let same : k ≡ q = grind (arith, nat_tests) in
          elim why [
            | inl nothing ↦ so.empty q (ap (device_in m) (sym same) ∙ ap (λ s. unwrap_or s None) there ∙ nothing)
            | inr layer ↦ false-true (sym is ∙ ap (λ p. is_some (content p t)) (sym same) ∙ layer)
          ]
      go q false e is none = passed q e is none

  -- one more
  pub one_emptied : btree.get nat_cmp m k ≡ Some o → is_some (content k t) ≡ false → Emptied t m (slots ++ (record { id = k; device = None }) ∷ []) rest
  one_emptied there gone = record {
    stays = λ q is. filled_push (λ o. o) (device_in m) slots (record { id = k; device = None }) q ∙ stays q (eqb k q) refl is;
    gone = λ q is none. filled_push (λ o. o) (device_in m) slots (record { id = k; device = None }) q ∙ either q (eqb k q) (λ e. passed q e is none);
    empty = λ q none. filled_push (λ o. o) (device_in m) slots (record { id = k; device = None }) q ∙ either q (eqb k q) (λ e. so.empty q none);
    have = have_push (has_slot m) slots (record { id = k; device = None }) so.have (ap is_some there);
  }
    where
      stays : (q : ℕ) (b : Bool) → eqb k q ≡ b → is_some (content q t) ≡ true → cond b None (devices (device_in m) slots q) ≡ device_in m q
      stays q true e is =
          let same : k ≡ q = grind (arith, nat_tests) in
          false-true (sym gone ∙ ap (λ p. is_some (content p t)) same ∙ is)
      stays q false e is = so.stays q is

      either : (q : ℕ) (b : Bool) → (b ≡ false → devices (device_in m) slots q ≡ None) → cond b None (devices (device_in m) slots q) ≡ None
      either q true h = refl
      either q false h = h refl

pub all_emptied : (t : Forest (Unit {0})) (m : Slots) (slots : List SlotDevice) (rest : List (ℕ × Option Sheet)) → rest ≡ [] → Emptied t m slots rest → (q : ℕ) → devices (device_in m) slots q ≡ cond (is_some (content q t)) (device_in m q) None
all_emptied t m slots rest e so q = go (is_some (content q t)) refl
  where
    go : (b : Bool) → is_some (content q t) ≡ b → devices (device_in m) slots q ≡ cond b (device_in m q) None
    go true is = so.stays q is
    go false is = so.gone q is (ap (lookup (is_at (nat_cmp q))) e)

-- what an arrangement shows, by the devices
arranged_is : (t : Forest (Unit {0})) (g : ℕ → Option Sheet) → ((q : ℕ) → is_some (g q) ≡ is_some (content q t)) → (other : Forest (Unit {0})) (slots : List SlotDevice)
    → shown other (devices g slots) ≡ each (λ q u. once_filled layer_or (λ p. layer_in p (shown t g)) slots q) other
arranged_is t g has other slots = λ i. each (λ q u. (filled_through layer_or (λ o. o) g slots q ∙ (λ j. once_filled layer_or (λ p. sym (layer_shown t g has p) j) slots q)) i) other

-- the tree and devices of a document are exchanged with those of an arrangement
module _ (d : Document) (a : Arrangement) (tree : Forest (Unit {0})) (slots : List SlotDevice) (n : Slots) (after : List SlotDevice) (fits : Fits a (standing d.tree d.slots)) (tree_is : tree ≡ led a.tree d.tree) (slots_are : slots ≡ a.slots.items)
    (new : (q : ℕ) → device_in n q ≡ devices (device_in d.slots) slots q) (back : (q : ℕ) → devices (device_in n) after q ≡ device_in d.slots q) (same : (q : ℕ) → has_slot n q ≡ has_slot d.slots q) where
  new_is : (q : ℕ) → device_in n q ≡ devices (device_in d.slots) a.slots.items q
  new_is q = new q ∙ ap (λ s. devices (device_in d.slots) s q) slots_are

  pub other_has : (q : ℕ) → is_some (device_in n q) ≡ is_some (content q tree)
  other_has q = ap is_some (new_is q) ∙ filled_through is_some (λ o. o) (device_in d.slots) a.slots.items q ∙ sym (ap (λ t. is_some (content q t)) tree_is ∙ fits.layers q)

  pub other_shown : shown tree (device_in n) ≡ arranged a (doc_in d)
  other_shown = (λ i. shown (tree_is i) (λ q. new_is q i)) ∙ arranged_is d.tree (device_in d.slots) d.fits (led a.tree d.tree) a.slots.items
      ∙ ap (λ t. each (λ q u. once_filled layer_or (λ p. layer_in p (doc_in d)) a.slots.items q) (led a.tree t)) (sym (each_shape (layer_under (device_in d.slots)) d.tree))

  pub back_shown : (old : Forest (Unit {0})) → old ≡ d.tree → each (λ q u. once_filled layer_or (λ p. layer_in p (shown tree (device_in n))) after q) old ≡ doc_in d
  back_shown old is = sym (arranged_is tree (device_in n) other_has old after) ∙ (λ i. shown (is i) (λ q. back q i))

  pub other_stands : arranged_standing a (standing d.tree d.slots) ≡ standing tree n
  other_stands = λ i. record {
    tree = sym tree_is i;
    slots = λ q. sym (same q) i;
    layers = λ q. sym (ap is_some (new_is q) ∙ filled_through is_some (λ o. o) (device_in d.slots) a.slots.items q) i;
    keys = λ q. sym (ap has_key (new_is q) ∙ filled_through has_key (λ o. o) (device_in d.slots) a.slots.items q) i;
  }

  pub back_stands : (old : Forest (Unit {0})) → old ≡ d.tree → record { tree = old; slots = has_slot n; layers = once_filled is_some (λ q. is_some (device_in n q)) after; keys = once_filled has_key (λ q. has_key (device_in n q)) after } ≡ standing d.tree d.slots
  back_stands old is = λ i. record {
    tree = is i;
    slots = λ q. same q i;
    layers = λ q. (sym (filled_through is_some (λ o. o) (device_in n) after q) ∙ ap is_some (back q)) i;
    keys = λ q. (sym (filled_through has_key (λ o. o) (device_in n) after q) ∙ ap has_key (back q)) i;
  }

  pub back_fits : (old : Forest (Unit {0})) → old ≡ d.tree → (q : ℕ) → is_some (content q old) ≡ once_filled is_some (λ p. is_some (device_in n p)) after q
  back_fits old is q = ap (λ t. is_some (content q t)) is ∙ sym (d.fits q) ∙ sym (ap is_some (back q)) ∙ filled_through is_some (λ o. o) (device_in n) after q

-- a tree was changed, and the slots are to get the devices after the change
module _ (c : Change) (t other : Forest (Unit {0})) (g : ℕ → Option Sheet) (made : changed (λ pixel. tt) c t ≡ Ok other) (has : (q : ℕ) → is_some (g q) ≡ is_some (content q t)) (slots : List SlotDevice) (get : (q : ℕ) → devices g slots q ≡ devices_after c other g q) where
  after_layers : (c : Change) (q : ℕ) → is_some (content q other) ≡ true → after plain c (layer_under g) q ≡ layer_or (devices_after c other g q)
  after_layers (change.Layer id above place pixel) q is = go (eqb id q)
    where
      go : (b : Bool) → cond b (plain pixel) (layer_or (g q)) ≡ layer_or (cond b (Some (sheet pixel map.empty)) (g q))
      go true = sym (new_plain pixel)
      go false = refl
  after_layers (change.Group id above place) q is = refl
  after_layers (change.Remove id) q is = ap layer_or (sym (taken (is_some (content q other)) (g q) None is))
  after_layers (change.Place id above place) q is = refl
  after_layers (change.Look id look) q is = refl

  pub change_shown : changed plain c (shown t g) ≡ Ok (each (λ q u. once_filled layer_or (λ p. layer_in p (shown t g)) slots q) other)
  change_shown =
      changed_each plain (layer_under g) (λ pixel. tt) c t ∙ ap (with_contents (after plain c (layer_under g))) made
      ∙ ap Ok (each_same (after plain c (layer_under g)) (λ q. layer_or (devices g slots q)) other (λ q is. after_layers c q is ∙ ap layer_or (sym (get q))) ∙ arranged_is t g has other slots)

  module _ (distinct : Distinct t) where
    after_has : (c : Change) → changed (λ pixel. tt) c t ≡ Ok other → (q : ℕ) → is_some (content q other) ≡ is_some (devices_after c other g q)
    after_has (change.Layer id above place pixel) e q = go (eqb id q) refl
      where
        go : (b : Bool) → eqb id q ≡ b → is_some (content q other) ≡ is_some (cond b (Some (sheet pixel map.empty)) (g q))
        go true h = (let same : id ≡ q = grind (arith, nat_tests) in ap (λ p. is_some (content p other)) (sym same) ∙ layer_comes (λ pixel. tt) id above place pixel t other e)
        go false h = layers_stay (λ pixel. tt) (change.Layer id above place pixel) t other q refl h e distinct ∙ sym (has q)
    after_has (change.Group id above place) e q = layers_stay (λ pixel. tt) (change.Group id above place) t other q refl refl e distinct ∙ sym (has q)
    after_has (change.Remove id) e q = go (is_some (content q other)) refl
      where
        go : (b : Bool) → is_some (content q other) ≡ b → b ≡ is_some (cond b (g q) None)
        go true is = sym (has q ∙ content_before (λ pixel. tt) (change.Remove id) t other q e refl is)
        go false is = refl
    after_has (change.Place id above place) e q = layers_stay (λ pixel. tt) (change.Place id above place) t other q refl refl e distinct ∙ sym (has q)
    after_has (change.Look id look) e q = layers_stay (λ pixel. tt) (change.Look id look) t other q refl refl e distinct ∙ sym (has q)

    pub change_fits : (n : Slots) → ((q : ℕ) → device_in n q ≡ g q) → (q : ℕ) → is_some (content q other) ≡ once_filled is_some (λ p. is_some (device_in n p)) slots q
    change_fits n same q = after_has c made q ∙ ap is_some (sym (get q)) ∙ filled_through is_some (λ o. o) g slots q ∙ (λ i. once_filled is_some (λ p. is_some (sym (same p) i)) slots q)
