-- What is found among the places of caches.
use Rattle.std.proofs.Common.{◌≡◌, ◌≢◌, ℕ, zero, suc, ◌<◌, Bool, true, false, cond, List, [], ◌∷◌, ◌++◌, length, get_or, set, Some, None, refl, sym, ap, ◌∙◌, arith, eqb}
use Rattle.std.specs.Option.{unwrap_or}
use Rattle.std.specs.Ordering.{nat_cmp, eq_by_cmp}
use Rattle.std.specs.FinMap as map
use Rattle.std.specs.FinMap.{find}
use Rattle.std.proofs.lemmas.Bool.Decides.{nat_tests}
use Rattle.std.proofs.lemmas.Cmp.{nat_cmp_total}
use Rattle.geom_core.proofs.Tests.{taken, kept}
use Rattle.doc_model.specs.Layers.{Layer, plain}
use Rattle.machine_model.specs.Groups.{cache}
use Rattle.paint_device.specs.Seen.{layer_of}
use Rattle.pixel_core.specs.Rgba.{clear}
use Rattle.group_caches.specs.declared.places.Place.{Place}
use Rattle.group_caches.specs.Entries.{entries_of, caches_of, IsPlace, LacksBelow}

-- equal numbers compare alike
pub alike : (q g : ℕ) → q ≡ g → eq_by_cmp nat_cmp q g ≡ true
alike q g e = grind (arith, nat_tests)

pub unlike : (q g : ℕ) → q ≢ g → eq_by_cmp nat_cmp q g ≡ false
unlike q g e = grind (arith, nat_tests)

pub by_number : (q g : ℕ) → eq_by_cmp nat_cmp q g ≡ eqb q g
by_number q g = grind (arith, nat_tests)

-- the first place of a group is found
found_at : (places : List Place) (i g : ℕ) (d : Place) → i < length places → (get_or places i d).group ≡ g → ((k : ℕ) → k < i → (get_or places k d).group ≢ g) → find nat_cmp g (entries_of places) ≡ Some (layer_of (get_or places i d).device)
found_at [] i g d h e first = absurd (omega arith)
found_at (c ∷ cs) zero g d h e first = taken (eq_by_cmp nat_cmp g c.group) _ _ (alike g c.group (sym e))
found_at (c ∷ cs) (suc i) g d h e first = kept (eq_by_cmp nat_cmp g c.group) _ _ (unlike g c.group (λ s. first zero (omega arith) (sym s))) ∙ found_at cs i g d (omega arith) e (λ k lt. first (suc k) (omega arith))

-- none is found where no place is the group's
pub none_found : (places : List Place) (g : ℕ) → LacksBelow g places (length places) → find nat_cmp g (entries_of places) ≡ None
none_found [] g lacks = refl
none_found (c ∷ cs) g lacks = kept (eq_by_cmp nat_cmp g c.group) _ _ (unlike g c.group (λ s. lacks zero c (omega arith) (sym s))) ∙ none_found cs g (λ k d lt. lacks (suc k) d (omega arith))

-- with another device in that place
set_at : (places : List Place) (i g : ℕ) (d x : Place) (q : ℕ) → i < length places → (get_or places i d).group ≡ g → ((k : ℕ) → k < i → (get_or places k d).group ≢ g) → x.group ≡ g
    → find nat_cmp q (entries_of (set places i x)) ≡ cond (eqb q g) (Some (layer_of x.device)) (find nat_cmp q (entries_of places))
set_at [] i g d x q h e first s = absurd (omega arith)
set_at (c ∷ cs) zero g d x q h e first s = go (eqb q g) refl
  where
    go : (b : Bool) → eqb q g ≡ b → cond (eq_by_cmp nat_cmp q x.group) (Some (layer_of x.device)) (find nat_cmp q (entries_of cs)) ≡ cond b (Some (layer_of x.device)) (cond (eq_by_cmp nat_cmp q c.group) (Some (layer_of c.device)) (find nat_cmp q (entries_of cs)))
    go true t = taken (eq_by_cmp nat_cmp q x.group) _ _ (by_number q x.group ∙ ap (eqb q) s ∙ t)
    go false t = kept (eq_by_cmp nat_cmp q x.group) _ _ (by_number q x.group ∙ ap (eqb q) s ∙ t) ∙ sym (kept (eq_by_cmp nat_cmp q c.group) _ _ (by_number q c.group ∙ ap (eqb q) e ∙ t))
set_at (c ∷ cs) (suc i) g d x q h e first s = ap (cond (eq_by_cmp nat_cmp q c.group) (Some (layer_of c.device))) (set_at cs i g d x q (omega arith) e (λ k lt. first (suc k) (omega arith)) s) ∙ go (eqb q g) refl (eq_by_cmp nat_cmp q c.group) refl
  where
    go : (b : Bool) → eqb q g ≡ b → (t : Bool) → eq_by_cmp nat_cmp q c.group ≡ t → cond t (Some (layer_of c.device)) (cond b (Some (layer_of x.device)) (find nat_cmp q (entries_of cs))) ≡ cond b (Some (layer_of x.device)) (cond t (Some (layer_of c.device)) (find nat_cmp q (entries_of cs)))
    go true m false n = refl
    go false m t n = refl
    go true m true n =
        let a : q ≡ g = grind (arith, nat_tests) in
        let b : q ≡ c.group = (let o : eqb q c.group ≡ true = sym (by_number q c.group) ∙ n in grind (arith, nat_tests)) in
        absurd (first zero (omega arith) (sym b ∙ a))

-- the same of the caches
pub place_layer : (places : List Place) (i g : ℕ) (x d : Place) → IsPlace g places i → x ≡ get_or places i d → map.get (caches_of places) g ≡ Some (layer_of x.device)
place_layer places i g x d is at = map.get-from_entries nat_cmp_total (entries_of places) g ∙ found_at places i g d is.within (is.here d) (λ k lt. is.first k d lt) ∙ ap (λ (c : Place). Some (layer_of c.device)) (sym at)

pub no_layer : (places : List Place) (g : ℕ) → LacksBelow g places (length places) → map.get (caches_of places) g ≡ None
no_layer places g lacks = map.get-from_entries nat_cmp_total (entries_of places) g ∙ none_found places g lacks

pub set_layer : (places : List Place) (i g : ℕ) (x : Place) (q : ℕ) → IsPlace g places i → x.group ≡ g → map.get (caches_of (set places i x)) q ≡ cond (eqb q g) (Some (layer_of x.device)) (map.get (caches_of places) q)
set_layer places i g x q is s = map.get-from_entries nat_cmp_total (entries_of (set places i x)) q ∙ set_at places i g x x q is.within (is.here x) (λ k lt. is.first k x lt) s ∙ ap (cond (eqb q g) (Some (layer_of x.device))) (sym (map.get-from_entries nat_cmp_total (entries_of places) q))

pub place_cache : (places : List Place) (i g : ℕ) (x d : Place) → IsPlace g places i → x ≡ get_or places i d → layer_of x.device ≡ cache (caches_of places) g
place_cache places i g x d is at = ap (λ o. unwrap_or o (plain clear)) (sym (place_layer places i g x d is at))

pub no_cache : (places : List Place) (g : ℕ) → LacksBelow g places (length places) → plain clear ≡ cache (caches_of places) g
no_cache places g lacks = ap (λ o. unwrap_or o (plain clear)) (sym (no_layer places g lacks))

pub set_others : (places : List Place) (i g : ℕ) (x : Place) (q : ℕ) → IsPlace g places i → x.group ≡ g → eqb q g ≡ false → map.get (caches_of (set places i x)) q ≡ map.get (caches_of places) q
set_others places i g x q is s other = set_layer places i g x q is s ∙ kept (eqb q g) _ _ other

-- another layer in that place
pub put_layer : (places : List Place) (i g : ℕ) (x : Place) → IsPlace g places i → x.group ≡ g → caches_of (set places i x) ≡ map.insert (caches_of places) g (layer_of x.device)
put_layer places i g x is s = map.same_map nat_cmp_total map.nat_cmp-IsAntisymmetric _ _ (λ q. set_layer places i g x q is s ∙ ap (λ b. cond b (Some (layer_of x.device)) (map.get (caches_of places) q)) (sym (by_number q g)) ∙ sym (map.get-insert nat_cmp_total (caches_of places) g (layer_of x.device) q))

-- the root's place alone
pub lone_layer : (cs new : List Place) (c : Place) (l : Layer) → new ≡ cs ++ c ∷ [] → cs ≡ [] → c.group ≡ 0 → layer_of c.device ≡ l → caches_of new ≡ map.insert map.empty 0 l
lone_layer cs new c l e none group layer = ap caches_of (e ∙ ap (λ xs. xs ++ c ∷ []) none) ∙ (λ i. map.from_entries ((group i, layer i) ∷ []))
    ∙ map.same_map nat_cmp_total map.nat_cmp-IsAntisymmetric _ _ (λ q. map.get-from_entries nat_cmp_total ((0, l) ∷ []) q ∙ ap (cond (eq_by_cmp nat_cmp q 0) (Some l)) (sym (map.get-empty nat_cmp q)) ∙ sym (map.get-insert nat_cmp_total map.empty 0 l q))

entries_more : (places : List Place) (x : Place) → entries_of (places ++ x ∷ []) ≡ entries_of places ++ (x.group, layer_of x.device) ∷ []
entries_more [] x = refl
entries_more (c ∷ cs) x = ap (λ es. (c.group, layer_of c.device) ∷ es) (entries_more cs x)

-- one more place, of a group that had none
pub pushed_layer : (places new : List Place) (g : ℕ) (x : Place) → LacksBelow g places (length places) → new ≡ places ++ x ∷ [] → x.group ≡ g → caches_of new ≡ map.insert (caches_of places) g (layer_of x.device)
pushed_layer places new g x lacks e s = ap caches_of e ∙ ap map.from_entries (entries_more places x) ∙ (λ i. map.from_entries (entries_of places ++ (s i, layer_of x.device) ∷ []))
    ∙ map.from_entries_push nat_cmp_total map.nat_cmp-IsAntisymmetric (entries_of places) g (layer_of x.device) (none_found places g lacks)
