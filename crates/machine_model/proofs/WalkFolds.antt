-- What a walk that ends leaves: the cache of each group on its path is the fold of the group's children, unless something else covers it.
use Rattle.machine_model.proofs.Choices.{same_laid}
use Rattle.geom_core.proofs.Tests.{none_left, none_right, kept, taken}
use Rattle.std.proofs.Common.{◌≡◌, ℕ, Bool, true, false, ◌||◌, cond, List, [], ◌∷◌, map, refl, sym, ap, ◌∙◌, arith, eqb}
use Rattle.std.specs.List.{AllByRecursion}
use Rattle.std.proofs.lemmas.Bool.Decides.{nat_tests}
use Rattle.pixel_core.specs.Rgba.{Rgba, clear}
use Rattle.geom_core.specs.Areas.{Point}
use Rattle.doc_model.specs.Layers.{at}
use Rattle.machine_model.specs.State.{Child}
use Rattle.machine_model.specs.Groups.{on}
use Rattle.machine_model.specs.Covers.{folded}
use Rattle.machine_model.specs.Walks.{walk_values, walk_folded, value_in, looked_up}
use Rattle.machine_model.specs.Walking.{SameChildren}
use Rattle.machine_model.specs.Caches.{SamePixels}

-- the value of each child as the walk reads it is the child's pixel now
abbrev Reads : List (ℕ × Rgba) → List Child → List Child → Point → Type 0
Reads values [] [] p = Unit {0}
Reads values (a ∷ xs) (b ∷ ys) p = (value_in values a p ≡ at b.pixels p) × Reads values xs ys p
Reads values [] (b ∷ ys) p = ⊥
Reads values (a ∷ xs) [] p = ⊥

-- then the walk's fold is the fold of the children now
walk_folded_now : (values : List (ℕ × Rgba)) (xs ys : List Child) (p : Point) (b c : Rgba) → SameChildren xs ys → Reads values xs ys p → b ≡ c → walk_folded values xs p b ≡ folded ys p c
walk_folded_now values [] [] p b c same reads e = e
walk_folded_now values (x ∷ xs) (y ∷ ys) p b c same reads e = walk_folded_now values xs ys p _ _ same.2 reads.1 (same_laid same.1 reads.0 e)
walk_folded_now values [] (y ∷ ys) p b c same reads e = absurd same
walk_folded_now values (x ∷ xs) [] p b c same reads e = absurd same

-- values that the walk has computed so far are those in the caches
abbrev Cached : (ℕ → Rgba) → List (ℕ × Rgba) → Type 0
Cached caches [] = Unit {0}
Cached caches (v ∷ vs) = (v.1 ≡ caches v.0) × Cached caches vs

-- the groups that have values
abbrev keys_of_values : List (ℕ × Rgba) → List ℕ
keys_of_values values = map (λ (v : ℕ × Rgba). v.0) values

-- a child that was computed counts with its cache, every other one with the pixel that was read
value_in_cached : (caches : ℕ → Rgba) (values : List (ℕ × Rgba)) (c : Child) (p : Point) → Cached caches values → value_in values c p ≡ cond (on c.id (keys_of_values values)) (caches c.id) (at c.pixels p)
value_in_cached caches [] c p cached = refl
value_in_cached caches (v ∷ vs) c p cached = go (value_in_cached caches vs c p cached.1) (eqb v.0 c.id) refl
  where
    go : value_in vs c p ≡ cond (on c.id (keys_of_values vs)) (caches c.id) (at c.pixels p) → (b : Bool) → eqb v.0 c.id ≡ b → cond b v.1 (value_in vs c p) ≡ cond (b || on c.id (keys_of_values vs)) (caches c.id) (at c.pixels p)
    go rest true e = let same : v.0 ≡ c.id = grind (arith, nat_tests) in cached.0 ∙ ap caches same
    go rest false e = rest

-- the groups of a shot
abbrev groups_of : List (ℕ × List Child) → List ℕ
groups_of shots = map (λ (e : ℕ × List Child). e.0) shots

-- a child that the walk composes was composed before its group
abbrev pub ComposedBefore : List ℕ → List ℕ → List Child → Type 0
ComposedBefore path before [] = Unit {0}
ComposedBefore path before (c ∷ cs) = (on c.id before ≡ on c.id path) × ComposedBefore path before cs

-- so it is for each group of a shot
abbrev pub Ordered : List ℕ → List ℕ → List (ℕ × List Child) → Type 0
Ordered path before [] = Unit {0}
Ordered path before (e ∷ more) = ComposedBefore path before e.1 × Ordered path (e.0 ∷ before) more

-- no group stands twice
abbrev pub Distinct : List (ℕ × List Child) → Type 0
Distinct [] = Unit {0}
Distinct (e ∷ more) = (on e.0 (groups_of more) ≡ false) × Distinct more

-- a child on the path is a group, whose pixels are its cache
abbrev pub OnPathCached : List ℕ → (ℕ → Rgba) → List Child → Point → Type 0
OnPathCached path caches [] p = Unit {0}
OnPathCached path caches (c ∷ cs) p = (on c.id path ≡ true → caches c.id ≡ at c.pixels p) × OnPathCached path caches cs p

-- what is computed later changes no value of another group
looked_up_later : (shots : List (ℕ × List Child)) (values : List (ℕ × Rgba)) (g : ℕ) (p : Point) → on g (groups_of shots) ≡ false → looked_up (walk_values shots values p) g ≡ looked_up values g
looked_up_later [] values g p out = refl
looked_up_later (e ∷ more) values g p out =
    looked_up_later more ((e.0, walk_folded values e.1 p clear) ∷ values) g p (none_right (eqb e.0 g) _ out)
    ∙ kept (eqb e.0 g) _ _ (none_left (eqb e.0 g) _ out)

looked_up_here : (values : List (ℕ × Rgba)) (g : ℕ) (v : Rgba) → looked_up ((g, v) ∷ values) g ≡ v
looked_up_here values g v = taken (eqb g g) _ _ (grind (arith, nat_tests))

either_way : (b : Bool) (x y z : Rgba) → (b ≡ true → x ≡ z) → (b ≡ false → y ≡ z) → cond b x y ≡ z
either_way true x y z e h = e refl
either_way false x y z e h = h refl

reads_now : (path : List ℕ) (caches : ℕ → Rgba) (values : List (ℕ × Rgba)) (xs ys : List Child) (p : Point) → Cached caches values → ComposedBefore path (keys_of_values values) xs → SameChildren xs ys → OnPathCached path caches ys p → SamePixels path xs ys p → Reads values xs ys p
reads_now path caches values [] [] p cached before same groups pixels = tt
reads_now path caches values (x ∷ xs) (y ∷ ys) p cached before same groups pixels = (
  value_in_cached caches values x p cached
      ∙ either_way (on x.id (keys_of_values values)) _ _ _
      (λ e. ap caches same.0 ∙ groups.0 (ap (λ i. on i path) (sym same.0) ∙ sym before.0 ∙ e))
      (λ e. pixels.0 (sym before.0 ∙ e)),
  reads_now path caches values xs ys p cached before.1 same.2 groups.1 pixels.1,
)
reads_now path caches values [] (y ∷ ys) p cached before same groups pixels = absurd same
reads_now path caches values (x ∷ xs) [] p cached before same groups pixels = absurd same

-- where a walk has published all, the cache of each group whose other children haven't changed since is the fold of its children
pub walk_settles : (caches : ℕ → Rgba) (kids : ℕ → List Child) (path : List ℕ) (p : Point) (shots : List (ℕ × List Child)) (values : List (ℕ × Rgba))
    → Cached caches values → Ordered path (keys_of_values values) shots → Distinct shots
    → AllByRecursion (λ (e : ℕ × List Child). SameChildren e.1 (kids e.0)) shots
    → AllByRecursion (λ (e : ℕ × List Child). OnPathCached path caches (kids e.0) p) shots
    → AllByRecursion (λ (e : ℕ × List Child). caches e.0 ≡ looked_up (walk_values shots values p) e.0) shots
    → AllByRecursion (λ (e : ℕ × List Child). SamePixels path e.1 (kids e.0) p → caches e.0 ≡ folded (kids e.0) p clear) shots
walk_settles caches kids path p [] values cached ordered distinct same groups published = tt
walk_settles caches kids path p (e ∷ more) values cached ordered distinct same groups published = (
  (λ pixels. here ∙ walk_folded_now values e.1 (kids e.0) p clear clear same.0 (reads_now path caches values e.1 (kids e.0) p cached ordered.0 same.0 groups.0 pixels) refl),
  walk_settles caches kids path p more ((e.0, walk_folded values e.1 p clear) ∷ values) (sym here, cached) ordered.1 distinct.1 same.1 groups.1 published.1,
)
  where
    here : caches e.0 ≡ walk_folded values e.1 p clear
    here = published.0 ∙ looked_up_later more ((e.0, walk_folded values e.1 p clear) ∷ values) e.0 p distinct.0 ∙ looked_up_here values e.0 (walk_folded values e.1 p clear)
