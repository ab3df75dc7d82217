-- The values of a walk where all caches are folds.
use Rattle.std.proofs.Common.{◌≡◌, ℕ, Bool, true, false, ◌||◌, cond, List, [], ◌∷◌, map, refl, sym, ap, ◌∙◌, arith, eqb, ◌⊎◌, inl, inr}
use Rattle.std.proofs.lemmas.Bool.Decides.{nat_tests}
use Rattle.pixel_core.specs.Rgba.{Rgba, clear}
use Rattle.geom_core.specs.Areas.{Area, holds, Point}
use Rattle.geom_core.proofs.Tests.{or_cases, or_left, or_right, equal_test}
use Rattle.doc_model.specs.Layers.{at}
use Rattle.doc_model.specs.Picture.{with_look}
use Rattle.doc_model.proofs.Shots.{at-shot_of}
use Rattle.machine_model.specs.State.{Child, State}
use Rattle.machine_model.specs.Groups.{children_of, on}
use Rattle.machine_model.specs.Covers.{folded}
use Rattle.machine_model.specs.Walks.{value_in, walk_folded, walk_values, looked_up, cut_child, shots_of}
use Rattle.machine_model.proofs.WalkFolds.{OnPathCached}
use Rattle.machine_model.proofs.WalkEndCaches.{firsts}
use Rattle.desk_core.specs.UpToDate.{AreCached, cached_at}

-- the groups that have values
abbrev pub keys_of_values : List (ℕ × Rgba) → List ℕ
keys_of_values values = map (λ (v : ℕ × Rgba). v.0) values

-- a child's value is its pixel, where the values are those of the caches and a group's pixels are its cache
value_now : (cached : ℕ → Rgba) (rect : Area) (values : List (ℕ × Rgba)) (c : Child) (p : Point) → holds rect p ≡ true → AreCached cached values → (on c.id (keys_of_values values) ≡ true → cached c.id ≡ at c.pixels p)
    → value_in values (cut_child rect c) p ≡ at c.pixels p
value_now cached rect [] c p h are own = at-shot_of (rect ∷ []) c.pixels p ∙ ap (λ b. cond b (at c.pixels p) c.pixels.default_pixel) (or_left (holds rect p) _ h)
value_now cached rect (v ∷ vs) c p h are own = go (eqb v.0 c.id) refl (value_now cached rect vs c p h are.1 (λ e. own (or_right (eqb v.0 c.id) _ e)))
  where
    go : (b : Bool) → eqb v.0 c.id ≡ b → value_in vs (cut_child rect c) p ≡ at c.pixels p → cond b v.1 (value_in vs (cut_child rect c) p) ≡ at c.pixels p
    go true e rest = let same : v.0 ≡ c.id = grind (arith, nat_tests) in are.0 ∙ ap cached same ∙ own (or_left (eqb v.0 c.id) _ e)
    go false e rest = rest

-- so the walk's fold is that of the children
folds_now : (cached : ℕ → Rgba) (rect : Area) (path : List ℕ) (values : List (ℕ × Rgba)) (cs : List Child) (p : Point) (b : Rgba) → holds rect p ≡ true → AreCached cached values → ((i : ℕ) → on i (keys_of_values values) ≡ true → on i path ≡ true) → OnPathCached path cached cs p
    → walk_folded values (map (cut_child rect) cs) p b ≡ folded cs p b
folds_now cached rect path values [] p b h are sub own = refl
folds_now cached rect path values (c ∷ cs) p b h are sub own =
    folds_now cached rect path values cs p (with_look c.look (value_in values (cut_child rect c) p) b) h are sub own.1
    ∙ ap (λ x. folded cs p (with_look c.look x b)) (value_now cached rect values c p h are (λ e. own.0 (sub c.id e)))

-- what a walk that starts computes is what the caches have
pub start_cached : (s : State) (rect : Area) (path gs : List ℕ) (values : List (ℕ × Rgba)) (p : Point) → holds rect p ≡ true → ((g : ℕ) → OnPathCached path (cached_at s.caches p) (children_of s g) p) → ((g : ℕ) → on g path ≡ true → cached_at s.caches p g ≡ folded (children_of s g) p clear)
    → AreCached (cached_at s.caches p) values → ((i : ℕ) → on i (keys_of_values values) ≡ true → on i path ≡ true) → ((i : ℕ) → on i gs ≡ true → on i path ≡ true) → AreCached (cached_at s.caches p) (walk_values (shots_of s rect gs) values p)
start_cached s rect path [] values p h own folds are sub within = are
start_cached s rect path (g ∷ gs) values p h own folds are sub within =
    start_cached s rect path gs ((g, walk_folded values (map (cut_child rect) (children_of s g)) p clear) ∷ values) p h own folds
    (folds_now (cached_at s.caches p) rect path values (children_of s g) p clear h are sub (own g) ∙ sym (folds g on_path), are)
    (λ i e. elim (or_cases (eqb g i) _ e) [ inl f ↦ within i (or_left (eqb g i) _ f) | inr f ↦ sub i f ])
    (λ i e. within i (or_right (eqb g i) _ e))
  where
    on_path : on g path ≡ true
    on_path = within g (or_left (eqb g g) _ (equal_test g))

-- where a walk's values are those of the caches, so is the one that is looked up
looked_cached : (cached : ℕ → Rgba) (vs : List (ℕ × Rgba)) (g : ℕ) → AreCached cached vs → on g (keys_of_values vs) ≡ true → looked_up vs g ≡ cached g
looked_cached cached [] g are h = absurd (let t : false ≡ true = h in cc)
looked_cached cached (v ∷ vs) g are h = go (eqb v.0 g) refl h (looked_cached cached vs g are.1)
  where
    go : (b : Bool) → eqb v.0 g ≡ b → (b || on g (keys_of_values vs)) ≡ true → (on g (keys_of_values vs) ≡ true → looked_up vs g ≡ cached g) → cond b v.1 (looked_up vs g) ≡ cached g
    go true e k rest = let same : v.0 ≡ g = grind (arith, nat_tests) in are.0 ∙ ap cached same
    go false e k rest = rest k

has_value : (es : List (ℕ × List Child)) (vs : List (ℕ × Rgba)) (g : ℕ) (p : Point) → (on g (firsts es) ≡ true) ⊎ (on g (keys_of_values vs) ≡ true) → on g (keys_of_values (walk_values es vs p)) ≡ true
has_value [] vs g p h = elim h [ inl e ↦ absurd (let t : false ≡ true = e in cc) | inr e ↦ e ]
has_value (e ∷ es) vs g p h = has_value es ((e.0, walk_folded vs e.1 p clear) ∷ vs) g p (elim h [
  | inl f ↦ elim (or_cases (eqb e.0 g) _ f) [ inl k ↦ inr (or_left (eqb e.0 g) _ k) | inr k ↦ inl k ]
  | inr f ↦ inr (or_right (eqb e.0 g) _ f)
])

pub value_cached : (cached : ℕ → Rgba) (es : List (ℕ × List Child)) (g : ℕ) (p : Point) → AreCached cached (walk_values es [] p) → on g (firsts es) ≡ true → looked_up (walk_values es [] p) g ≡ cached g
value_cached cached es g p are h = looked_cached cached (walk_values es [] p) g are (has_value es [] g p (inl h))

-- other caches with the same values
pub still_cached : (cached cached' : ℕ → Rgba) (vs : List (ℕ × Rgba)) → ((g : ℕ) → cached g ≡ cached' g) → AreCached cached vs → AreCached cached' vs
still_cached cached cached' [] same are = tt
still_cached cached cached' (v ∷ vs) same are = (are.0 ∙ same v.0, still_cached cached cached' vs same are.1)
