-- A walk that ends keeps what caches and running walks hold.
use Rattle.std.proofs.Common.{◌≡◌, ℕ, Bool, true, false, ◌&&◌, ◌||◌, cond, List, [], ◌∷◌, map, refl, sym, ap, ◌∙◌, arith, eqb, subst, ◌⊎◌, inl, inr}
use Rattle.std.specs.Prelude.{slice_set}
use Rattle.std.specs.Ordering.{nat_cmp}
use Rattle.std.specs.FinMap.{FinMap}
use Rattle.std.specs.List.{list_any, AllByRecursion}
use Rattle.std.proofs.lemmas.Bool.Decides.{nat_tests}
use Rattle.pixel_core.specs.Rgba.{clear}
use Rattle.geom_core.specs.Areas.{holds, Point}
use Rattle.geom_core.specs.Grid.{key_of}
use Rattle.geom_core.proofs.Keys.{key_of_held}
use Rattle.doc_model.specs.declared.canvas.Walk.{Walk}
use Rattle.doc_model.specs.declared.canvas.Patch.{Patch}
use Rattle.doc_model.specs.Layers.{Layer, at}
use Rattle.doc_model.specs.Picture.{Doc, canvas_area}
use Rattle.doc_model.specs.Forest.{none, paint, group, has, is_group, children}
use Rattle.doc_model.proofs.Parents.{side}
use Rattle.doc_model.proofs.Weights.{tree_distinct, tree_root}
use Rattle.doc_model.specs.Ids.{IsTree}
use Rattle.doc_model.specs.Queues.{queued_for}
use Rattle.doc_model.proofs.Paths.{Orderly, side_paint, paint_child_no_group, paint_row_no_group}
use Rattle.geom_core.proofs.Tests.{or_cases, or_left, or_right, and_left, and_right, neither}
use Rattle.machine_model.specs.State.{Child, Walker, Slot, Free, Walks, State}
use Rattle.machine_model.specs.Groups.{cache, with_pixels, nodes_in, children_of, path_of, on}
use Rattle.machine_model.specs.Covers.{folded}
use Rattle.machine_model.specs.Slots.{is_painter}
use Rattle.machine_model.specs.Step.{WalkEndStep}
use Rattle.machine_model.specs.Walks.{walk_value, walk_values, looked_up}
use Rattle.machine_model.specs.Caches.{CachesFold, WalkIsRight, WalkReads, SamePixels, covered_by_others}
use Rattle.machine_model.specs.Walking.{WalkStands, IsGroupOf, SameChildren, WalkInside}
use Rattle.machine_model.proofs.Lists.{all_set, all_get}
use Rattle.machine_model.proofs.WalkFolds.{walk_settles, Ordered, ComposedBefore, OnPathCached, Distinct as DistinctShots}
use Rattle.machine_model.proofs.WalkPaths.{grouped, path_grouped, path_orderly_of, child_there}
use Rattle.machine_model.proofs.Covers.{groups_of, slot_on, any_slot, covered_by, painted_path, IsFold, IsRead, FoldsAt, caches_by, walks_by, all_on, shots_by, read_covers, any_set_same, any_set_or, others_is}
use Rattle.machine_model.proofs.JobCaches.{either_covers}
use Rattle.machine_model.proofs.OtherPixels.{fold_new}

-- the groups of a shot
abbrev pub firsts : List (ℕ × List Child) → List ℕ
firsts xs = map (λ (e : ℕ × List Child). e.0) xs

-- each child on the path was composed before its group
composed : (path bs : List ℕ) (caches : FinMap nat_cmp Layer) (read : List Child) (f : Doc) → SameChildren read (with_pixels caches f) → ((c : ℕ) → side c f ≡ true → on c bs ≡ on c path) → ComposedBefore path bs read
composed path bs caches [] f same before = tt
composed path bs caches (r ∷ read) none same before = absurd same
composed path bs caches (r ∷ read) (paint id look x rest) same before = (ap (λ n. on n bs) same.0 ∙ before id (or_left (eqb id id) _ (equal_test id)) ∙ ap (λ n. on n path) (sym same.0), composed path bs caches read rest same.2 (λ c h. before c (or_right (eqb c id) _ h)))
  where
    equal_test : (d : ℕ) → eqb d d ≡ true
    equal_test d = grind (arith, nat_tests)
composed path bs caches (r ∷ read) (group id look nodes rest) same before = (ap (λ n. on n bs) same.0 ∙ before id (or_left (eqb id id) _ (equal_test id)) ∙ ap (λ n. on n path) (sym same.0), composed path bs caches read rest same.2 (λ c h. before c (or_right (eqb c id) _ h)))
  where
    equal_test : (d : ℕ) → eqb d d ≡ true
    equal_test d = grind (arith, nat_tests)

-- so the walk composes children before their groups
pub ordered_from : (path bs : List ℕ) (s : State) (shots : List (ℕ × List Child)) → ((c : ℕ) → on c path ≡ (on c bs || on c (firsts shots))) → Orderly (λ g. nodes_in g s.present) (firsts shots)
    → AllByRecursion (λ (e : ℕ × List Child). SameChildren e.1 (children_of s e.0)) shots → Ordered path bs shots
ordered_from path bs s [] split orderly same = tt
ordered_from path bs s (e ∷ more) split orderly same = (
  composed path bs s.caches e.1 (nodes_in e.0 s.present) same.0 (λ c h. sym (split c ∙ ap (λ b. on c bs || b) (orderly.1 c h) ∙ or-false (on c bs))),
  ordered_from path (e.0 ∷ bs) s more (λ c. split c ∙ turned (on c bs) (eqb e.0 c) (on c (firsts more))) orderly.2 same.1,
)
  where
    or-false : (b : Bool) → (b || false) ≡ b
    or-false true = refl
    or-false false = refl

    turned : (a b c : Bool) → (a || (b || c)) ≡ ((b || a) || c)
    turned true true c = refl
    turned true false c = refl
    turned false true c = refl
    turned false false c = refl

pub distinct_from : (s : State) (shots : List (ℕ × List Child)) → Orderly (λ g. nodes_in g s.present) (firsts shots) → DistinctShots shots
distinct_from s [] orderly = tt
distinct_from s (e ∷ more) orderly = (orderly.0, distinct_from s more orderly.2)

-- a child on the path is a group
pub on_path_cached : (path : List ℕ) (caches : FinMap nat_cmp Layer) (f : Doc) (p : Point) → ((c : ℕ) → side_paint c f ≡ true → on c path ≡ false) → OnPathCached path (λ g. at (cache caches g) p) (with_pixels caches f) p
on_path_cached path caches none p off = tt
on_path_cached path caches (paint id look x rest) p off = ((λ e. absurd (let t : on id path ≡ false = off id (or_left (eqb id id) _ (equal_test id)) in cc)), on_path_cached path caches rest p (λ c h. off c (or_right (eqb c id) _ h)))
  where
    equal_test : (d : ℕ) → eqb d d ≡ true
    equal_test d = grind (arith, nat_tests)
on_path_cached path caches (group id look nodes rest) p off = ((λ e. refl), on_path_cached path caches rest p off)

side_paint_there : (c : ℕ) (f : Doc) → side_paint c f ≡ true → side c f ≡ true
side_paint_there c none e = e
side_paint_there c (paint id look x rest) e = elim (or_cases (eqb c id) _ e) [ inl h ↦ or_left (eqb c id) _ h | inr h ↦ or_right (eqb c id) _ (side_paint_there c rest h) ]
side_paint_there c (group id look nodes rest) e = or_right (eqb c id) _ (side_paint_there c rest e)

-- a paint node stands on no path
pub paint_off_path : (c g : ℕ) (w : Walk) (doc : Doc) → IsTree doc → IsGroupOf doc w → side_paint c (nodes_in g doc) ≡ true → on c (path_of w doc) ≡ false
paint_off_path c g w doc t is child = go (on c (path_of w doc)) refl
  where
    no_group : is_group c doc ≡ false
    no_group = by (eqb g 0) child
      where
        by : (b : Bool) → side_paint c (cond b doc (children g doc)) ≡ true → is_group c doc ≡ false
        by true h = paint_row_no_group c doc (tree_distinct doc t) h
        by false h = paint_child_no_group g c doc (tree_distinct doc t) h

    not_root : eqb c 0 ≡ false
    not_root = by (eqb c 0) refl
      where
        by : (b : Bool) → eqb c 0 ≡ b → b ≡ false
        by true e = let is : 0 ≡ c = grind (arith, nat_tests) in absurd (let h : has c doc ≡ true = child_there c g doc (side_paint_there c (nodes_in g doc) child) in let k : has c doc ≡ false = ap (λ n. has n doc) (sym is) ∙ tree_root doc t in cc)
        by false e = refl

    go : (b : Bool) → on c (path_of w doc) ≡ b → b ≡ false
    go true e = absurd (let h : grouped c doc ≡ true = path_grouped w c doc (tree_distinct doc t) is e in let k : grouped c doc ≡ false = neither (eqb c 0) _ not_root no_group in cc)
    go false e = refl

all_pick : (R : ℕ → Type 0) (xs : List (ℕ × List Child)) (g : ℕ) → AllByRecursion (λ (e : ℕ × List Child). R e.0) xs → on g (firsts xs) ≡ true → R g
all_pick R [] g all h = absurd (let t : false ≡ true = h in cc)
all_pick R (e ∷ xs) g all h = elim (or_cases (eqb e.0 g) (on g (firsts xs)) h) [
  | inl f ↦ (let is : e.0 ≡ g = grind (arith, nat_tests) in subst R is all.0)
  | inr f ↦ all_pick R xs g all.1 f
]

all_every : (P : ℕ × List Child → Type 0) → ((e : ℕ × List Child) → P e) → (xs : List (ℕ × List Child)) → AllByRecursion P xs
all_every P f [] = tt
all_every P f (x ∷ xs) = (f x, all_every P f xs)

walk_value_is : (shot : List (ℕ × List Child)) (g : ℕ) (p : Point) → walk_value shot g p ≡ looked_up (walk_values shot [] p) g
unfolding walk_value
walk_value_is shot g p = refl

module _ (old new : State) (place : ℕ) (step : WalkEndStep old place new) where
  -- the walk that ends
  abbrev w : Walker
  w = step.walker

  -- the cache of each group on the path is the fold of its children, or something else covers it
  settled : IsTree old.present → WalkStands old (Walks w) → WalkIsRight old (Walks w) → (g : ℕ) (p : Point) → holds w.patch.rect p ≡ true → on g (groups_of w) ≡ true
      → (at (cache old.caches g) p ≡ folded (children_of old g) p clear) ⊎ (covered_by_others old g p ≡ true)
  settled tree stands right g p held on' = all_pick (λ g. (at (cache old.caches g) p ≡ folded (children_of old g) p clear) ⊎ (covered_by_others old g p ≡ true)) w.shot g
      (shots_by (λ e. on e.0 (groups_of w) ≡ true) (λ e. SamePixels (groups_of w) e.1 (children_of old e.0) p → at (cache old.caches e.0) p ≡ folded (children_of old e.0) p clear) (λ e. WalkReads old w e.0 e.1 p)
      (λ e. (at (cache old.caches e.0) p ≡ folded (children_of old e.0) p clear) ⊎ (covered_by_others old e.0 p ≡ true)) (λ e a b c. elim c.current [ inl same ↦ inl (b same) | inr h ↦ inr h ])
      w.shot (all_on w.shot) settles reads) on'
    where
      reads : AllByRecursion (λ (e : ℕ × List Child). WalkReads old w e.0 e.1 p) w.shot
      reads = right p held

      orderly : Orderly (λ g. nodes_in g old.present) (groups_of w)
      orderly = subst (Orderly (λ g. nodes_in g old.present)) (sym stands.1) (path_orderly_of w.patch.walk old.present tree)

      off : (g c : ℕ) → side_paint c (nodes_in g old.present) ≡ true → on c (groups_of w) ≡ false
      off g c h = ap (on c) stands.1 ∙ paint_off_path c g w.patch.walk old.present tree stands.0 h

      told : (e : ℕ × List Child) → on e.0 (groups_of w) ≡ true → WalkReads old w e.0 e.1 p → at (cache old.caches e.0) p ≡ looked_up (walk_values w.shot [] p) e.0
      told e a c = c.published (step.all e.0 (key_of p) a (key_of_held w.patch.rect p held)) ∙ walk_value_is w.shot e.0 p

      all_told : AllByRecursion (λ (e : ℕ × List Child). at (cache old.caches e.0) p ≡ looked_up (walk_values w.shot [] p) e.0) w.shot
      all_told = shots_by (λ e. on e.0 (groups_of w) ≡ true) (λ e. on e.0 (groups_of w) ≡ true) (λ e. WalkReads old w e.0 e.1 p) (λ e. at (cache old.caches e.0) p ≡ looked_up (walk_values w.shot [] p) e.0) (λ e a b c. told e a c) w.shot (all_on w.shot) (all_on w.shot) reads

      settles : AllByRecursion (λ (e : ℕ × List Child). SamePixels (groups_of w) e.1 (children_of old e.0) p → at (cache old.caches e.0) p ≡ folded (children_of old e.0) p clear) w.shot
      settles = walk_settles (λ g. at (cache old.caches g) p) (λ g. children_of old g) (groups_of w) p w.shot [] tt
          (ordered_from (groups_of w) [] old w.shot (λ c. refl) orderly stands.2) (distinct_from old w.shot orderly) stands.2
          (all_every (λ e. OnPathCached (groups_of w) (λ g. at (cache old.caches g) p) (children_of old e.0) p) (λ e. on_path_cached (groups_of w) old.caches (nodes_in e.0 old.present) p (off e.0)) w.shot) all_told

  -- what other work covers stays so
  others : (keep : Slot → Bool) (g : ℕ) (p : Point) → covered_by keep old.present (painted_path old) old.updates old.slots g p ≡ true → ((keep (Walks w) && (holds w.patch.rect p && on g (groups_of w))) ≡ true) ⊎ (covered_by keep old.present (painted_path old) old.updates (slice_set old.slots place Free) g p ≡ true)
  others keep g p h = elim (or_cases (queued_for (λ v. on g (path_of v old.present)) old.updates p) _ h) [
    | inl e ↦ inr (or_left _ _ e)
    | inr e ↦ elim (any_set_or (λ slot. keep slot && slot_on (painted_path old) g p slot) old.slots place (Walks w) Free step.runs e) [ inl f ↦ inl f | inr f ↦ inr (or_right (queued_for (λ v. on g (path_of v old.present)) old.updates p) _ f) ]
  ]

  painters_same : (g : ℕ) (p : Point) → covered_by is_painter old.present (painted_path old) old.updates (slice_set old.slots place Free) g p ≡ covered_by is_painter old.present (painted_path old) old.updates old.slots g p
  painters_same g p = ap (λ b. queued_for (λ v. on g (path_of v old.present)) old.updates p || b) (any_set_same (λ slot. is_painter slot && slot_on (painted_path old) g p slot) old.slots place (Walks w) Free step.runs refl)

  weaker : (updates : List Patch) (slots : List Slot) (g : ℕ) (p : Point) → covered_by is_painter old.present (painted_path old) updates slots g p ≡ true → covered_by any_slot old.present (painted_path old) updates slots g p ≡ true
  weaker updates slots g p = either_covers _ _ _ (λ e. or_left _ _ e) (λ e. or_right (queued_for (λ v. on g (path_of v old.present)) updates p) _ (some slots e))
    where
      some : (slots : List Slot) → list_any (λ slot. is_painter slot && slot_on (painted_path old) g p slot) slots ≡ true → list_any (λ slot. any_slot slot && slot_on (painted_path old) g p slot) slots ≡ true
      some [] e = e
      some (x ∷ xs) e = elim (or_cases (is_painter x && slot_on (painted_path old) g p x) _ e) [ inl f ↦ or_left _ _ (and_right (is_painter x) _ f) | inr f ↦ or_right (slot_on (painted_path old) g p x) _ (some xs f) ]

  pub caches_walk_end : IsTree old.present → AllByRecursion (WalkStands old) old.slots → AllByRecursion (WalkIsRight old) old.slots → CachesFold old → CachesFold new
  caches_walk_end tree stands right = caches_by old new (ap (λ (s : State). s.canvas) step.new_is) (λ g h. ap (λ (s : State). grouped g s.present) (sym step.new_is) ∙ h)
      (λ g p is inside h. subst (λ s. IsFold s g p) (sym step.new_is) (go g p h.is))
    where
      stands_w : WalkStands old (Walks w)
      stands_w = all_get (WalkStands old) old.slots place (Walks w) stands step.runs

      right_w : WalkIsRight old (Walks w)
      right_w = all_get (WalkIsRight old) old.slots place (Walks w) right step.runs

      go : (g : ℕ) (p : Point) → (at (cache old.caches g) p ≡ folded (with_pixels old.caches (nodes_in g old.present)) p clear) ⊎ (covered_by any_slot old.present (painted_path old) old.updates old.slots g p ≡ true) → FoldsAt old.caches old.present (painted_path old) old.updates (slice_set old.slots place Free) g p
      go g p (inl e) = record { is = inl e }
      go g p (inr e) = elim (others any_slot g p e) [
        | inl f ↦ record {
          is = elim (settled tree stands_w right_w g p (and_left (holds w.patch.rect p) _ f) (and_right (holds w.patch.rect p) _ f)) [
            | inl same ↦ inl same
            | inr more ↦ inr (weaker old.updates (slice_set old.slots place Free) g p (painters_same g p ∙ sym (others_is old g p) ∙ more))
          ];
        }
        | inr f ↦ fold_new f
      ]

  pub walks_walk_end : AllByRecursion (WalkStands old) old.slots → AllByRecursion (WalkInside (canvas_area old.canvas)) old.slots → AllByRecursion (WalkIsRight old) old.slots → AllByRecursion (WalkIsRight new) new.slots
  walks_walk_end stands inside right = subst (AllByRecursion (WalkIsRight new)) (ap (λ (s : State). s.slots) (sym step.new_is))
      (all_set (WalkIsRight new) old.slots place Free
      (walks_by old new (λ v is path p g read held inside on' same h. subst (λ s. IsRead s v g read p) (sym step.new_is) (read_covers (λ c. painters_same g p ∙ c) h)) old.slots stands inside right) tt)
