-- Where nothing covers the root, its cache is the picture.
use Rattle.machine_model.proofs.Choices.{same_laid}
use Rattle.geom_core.proofs.Tests.{kept, or_cases, or_left, or_right, both_true, and_left, and_right, not_true}
use Rattle.std.proofs.Common.{◌≡◌, ℕ, Bool, true, false, ◌&&◌, ◌||◌, List, [], ◌∷◌, refl, sym, ap, ◌∙◌, arith, eqb, inl, inr}
use Rattle.std.specs.Ordering.{nat_cmp}
use Rattle.std.specs.FinMap.{FinMap}
use Rattle.std.specs.List.{list_any, AllByRecursion}
use Rattle.std.proofs.lemmas.Bool.Decides.{nat_tests}
use Rattle.pixel_core.specs.Rgba.{Rgba, clear}
use Rattle.geom_core.specs.Areas.{holds, Point}
use Rattle.geom_core.specs.Rects.{any_holds}
use Rattle.doc_model.specs.declared.canvas.Walk.TheVariants.{Up}
use Rattle.doc_model.specs.declared.canvas.Patch.{Patch}
use Rattle.doc_model.specs.Layers.{Layer, at}
use Rattle.doc_model.specs.Jobs.{writes}
use Rattle.doc_model.specs.Forest.{none, paint, group, has, is_group}
use Rattle.doc_model.specs.Picture.{Doc, laid}
use Rattle.doc_model.proofs.Parents.{Distinct}
use Rattle.doc_model.proofs.Weights.{tree_distinct, tree_root}
use Rattle.doc_model.specs.Ids.{IsTree}
use Rattle.doc_model.specs.Queues.{queued_for}
use Rattle.doc_model.proofs.Paths.{KidsIn, kids_rest, kids_nodes, kids_other, kids_here}
use Rattle.machine_model.specs.State.{Slot, Free, Paints, Walks, State, head_stroke}
use Rattle.machine_model.specs.Groups.{cache, with_pixels, nodes_in, children_of, path_of, on}
use Rattle.machine_model.specs.Covers.{folded, covered, painted_group, composes}
use Rattle.machine_model.specs.Slots.{is_painter, is_walker, no_painter, no_walker}
use Rattle.machine_model.specs.Walking.{WalkStands}
use Rattle.machine_model.proofs.WalkPaths.{grouped, path_root}
use Rattle.machine_model.proofs.Covers.{groups_of, slot_on, any_slot, painted_path, covered_is}
use Rattle.machine_model.proofs.JobCaches.{either_covers}
use Rattle.machine_model.proofs.StateTrees.{present_tree}
use Rattle.machine_model.specs.PictureLaws.{CoveredReachesRoot, CleanIsPicture}

-- where each cache is the fold of the children, the fold is the picture
folded_laid : (caches : FinMap nat_cmp Layer) (kids : ℕ → Doc) (f : Doc) (p : Point) (b c : Rgba) → b ≡ c → Distinct f → KidsIn kids f → ((g : ℕ) → is_group g f ≡ true → at (cache caches g) p ≡ folded (with_pixels caches (kids g)) p clear)
    → folded (with_pixels caches f) p b ≡ laid f p c
folded_laid caches kids none p b c e d k fold = e
folded_laid caches kids (paint id look x rest) p b c e d k fold = folded_laid caches kids rest p _ _ (same_laid (λ _. look) refl e) d.1 (kids_rest kids id look x rest d.0 k) (λ g h. fold g h)
folded_laid caches kids (group id look nodes rest) p b c e d k fold =
    folded_laid caches kids rest p _ _ (same_laid (λ _. look) (here (folded_laid caches kids nodes p clear clear refl d.3 (kids_nodes kids id look nodes rest d k) (λ g h. fold g (or_right (eqb g id) _ (or_left (is_group g nodes) _ h))))) e)
    d.4 (kids_other kids id look nodes rest d k) (λ g h. fold g (or_right (eqb g id) _ (or_right (is_group g nodes) _ h)))
  where
    equal_test : (d : ℕ) → eqb d d ≡ true
    equal_test d = grind (arith, nat_tests)

    here : folded (with_pixels caches nodes) p clear ≡ laid nodes p clear → at (cache caches id) p ≡ laid nodes p clear
    here inside = fold id (or_left (eqb id id) _ (equal_test id)) ∙ ap (λ n. folded (with_pixels caches n) p clear) (kids_here kids id look nodes rest k) ∙ inside

-- what covers a group covers the root
root_covered : (s : State) → AllByRecursion (WalkStands s) s.slots → (g : ℕ) (p : Point) → covered s g p ≡ true → covered s 0 p ≡ true
root_covered s stands g p h = covered_is s 0 p ∙ either_covers _ _ _ (λ e. or_left _ _ (patches s.updates e)) (λ e. or_right (queued_for (composes 0 s.present) s.updates p) _ (slots s.slots stands e)) (sym (covered_is s g p) ∙ h)
  where
    patches : (ps : List Patch) → queued_for (composes g s.present) ps p ≡ true → queued_for (composes 0 s.present) ps p ≡ true
    patches [] e = e
    patches (q ∷ ps) e = elim (or_cases (on g (path_of q.walk s.present) && holds q.rect p) _ e) [
      | inl f ↦ or_left _ _ (both_true _ _ (path_root q.walk s.present) (and_right (on g (path_of q.walk s.present)) _ f))
      | inr f ↦ or_right (on 0 (path_of q.walk s.present) && holds q.rect p) _ (patches ps f)
    ]

    slots : (xs : List Slot) → AllByRecursion (WalkStands s) xs → list_any (λ slot. any_slot slot && slot_on (painted_path s) g p slot) xs ≡ true → list_any (λ slot. any_slot slot && slot_on (painted_path s) 0 p slot) xs ≡ true
    slots [] a e = e
    slots (Free ∷ xs) a e = slots xs a.1 e
    slots (Paints w ∷ xs) a e = elim (or_cases (any_holds (writes w.job) p && on g (painted_path s)) _ e) [
      | inl f ↦ or_left _ _ (both_true _ _ (and_left (any_holds (writes w.job) p) _ f) (path_root (Up (painted_group s (head_stroke s))) s.present))
      | inr f ↦ or_right (any_holds (writes w.job) p && on 0 (painted_path s)) _ (slots xs a.1 f)
    ]
    slots (Walks w ∷ xs) a e = elim (or_cases (holds w.patch.rect p && on g (groups_of w)) _ e) [
      | inl f ↦ or_left _ _ (both_true _ _ (and_left (holds w.patch.rect p) _ f) (ap (on 0) a.0.1 ∙ path_root w.patch.walk s.present))
      | inr f ↦ or_right (holds w.patch.rect p && on 0 (groups_of w)) _ (slots xs a.1 f)
    ]

-- a sound state whose root isn't covered at a point of the canvas has the picture there
pub covered_reaches_root : CoveredReachesRoot
covered_reaches_root s g p sound h = root_covered s sound.walking.walks g p h

pub clean_is_picture : CleanIsPicture
clean_is_picture s sound p inside clean = fold 0 refl ∙ folded_laid s.caches (λ g. nodes_in g s.present) s.present p clear clear refl (tree_distinct s.present tree) kids (λ g h. fold g (or_right (eqb g 0) _ h))
  where
    tree : IsTree s.present
    tree = present_tree s sound.orderly

    kids : KidsIn (λ g. nodes_in g s.present) s.present
    kids g there = kept (eqb g 0) _ _ (not_root (eqb g 0) refl)
      where
        not_root : (b : Bool) → eqb g 0 ≡ b → b ≡ false
        not_root true e = let is : g ≡ 0 = grind (arith, nat_tests) in absurd (let t : has g s.present ≡ false = ap (λ n. has n s.present) is ∙ tree_root s.present tree in cc)
        not_root false e = refl

    fold : (g : ℕ) → grouped g s.present ≡ true → at (cache s.caches g) p ≡ folded (children_of s g) p clear
    fold g is = elim (sound.caches g p is inside) [
      | inl e ↦ e
      | inr e ↦ absurd (let t : covered s 0 p ≡ true = root_covered s sound.orderly.walking.walks g p e in cc)
    ]

-- where nothing is at work and nothing waits, nothing is covered
pub still_is_clean : (s : State) → s.updates ≡ [] → no_painter s ≡ true → no_walker s ≡ true → (g : ℕ) (p : Point) → covered s g p ≡ false
still_is_clean s updates painters walkers g p = covered_is s g p
    ∙ ap (λ q. queued_for (composes g s.present) q p || list_any (λ slot. any_slot slot && slot_on (painted_path s) g p slot) s.slots) updates
    ∙ slots s.slots (not_true _ painters) (not_true _ walkers)
  where
    slots : (xs : List Slot) → list_any is_painter xs ≡ false → list_any is_walker xs ≡ false → list_any (λ slot. any_slot slot && slot_on (painted_path s) g p slot) xs ≡ false
    slots [] a b = refl
    slots (Free ∷ xs) a b = slots xs a b
    slots (Paints w ∷ xs) a b = absurd (let t : true ≡ false = a in cc)
    slots (Walks w ∷ xs) a b = absurd (let t : true ≡ false = b in cc)
