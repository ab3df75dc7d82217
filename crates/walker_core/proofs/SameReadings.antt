-- Walks that read the same.
use Rattle.std.proofs.Common.{◌≡◌, ◌≢◌, ℕ, zero, suc, ◌+◌, ◌<◌, ◌≤◌, ◌&&◌, Bool, true, false, cond, List, [], ◌∷◌, length, map, drop, get_or, refl, sym, ap, subst, ◌∙◌, arith, eqb, add-one, drop-cons}
use Rattle.std.proofs.lemmas.Bool.Decides.{nat_tests}
use Rattle.std.proofs.lemmas.List.{drop_all}
use Rattle.pixel_core.specs.Rgba.{Rgba, clear}
use Rattle.geom_core.specs.Areas.{Area, holds, Point, point}
use Rattle.geom_core.specs.Rects.{IsShared}
use Rattle.geom_core.specs.Grid.{Key, key_of, tile}
use Rattle.geom_core.proofs.Tests.{and_left, and_right}
use Rattle.geom_core.proofs.Tiles.{key_same, key_is, key_of_holder, holder}
use Rattle.tile_core.specs.Shots.{SameInTile}
use Rattle.tile_core.proofs.SameSights.{corner_held}
use Rattle.doc_model.specs.declared.tree.Look.{Look}
use Rattle.doc_model.specs.Layers.{at}
use Rattle.doc_model.specs.Picture.{with_look}
use Rattle.machine_model.specs.State.{Child}
use Rattle.machine_model.specs.Walks.{value_in, walk_folded, walk_values, looked_up, walk_value}
use Rattle.walker_core.specs.declared.gathered.Source.{Source}
use Rattle.walker_core.specs.Readings.{Readings, path_in}
use Rattle.walker_core.specs.Sameness.{child_at, groups_at, ReadTheSame, SameValues}
use Rattle.walker_core.specs.Alike.{HasPointIn, AlikeChild, AlikeChildren, AlikeGroups}
use Rattle.walker_core.specs.Steps.{StepsOn, StopsAt}
use Rattle.walker_core.specs.Views.{child_of, children_in, groups_of}
use Rattle.walker_core.proofs.Shown.{at_layer_on}

-- children that are the same at a point
value_same : (vs : List (ℕ × Rgba)) (c d : Child) (p : Point) → child_at p c ≡ child_at p d → value_in vs c p ≡ value_in vs d p
value_same [] c d p e = ap (λ (t : ℕ × (Look × Rgba)). t.1.1) e
value_same (v ∷ vs) c d p e = λ i. cond (eqb v.0 (e i).0) v.1 (value_same vs c d p e i)

folded_same : (vs : List (ℕ × Rgba)) (cs ds : List Child) (p : Point) (b : Rgba) → map (child_at p) cs ≡ map (child_at p) ds → walk_folded vs cs p b ≡ walk_folded vs ds p b
folded_same vs [] [] p b e = refl
folded_same vs [] (d ∷ ds) p b e = absurd (cc)
folded_same vs (c ∷ cs) [] p b e = absurd (cc)
folded_same vs (c ∷ cs) (d ∷ ds) p b e =
    let first : child_at p c ≡ child_at p d = cc in
    let rest : map (child_at p) cs ≡ map (child_at p) ds = cc in
    (λ i. walk_folded vs cs p (with_look (first i).1.0 (value_same vs c d p first i) b)) ∙ folded_same vs cs ds p (with_look d.look (value_in vs d p) b) rest

values_same : (es fs : List (ℕ × List Child)) (vs : List (ℕ × Rgba)) (p : Point) → groups_at p es ≡ groups_at p fs → walk_values es vs p ≡ walk_values fs vs p
values_same [] [] vs p e = refl
values_same [] (f ∷ fs) vs p e = absurd (cc)
values_same (d ∷ es) [] vs p e = absurd (cc)
values_same (d ∷ es) (f ∷ fs) vs p e =
    let first : ◌≡◌ {A = ℕ × List (ℕ × (Look × Rgba))} (d.0, map (child_at p) d.1) (f.0, map (child_at p) f.1) = cc in
    let rest : groups_at p es ≡ groups_at p fs = cc in
    (λ i. walk_values es (((first i).0, folded_same vs d.1 f.1 p clear (ap (λ (t : ℕ × List (ℕ × (Look × Rgba))). t.1) first) i) ∷ vs) p) ∙ values_same es fs ((f.0, walk_folded vs f.1 p clear) ∷ vs) p rest

pub same_values : SameValues
unfolding walk_value
same_values a b key same g p h k = ap (λ vs. looked_up vs g) (values_same a.groups b.groups [] p (same.groups p h k))

-- a child that is alike is the same child
pub child_alike : (rect : Area) (key : Key) (x y : Source) → x.id ≡ y.id → x.look ≡ y.look → SameInTile key rect x.shot y.shot → AlikeChild rect key (child_of rect x) (child_of rect y)
child_alike rect key x y id look same p h k =
    let pixel : at (child_of rect x).pixels p ≡ at (child_of rect y).pixels p = at_layer_on rect x.shot p h ∙ same p h k ∙ sym (at_layer_on rect y.shot p h) in
    λ i. (id i, (look i, pixel i))

pub record Told (rect : Area) (key : Key) (x y : Source) : Type 0 where
  pub id : x.id ≡ y.id
  pub look : x.look ≡ y.look
  pub pixels : SameInTile key rect x.shot y.shot

pub child_told : (rect : Area) (key : Key) (x y : Source) → HasPointIn rect key → AlikeChild rect key (child_of rect x) (child_of rect y) → Told rect key x y
child_told rect key x y met alike = record {
  id = ap (λ (t : ℕ × (Look × Rgba)). t.0) (alike met.point met.held met.inside);
  look = ap (λ (t : ℕ × (Look × Rgba)). t.1.0) (alike met.point met.held met.inside);
  pixels = λ p h k. sym (at_layer_on rect x.shot p h) ∙ ap (λ (t : ℕ × (Look × Rgba)). t.1.1) (alike p h k) ∙ at_layer_on rect y.shot p h;
}

-- lists of children, the first before the others
module _ (rect : Area) (key : Key) (c d : Child) (cs ds : List Child) where
  alike_both : AlikeChild rect key c d → AlikeChildren rect key cs ds → AlikeChildren rect key (c ∷ cs) (d ∷ ds)
  alike_both first others p h k = λ i. first p h k i ∷ others p h k i

  alike_first : AlikeChildren rect key (c ∷ cs) (d ∷ ds) → AlikeChild rect key c d
  alike_first all p h k = let e : map (child_at p) (c ∷ cs) ≡ map (child_at p) (d ∷ ds) = all p h k in cc

  alike_others : AlikeChildren rect key (c ∷ cs) (d ∷ ds) → AlikeChildren rect key cs ds
  alike_others all p h k = let e : map (child_at p) (c ∷ cs) ≡ map (child_at p) (d ∷ ds) = all p h k in cc

alike_nothing : (rect : Area) (key : Key) (c : Child) (cs : List Child) → HasPointIn rect key → AlikeChildren rect key (c ∷ cs) [] → ⊥
alike_nothing rect key c cs met all = let e : map (child_at met.point) (c ∷ cs) ≡ [] = all met.point met.held met.inside in cc

pub nothing_alike : (rect : Area) (key : Key) (c : Child) (cs : List Child) → HasPointIn rect key → AlikeChildren rect key [] (c ∷ cs) → ⊥
nothing_alike rect key c cs met all = let e : [] ≡ map (child_at met.point) (c ∷ cs) = all met.point met.held met.inside in cc

-- the next child is the same, or another, or there is none
pub steps_on : (rect : Area) (key : Key) (x y : Source) (ys : List Source) (from to : ℕ) → children_in rect x.group (drop from ys) ≡ child_of rect y ∷ children_in rect x.group (drop to ys)
    → AlikeChild rect key (child_of rect x) (child_of rect y) → StepsOn rect key x ys from to
steps_on rect key x y ys from to next alike cs = (
  (λ all. alike_others rect key (child_of rect x) (child_of rect y) cs (children_in rect x.group (drop to ys)) (subst (λ ds. AlikeChildren rect key (child_of rect x ∷ cs) ds) next all)),
  (λ all. subst (λ ds. AlikeChildren rect key (child_of rect x ∷ cs) ds) (sym next) (alike_both rect key (child_of rect x) (child_of rect y) cs (children_in rect x.group (drop to ys)) alike all)),
)

pub stops_at : (rect : Area) (key : Key) (x y : Source) (ys : List Source) (from to : ℕ) → children_in rect x.group (drop from ys) ≡ child_of rect y ∷ children_in rect x.group (drop to ys)
    → (AlikeChild rect key (child_of rect x) (child_of rect y) → ⊥) → StopsAt rect key x ys from
stops_at rect key x y ys from to next other cs all = other (alike_first rect key (child_of rect x) (child_of rect y) cs (children_in rect x.group (drop to ys)) (subst (λ ds. AlikeChildren rect key (child_of rect x ∷ cs) ds) next all))

pub stops_behind : (rect : Area) (key : Key) (x : Source) (ys : List Source) (from : ℕ) → HasPointIn rect key → children_in rect x.group (drop from ys) ≡ [] → StopsAt rect key x ys from
stops_behind rect key x ys from met none cs all = alike_nothing rect key (child_of rect x) cs met (subst (λ ds. AlikeChildren rect key (child_of rect x ∷ cs) ds) none all)

-- a source more
in_group : (rect : Area) (g : ℕ) (s : Source) (ss : List Source) (b : Bool) → eqb s.group g ≡ b → children_in rect g (s ∷ ss) ≡ cond b (child_of rect s ∷ children_in rect g ss) (children_in rect g ss)
in_group rect g s ss b e = ap (λ t. cond t (child_of rect s ∷ children_in rect g ss) (children_in rect g ss)) e

pub own_source : (rect : Area) (g i : ℕ) (ss : List Source) (s : Source) → i < length ss → s ≡ get_or ss i s → s.group ≡ g → children_in rect g (drop i ss) ≡ child_of rect s ∷ children_in rect g (drop (i + 1) ss)
own_source rect g i ss s h at e = ap (children_in rect g) (drop-cons ss i s h) ∙ ap (λ t. children_in rect g (t ∷ drop (suc i) ss)) (sym at) ∙ in_group rect g s (drop (suc i) ss) true (grind (arith, nat_tests)) ∙ ap (λ n. child_of rect s ∷ children_in rect g (drop n ss)) (sym (add-one i))

pub other_source : (rect : Area) (g i : ℕ) (ss : List Source) (s : Source) → i < length ss → s ≡ get_or ss i s → s.group ≢ g → children_in rect g (drop i ss) ≡ children_in rect g (drop (i + 1) ss)
other_source rect g i ss s h at e = ap (children_in rect g) (drop-cons ss i s h) ∙ ap (λ t. children_in rect g (t ∷ drop (suc i) ss)) (sym at) ∙ in_group rect g s (drop (suc i) ss) false (grind (arith, nat_tests)) ∙ ap (λ n. children_in rect g (drop n ss)) (sym (add-one i))

-- a place of a list, whatever is told where there is none
pub same_default : (ss : List Source) (i : ℕ) (d e : Source) → i < length ss → get_or ss i d ≡ get_or ss i e
same_default [] i d e h = absurd (omega arith)
same_default (s ∷ ss) zero d e h = refl
same_default (s ∷ ss) (suc i) d e h = same_default ss i d e (omega arith)

-- what is left of both lists is alike exactly where both are
pub record Sides (rect : Area) (key : Key) (g : ℕ) (xs ys : List Source) (i from : ℕ) : Type 0 where
  pub inside : from ≤ length ys
  pub all : AlikeChildren rect key (children_in rect g (drop i xs)) (children_in rect g (drop from ys)) → AlikeChildren rect key (children_in rect g xs) (children_in rect g ys)
  pub left : AlikeChildren rect key (children_in rect g xs) (children_in rect g ys) → AlikeChildren rect key (children_in rect g (drop i xs)) (children_in rect g (drop from ys))

pub sides_skip : (rect : Area) (key : Key) (g : ℕ) (xs ys : List Source) (i j from : ℕ) → children_in rect g (drop i xs) ≡ children_in rect g (drop j xs) → Sides rect key g xs ys i from → Sides rect key g xs ys j from
sides_skip rect key g xs ys i j from e sides = record {
  inside = sides.inside;
  all = λ t. sides.all (subst (λ cs. AlikeChildren rect key cs (children_in rect g (drop from ys))) (sym e) t);
  left = λ t. subst (λ cs. AlikeChildren rect key cs (children_in rect g (drop from ys))) e (sides.left t);
}

pub sides_step : (rect : Area) (key : Key) (g : ℕ) (xs ys : List Source) (x : Source) (i j from to : ℕ) → children_in rect g (drop i xs) ≡ child_of rect x ∷ children_in rect g (drop j xs) → x.group ≡ g → to ≤ length ys → StepsOn rect key x ys from to
    → Sides rect key g xs ys i from → Sides rect key g xs ys j to
sides_step rect key g xs ys x i j from to e own inside steps sides =
    let on : ((cs : List Child) → AlikeChildren rect key (child_of rect x ∷ cs) (children_in rect g (drop from ys)) → AlikeChildren rect key cs (children_in rect g (drop to ys))) = subst (λ n. (cs : List Child) → AlikeChildren rect key (child_of rect x ∷ cs) (children_in rect n (drop from ys)) → AlikeChildren rect key cs (children_in rect n (drop to ys))) own (λ cs. (steps cs).0) in
    let back : ((cs : List Child) → AlikeChildren rect key cs (children_in rect g (drop to ys)) → AlikeChildren rect key (child_of rect x ∷ cs) (children_in rect g (drop from ys))) = subst (λ n. (cs : List Child) → AlikeChildren rect key cs (children_in rect n (drop to ys)) → AlikeChildren rect key (child_of rect x ∷ cs) (children_in rect n (drop from ys))) own (λ cs. (steps cs).1) in
    record {
      inside = inside;
      all = λ t. sides.all (subst (λ cs. AlikeChildren rect key cs (children_in rect g (drop from ys))) (sym e) (back (children_in rect g (drop j xs)) t));
      left = λ t. on (children_in rect g (drop j xs)) (subst (λ cs. AlikeChildren rect key cs (children_in rect g (drop from ys))) e (sides.left t));
    }

pub sides_stop : (rect : Area) (key : Key) (g : ℕ) (xs ys : List Source) (x : Source) (i j from : ℕ) → children_in rect g (drop i xs) ≡ child_of rect x ∷ children_in rect g (drop j xs) → x.group ≡ g → StopsAt rect key x ys from
    → Sides rect key g xs ys i from → AlikeChildren rect key (children_in rect g xs) (children_in rect g ys) → ⊥
sides_stop rect key g xs ys x i j from e own stops sides t =
    stops (children_in rect g (drop j xs)) (subst (λ n. AlikeChildren rect key (child_of rect x ∷ children_in rect g (drop j xs)) (children_in rect n (drop from ys))) (sym own) (subst (λ cs. AlikeChildren rect key cs (children_in rect g (drop from ys))) e (sides.left t)))

pub sides_end : (rect : Area) (key : Key) (g : ℕ) (xs ys : List Source) (i from : ℕ) → length xs ≤ i → children_in rect g (drop from ys) ≡ [] → Sides rect key g xs ys i from → AlikeChildren rect key (children_in rect g xs) (children_in rect g ys)
sides_end rect key g xs ys i from h none sides = sides.all (λ p _ _. ap (λ ss. map (child_at p) (children_in rect g ss)) (drop_all i xs h) ∙ sym (ap (map (child_at p)) none))

pub sides_more : (rect : Area) (key : Key) (g : ℕ) (xs ys : List Source) (i from : ℕ) (c : Child) (cs : List Child) → HasPointIn rect key → length xs ≤ i → children_in rect g (drop from ys) ≡ c ∷ cs → Sides rect key g xs ys i from
    → AlikeChildren rect key (children_in rect g xs) (children_in rect g ys) → ⊥
sides_more rect key g xs ys i from c cs met h some sides t =
    nothing_alike rect key c cs met (subst (λ ds. AlikeChildren rect key [] ds) some (subst (λ ss. AlikeChildren rect key (children_in rect g ss) (children_in rect g (drop from ys))) (drop_all i xs h) (sides.left t)))

-- a source of a list that has some
pub some_source : (ss : List Source) (n : ℕ) → n < length ss → Source
some_source [] n h = absurd (omega arith)
some_source (s ∷ ss) n h = s

-- the groups that are left are alike exactly where all are
pub record Path_left (rect : Area) (key : Key) (path : List ℕ) (xs ys : List Source) (i : ℕ) : Type 0 where
  pub all : AlikeGroups rect key (drop i path) xs ys → AlikeGroups rect key path xs ys
  pub left : AlikeGroups rect key path xs ys → AlikeGroups rect key (drop i path) xs ys

module _ (rect : Area) (key : Key) (g : ℕ) (gs : List ℕ) (xs ys : List Source) where
  groups_both : AlikeChildren rect key (children_in rect g xs) (children_in rect g ys) → AlikeGroups rect key gs xs ys → AlikeGroups rect key (g ∷ gs) xs ys
  groups_both first others p h k = λ i. (g, first p h k i) ∷ others p h k i

  groups_first : AlikeGroups rect key (g ∷ gs) xs ys → AlikeChildren rect key (children_in rect g xs) (children_in rect g ys)
  groups_first all p h k =
      let e : groups_at p (groups_of rect xs (g ∷ gs)) ≡ groups_at p (groups_of rect ys (g ∷ gs)) = all p h k in
      let f : ◌≡◌ {A = ℕ × List (ℕ × (Look × Rgba))} (g, map (child_at p) (children_in rect g xs)) (g, map (child_at p) (children_in rect g ys)) = cc in
      ap (λ (t : ℕ × List (ℕ × (Look × Rgba))). t.1) f

  groups_others : AlikeGroups rect key (g ∷ gs) xs ys → AlikeGroups rect key gs xs ys
  groups_others all p h k = let e : groups_at p (groups_of rect xs (g ∷ gs)) ≡ groups_at p (groups_of rect ys (g ∷ gs)) = all p h k in cc

pub path_step : (rect : Area) (key : Key) (path : List ℕ) (xs ys : List Source) (i : ℕ) → i < length path → AlikeChildren rect key (children_in rect (get_or path i 0) xs) (children_in rect (get_or path i 0) ys) → Path_left rect key path xs ys i → Path_left rect key path xs ys (i + 1)
path_step rect key path xs ys i h alike so =
    let e : drop i path ≡ get_or path i 0 ∷ drop (i + 1) path = drop-cons path i 0 h ∙ ap (λ n. get_or path i 0 ∷ drop n path) (sym (add-one i)) in
    record {
      all = λ t. so.all (subst (λ gs. AlikeGroups rect key gs xs ys) (sym e) (groups_both rect key (get_or path i 0) (drop (i + 1) path) xs ys alike t));
      left = λ t. groups_others rect key (get_or path i 0) (drop (i + 1) path) xs ys (subst (λ gs. AlikeGroups rect key gs xs ys) e (so.left t));
    }

pub path_stop : (rect : Area) (key : Key) (path : List ℕ) (xs ys : List Source) (i : ℕ) → i < length path → Path_left rect key path xs ys i → AlikeGroups rect key path xs ys → AlikeChildren rect key (children_in rect (get_or path i 0) xs) (children_in rect (get_or path i 0) ys)
path_stop rect key path xs ys i h so t =
    let e : drop i path ≡ get_or path i 0 ∷ drop (i + 1) path = drop-cons path i 0 h ∙ ap (λ n. get_or path i 0 ∷ drop n path) (sym (add-one i)) in
    groups_first rect key (get_or path i 0) (drop (i + 1) path) xs ys (subst (λ gs. AlikeGroups rect key gs xs ys) e (so.left t))

pub path_done : (rect : Area) (key : Key) (path : List ℕ) (xs ys : List Source) (i : ℕ) → length path ≤ i → Path_left rect key path xs ys i → AlikeGroups rect key path xs ys
path_done rect key path xs ys i h so = so.all (subst (λ gs. AlikeGroups rect key gs xs ys) (sym (drop_all i path h)) (λ p h k. refl))

-- what walks read of the same parts
module _ (r s : Readings) (key : Key) (xs ys : List Source) (e : r.groups ≡ groups_of r.patch.rect xs (path_in r)) (f : s.groups ≡ groups_of s.patch.rect ys (path_in s)) (patch : r.patch ≡ s.patch) where
  pub readings_same : path_in r ≡ path_in s → AlikeGroups r.patch.rect key (path_in r) xs ys → ReadTheSame r s key
  readings_same path alike = record {
    patch = patch;
    groups = λ p h k. ap (groups_at p) e ∙ alike p h k ∙ (λ i. groups_at p (groups_of (patch i).rect ys (path i))) ∙ ap (groups_at p) (sym f);
  }

  pub groups_told : path_in r ≡ path_in s → ReadTheSame r s key → AlikeGroups r.patch.rect key (path_in r) xs ys
  groups_told path same p h k = ap (groups_at p) (sym e) ∙ same.groups p h k ∙ ap (groups_at p) f ∙ (λ i. groups_at p (groups_of (sym patch i).rect ys (sym path i)))

ids_at : (p : Point) (es : List (ℕ × List Child)) → map (λ (t : ℕ × List (ℕ × (Look × Rgba))). t.0) (groups_at p es) ≡ map (λ (t : ℕ × List Child). t.0) es
ids_at p [] = refl
ids_at p (e ∷ es) = ap (λ ids. e.0 ∷ ids) (ids_at p es)

pub path_told : (r s : Readings) (key : Key) → HasPointIn r.patch.rect key → ReadTheSame r s key → path_in r ≡ path_in s
path_told r s key met same = sym (ids_at met.point r.groups) ∙ ap (map (λ (t : ℕ × List (ℕ × (Look × Rgba))). t.0)) (same.groups met.point met.held met.inside) ∙ ids_at met.point s.groups

-- a rectangle has a point in a tile, or none
pub has_point : (a b part : Area) (k : Key) → b ≡ tile k → IsShared a b part → 1 ≤ part.w → 1 ≤ part.h → HasPointIn a k
has_point a b part k e shared w h =
    let p : Point = point part.x part.y in
    let both : (holds a p && holds b p) ≡ true = sym (shared.held p) ∙ corner_held part w h in record {
      point = p;
      held = and_left _ _ both;
      inside = key_is (key_of p) k (key_of_holder k p (ap (λ (c : Area). holds c p) (sym e) ∙ and_right (holds a p) (holds b p) both));
    }

pub none_read : (r s : Readings) (key : Key) (b : Area) → b ≡ tile key → ((p : Point) → holds r.patch.rect p ≡ true → holds b p ≡ false) → r.patch ≡ s.patch → ReadTheSame r s key
none_read r s key b e apart patch = record {
  patch = patch;
  groups = λ p h k. absurd (no (sym (apart p h) ∙ ap (λ (c : Area). holds c p) e ∙ (holder p key).0 (key_same (key_of p) key k)));
}
  where
    no : false ≡ true → ⊥
    no e = cc
