-- Lower children lie off the path of a walk, so they count with their own pixels.
use Rattle.std.proofs.Common.{◌≡◌, ℕ, suc, zero, ◌+◌, ◌<◌, Bool, true, false, ◌||◌, cond, List, [], ◌∷◌, ◌++◌, take, drop, length, get_or, map, None, Some, append_assoc, append-nil, refl, sym, ap, ◌∙◌, arith, eqb}
use Rattle.std.specs.Option.{unwrap_or}
use Rattle.std.proofs.lemmas.Bool.Decides.{nat_tests}
use Rattle.std.proofs.lemmas.List.{take_more, take-append-drop}
use Rattle.std.proofs.lemmas.List.Folds.{list_any_at}
use Rattle.pixel_core.specs.Rgba.{Rgba, clear}
use Rattle.geom_core.specs.Areas.{Area, holds, Point}
use Rattle.geom_core.specs.Grid.{Key}
use Rattle.geom_core.proofs.Tests.{equal_test, kept, none_left, none_right, taken}
use Rattle.doc_model.specs.Layers.{at}
use Rattle.doc_model.specs.Shots.{in_tile}
use Rattle.doc_model.specs.Picture.{with_look}
use Rattle.machine_model.specs.State.{Child}
use Rattle.machine_model.specs.Covers.{folded}
use Rattle.machine_model.specs.Groups.{on}
use Rattle.machine_model.specs.Walks.{value_in, walk_folded, walk_values}
use Rattle.walker_core.specs.declared.gathered.Source.{Source}
use Rattle.walker_core.specs.declared.row.Below.{Below}
use Rattle.walker_core.specs.Folds.{lower, lower_value, read_of}
use Rattle.walker_core.specs.Knowing.{value_at}
use Rattle.walker_core.specs.Lower.{AreSources, IsEnd, next_group}
use Rattle.walker_core.specs.Readings.{Readings, path_in}
use Rattle.walker_core.specs.Rows.{AreComposed, found, values_of}
use Rattle.walker_core.specs.Views.{child_of, children_in, groups_of}
use Rattle.walker_core.proofs.Given.{value_found}
use Rattle.walker_core.proofs.Kept.{value_composed}
use Rattle.walker_core.proofs.Laid.{children_more}

-- what isn't among the groups has no value
unfound : (es : List (ℕ × List Child)) (vs : List (ℕ × Rgba)) (id : ℕ) (p : Point) → on id (map (λ (e : ℕ × List Child). e.0) es) ≡ false → found vs id ≡ None → found (walk_values es vs p) id ≡ None
unfound [] vs id p off none = none
unfound (e ∷ es) vs id p off none =
    let others : on id (map (λ (e : ℕ × List Child). e.0) es) ≡ false = none_right (eqb e.0 id) (on id (map (λ (e : ℕ × List Child). e.0) es)) off in
    let other : eqb e.0 id ≡ false = none_left (eqb e.0 id) (on id (map (λ (e : ℕ × List Child). e.0) es)) off in
    unfound es ((e.0, walk_folded vs e.1 p clear) ∷ vs) id p others (kept (eqb e.0 id) (Some (walk_folded vs e.1 p clear)) (found vs id) other ∙ none)

both_off : (a b : Bool) → a ≡ false → b ≡ false → (a || b) ≡ false
both_off a b e f = (λ i. e i || b) ∙ f

off_front : (es : List (ℕ × List Child)) (n id : ℕ) → on id (map (λ (e : ℕ × List Child). e.0) es) ≡ false → on id (map (λ (e : ℕ × List Child). e.0) (take n es)) ≡ false
off_front [] zero id off = refl
off_front [] (suc n) id off = refl
off_front (e ∷ es) zero id off = refl
off_front (e ∷ es) (suc n) id off = both_off (eqb e.0 id) (on id (map (λ (e : ℕ × List Child). e.0) (take n es)))
    (none_left (eqb e.0 id) (on id (map (λ (e : ℕ × List Child). e.0) es)) off)
    (off_front es n id (none_right (eqb e.0 id) (on id (map (λ (e : ℕ × List Child). e.0) es)) off))

value_off : (es : List (ℕ × List Child)) (n : ℕ) (c : Child) (p : Point) → on c.id (map (λ (e : ℕ × List Child). e.0) es) ≡ false → value_in (walk_values (take n es) [] p) c p ≡ at c.pixels p
value_off es n c p off = value_found (walk_values (take n es) [] p) c p ∙ ap (λ o. unwrap_or o (at c.pixels p)) (unfound (take n es) [] c.id p (off_front es n c.id off) refl)

-- so a walk lays them as they are
lower_folded : (layer : ℕ) (path : List ℕ) (cs : List Child) (vs : List (ℕ × Rgba)) (p : Point) (b : Rgba) → ((c : Child) → on c.id path ≡ false → value_in vs c p ≡ at c.pixels p)
    → walk_folded vs (lower (layer ∷ path) cs) p b ≡ folded (lower (layer ∷ path) cs) p b
lower_folded layer path [] vs p b off = refl
lower_folded layer path (c ∷ cs) vs p b off = go (on c.id (layer ∷ path)) refl (lower_folded layer path cs vs p (with_look c.look (at c.pixels p) b) off)
  where
    go : (m : Bool) → on c.id (layer ∷ path) ≡ m → walk_folded vs (lower (layer ∷ path) cs) p (with_look c.look (at c.pixels p) b) ≡ folded (lower (layer ∷ path) cs) p (with_look c.look (at c.pixels p) b)
        → walk_folded vs (cond m [] (c ∷ lower (layer ∷ path) cs)) p b ≡ folded (cond m [] (c ∷ lower (layer ∷ path) cs)) p b
    go true e rest = refl
    go false e rest = ap (λ x. walk_folded vs (lower (layer ∷ path) cs) p (with_look c.look x b)) (off c (none_right (eqb layer c.id) (on c.id path) e)) ∙ rest

-- children that are laid one after another
folded_both : (vs : List (ℕ × Rgba)) (cs ds : List Child) (p : Point) (b : Rgba) → walk_folded vs (cs ++ ds) p b ≡ walk_folded vs ds p (walk_folded vs cs p b)
folded_both vs [] ds p b = refl
folded_both vs (c ∷ cs) ds p b = folded_both vs cs ds p (with_look c.look (value_in vs c p) b)

-- the children of a group in a list that is cut in two
children_both : (rect : Area) (g : ℕ) (ss ts : List Source) → children_in rect g (ss ++ ts) ≡ children_in rect g ss ++ children_in rect g ts
children_both rect g [] ts = refl
children_both rect g (s ∷ ss) ts = go (eqb s.group g) (children_both rect g ss ts)
  where
    go : (b : Bool) → children_in rect g (ss ++ ts) ≡ children_in rect g ss ++ children_in rect g ts
        → cond b (child_of rect s ∷ children_in rect g (ss ++ ts)) (children_in rect g (ss ++ ts)) ≡ cond b (child_of rect s ∷ children_in rect g ss) (children_in rect g ss) ++ children_in rect g ts
    go true e = ap (λ cs. child_of rect s ∷ cs) e
    go false e = e

-- the lower children of a list whose first children don't move
lower_both : (moving : List ℕ) (cs ds : List Child) → lower moving cs ≡ cs → lower moving (cs ++ ds) ≡ cs ++ lower moving ds
lower_both moving [] ds e = refl
lower_both moving (c ∷ cs) ds e = go (on c.id moving) e (lower_both moving cs ds)
  where
    go : (m : Bool) → cond m [] (c ∷ lower moving cs) ≡ c ∷ cs → (lower moving cs ≡ cs → lower moving (cs ++ ds) ≡ cs ++ lower moving ds)
        → cond m [] (c ∷ lower moving (cs ++ ds)) ≡ c ∷ (cs ++ lower moving ds)
    go true f rest = cc
    go false f rest = let g : lower moving cs ≡ cs = cc in ap (λ xs. c ∷ xs) (rest g)

-- no source so far is a child of the group that moves
abbrev pub NoneMoves : List ℕ → ℕ → List Source → Type 0
NoneMoves moving g ss = (rect : Area) → lower moving (children_in rect g ss) ≡ children_in rect g ss

-- one source more, which is of another group
pub passed_other : (moving : List ℕ) (g : ℕ) (ss : List Source) (i : ℕ) (s : Source) → i < length ss → s ≡ get_or ss i s → eqb s.group g ≡ false → NoneMoves moving g (take i ss) → NoneMoves moving g (take (i + 1) ss)
passed_other moving g ss i s h is e none rect =
    let same : children_in rect g (take (i + 1) ss) ≡ children_in rect g (take i ss) = ap (children_in rect g) (take_more ss i s h ∙ ap (λ t. take i ss ++ t ∷ []) (sym is)) ∙ children_more rect g (take i ss) s ∙ kept (eqb s.group g) _ _ e in
    ap (lower moving) same ∙ none rect ∙ sym same

-- or doesn't move
pub passed_still : (moving : List ℕ) (g : ℕ) (ss : List Source) (i : ℕ) (s : Source) → i < length ss → s ≡ get_or ss i s → eqb s.group g ≡ true → on s.id moving ≡ false → NoneMoves moving g (take i ss) → NoneMoves moving g (take (i + 1) ss)
passed_still moving g ss i s h is e off none rect =
    let same : children_in rect g (take (i + 1) ss) ≡ children_in rect g (take i ss) ++ child_of rect s ∷ [] = ap (children_in rect g) (take_more ss i s h ∙ ap (λ t. take i ss ++ t ∷ []) (sym is)) ∙ children_more rect g (take i ss) s ∙ taken (eqb s.group g) _ _ e in
    ap (lower moving) same
    ∙ lower_both moving (children_in rect g (take i ss)) (child_of rect s ∷ []) (none rect)
    ∙ ap (λ cs. children_in rect g (take i ss) ++ cs) (kept (on s.id moving) [] (child_of rect s ∷ []) off)
    ∙ sym same

-- the first that moves ends the lower children
pub end_here : (moving : List ℕ) (g : ℕ) (ss : List Source) (i : ℕ) (s : Source) → i < length ss → s ≡ get_or ss i s → eqb s.group g ≡ true → on s.id moving ≡ true → NoneMoves moving g (take i ss) → IsEnd ss g moving i
end_here moving g ss i s h is e moves none = record { within = omega arith; lower_ones = ones }
  where
    ones : (rect : Area) → children_in rect g (take i ss) ≡ lower moving (children_in rect g ss)
    ones rect =
        let first : children_in rect g (take (i + 1) ss) ≡ children_in rect g (take i ss) ++ child_of rect s ∷ [] = ap (children_in rect g) (take_more ss i s h ∙ ap (λ t. take i ss ++ t ∷ []) (sym is)) ∙ children_more rect g (take i ss) s ∙ taken (eqb s.group g) _ _ e in
        let all : children_in rect g ss ≡ (children_in rect g (take i ss) ++ child_of rect s ∷ []) ++ children_in rect g (drop (i + 1) ss) = ap (children_in rect g) (sym (take-append-drop (i + 1) ss)) ∙ children_both rect g (take (i + 1) ss) (drop (i + 1) ss) ∙ ap (λ cs. cs ++ children_in rect g (drop (i + 1) ss)) first in
        let parted : children_in rect g ss ≡ children_in rect g (take i ss) ++ (child_of rect s ∷ children_in rect g (drop (i + 1) ss)) = all ∙ append_assoc (children_in rect g (take i ss)) (child_of rect s ∷ []) (children_in rect g (drop (i + 1) ss)) in
        sym (ap (lower moving) parted
        ∙ lower_both moving (children_in rect g (take i ss)) (child_of rect s ∷ children_in rect g (drop (i + 1) ss)) (none rect)
        ∙ ap (λ cs. children_in rect g (take i ss) ++ cs) (taken (on s.id moving) [] (child_of rect s ∷ lower moving (children_in rect g (drop (i + 1) ss))) moves)
        ∙ append-nil (children_in rect g (take i ss)))

same_number : (m n : ℕ) → eqb m n ≡ true → m ≡ n
same_number m n e = grind (arith, nat_tests)

-- what was read of a group on the path
read_group : (rect : Area) (ss : List Source) (path : List ℕ) (g : ℕ) → on g path ≡ true → read_of (groups_of rect ss path) g ≡ children_in rect g ss
read_group rect ss [] g e = cc
read_group rect ss (h ∷ path) g e = go (eqb h g) refl e (read_group rect ss path g)
  where
    go : (b : Bool) → eqb h g ≡ b → (b || on g path) ≡ true → (on g path ≡ true → read_of (groups_of rect ss path) g ≡ children_in rect g ss) → cond b (children_in rect h ss) (read_of (groups_of rect ss path) g) ≡ children_in rect g ss
    go true same t rest = ap (λ q. children_in rect q ss) (same_number h g same)
    go false same t rest = rest t

-- the next group is on the path
pub next_on : (r : Readings) (key : Key) (below : Below) → AreComposed r key below → on (next_group r below) (path_in r) ≡ true
next_on r key below composed = list_any_at (λ q. eqb q (next_group r below)) (path_in r) (length below.given.now) 0 composed.next (equal_test (next_group r below))

-- the next group's lower children, as the walk lays them at a point
pub lower_shown : (r : Readings) (ss : List Source) (key : Key) (below : Below) (layer g end : ℕ) (p : Point) → AreSources r ss → AreComposed r key below → g ≡ next_group r below → IsEnd ss g (layer ∷ path_in r) end
    → holds r.patch.rect p ≡ true → in_tile key p ≡ true → walk_folded (values_of below.path.now below.given.now p) (children_in r.patch.rect g (take end ss)) p clear ≡ lower_value r layer g p
lower_shown r ss key below layer g end p of composed next is h k =
    let path : on g (path_in r) ≡ true = ap (λ q. on q (path_in r)) next ∙ next_on r key below composed in
    let children : read_of r.groups g ≡ children_in r.patch.rect g ss = ap (λ es. read_of es g) of ∙ read_group r.patch.rect ss (path_in r) g path in
    (λ i. walk_folded (composed.values p h k i) (is.lower_ones r.patch.rect i) p clear)
    ∙ lower_folded layer (path_in r) (children_in r.patch.rect g ss) (walk_values (take (length below.given.now) r.groups) [] p) p clear (λ c off. value_off r.groups (length below.given.now) c p off)
    ∙ ap (λ cs. folded (lower (layer ∷ path_in r) cs) p clear) (sym children)

-- the other children on the lower ones make the walk's value of the group
pub group_laid : (r : Readings) (ss : List Source) (key : Key) (below : Below) (end : ℕ) (p : Point) (b : Rgba) → AreSources r ss → AreComposed r key below → holds r.patch.rect p ≡ true → in_tile key p ≡ true
    → b ≡ walk_folded (values_of below.path.now below.given.now p) (children_in r.patch.rect (next_group r below) (take end ss)) p clear
    → walk_folded (values_of below.path.now below.given.now p) (children_in r.patch.rect (next_group r below) (drop end ss)) p b ≡ value_at r.groups (length below.given.now) p
group_laid r ss key below end p b of composed h k e =
    let vs : List (ℕ × Rgba) = values_of below.path.now below.given.now p in
    let g : ℕ = next_group r below in
    let rect : Area = r.patch.rect in
    ap (walk_folded vs (children_in rect g (drop end ss)) p) e
    ∙ sym (folded_both vs (children_in rect g (take end ss)) (children_in rect g (drop end ss)) p clear)
    ∙ ap (λ cs. walk_folded vs cs p clear) (sym (children_both rect g (take end ss) (drop end ss)) ∙ ap (children_in rect g) (take-append-drop end ss))
    ∙ value_composed r.groups rect ss (path_in r) (length below.given.now) g vs p of composed.next refl (composed.values p h k)
