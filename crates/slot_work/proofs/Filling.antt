-- Children that come in one after another.
use Rattle.std.proofs.Common.{◌≡◌, ℕ, suc, ◌+◌, ◌<◌, true, false, ◌||◌, List, [], ◌∷◌, ◌++◌, length, get_or, drop, map, refl, sym, ap, ◌∙◌, arith, eqb, add-one, ◌≤◌, Option, Some, None, is_some}
use Rattle.std.proofs.lemmas.List.{append_assoc, append-nil, drop_all}
use Rattle.std.proofs.Math.Seq.{drop-cons}
use Rattle.std.specs.Ordering.{nat_cmp}
use Rattle.std.specs.FinMap.{FinMap}
use Rattle.std.specs.FinMap as finite
use Rattle.std.specs.Borrow.{Bor}
use Rattle.std.specs.Prelude.{IfSome, IfNone, nat_eq}
use Rattle.std.specs.Option.{unwrap_or}
use Rattle.std.specs.List.{IsDistinct, AllByRecursion}
use Rattle.std.proofs.lemmas.Map.Keys.{IsDistinct-head, IsDistinct-tail}
use Rattle.pixel_core.specs.Rgba.{clear}
use Rattle.doc_model.specs.declared.tree.Look.{Look}
use Rattle.doc_model.specs.Layers.{Layer, plain}
use Rattle.doc_model.specs.Forest.{content, upper}
use Rattle.doc_model.specs.Children.{look_in, child_in}
use Rattle.doc_model.specs.Changes.{takes}
use Rattle.doc_model.specs.Ids.{IsTree}
use Rattle.doc_model.specs.Picture.{Doc}
use Rattle.paint_device.specs.Sheets.{Sheet}
use Rattle.paint_device.specs.Seen.{layer_of}
use Rattle.machine_model.specs.Effects.{layer_in}
use Rattle.slot_work.proofs.NextChildren.{next_child}
use Rattle.std.proofs.lemmas.Bool.Decides.{nat_tests}
use Rattle.geom_core.proofs.Tests.{taken, kept, none_left, none_right, is_some-None}
use Rattle.doc_model.specs.declared.canvas.Patch.{Patch}
use Rattle.machine_model.specs.State.{Child, State}
use Rattle.machine_model.specs.Groups.{cache, children_of, on, nodes_in, with_pixels, path_of}
use Rattle.machine_model.specs.Walks.{cut_child, shots_of}
use Rattle.walker_core.specs.Readings.{Readings, readings, childless, child_on, with_child, with_child_in}
use Rattle.slot_work.specs.Gathering.{pixels_in, with_children, filled, ReadsWalk}

-- the ids of groups
abbrev ids : List (ℕ × List Child) → List ℕ
ids es = map (λ (e : ℕ × List Child). e.0) es

-- groups of other ids stay
others_stay : (g : ℕ) (c : Child) (es : List (ℕ × List Child)) → on g (ids es) ≡ false → with_child_in g c es ≡ es
others_stay g c [] h = refl
others_stay g c (e ∷ es) h =
    let apart : eqb g e.0 ≡ false = (let f : eqb e.0 g ≡ false = none_left (eqb e.0 g) _ h in grind (arith, nat_tests)) in
    (λ i. kept (eqb g e.0) (e.0, e.1 ++ c ∷ []) e apart i ∷ others_stay g c es (none_right (eqb e.0 g) _ h) i)

-- a child of one of the groups
one_grows : (g : ℕ) (c : Child) (pre post : List (ℕ × List Child)) (xs : List Child) → on g (ids pre) ≡ false → on g (ids post) ≡ false → with_child_in g c (pre ++ (g, xs) ∷ post) ≡ pre ++ (g, xs ++ c ∷ []) ∷ post
one_grows g c [] post xs h k =
    let same : eqb g g ≡ true = grind (arith, nat_tests) in
    (λ i. taken (eqb g g) (g, xs ++ c ∷ []) (g, xs) same i ∷ others_stay g c post k i)
one_grows g c (e ∷ pre) post xs h k =
    let apart : eqb g e.0 ≡ false = (let f : eqb e.0 g ≡ false = none_left (eqb e.0 g) _ h in grind (arith, nat_tests)) in
    (λ i. kept (eqb g e.0) (e.0, e.1 ++ c ∷ []) e apart i ∷ one_grows g c pre post xs (none_right (eqb e.0 g) _ h) k i)

all_grow : (patch : Patch) (g : ℕ) (cs : List Child) (pre post : List (ℕ × List Child)) (xs : List Child) → on g (ids pre) ≡ false → on g (ids post) ≡ false
    → with_children (readings patch (pre ++ (g, xs) ∷ post)) g cs ≡ readings patch (pre ++ (g, xs ++ map (cut_child patch.rect) cs) ∷ post)
all_grow patch g [] pre post xs h k = ap (λ ys. readings patch (pre ++ (g, ys) ∷ post)) (sym (append-nil xs))
all_grow patch g (c ∷ cs) pre post xs h k =
    ap (λ es. with_children (readings patch es) g cs) (one_grows g (cut_child patch.rect c) pre post xs h k)
    ∙ all_grow patch g cs pre post (xs ++ cut_child patch.rect c ∷ []) h k
    ∙ ap (λ ys. readings patch (pre ++ (g, ys) ∷ post)) (append_assoc xs (cut_child patch.rect c ∷ []) (map (cut_child patch.rect) cs))

ids_childless : (gs : List ℕ) → ids (childless gs) ≡ gs
ids_childless [] = refl
ids_childless (g ∷ gs) = ap (λ hs. g ∷ hs) (ids_childless gs)

on_append : (g : ℕ) (xs ys : List (ℕ × List Child)) → on g (ids xs) ≡ false → on g (ids ys) ≡ false → on g (ids (xs ++ ys)) ≡ false
on_append g [] ys h k = k
on_append g (x ∷ xs) ys h k = (λ i. none_left (eqb x.0 g) _ h i || on_append g xs ys (none_right (eqb x.0 g) _ h) k i)

-- none of the groups stands in the front
abbrev Apart : List (ℕ × List Child) → List ℕ → Type 0
Apart pre [] = Unit {0}
Apart pre (g ∷ gs) = (on g (ids pre) ≡ false) × Apart pre gs

one_more_apart : (pre : List (ℕ × List Child)) (g : ℕ) (xs : List Child) (gs : List ℕ) → Apart pre gs → on g gs ≡ false → Apart (pre ++ (g, xs) ∷ []) gs
one_more_apart pre g xs [] a h = tt
one_more_apart pre g xs (k ∷ gs) a h =
    let apart : eqb g k ≡ false = (let f : eqb k g ≡ false = none_left (eqb k g) _ h in grind (arith, nat_tests)) in
    (on_append k pre ((g, xs) ∷ []) a.0 (ap (λ b. b || false) apart), one_more_apart pre g xs gs a.1 (none_right (eqb k g) _ h))

-- a group that differs from all of them is none of them
off_path : (g : ℕ) (gs : List ℕ) → AllByRecursion (λ h. nat_eq g h ≡ false) gs → on g gs ≡ false
off_path g [] a = refl
off_path g (h ∷ gs) a =
    let apart : eqb h g ≡ false = (let f : eqb g h ≡ false = a.0 in grind (arith, nat_tests)) in
    let rest : on g gs ≡ false = off_path g gs a.1 in
    (λ i. apart i || rest i)

-- all groups are filled
fills : (s : State) (patch : Patch) (pre : List (ℕ × List Child)) (gs : List ℕ) → IsDistinct nat_eq gs → Apart pre gs → filled s.caches s.present (readings patch (pre ++ childless gs)) gs ≡ readings patch (pre ++ shots_of s patch.rect gs)
fills s patch pre [] once apart = refl
fills s patch pre (g ∷ gs) once apart =
    let here : on g gs ≡ false = off_path g gs (IsDistinct-head nat_eq g gs once) in
    ap (λ r. filled s.caches s.present r gs) (all_grow patch g (children_of s g) pre (childless gs) [] apart.0 (ap (on g) (ids_childless gs) ∙ here))
    ∙ ap (λ es. filled s.caches s.present (readings patch es) gs) (sym (append_assoc pre ((g, map (cut_child patch.rect) (children_of s g)) ∷ []) (childless gs)))
    ∙ fills s patch (pre ++ (g, map (cut_child patch.rect) (children_of s g)) ∷ []) gs (IsDistinct-tail nat_eq g gs once) (one_more_apart pre g (map (cut_child patch.rect) (children_of s g)) gs apart.1 here)
    ∙ ap (readings patch) (append_assoc pre ((g, map (cut_child patch.rect) (children_of s g)) ∷ []) (shots_of s patch.rect gs))

none_apart : (gs : List ℕ) → Apart [] gs
none_apart [] = tt
none_apart (g ∷ gs) = (refl, none_apart gs)

pub all_filled : (s : State) (patch : Patch) (gs : List ℕ) → IsDistinct nat_eq gs → filled s.caches s.present (readings patch (childless gs)) gs ≡ readings patch (shots_of s patch.rect gs)
all_filled s patch gs once = fills s patch [] gs once (none_apart gs)

-- one group more
pub fill_more : (caches : FinMap nat_cmp Layer) (doc : Doc) (r s whole : Readings) (gs : List ℕ) (i : ℕ) → i < length gs → s ≡ with_children r (get_or gs i 0) (with_pixels caches (nodes_in (get_or gs i 0) doc)) → filled caches doc r (drop i gs) ≡ whole → filled caches doc s (drop (i + 1) gs) ≡ whole
fill_more caches doc r s whole gs i h e so_far = rw (add-one) (ap (λ q. filled caches doc q (drop (suc i) gs)) e ∙ sym (ap (filled caches doc r) (drop-cons gs i 0 h)) ∙ so_far)

-- where all groups are filled, the walk is read
pub reads_walk : (caches : FinMap nat_cmp Layer) (doc : Doc) (patch : Patch) (r : Readings) (gs : List ℕ) (i : ℕ) → IsDistinct nat_eq gs → gs ≡ path_of patch.walk doc → length gs ≤ i → filled caches doc r (drop i gs) ≡ filled caches doc (readings patch (childless gs)) gs → ReadsWalk doc caches patch r
reads_walk caches doc patch r gs i once e h so_far s f k =
    ap (filled caches doc r) (sym (drop_all i gs h)) ∙ so_far ∙ (λ j. filled (sym k j) (sym f j) (readings patch (childless gs)) gs) ∙ all_filled s patch gs once
    ∙ ap (λ hs. readings patch (shots_of s patch.rect hs)) (e ∙ ap (path_of patch.walk) (sym f))

some_weaker : {A : Type 0} (o : Option A) (P Q : A → Type 0) → ((x : A) → P x → Q x) → IfSome o P → IfSome o Q
some_weaker None P Q f h = tt
some_weaker (Some x) P Q f h = f x h

-- the pixels of a group are its cache, those of a layer its own
pub group_pixels : (caches : FinMap nat_cmp Layer) (doc : Doc) (id : ℕ) (o : Option (Bor Sheet)) → takes id doc ≡ true → IfSome o (λ d. layer_of d.now ≡ cache caches id) → IfSome o (λ d. layer_of d.now ≡ pixels_in caches doc id)
group_pixels caches doc id o is h = some_weaker o _ _ (λ d e. e ∙ sym (taken (takes id doc) (cache caches id) (layer_in id doc) is)) h

pub no_group_pixels : (caches : FinMap nat_cmp Layer) (doc : Doc) (id : ℕ) (o : Option (Bor Sheet)) → takes id doc ≡ true → is_some o ≡ finite.contains_key caches id → IfNone o (plain clear ≡ pixels_in caches doc id)
no_group_pixels caches doc id None is h = ap (λ x. unwrap_or x (plain clear)) (sym (is_some-None (finite.get caches id) (sym h))) ∙ sym (taken (takes id doc) (cache caches id) (layer_in id doc) is)
no_group_pixels caches doc id (Some d) is h = tt

pub layer_pixels : (caches : FinMap nat_cmp Layer) (doc : Doc) (id : ℕ) (o : Option (Bor Sheet)) → takes id doc ≡ false → IfSome o (λ d. content id doc ≡ Some (layer_of d.now)) → IfSome o (λ d. layer_of d.now ≡ pixels_in caches doc id)
layer_pixels caches doc id o is h = some_weaker o _ _ (λ d e. sym (kept (takes id doc) (cache caches id) (layer_in id doc) is ∙ ap (λ x. unwrap_or x (plain clear)) e)) h

pub no_layer_pixels : (caches : FinMap nat_cmp Layer) (doc : Doc) (id : ℕ) (o : Option (Bor Sheet)) → takes id doc ≡ false → IfNone o (content id doc ≡ None) → IfNone o (plain clear ≡ pixels_in caches doc id)
no_layer_pixels caches doc id None is h = sym (kept (takes id doc) (cache caches id) (layer_in id doc) is ∙ ap (λ x. unwrap_or x (plain clear)) h)
no_layer_pixels caches doc id (Some d) is h = tt

-- one child more
pub child_added : (caches : FinMap nat_cmp Layer) (doc : Doc) (g k id : ℕ) (look : Look) (old new : Readings) (l : Layer) → IsTree doc → child_in g k doc ≡ Some id → look_in id doc ≡ Some look → l ≡ pixels_in caches doc id
    → new ≡ with_child old g (child_on old.patch.rect id look l) → with_children new g (with_pixels caches (upper (suc k) (nodes_in g doc))) ≡ with_children old g (with_pixels caches (upper k (nodes_in g doc)))
child_added caches doc g k id look old new l tree at looks pixels e =
    ap (λ r. with_children r g (with_pixels caches (upper (suc k) (nodes_in g doc)))) (e ∙ ap (λ m. with_child old g (child_on old.patch.rect id look m)) pixels)
    ∙ ap (with_children old g) (sym (next_child caches doc g k id look tree at looks))
