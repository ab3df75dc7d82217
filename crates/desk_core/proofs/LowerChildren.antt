-- Lower children, where others have other pixels.
use Rattle.std.proofs.Common.{◌≡◌, ℕ, Bool, true, false, ◌||◌, cond, List, [], ◌∷◌, map, refl, sym, ap, ◌∙◌, arith, eqb, subst}
use Rattle.std.specs.Ordering.{nat_cmp}
use Rattle.std.specs.FinMap.{FinMap}
use Rattle.std.specs.List.{AllByRecursion}
use Rattle.std.proofs.lemmas.Bool.Decides.{nat_tests}
use Rattle.pixel_core.specs.Rgba.{Rgba, clear}
use Rattle.geom_core.specs.Areas.{Area, holds, Point}
use Rattle.geom_core.proofs.Tests.{none_left, never}
use Rattle.doc_model.specs.Layers.{Layer, at}
use Rattle.doc_model.specs.Picture.{Doc, with_look}
use Rattle.doc_model.specs.Forest.{none, paint, group, with_content}
use Rattle.machine_model.specs.State.{Child, Walker, Walks, State}
use Rattle.machine_model.specs.Caches.{SamePixels}
use Rattle.machine_model.specs.Covers.{folded}
use Rattle.machine_model.specs.Groups.{cache, with_pixels, nodes_in, children_of, on}
use Rattle.machine_model.specs.Walking.{SameChildren, WalkStands}
use Rattle.machine_model.specs.Walks.{shots_of}
use Rattle.machine_model.proofs.GroupChildren.{nodes_with}
use Rattle.walker_core.specs.Folds.{lower, read_of}
use Rattle.desk_core.specs.Keeping.{groups_in, ReadsOthers}
use Rattle.desk_core.specs.UpToDate.{cached_at}
use Rattle.desk_core.proofs.Ripe.{cut_same}

-- children that are the same but for the pixels of those that move have the same lower ones
pub lower_same : (moving : List ℕ) (xs ys : List Child) (p : Point) (b : Rgba) → SameChildren xs ys → SamePixels moving xs ys p → folded (lower moving xs) p b ≡ folded (lower moving ys) p b
lower_same moving [] [] p b same pixels = refl
lower_same moving [] (y ∷ ys) p b same pixels = absurd same
lower_same moving (x ∷ xs) [] p b same pixels = absurd same
lower_same moving (x ∷ xs) (y ∷ ys) p b same pixels =
    go (on x.id moving) refl (λ c. lower_same moving xs ys p c same.2 pixels.1) ∙ ap (λ n. folded (cond (on n moving) [] (y ∷ lower moving ys)) p b) same.0
  where
    go : (m : Bool) → on x.id moving ≡ m → ((c : Rgba) → folded (lower moving xs) p c ≡ folded (lower moving ys) p c) → folded (cond m [] (x ∷ lower moving xs)) p b ≡ folded (cond m [] (y ∷ lower moving ys)) p b
    go true e rest = refl
    go false e rest = (λ i. folded (lower moving xs) p (with_look (same.1 i) (pixels.0 e i) b)) ∙ rest (with_look y.look (at y.pixels p) b)

-- what holds of each group's children holds of those that were read of a group
all_read : (P : ℕ → List Child → Type 0) (es : List (ℕ × List Child)) (g : ℕ) → AllByRecursion (λ (e : ℕ × List Child). P e.0 e.1) es → on g (map (λ (e : ℕ × List Child). e.0) es) ≡ true → P g (read_of es g)
all_read P [] g all h = absurd (never h)
all_read P (e ∷ es) g all h = go (eqb e.0 g) refl h (all_read P es g all.1)
  where
    go : (b : Bool) → eqb e.0 g ≡ b → (b || on g (map (λ (e : ℕ × List Child). e.0) es)) ≡ true → (on g (map (λ (e : ℕ × List Child). e.0) es) ≡ true → P g (read_of es g)) → P g (cond b e.1 (read_of es g))
    go true f k rest = let is : e.0 ≡ g = grind (arith, nat_tests) in subst (λ n. P n e.1) is all.0
    go false f k rest = rest k

-- what a walk at work read of lower children is what is there
pub read_lower : (s : State) (layer : ℕ) (w : Walker) (g : ℕ) (p : Point) → WalkStands s (Walks w) → ReadsOthers (children_of s) layer w → on g (groups_in w) ≡ true → holds w.patch.rect p ≡ true
    → folded (lower (layer ∷ groups_in w) (read_of w.shot g)) p clear ≡ folded (lower (layer ∷ groups_in w) (children_of s g)) p clear
read_lower s layer w g p stands reads here h = lower_same (layer ∷ groups_in w) (read_of w.shot g) (children_of s g) p clear
    (all_read (λ n cs. SameChildren cs (children_of s n)) w.shot g stands.2 here)
    (all_read (λ n cs. SamePixels (layer ∷ groups_in w) cs (children_of s n) p) w.shot g (reads p h) here)

-- what is read of children as a walk starts
pub start_reads : (s : State) (moving : List ℕ) (rect : Area) (gs : List ℕ) (p : Point) → holds rect p ≡ true → AllByRecursion (λ (e : ℕ × List Child). SamePixels moving e.1 (children_of s e.0) p) (shots_of s rect gs)
start_reads s moving rect [] p h = tt
start_reads s moving rect (g ∷ gs) p h = (cut_same moving rect (children_of s g) p h, start_reads s moving rect gs p h)

-- ---- a layer with other pixels

lower_with : (caches : FinMap nat_cmp Layer) (q : ℕ) (x : Layer) (path : List ℕ) (f : Doc) → lower (q ∷ path) (with_pixels caches (with_content q x f)) ≡ lower (q ∷ path) (with_pixels caches f)
lower_with caches q x path none = refl
lower_with caches q x path (paint id look l rest) = go (eqb q id) (lower_with caches q x path rest)
  where
    go : (b : Bool) → lower (q ∷ path) (with_pixels caches (with_content q x rest)) ≡ lower (q ∷ path) (with_pixels caches rest)
        → cond (b || on id path) [] (record { id = id; look = look; pixels = cond b x l } ∷ lower (q ∷ path) (with_pixels caches (with_content q x rest))) ≡ cond (b || on id path) [] (record { id = id; look = look; pixels = l } ∷ lower (q ∷ path) (with_pixels caches rest))
    go true e = refl
    go false e = ap (λ (cs : List Child). cond (on id path) [] (record { id = id; look = look; pixels = l } ∷ cs)) e
lower_with caches q x path (group id look nodes rest) = ap (λ (cs : List Child). cond (on id (q ∷ path)) [] (record { id = id; look = look; pixels = cache caches id } ∷ cs)) (lower_with caches q x path rest)

-- leaves the lower children of each group
pub lower_content : (caches : FinMap nat_cmp Layer) (q : ℕ) (x : Layer) (path : List ℕ) (g : ℕ) (doc : Doc) → lower (q ∷ path) (with_pixels caches (nodes_in g (with_content q x doc))) ≡ lower (q ∷ path) (with_pixels caches (nodes_in g doc))
lower_content caches q x path g doc = ap (λ f. lower (q ∷ path) (with_pixels caches f)) (nodes_with g q x doc) ∙ lower_with caches q x path (nodes_in g doc)

reads_with : (caches : FinMap nat_cmp Layer) (q : ℕ) (x : Layer) (path : List ℕ) (read : List Child) (f : Doc) (p : Point) → SameChildren read (with_pixels caches f) → SamePixels (q ∷ path) read (with_pixels caches f) p → SamePixels (q ∷ path) read (with_pixels caches (with_content q x f)) p
reads_with caches q x path [] none p same reads = tt
reads_with caches q x path (r ∷ read) none p same reads = absurd same
reads_with caches q x path [] (paint id look l rest) p same reads = absurd same
reads_with caches q x path [] (group id look nodes rest) p same reads = absurd same
reads_with caches q x path (r ∷ read) (paint id look l rest) p same reads =
    ((λ e. reads.0 e ∙ ap (λ b. at (cond b x l) p) (sym (ap (eqb q) (sym same.0) ∙ none_left (eqb q r.id) (on r.id path) e))), reads_with caches q x path read rest p same.2 reads.1)
reads_with caches q x path (r ∷ read) (group id look nodes rest) p same reads = (reads.0, reads_with caches q x path read rest p same.2 reads.1)

reads_without : (caches : FinMap nat_cmp Layer) (q : ℕ) (x : Layer) (path : List ℕ) (read : List Child) (f : Doc) (p : Point) → SameChildren read (with_pixels caches (with_content q x f)) → SamePixels (q ∷ path) read (with_pixels caches (with_content q x f)) p → SamePixels (q ∷ path) read (with_pixels caches f) p
reads_without caches q x path [] none p same reads = tt
reads_without caches q x path (r ∷ read) none p same reads = absurd same
reads_without caches q x path [] (paint id look l rest) p same reads = absurd same
reads_without caches q x path [] (group id look nodes rest) p same reads = absurd same
reads_without caches q x path (r ∷ read) (paint id look l rest) p same reads =
    ((λ e. reads.0 e ∙ ap (λ b. at (cond b x l) p) (ap (eqb q) (sym same.0) ∙ none_left (eqb q r.id) (on r.id path) e)), reads_without caches q x path read rest p same.2 reads.1)
reads_without caches q x path (r ∷ read) (group id look nodes rest) p same reads = (reads.0, reads_without caches q x path read rest p same.2 reads.1)

-- and what was read of the others
pub reads_content : (caches : FinMap nat_cmp Layer) (q : ℕ) (x : Layer) (path : List ℕ) (read : List Child) (g : ℕ) (doc : Doc) (p : Point) → SameChildren read (with_pixels caches (nodes_in g doc)) → SamePixels (q ∷ path) read (with_pixels caches (nodes_in g doc)) p
    → SamePixels (q ∷ path) read (with_pixels caches (nodes_in g (with_content q x doc))) p
reads_content caches q x path read g doc p same reads = subst (λ f. SamePixels (q ∷ path) read (with_pixels caches f) p) (sym (nodes_with g q x doc)) (reads_with caches q x path read (nodes_in g doc) p same reads)

-- and as it was before
pub reads_before : (caches : FinMap nat_cmp Layer) (q : ℕ) (x : Layer) (path : List ℕ) (read : List Child) (g : ℕ) (doc : Doc) (p : Point) → SameChildren read (with_pixels caches (nodes_in g (with_content q x doc))) → SamePixels (q ∷ path) read (with_pixels caches (nodes_in g (with_content q x doc))) p
    → SamePixels (q ∷ path) read (with_pixels caches (nodes_in g doc)) p
reads_before caches q x path read g doc p same reads = reads_without caches q x path read (nodes_in g doc) p
    (subst (λ f. SameChildren read (with_pixels caches f)) (nodes_with g q x doc) same) (subst (λ f. SamePixels (q ∷ path) read (with_pixels caches f) p) (nodes_with g q x doc) reads)

-- ---- caches of groups that move

pub lower_off : (moving : List ℕ) (caches caches' : FinMap nat_cmp Layer) (f : Doc) (p : Point) (b : Rgba) → ((c : ℕ) → on c moving ≡ false → cached_at caches p c ≡ cached_at caches' p c) → folded (lower moving (with_pixels caches f)) p b ≡ folded (lower moving (with_pixels caches' f)) p b
lower_off moving caches caches' none p b off = refl
lower_off moving caches caches' (paint id look x rest) p b off = go (on id moving) (λ c. lower_off moving caches caches' rest p c off)
  where
    go : (m : Bool) → ((c : Rgba) → folded (lower moving (with_pixels caches rest)) p c ≡ folded (lower moving (with_pixels caches' rest)) p c)
        → folded (cond m [] (record { id = id; look = look; pixels = x } ∷ lower moving (with_pixels caches rest))) p b ≡ folded (cond m [] (record { id = id; look = look; pixels = x } ∷ lower moving (with_pixels caches' rest))) p b
    go true same = refl
    go false same = same (with_look look (at x p) b)
lower_off moving caches caches' (group id look nodes rest) p b off = go (on id moving) refl (λ c. lower_off moving caches caches' rest p c off)
  where
    go : (m : Bool) → on id moving ≡ m → ((c : Rgba) → folded (lower moving (with_pixels caches rest)) p c ≡ folded (lower moving (with_pixels caches' rest)) p c)
        → folded (cond m [] (record { id = id; look = look; pixels = cache caches id } ∷ lower moving (with_pixels caches rest))) p b ≡ folded (cond m [] (record { id = id; look = look; pixels = cache caches' id } ∷ lower moving (with_pixels caches' rest))) p b
    go true e same = refl
    go false e same = (λ i. folded (lower moving (with_pixels caches rest)) p (with_look look (off id e i) b)) ∙ same (with_look look (cached_at caches' p id) b)
