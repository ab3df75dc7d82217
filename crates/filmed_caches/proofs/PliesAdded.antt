-- Plies of a tile, added stage after stage.
use Rattle.std.proofs.Common.{◌≡◌, ℕ, zero, suc, ◌+◌, ◌%◌, ◌<◌, ◌≤◌, Bool, true, false, cond, Option, Some, None, List, [], ◌∷◌, ◌++◌, length, drop, get_or, refl, sym, ap, ◌∙◌, subst, arith, ltb, add-one, drop-cons}
use Rattle.std.specs.Prelude.{fold}
use Rattle.std.specs.List.{AllByRecursion}
use Rattle.std.specs.Option.{unwrap_or}
use Rattle.std.proofs.lemmas.List.Sums.{fold-append}
use Rattle.pixel_core.specs.declared.blending.Op.{Op}
use Rattle.pixel_core.specs.Canonical.{IsCanonical}
use Rattle.pixel_core.specs.Rgba.{Rgba, clear}
use Rattle.pixel_core.proofs.ComposeLaws.{stays_canonical, unseen_leaves}
use Rattle.pixel_core.proofs.Rounding.{laws_of_mul}
use Rattle.geom_core.specs.Areas.{Point}
use Rattle.geom_core.specs.Grid.{Key, key_of}
use Rattle.geom_core.proofs.Tiles.{key_same}
use Rattle.geom_core.specs.Place.{across, down}
use Rattle.doc_model.specs.declared.tree.Look.{Look}
use Rattle.doc_model.specs.Laws.{IsDocument}
use Rattle.doc_model.specs.Forest.{content}
use Rattle.doc_model.specs.Layers.{at, plain}
use Rattle.doc_model.proofs.LayerLaws.{at-plain}
use Rattle.memento_core.specs.Planes.{tile_under}
use Rattle.paint_device.specs.Seen.{layer_of}
use Rattle.paint_device.specs.Sheets.{Sheet}
use Rattle.paint_device.proofs.Shown.{at-layer_of}
use Rattle.doc_model.specs.Picture.{Doc, picture}
use Rattle.doc_model.specs.Shots.{in_tile}
use Rattle.machine_model.specs.Effects.{layer_in}
use Rattle.compose_core.proofs.LaidPiles.{clear_canonical}
use Rattle.compose_core.specs.declared.children.Given.{Given}
use Rattle.compose_core.specs.declared.children.Given.TheVariants as given
use Rattle.compose_core.specs.Children.{given_at}
use Rattle.compose_core.specs.Piles.{IsClean}
use Rattle.compose_core.specs.Spots.{given_on}
use Rattle.frame_core.specs.declared.ply.Ply.{Ply}
use Rattle.frame_core.specs.declared.ply.Ply.TheVariants as ply
use Rattle.frame_core.specs.OpenRows.{laid_on, ended}
use Rattle.frame_core.specs.Plies.{then_open, with_ply}
use Rattle.tile_core.specs.Pixels.{Pixels, pixel_or}
use Rattle.frame_core.proofs.MadePixels.{made_here}
use Rattle.tree_core.specs.declared.outline.Stage.{Stage}
use Rattle.tree_core.specs.declared.outline.Stage.TheVariants as stage
use Rattle.tree_core.specs.Outline.{outline}
use Rattle.desk_steps.specs.Archives.{shape}
use Rattle.filmed_caches.specs.Made.{AddsStage, AreClean, HasLayer, MakesPicture, groups_open, open_on, then_staged, with_stage}
use Rattle.filmed_caches.proofs.StagesLaid.{outline_shape, stages_close, stages_show, then_some}

-- ---- canonical pixels

all_laid : (op : Op) (m : ℕ) (s : Rgba) (ps : List Rgba) → m ≤ 255 → IsCanonical s → AllByRecursion IsCanonical ps → AllByRecursion IsCanonical (laid_on op m s ps)
all_laid op m s [] few clean all = tt
all_laid op m s (d ∷ ps) few clean all = (stays_canonical op s d m clean all.0 few, all.1)

all_ended : (op : Op) (m : ℕ) (ps : List Rgba) → m ≤ 255 → AllByRecursion IsCanonical ps → AllByRecursion IsCanonical (ended op m ps)
all_ended op m [] few all = tt
all_ended op m (s ∷ ps) few all = all_laid op m s ps few all.0 all.1

-- a clear pixel leaves what it is laid on
clear_laid : (op : Op) (m : ℕ) (ps : List Rgba) → AllByRecursion IsCanonical ps → laid_on op m clear ps ≡ ps
clear_laid op m [] all = refl
clear_laid op m (d ∷ ps) all = ap (λ c. c ∷ ps) (unseen_leaves op clear d m (laws_of_mul.either_way 0 m ∙ laws_of_mul.nothing m) all.0)

-- ---- one ply more

one_more : (p : Point) (plies : List Ply) (x : Ply) → open_on p (plies ++ x ∷ []) ≡ with_ply (across p % 64) (down p % 64) (open_on p plies) x
one_more p plies x = fold-append (with_ply (across p % 64) (down p % 64)) (clear ∷ []) plies (x ∷ [])

groups_more : (plies : List Ply) (x : Ply) → groups_open (plies ++ x ∷ []) ≡ then_open (groups_open plies) x
groups_more plies x = fold-append then_open (Some 1) plies (x ∷ [])

-- a group begins
pub group_begun : (doc : Doc) (key : Key) (old new : List Ply) → AreClean old → new ≡ old ++ ply.Open ∷ [] → AddsStage doc key stage.Open old new
group_begun doc key old new clean is = record {
  pixels = λ p h. begun p;
  groups = λ n e. ap groups_open is ∙ groups_more old ply.Open ∙ e;
  clean = λ p. subst (AllByRecursion IsCanonical) (sym (begun p)) (clear_canonical, clean p);
}
  where
    begun : (p : Point) → open_on p new ≡ clear ∷ open_on p old
    begun p = ap (open_on p) is ∙ one_more p old ply.Open

-- a group ends
pub group_ended : (doc : Doc) (key : Key) (look : Look) (old new : List Ply) → look.opacity ≤ 255 → AreClean old → new ≡ old ++ ply.Close look.op look.opacity ∷ [] → AddsStage doc key (stage.Close look) old new
group_ended doc key look old new few clean is = record {
  pixels = λ p h. closed p;
  groups = λ n e. ap groups_open is ∙ groups_more old (ply.Close look.op look.opacity) ∙ e;
  clean = λ p. subst (AllByRecursion IsCanonical) (sym (closed p)) (all_ended look.op look.opacity (open_on p old) few (clean p));
}
  where
    closed : (p : Point) → open_on p new ≡ ended look.op look.opacity (open_on p old)
    closed p = ap (open_on p) is ∙ one_more p old (ply.Close look.op look.opacity)

-- an empty group opens and closes
opened_closed : (o : Option ℕ) (look : Look) (n : ℕ) → then_open (then_open o ply.Open) (ply.Close look.op look.opacity) ≡ Some n → o ≡ Some n
opened_closed None look n e = cc
opened_closed (Some m) look n e = go (ltb m 17) m e
  where
    go : (b : Bool) (m : ℕ) → then_open (cond b (Some (suc m)) None) (ply.Close look.op look.opacity) ≡ Some n → Some m ≡ Some n
    go false m e = absurd (let f : None ≡ Some n = e in cc)
    go true zero e = absurd (let f : None ≡ Some n = e in cc)
    go true (suc k) e = e

-- a group in which nothing is laid leaves nothing
pub group_left_out : (doc : Doc) (key : Key) (look : Look) (old new : List Ply) → AreClean old → old ≡ new ++ ply.Open ∷ [] → AddsStage doc key (stage.Close look) old new
group_left_out doc key look old new clean is = record {
  pixels = λ p h. sym (ap (ended look.op look.opacity) (before p) ∙ clear_laid look.op look.opacity (open_on p new) (clean_before p));
  groups = λ n e. opened_closed (groups_open new) look n (ap (λ o. then_open o (ply.Close look.op look.opacity)) (sym (ap groups_open is ∙ groups_more new ply.Open)) ∙ e);
  clean = clean_before;
}
  where
    before : (p : Point) → open_on p old ≡ clear ∷ open_on p new
    before p = ap (open_on p) is ∙ one_more p new ply.Open

    clean_before : AreClean new
    clean_before p = (subst (AllByRecursion IsCanonical) (before p) (clean p)).1

-- a layer is laid
pub layer_laid : (doc : Doc) (key : Key) (id : ℕ) (look : Look) (g : Given) (x : Ply) (old new : List Ply) → look.opacity ≤ 255 → AreClean old → IsClean g → HasLayer doc id key g
    → ((col row : ℕ) (ps : List Rgba) → with_ply col row ps x ≡ laid_on look.op look.opacity (given_at col row g) ps) → ((n : Option ℕ) → then_open n x ≡ n) → new ≡ old ++ x ∷ [] → AddsStage doc key (stage.Layer id look) old new
layer_laid doc key id look g x old new few clean known has lays stays is = record {
  pixels = λ p h. after p ∙ ap (λ c. laid_on look.op look.opacity c (open_on p old)) (has p h);
  groups = λ n e. ap groups_open is ∙ groups_more old x ∙ stays (groups_open old) ∙ e;
  clean = λ p. subst (AllByRecursion IsCanonical) (sym (after p)) (all_laid look.op look.opacity (given_on g p) (open_on p old) few (known p) (clean p));
}
  where
    after : (p : Point) → open_on p new ≡ laid_on look.op look.opacity (given_on g p) (open_on p old)
    after p = ap (open_on p) is ∙ one_more p old x ∙ lays (across p % 64) (down p % 64) (open_on p old)

-- a clear layer leaves nothing
pub layer_left_out : (doc : Doc) (key : Key) (id : ℕ) (look : Look) (g : Given) (plies : List Ply) → AreClean plies → HasLayer doc id key g → g ≡ given.Plain clear → AddsStage doc key (stage.Layer id look) plies plies
layer_left_out doc key id look g plies clean has is = record {
  pixels = λ p h. sym (ap (λ c. laid_on look.op look.opacity c (open_on p plies)) (sym (has p h) ∙ ap (λ x. given_on x p) is) ∙ clear_laid look.op look.opacity (open_on p plies) (clean p));
  groups = λ n e. e;
  clean = clean;
}

-- ---- what a layer has on a tile

layer_there : (doc : Doc) (id : ℕ) (d : Sheet) (key : Key) (o : Option Pixels) → content id doc ≡ Some (layer_of d) → tile_under d.tiles key ≡ o → (p : Point) → in_tile key p ≡ true → at (layer_in id doc) p ≡ pixel_or o d.default_pixel p
layer_there doc id d key o e u p h = ap (λ c. at (unwrap_or c (plain clear)) p) e ∙ at-layer_of d p ∙ ap (λ t. pixel_or t d.default_pixel p) (ap (tile_under d.tiles) (key_same (key_of p) key h) ∙ u)

-- there is no paint layer of that id
pub no_layer : (doc : Doc) (id : ℕ) (key : Key) → content id doc ≡ None → HasLayer doc id key (given.Plain clear)
no_layer doc id key e p h = sym (ap (λ c. at (unwrap_or c (plain clear)) p) e ∙ at-plain clear p)

-- it has a tile there
pub layer_tile : (doc : Doc) (id : ℕ) (key : Key) (d : Sheet) (t : Pixels) → content id doc ≡ Some (layer_of d) → tile_under d.tiles key ≡ Some t → HasLayer doc id key (given.Held t)
layer_tile doc id key d t e u p h = sym (layer_there doc id d key (Some t) e u p h)

-- it has its default pixel there
pub layer_plain : (doc : Doc) (id : ℕ) (key : Key) (d : Sheet) → content id doc ≡ Some (layer_of d) → tile_under d.tiles key ≡ None → HasLayer doc id key (given.Plain d.default_pixel)
layer_plain doc id key d e u p h = sym (layer_there doc id d key None e u p h)

-- ---- all stages

-- with the stages that are left the plies come to the document's picture
pub record ComesTo (doc : Doc) (key : Key) (rest : List Stage) (plies : List Ply) : Type 0 where
  pub pixels : (p : Point) → in_tile key p ≡ true → fold (with_stage doc p) (open_on p plies) rest ≡ picture doc p ∷ []
  pub groups : fold then_staged (groups_open plies) rest ≡ Some 1
  pub clean : AreClean plies

pub none_added : (doc : Doc) (key : Key) (stages : List Stage) (plies : List Ply) → IsDocument doc → stages ≡ outline (shape doc) → plies ≡ [] → ComesTo doc key stages plies
none_added doc key stages plies limits is none = record {
  pixels = λ p h. (λ i. fold (with_stage doc p) (open_on p (none i)) (all i)) ∙ stages_show doc p limits;
  groups = (λ i. fold then_staged (groups_open (none i)) (all i)) ∙ stages_close doc limits;
  clean = λ p. subst (λ xs. AllByRecursion IsCanonical (open_on p xs)) (sym none) (clear_canonical, tt);
}
  where
    all : stages ≡ outline doc
    all = is ∙ outline_shape doc

pub one_added : (doc : Doc) (key : Key) (s : Stage) (left rest : List Stage) (old new : List Ply) → left ≡ s ∷ rest → ComesTo doc key left old → AddsStage doc key s old new → ComesTo doc key rest new
one_added doc key s left rest old new is so adds = record {
  pixels = λ p h. ap (λ ps. fold (with_stage doc p) ps rest) (adds.pixels p h) ∙ ap (fold (with_stage doc p) (open_on p old)) (sym is) ∙ so.pixels p h;
  groups = ap (λ o. fold then_staged o rest) (adds.groups next.0 next.1 ∙ sym next.1) ∙ still;
  clean = adds.clean;
}
  where
    still : fold then_staged (then_staged (groups_open old) s) rest ≡ Some 1
    still = ap (fold then_staged (groups_open old)) (sym is) ∙ so.groups

    next : (n : ℕ) × (then_staged (groups_open old) s ≡ Some n)
    next = then_some (then_staged (groups_open old) s) rest still

-- the stage at hand is added
pub stage_passed : (doc : Doc) (key : Key) (stages : List Stage) (i : ℕ) (d : Stage) (old new : List Ply) → i < length stages → ComesTo doc key (drop i stages) old → AddsStage doc key (get_or stages i d) old new → ComesTo doc key (drop (i + 1) stages) new
stage_passed doc key stages i d old new h so adds = one_added doc key (get_or stages i d) (drop i stages) (drop (i + 1) stages) old new (rw (add-one, drop-cons stages i d) refl) so adds

pub all_added : (doc : Doc) (key : Key) (left : List Stage) (plies : List Ply) → left ≡ [] → ComesTo doc key left plies → MakesPicture doc key plies
all_added doc key left plies none so = record {
  stack = ap (fold then_staged (groups_open plies)) (sym none) ∙ so.groups;
  shows = λ p h. made_here plies (across p % 64) (down p % 64) (omega arith) (omega arith) ∙ ap (λ ps. get_or ps 0 clear) (ap (fold (with_stage doc p) (open_on p plies)) (sym none) ∙ so.pixels p h);
}
