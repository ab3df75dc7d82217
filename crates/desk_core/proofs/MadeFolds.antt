-- What a walk made of lower children, and what a desk keeps of it.
use Rattle.std.proofs.Common.{◌≡◌, ℕ, ◌≤◌, Bool, true, false, cond, List, [], ◌∷◌, map, refl, sym, ap, ◌∙◌, eqb, subst, inr}
use Rattle.std.specs.List.{All, AllByRecursion}
use Rattle.std.proofs.lemmas.List.Elements.{All-weaker}
use Rattle.pixel_core.specs.Rgba.{Rgba, clear}
use Rattle.geom_core.specs.Areas.{holds, lies_in, Point}
use Rattle.geom_core.specs.Grid.{Key}
use Rattle.doc_model.specs.declared.canvas.Patch.{Patch}
use Rattle.doc_model.specs.declared.tree.Look.{Look}
use Rattle.doc_model.specs.Shots.{in_tile}
use Rattle.machine_model.specs.State.{Child, State}
use Rattle.machine_model.specs.Caches.{SamePixels}
use Rattle.machine_model.specs.Covers.{folded}
use Rattle.machine_model.specs.Groups.{children_of, on}
use Rattle.machine_model.specs.Sound.{IsSound}
use Rattle.machine_model.specs.Walking.{SameChildren}
use Rattle.compose_core.specs.Spots.{IsSpot}
use Rattle.compose_core.proofs.SpotPoints.{part_key}
use Rattle.walker_core.specs.declared.folds.Fold.{Fold}
use Rattle.walker_core.specs.Composing.{Composition}
use Rattle.walker_core.specs.Folds.{lower, read_of, IsFoldOf, IsFoldOn}
use Rattle.walker_core.specs.Readings.{Readings, readings, path_in}
use Rattle.walker_core.specs.Sameness.{child_at, groups_at, ReadTheSame}
use Rattle.desk_state.proofs.Taking.{same_path}
use Rattle.desk_events.specs.AtWork.{WalksAs}
use Rattle.desk_events.specs.Commits.{MayPublishRow}
use Rattle.desk_core.specs.declared.folds.Folds.{Folds}
use Rattle.desk_core.specs.Keeping.{Lowers, lowers, Shows, ShowsWithin, AreSpots, StandsSince, PaintsOn, Keeps}
use Rattle.desk_core.proofs.Keeping.{made_shows}
use Rattle.desk_core.proofs.LowerChildren.{lower_same}

-- ---- walks that read the same at a point

children_alike : (moving : List ℕ) (xs ys : List Child) (p : Point) → map (child_at p) xs ≡ map (child_at p) ys → SameChildren xs ys × SamePixels moving xs ys p
children_alike moving [] [] p e = (tt, tt)
children_alike moving [] (y ∷ ys) p e = absurd (cc)
children_alike moving (x ∷ xs) [] p e = absurd (cc)
children_alike moving (x ∷ xs) (y ∷ ys) p e =
    let first : child_at p x ≡ child_at p y = cc in
    let more : map (child_at p) xs ≡ map (child_at p) ys = cc in
    let rest : SameChildren xs ys × SamePixels moving xs ys p = children_alike moving xs ys p more in
    ((ap (λ (t : ℕ × (Look × Rgba)). t.0) first, ap (λ (t : ℕ × (Look × Rgba)). t.1.0) first, rest.0), ((λ off. ap (λ (t : ℕ × (Look × Rgba)). t.1.1) first), rest.1))

read_alike : (es fs : List (ℕ × List Child)) (g : ℕ) (p : Point) → groups_at p es ≡ groups_at p fs → map (child_at p) (read_of es g) ≡ map (child_at p) (read_of fs g)
read_alike [] [] g p e = refl
read_alike [] (f ∷ fs) g p e = absurd (cc)
read_alike (d ∷ es) [] g p e = absurd (cc)
read_alike (d ∷ es) (f ∷ fs) g p e =
    let first : ◌≡◌ {A = ℕ × List (ℕ × (Look × Rgba))} (d.0, map (child_at p) d.1) (f.0, map (child_at p) f.1) = cc in
    let more : groups_at p es ≡ groups_at p fs = cc in
    go (eqb d.0 g) (ap (λ (t : ℕ × List (ℕ × (Look × Rgba))). t.1) first) (read_alike es fs g p more) ∙ ap (λ n. map (child_at p) (cond (eqb n g) f.1 (read_of fs g))) (ap (λ (t : ℕ × List (ℕ × (Look × Rgba))). t.0) first)
  where
    go : (b : Bool) → map (child_at p) d.1 ≡ map (child_at p) f.1 → map (child_at p) (read_of es g) ≡ map (child_at p) (read_of fs g) → map (child_at p) (cond b d.1 (read_of es g)) ≡ map (child_at p) (cond b f.1 (read_of fs g))
    go true here rest = here
    go false here rest = rest

-- what one made is what the other would have made
made_alike : (a b : Readings) (key : Key) (x : Fold) → path_in a ≡ path_in b → ReadTheSame a b key → IsFoldOn b key x → IsFoldOf a x
made_alike a b key x path same made = record {
  spot = made.0.spot;
  on_path = ap (on x.group) path ∙ made.0.on_path;
  values = λ p held here.
      let tile : in_tile key p ≡ true = ap (λ k. in_tile k p) (sym made.1) ∙ part_key x.spot p made.0.spot here in
      let alike : SameChildren (read_of a.groups x.group) (read_of b.groups x.group) × SamePixels (x.layer ∷ path_in b) (read_of a.groups x.group) (read_of b.groups x.group) p = children_alike (x.layer ∷ path_in b) _ _ p (read_alike a.groups b.groups x.group p (same.groups p held tile)) in
      made.0.values p (ap (λ (q : Patch). holds q.rect p) (sym same.patch) ∙ held) here
      ∙ sym (lower_same (x.layer ∷ path_in b) (read_of a.groups x.group) (read_of b.groups x.group) p clear alike.0 alike.1)
      ∙ ap (λ gs. folded (lower (x.layer ∷ gs) (read_of a.groups x.group)) p clear) (sym path);
}

-- ---- what a walk at work made is kept

pub kept_keeps : (s : State) (place serial : ℕ) (c : Composition) (key : Key) (f f' : Folds) (made : List Fold) → IsSound s → 1 ≤ c.readings.patch.rect.w → 1 ≤ c.readings.patch.rect.h → MayPublishRow s place serial c key → AllByRecursion (WalksAs c.readings.patch.walk) s.slots
    → f.walk ≡ c.readings.patch.walk → f.since ≤ serial → All (IsFoldOn c.readings key) made → f'.layer ≡ f.layer → f'.walk ≡ f.walk → f'.since ≡ f.since
    → ((x : Lowers) → All (ShowsWithin x f.layer c.readings.patch.rect) made → All (Shows x) f.folds.items → All (Shows x) f'.folds.items) → Keeps s f → Keeps s f'
kept_keeps s place serial c key f f' made sound wide high may all walk late folds layer' walk' since' kept is = record {
  paints = subst (λ l. PaintsOn s l) (sym layer') is.paints;
  stands = record {
    walks = inr (subst (λ k. AllByRecursion (WalksAs k) s.slots) (sym (walk' ∙ walk)) all);
    folds = subst (λ l. All (Shows (lowers s l f'.walk)) f'.folds.items) (sym layer') (subst (λ k. All (Shows (lowers s f.layer k)) f'.folds.items) (sym walk') (kept (lowers s f.layer f.walk) within is.stands.folds));
    reads = subst (λ l. AllByRecursion (StandsSince (children_of s) l f'.since) s.slots) (sym layer') (subst (λ n. AllByRecursion (StandsSince (children_of s) f.layer n) s.slots) (sym since') is.stands.reads);
  };
}
  where
    same : ReadTheSame (readings may.walker.patch may.walker.shot) c.readings key
    same = may.of.of.same

    path : path_in (readings may.walker.patch may.walker.shot) ≡ path_in c.readings
    path = same_path (readings may.walker.patch may.walker.shot) c.readings key (subst (λ (q : Patch). 1 ≤ q.rect.w) (sym same.patch) wide) (subst (λ (q : Patch). 1 ≤ q.rect.h) (sym same.patch) high) may.of.in_patch same

    within : All (ShowsWithin (lowers s f.layer f.walk) f.layer c.readings.patch.rect) made
    within = All-weaker (IsFoldOn c.readings key) (ShowsWithin (lowers s f.layer f.walk) f.layer c.readings.patch.rect)
        (λ a on' layer lies. made_shows s may.walker place f a sound may.runs is.stands (subst (λ n. f.since ≤ n) (sym may.drawn) late) (walk ∙ ap (λ (q : Patch). q.walk) (sym same.patch)) (made_alike (readings may.walker.patch may.walker.shot) c.readings key a path same on') layer (ap (λ (q : Patch). lies_in a.spot.part q.rect) same.patch ∙ lies))
        made folds

-- all that is kept is of parts of tiles
pub kept_spots : (s : State) (f : Folds) → Keeps s f → AreSpots f.folds.items
kept_spots s f is = All-weaker (Shows (lowers s f.layer f.walk)) (λ (a : Fold). IsSpot a.spot) (λ a shows. shows.spot) f.folds.items is.stands.folds

-- and all that was made
pub made_spots : (r : Readings) (key : Key) (made : List Fold) → All (IsFoldOn r key) made → AreSpots made
made_spots r key made all = All-weaker (IsFoldOn r key) (λ (a : Fold). IsSpot a.spot) (λ a on'. on'.0.spot) made all
