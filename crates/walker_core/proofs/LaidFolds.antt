-- Folds of lower children, as they are laid and made.
use Rattle.std.proofs.Common.{◌≡◌, ◌⊎◌, inl, inr, ℕ, Bool, true, false, ◌||◌, cond, List, ◌∷◌, take, Option, None, Some, refl, sym, ap, subst, ◌∙◌, arith}
use Rattle.std.specs.Prelude.{IfSome, ℤ, pos, ◌+ℤ◌, ◌-ℤ◌, ◌≤ℤ◌, nat_abs}
use Rattle.std.specs.Int.{int_max, int_min}
use Rattle.std.specs.Borrow.{Bor}
use Rattle.std.proofs.lemmas.List.Elements.{All-contains}
use borrow.Author.Differences.{ints}
use Rattle.pixel_core.specs.Rgba.{clear}
use Rattle.geom_core.specs.Areas.{Area, holds, lies_in, Point}
use Rattle.geom_core.specs.Grid.{Key, tile}
use Rattle.geom_core.specs.Keys.{IsWorldKey}
use Rattle.geom_core.specs.Overlaps.{bound}
use Rattle.geom_core.specs.Rects.{IsShared, IsWithin}
use Rattle.geom_core.proofs.Bounds.{lies_held}
use Rattle.geom_core.proofs.Tests.{both_true, kept, or_cases, taken}
use Rattle.doc_model.specs.Shots.{in_tile}
use Rattle.machine_model.specs.Groups.{on}
use Rattle.machine_model.specs.Walks.{walk_folded}
use Rattle.compose_core.specs.declared.children.Given.{Given}
use Rattle.compose_core.specs.declared.pile.Pile.{Pile}
use Rattle.compose_core.specs.declared.spot.Spot.{Spot}
use Rattle.compose_core.specs.Piles.{pile_at}
use Rattle.compose_core.specs.Spots.{given_on, IsSpot}
use Rattle.compose_core.proofs.SpotPoints.{part_key}
use Rattle.walker_core.specs.declared.folds.Fold.{Fold}
use Rattle.walker_core.specs.declared.folds.Lower.{Lower}
use Rattle.walker_core.specs.declared.gathered.Source.{Source}
use Rattle.walker_core.specs.declared.known.Footing.{Footing}
use Rattle.walker_core.specs.declared.row.Below.{Below}
use Rattle.walker_core.specs.Folds.{IsFoldIn, IsFoldOf, IsFoldOn, Joins, lower_value, StandsOn}
use Rattle.walker_core.specs.Lower.{AreSources, FoldsSources, IsEnd, IsNamed, IsOfKnown, KnowsSources, LaysSources, LaysUpTo, next_group, ShowsEither, ShowsSources}
use Rattle.walker_core.specs.Readings.{Readings, path_in}
use Rattle.walker_core.specs.Rows.{AreComposed, values_of}
use Rattle.walker_core.specs.Views.{children_in}
use Rattle.walker_core.proofs.LowerOnes.{lower_shown, next_on}

-- children laid on the empty pile
pub first_laid : (rect : Area) (below : Below) (g : ℕ) (ss : List Source) (spot : Spot) (old new : Pile) → IsSpot spot → ((p : Point) → pile_at old p ≡ clear) → LaysSources rect spot.key below g ss old new → ShowsSources rect below g ss spot.part (pile_at new)
first_laid rect below g ss spot old new is empty lays p h q = lays p h (part_key spot p is q) ∙ ap (λ b. walk_folded (values_of below.path.now below.given.now p) (children_in rect g ss) p b) (empty p)

-- what is known of them, where it has the whole part
pub known_laid : (rect : Area) (below : Below) (l : Lower) (f : Fold) (part : Area) (new : Pile) → FoldsSources rect below l.group l.sources.now f → lies_in part f.spot.part ≡ true → ((p : Point) → pile_at new p ≡ given_on f.given p) → ShowsSources rect below l.group l.sources.now part (pile_at new)
known_laid rect below l f part new folds lies shows p h q = shows p ∙ folds p h (lies_held part f.spot.part lies p q)

-- what the pile has, or what is known
pub either_laid : (rect : Area) (below : Below) (l : Lower) (part : Area) (pile : Pile) (given : Given) → ShowsEither l.known pile part given → ShowsSources rect below l.group l.sources.now part (pile_at pile) → KnowsSources rect below l
    → ShowsSources rect below l.group l.sources.now part (given_on given)
either_laid rect below l part pile given either shown knows p h q = go l.known (either p q) knows
  where
    go : (o : Option (Bor Fold)) → (given_on given p ≡ pile_at pile p) ⊎ IsOfKnown o given p → IfSome o (λ f. FoldsSources rect below l.group l.sources.now f.now) → given_on given p ≡ walk_folded (values_of below.path.now below.given.now p) (children_in rect l.group l.sources.now) p clear
    go None (inl e) k = e ∙ shown p h q
    go None (inr none) k = absurd none
    go (Some f) (inl e) k = e ∙ shown p h q
    go (Some f) (inr t) k = t.1 ∙ k p h t.0

-- a known fold with what it lacks of a part
pub grown : (known : Option (Bor Fold)) (f : Bor Fold) (pile : Pile) (spot : Spot) (rest : Area) (fresh old given : Given) → known ≡ Some f → IsSpot spot → ((p : Point) → holds spot.part p ≡ true → (holds rest p || holds f.now.spot.part p) ≡ true)
    → ((p : Point) → holds rest p ≡ true → given_on fresh p ≡ pile_at pile p) → old ≡ f.now.given → ((p : Point) → in_tile spot.key p ≡ true → given_on given p ≡ cond (holds rest p) (given_on fresh p) (given_on old p)) → ShowsEither known pile spot.part given
grown known f pile spot rest fresh old given e is all shows same over = subst (λ o. ShowsEither o pile spot.part given) (sym e) either
  where
    either : (p : Point) → holds spot.part p ≡ true → (given_on given p ≡ pile_at pile p) ⊎ ((holds f.now.spot.part p ≡ true) × (given_on given p ≡ given_on f.now.given p))
    either p q = go (holds rest p) refl (or_cases (holds rest p) (holds f.now.spot.part p) (all p q))
      where
        go : (m : Bool) → holds rest p ≡ m → (holds rest p ≡ true) ⊎ (holds f.now.spot.part p ≡ true) → (given_on given p ≡ pile_at pile p) ⊎ ((holds f.now.spot.part p ≡ true) × (given_on given p ≡ given_on f.now.given p))
        go true e h = inl (over p (part_key spot p is q) ∙ taken (holds rest p) _ _ e ∙ shows p e)
        go false e (inl h) = absurd (let n : true ≡ false = sym h ∙ e in cc)
        go false e (inr h) = inr (h, over p (part_key spot p is q) ∙ kept (holds rest p) _ _ e ∙ ap (λ g. given_on g p) same)

-- the known fold is that of the children before their end
pub known_right : (r : Readings) (ss : List Source) (key : Key) (below : Below) (x : Footing) (g end : ℕ) (o : Option (Bor Fold)) → AreSources r ss → AreComposed r key below → g ≡ next_group r below → IsEnd ss g (x.layer ∷ path_in r) end → StandsOn r x
    → IfSome o (λ f. IsFoldIn x g key f.now) → IfSome o (λ f. ShowsSources r.patch.rect below g (take end ss) f.now.spot.part (given_on f.now.given))
known_right r ss key below x g end None of composed next is stands in_it = tt
known_right r ss key below x g end (Some f) of composed next is stands in_it =
    let right : IsFoldOf r f.now = All-contains (IsFoldOf r) x.folds.items f.now stands in_it.among in
    λ p h q. right.values p h q
    ∙ (λ i. lower_value r (in_it.layer i) (in_it.group i) p)
    ∙ sym (lower_shown r ss key below x.layer g end p of composed next is h (ap (λ k. in_tile k p) (sym in_it.tile) ∙ part_key f.now.spot p right.spot q))

-- what is new of a fold is right
pub fold_right : (r : Readings) (ss : List Source) (key : Key) (below : Below) (layer g end : ℕ) (part : Area) (f : Fold) → AreSources r ss → AreComposed r key below → g ≡ next_group r below → IsEnd ss g (layer ∷ path_in r) end
    → IsSpot (record { key = key; part = part }) → f.spot ≡ record { key = key; part = part } → f.group ≡ g → f.layer ≡ layer → ShowsSources r.patch.rect below g (take end ss) f.spot.part (given_on f.given) → IsFoldOn r key f
fold_right r ss key below layer g end part f of composed next is spot at group named shows =
    let tile : f.spot.key ≡ key = ap (λ (s : Spot). s.key) at in
    let right : IsSpot f.spot = subst IsSpot (sym at) spot in (
      record {
        spot = right;
        on_path = ap (λ n. on n (path_in r)) (group ∙ next) ∙ next_on r key below composed;
        values = λ p h q. shows p h q
            ∙ lower_shown r ss key below layer g end p of composed next is h (ap (λ k. in_tile k p) (sym tile) ∙ part_key f.spot p right q)
            ∙ (λ i. lower_value r (sym named i) (sym group i) p);
      },
      tile,
    )

-- where something is new
pub folds_right : (r : Readings) (ss : List Source) (key : Key) (below : Below) (layer g end : ℕ) (part : Area) (o : Option Fold) → AreSources r ss → AreComposed r key below → g ≡ next_group r below → IsEnd ss g (layer ∷ path_in r) end
    → IsSpot (record { key = key; part = part }) → IfSome o (λ f. f.spot ≡ record { key = key; part = part }) → IfSome o (IsNamed g layer) → IfSome o (FoldsSources r.patch.rect below g (take end ss)) → IfSome o (IsFoldOn r key)
folds_right r ss key below layer g end part None of composed next is spot at named shows = tt
folds_right r ss key below layer g end part (Some f) of composed next is spot at named shows = fold_right r ss key below layer g end part f of composed next is spot at named.group named.layer shows

-- the lower children are laid on what the spot has of the patch
pub lower_laid : (r : Readings) (ss : List Source) (spot : Spot) (below : Below) (g end : ℕ) (rect part : Area) (pile : Pile) → g ≡ next_group r below → rect ≡ r.patch.rect → IsShared spot.part rect part → ShowsSources r.patch.rect below g (take end ss) part (pile_at pile)
    → LaysUpTo r ss spot below end pile
lower_laid r ss spot below g end rect part pile next e shared shows p h q =
    shows p h (shared.held p ∙ both_true (holds spot.part p) (holds rect p) q (ap (λ a. holds a p) e ∙ h))
    ∙ ap (λ n. walk_folded (values_of below.path.now below.given.now p) (children_in r.patch.rect n (take end ss)) p clear) next

-- one axis
among : (a b c : ℤ) (n m k : ℕ) → b ≤ℤ a → (a +ℤ pos n) ≤ℤ (b +ℤ pos m) → c ≤ℤ b → (b +ℤ pos m) ≤ℤ (c +ℤ pos k) → (c ≤ℤ a) × ((a +ℤ pos n) ≤ℤ (c +ℤ pos k))
among a b c n m k h i j l = (omega (arith, ints), omega (arith, ints))

within_both : (a b c : Area) → IsWithin a b → IsWithin b c → IsWithin a c
within_both a b c h k =
    let x : (c.x ≤ℤ a.x) × ((a.x +ℤ pos a.w) ≤ℤ (c.x +ℤ pos c.w)) = among a.x b.x c.x a.w b.w c.w h.left h.right k.left k.right in
    let y : (c.y ≤ℤ a.y) × ((a.y +ℤ pos a.h) ≤ℤ (c.y +ℤ pos c.h)) = among a.y b.y c.y a.h b.h c.h h.top h.bottom k.top k.bottom in
    record { left = x.0; right = x.1; top = y.0; bottom = y.1 }

-- a part of a spot
pub part_spot : (s : Spot) (part : Area) → IsSpot s → IsWithin part s.part → IsSpot (record { key = s.key; part = part })
part_spot s part is within = record { key = is.key; inside = within_both part s.part (tile s.key) within is.inside }

bound_low : (a b c : ℤ) → c ≤ℤ a → c ≤ℤ b → c ≤ℤ int_min a b
bound_low a b c h k = grind (arith, ints)

bound_high : (a b c : ℤ) (n m k : ℕ) → (a +ℤ pos n) ≤ℤ (c +ℤ pos k) → (b +ℤ pos m) ≤ℤ (c +ℤ pos k) → (int_min a b +ℤ pos (nat_abs (int_max (a +ℤ pos n) (b +ℤ pos m) -ℤ int_min a b))) ≤ℤ (c +ℤ pos k)
bound_high a b c n m k h i = grind (arith, ints)

bound_within : (a b c : Area) → IsWithin a c → IsWithin b c → IsWithin (bound a b) c
bound_within a b c h k = record {
  left = bound_low a.x b.x c.x h.left k.left;
  right = bound_high a.x b.x c.x a.w b.w c.w h.right k.right;
  top = bound_low a.y b.y c.y h.top k.top;
  bottom = bound_high a.y b.y c.y a.h b.h c.h h.bottom k.bottom;
}

-- two folds as one
pub both_joined : (a b c : Fold) (given : Given) (rest : Area) → IsSpot a.spot → IsSpot b.spot → a.spot.key ≡ b.spot.key → c.group ≡ a.group → c.layer ≡ a.layer → c.spot.key ≡ a.spot.key → c.spot.part ≡ bound a.spot.part b.spot.part → c.given ≡ given
    → ((p : Point) → in_tile b.spot.key p ≡ true → given_on given p ≡ cond (holds b.spot.part p) (given_on b.given p) (given_on a.given p))
    → ((p : Point) → holds (bound a.spot.part b.spot.part) p ≡ true → (holds rest p || holds a.spot.part p) ≡ true) → lies_in rest b.spot.part ≡ true → Joins a b c
both_joined a b c given rest own more same group layer tile_is part is over all lies = record { group = group; layer = layer; tile = tile_is; spot = spot; values = values }
  where
    spot : IsSpot c.spot
    spot = record {
      key = subst IsWorldKey (sym tile_is) own.key;
      inside = subst (λ k. IsWithin c.spot.part (tile k)) (sym tile_is)
          (subst (λ q. IsWithin q (tile a.spot.key)) (sym part) (bound_within a.spot.part b.spot.part (tile a.spot.key) own.inside (subst (λ k. IsWithin b.spot.part (tile k)) (sym same) more.inside)));
    }

    values : (p : Point) → holds c.spot.part p ≡ true → ((holds a.spot.part p ≡ true) × (given_on c.given p ≡ given_on a.given p)) ⊎ ((holds b.spot.part p ≡ true) × (given_on c.given p ≡ given_on b.given p))
    values p h = go (holds b.spot.part p) refl
      where
        here : given_on c.given p ≡ cond (holds b.spot.part p) (given_on b.given p) (given_on a.given p)
        here = ap (λ g. given_on g p) is ∙ over p (ap (λ k. in_tile k p) (sym (tile_is ∙ same)) ∙ part_key c.spot p spot h)

        held : (holds rest p || holds a.spot.part p) ≡ true
        held = all p (ap (λ q. holds q p) (sym part) ∙ h)

        first : holds b.spot.part p ≡ false → (holds rest p ≡ true) ⊎ (holds a.spot.part p ≡ true) → holds a.spot.part p ≡ true
        first out (inl e) = absurd (let t : holds b.spot.part p ≡ true = lies_held rest b.spot.part lies p e in let n : true ≡ false = sym t ∙ out in cc)
        first out (inr e) = e

        go : (m : Bool) → holds b.spot.part p ≡ m → ((holds a.spot.part p ≡ true) × (given_on c.given p ≡ given_on a.given p)) ⊎ ((holds b.spot.part p ≡ true) × (given_on c.given p ≡ given_on b.given p))
        go true e = inr (e, here ∙ taken (holds b.spot.part p) _ _ e)
        go false e = inl (first e (or_cases (holds rest p) (holds a.spot.part p) held), here ∙ kept (holds b.spot.part p) _ _ e)
