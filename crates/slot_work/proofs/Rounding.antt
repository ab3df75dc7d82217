-- How the least rectangle round points that pass grows.
use Rattle.std.proofs.Common.{◌≡◌, ℕ, zero, suc, ◌+◌, ◌≤◌, ◌<◌, Bool, true, false, ◌&&◌, ◌||◌, cond, Option, Some, None, List, [], ◌∷◌, map, length, take, refl, sym, ap, ◌∙◌, subst, inl, inr, arith}
use Rattle.std.specs.Prelude.{ℤ, pos, ◌+ℤ◌, int_le, int_lt, IfSome, slice_get}
use Rattle.std.specs.List.{list_any}
use borrow.Author.Differences.{ints}
use Rattle.std.proofs.lemmas.List.{take_all}
use Rattle.std.proofs.lemmas.List.Folds.{list_any-append}
use Rattle.geom_core.specs.Areas.{Area, Point, point, holds, lies_in, meets}
use Rattle.geom_core.specs.Overlaps.{bound, clipped, common}
use Rattle.geom_core.specs.Exchanged.{widened}
use Rattle.geom_core.specs.Laws.{AllIn, IsLeastAround}
use Rattle.geom_core.specs.Rects.{IsShared}
use Rattle.geom_core.proofs.Bounds.{least_bound}
use Rattle.geom_core.proofs.Lying.{bound_lies, common_lies_left}
use Rattle.geom_core.proofs.Tests.{and_left, and_right, both_true, or_cases, or_left, or_right, or-false}
use Rattle.machine_model.specs.State.{Slot}
use Rattle.slot_core.specs.declared.Busy.{Busy}
use Rattle.desk_state.specs.declared.work.Work.{Work}
use Rattle.desk_state.specs.Choices.{works_on}
use Rattle.desk_state.specs.Parts.{slot_of}
use Rattle.update_queue.proofs.Elements.{take_here}
use Rattle.slot_work.specs.Round.{HasPassing, SomePasses, IsRound, Widens}

if_some : {A : Type 0} (o : Option A) (P Q : A → Type 0) → ((x : A) → P x → Q x) → IfSome o P → IfSome o Q
if_some None P Q f h = tt
if_some (Some x) P Q f h = f x h

first_held : (a : ℤ) (n : ℕ) → 1 ≤ n → (int_le a a && int_lt a (a +ℤ pos n)) ≡ true
first_held a n h = grind (arith, ints)

-- a rectangle holds its corner
corner_held : (a : Area) → 1 ≤ a.w → 1 ≤ a.h → holds a (point a.x a.y) ≡ true
corner_held a w h = both_true _ _ (first_held a.x a.w w) (first_held a.y a.h h)

no_or : (a b : Bool) → b ≡ false → (a || b) ≡ true → a ≡ true
no_or true b e h = refl
no_or false b e h = absurd (cc (e, h))

or_again : (a b c : Bool) → ((a || b) || c) ≡ (a || (b || c))
or_again true b c = refl
or_again false b c = refl

module _ (a : Area) where
  -- nothing is found of what never passes
  pub round_none : IsRound a (λ p. false) None
  round_none = record { covers = λ p h k. absurd (cc (k)); some = tt; within = tt; least = tt; sides = tt }

  -- tests that say the same
  pub round_same : (passes others : Point → Bool) (o : Option Area) → ((p : Point) → passes p ≡ others p) → IsRound a passes o → IsRound a others o
  round_same passes others o same r = subst (λ (t : Point → Bool). IsRound a t o) (λ i p. same p i) r

  -- ---- one rectangle more

  -- that has no point in common
  round_apart : (passes more : Point → Bool) (o : Option Area) → ((p : Point) → holds a p ≡ true → more p ≡ false) → IsRound a passes o → IsRound a (λ p. passes p || more p) o
  round_apart passes more o apart r = record {
    covers = λ p h k. r.covers p h (no_or (passes p) (more p) (apart p h) k);
    some = if_some o (λ d. SomePasses a passes) (λ d. SomePasses a (λ p. passes p || more p)) (λ d s. record { point = s.point; inside = s.inside; is = or_left (passes s.point) (more s.point) s.is }) r.some;
    within = r.within;
    least = if_some o (λ d. (b : Area) → HasPassing a passes b → AllIn d b) (λ d. (b : Area) → HasPassing a (λ p. passes p || more p) b → AllIn d b) (λ d l b has. l b (λ p h k. has p h (or_left (passes p) (more p) k))) r.least;
    sides = r.sides;
  }

  module _ (passes more : Point → Bool) (c : Area) (wide : 1 ≤ c.w) (high : 1 ≤ c.h) (lies : lies_in c a ≡ true) (held : (p : Point) → holds c p ≡ (holds a p && more p)) where
    some_more : SomePasses a (λ p. passes p || more p)
    some_more =
        let corner : Point = point c.x c.y in
        let both : (holds a corner && more corner) ≡ true = sym (held corner) ∙ corner_held c wide high in
        record { point = corner; inside = and_left (holds a corner) (more corner) both; is = or_right (passes corner) (more corner) (and_right (holds a corner) (more corner) both) }

    of_part : (b : Area) → HasPassing a (λ p. passes p || more p) b → AllIn c b
    of_part b has p h =
        let both : (holds a p && more p) ≡ true = sym (held p) ∙ h in
        has p (and_left (holds a p) (more p) both) (or_right (passes p) (more p) (and_right (holds a p) (more p) both))

    -- that has some: what they have in common is taken in
    round_more : (o : Option Area) → (1 ≤ (widened o c).w) × (1 ≤ (widened o c).h) → IsRound a passes o → IsRound a (λ p. passes p || more p) (Some (widened o c))
    round_more None sides r = record {
      covers = λ p h k. elim (or_cases (passes p) (more p) k) [ inl t ↦ absurd (r.covers p h t) | inr t ↦ held p ∙ both_true (holds a p) (more p) h t ];
      some = some_more;
      within = lies;
      least = of_part;
      sides = sides;
    }
    round_more (Some d) sides r =
        let l : IsLeastAround d c (bound d c) = least_bound d c r.sides.0 r.sides.1 wide high in
        record {
          covers = λ p h k. elim (or_cases (passes p) (more p) k) [ inl t ↦ l.first p (r.covers p h t) | inr t ↦ l.second p (held p ∙ both_true (holds a p) (more p) h t) ];
          some = some_more;
          within = bound_lies d c a r.within lies;
          least = λ b has. l.least b (r.least b (λ p h k. has p h (or_left (passes p) (more p) k))) (of_part b has);
          sides = sides;
        }

  pub widens_apart : (b : Area) (o : Option Area) → ((p : Point) → holds a p ≡ true → holds b p ≡ false) → Widens a (holds b) o o
  widens_apart b o apart passes r = round_apart passes (holds b) o apart r

  meets_clipped : (b c : Area) → clipped a b ≡ Some c → (meets a b ≡ true) × (common a b ≡ c)
  meets_clipped b c = go (meets a b) refl
    where
      one : (x y : Area) → Some x ≡ Some y → x ≡ y
      one x y e = cc

      go : (t : Bool) → meets a b ≡ t → cond t (Some (common a b)) None ≡ Some c → (meets a b ≡ true) × (common a b ≡ c)
      go true e h = (e, one (common a b) c h)
      go false e h = absurd (cc (h))

  pub widens_more : (b c : Area) (o : Option Area) (new : Area) → clipped a b ≡ Some c → IsShared a b c → 1 ≤ c.w → 1 ≤ c.h → new ≡ widened o c → 1 ≤ new.w → 1 ≤ new.h → Widens a (holds b) o (Some new)
  widens_more b c o new clip shared wide high is columns rows passes r =
      let met : (meets a b ≡ true) × (common a b ≡ c) = meets_clipped b c clip in
      subst (λ (n : Area). IsRound a (λ p. passes p || holds b p) (Some n)) (sym is)
      (round_more passes (holds b) c wide high (subst (λ (d : Area). lies_in d a ≡ true) met.1 (common_lies_left a b met.0)) shared.held o (subst (λ (n : Area). 1 ≤ n.w) is columns, subst (λ (n : Area). 1 ≤ n.h) is rows) r)

  -- ---- several, one after another

  pub widens_nothing : (o : Option Area) → Widens a (λ p. false) o o
  widens_nothing o passes r = round_same passes (λ p. passes p || false) o (λ p. sym (or-false (passes p))) r

  pub widens_same : (more others : Point → Bool) (old new : Option Area) → ((p : Point) → more p ≡ others p) → Widens a more old new → Widens a others old new
  widens_same more others old new same w = subst (λ (t : Point → Bool). Widens a t old new) (λ i p. same p i) w

  pub widens_then : (more others : Point → Bool) (old mid new : Option Area) → Widens a more old mid → Widens a others mid new → Widens a (λ p. more p || others p) old new
  widens_then more others old mid new first second passes r =
      round_same (λ p. (passes p || more p) || others p) (λ p. passes p || (more p || others p)) new (λ p. or_again (passes p) (more p) (others p)) (second (λ p. passes p || more p) (first passes r))

  -- what is found at first
  pub round_first : (more : Point → Bool) (new : Option Area) → Widens a more None new → IsRound a more new
  round_first more new w = w (λ p. false) round_none

  module _ {A : Type 0} (test : Point → A → Bool) (xs : List A) (old mid new : Option Area) where
    pub widens_next : (i : ℕ) (x : A) → slice_get xs i ≡ Some x → Widens a (λ p. list_any (test p) (take i xs)) old mid → Widens a (λ p. test p x) mid new → Widens a (λ p. list_any (test p) (take (i + 1) xs)) old new
    widens_next i x at first second =
        widens_same (λ p. list_any (test p) (take i xs) || test p x) (λ p. list_any (test p) (take (i + 1) xs)) old new
        (λ p. sym (ap (list_any (test p)) (take_here xs i x at) ∙ list_any-append (test p) (take i xs) (x ∷ []) ∙ ap (λ b. list_any (test p) (take i xs) || b) (or-false (test p x))))
        (widens_then (λ p. list_any (test p) (take i xs)) (λ p. test p x) old mid new first second)

    pub widens_all : (i : ℕ) → length xs ≤ i → Widens a (λ p. list_any (test p) (take i xs)) old new → Widens a (λ p. list_any (test p) xs) old new
    widens_all i past w = widens_same (λ p. list_any (test p) (take i xs)) (λ p. list_any (test p) xs) old new (λ p. ap (list_any (test p)) (take_all i xs past)) w

-- ---- the slots

is_there : {A : Type 0} (xs : List A) (i : ℕ) → i < length xs → (x : A) × (slice_get xs i ≡ Some x)
is_there [] i h = absurd (omega arith)
is_there (x ∷ xs) zero h = (x, refl)
is_there (x ∷ xs) (suc i) h = is_there xs i (omega arith)

same_count : (slots : List (Option (Busy Work))) → length (map slot_of slots) ≡ length slots
same_count [] = refl
same_count (x ∷ slots) = ap suc (same_count slots)

pub slots_next : (a : Area) (slots : List (Option (Busy Work))) (i : ℕ) (old mid new : Option Area) → i < length slots
    → Widens a (λ p. list_any (works_on p) (take i (map slot_of slots))) old mid
    → ((slot : Slot) → slice_get (map slot_of slots) i ≡ Some slot → Widens a (λ p. works_on p slot) mid new)
    → Widens a (λ p. list_any (works_on p) (take (i + 1) (map slot_of slots))) old new
slots_next a slots i old mid new h first each =
    let count : length (map slot_of slots) ≡ length slots = same_count slots in
    let at : (slot : Slot) × (slice_get (map slot_of slots) i ≡ Some slot) = is_there (map slot_of slots) i (omega arith) in
    widens_next a works_on (map slot_of slots) old mid new i at.0 at.1 first (each at.0 at.1)

pub slots_all : (a : Area) (slots : List (Option (Busy Work))) (i : ℕ) (old new : Option Area) → length slots ≤ i
    → Widens a (λ p. list_any (works_on p) (take i (map slot_of slots))) old new → Widens a (λ p. list_any (works_on p) (map slot_of slots)) old new
slots_all a slots i old new past w =
    let count : length (map slot_of slots) ≡ length slots = same_count slots in
    widens_all a works_on (map slot_of slots) old old new i (omega arith) w
