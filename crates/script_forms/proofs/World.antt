-- Jobs in the world, or not.
use Rattle.std.proofs.Common.{◌≡◌, ℕ, ◌+◌, ◌*◌, ◌≤◌, nat_le, Bool, true, false, ◌&&◌, subst, Result, Ok, Err, refl, sym, ap, ◌∙◌, arith, if◌then◌else◌}
use Rattle.std.specs.Prelude.{ℤ, pos, negsuc, ◌+ℤ◌, ◌-ℤ◌, int_le}
use borrow.Author.Differences.{ints}
use Rattle.geom_core.specs.Areas.{Area, area, lies_in, world}
use Rattle.doc_model.specs.Jobs.{grown, checks}
use Rattle.doc_model.specs.declared.job.Job.{Job}
use Rattle.doc_model.specs.Lawful.{within_limits}
use Rattle.std.proofs.lemmas.Bool.Decides.{nat_tests}
use Rattle.script_lines.specs.declared.cause.Cause.{Cause}
use Rattle.script_lines.specs.declared.cause.Cause.TheVariants.{OutOfWorld}
use Rattle.script_forms.specs.Jobs.{checked}
use Rattle.script_forms.specs.Ranges.{in_world}
use Rattle.geom_core.proofs.Tests.{no_first}

pub both : (a b : Bool) → a ≡ true → b ≡ true → (a && (b && true)) ≡ true
both a b h k = rw (h, k) refl

pub one : (a : Bool) → a ≡ true → (a && true) ≡ true
one a h = rw h refl

pub right_not : (a b : Bool) → b ≡ false → (a && (b && true)) ≡ false
right_not true b h = rw h refl
right_not false b h = refl

-- the value, where the test says so
abbrev pub choose : {A : Type 0} → Bool → A → Result A Cause
choose b x = if b then Ok x else Err OutOfWorld

-- what is told of a rectangle, by its numbers
pub told_as : (a : Area) {told : Result Area Cause} (x y : ℤ) (w h : ℕ) → told ≡ in_world a → a.x ≡ x → a.y ≡ y → a.w ≡ w → a.h ≡ h → told ≡ in_world (area x y w h)
told_as a x y w h e p q r s = e ∙ ap in_world (λ i. area (p i) (q i) (r i) (s i))

-- the job, where the test says so
pub answer : (b : Bool) (j k : Job) → b ≡ true → k ≡ j → Ok k ≡ choose b j
answer b j k h e = rw h (ap Ok e)

pub refused : (b : Bool) (j : Job) (e : Cause) → b ≡ false → e ≡ OutOfWorld → Err e ≡ choose b j
refused b j e h k = rw h (ap Err k)

pub record Held (a r : Area) : Type 0 where
  pub inside : lies_in a world ≡ true
  pub same : r ≡ a

pub record NotHeld (a : Area) (e : Cause) : Type 0 where
  pub outside : lies_in a world ≡ false
  pub cause : e ≡ OutOfWorld

pub held : (a r : Area) (told : Result Area Cause) → told ≡ in_world a → told ≡ Ok r → Held a r
held a r told h k = go (lies_in a world) refl (sym h ∙ k)
  where
    go : (b : Bool) → lies_in a world ≡ b → choose b a ≡ Ok r → Held a r
    go true e f = record { inside = e; same = cc }
    go false e f = absurd (cc)

pub not_held : (a : Area) (e : Cause) (told : Result Area Cause) → told ≡ in_world a → told ≡ Err e → NotHeld a e
not_held a e told h k = go (lies_in a world) refl (sym h ∙ k)
  where
    go : (b : Bool) → lies_in a world ≡ b → choose b a ≡ Err e → NotHeld a e
    go true t f = absurd (cc)
    go false t f = record { outside = t; cause = cc }

-- one axis of a rectangle that is grown
axis : (x : ℤ) (n r : ℕ) → (int_le (negsuc 16383) (x -ℤ pos r) && int_le ((x -ℤ pos r) +ℤ pos (n + 2 * r)) (pos 16384)) ≡ true → (int_le (negsuc 16383) x && int_le (x +ℤ pos n) (pos 16384)) ≡ true
axis x n r h = grind (arith, ints)

-- where the grown rectangle lies in the world, the rectangle does
pub inner : (a : Area) (r : ℕ) → lies_in a world ≡ false → lies_in (grown a r) world ≡ false
inner a r h = go (lies_in (grown a r) world) refl
  where
    left : (p q : Bool) → (p && q) ≡ true → p ≡ true
    left true q e = refl
    left false q e = e

    right : (p q : Bool) → (p && q) ≡ true → q ≡ true
    right true q e = e
    right false q e = absurd (cc)

    joined : (p q : Bool) → p ≡ true → q ≡ true → (p && q) ≡ true
    joined p q e f = rw (e, f) refl

    go : (b : Bool) → lies_in (grown a r) world ≡ b → b ≡ false
    go false e = refl
    go true e = sym (joined _ _ (axis a.x a.w r (left _ _ e)) (axis a.y a.h r (right _ _ e))) ∙ h

-- a job that was checked
pub checked_sound : (j k : Job) → Ok k ≡ checked j → within_limits j ≡ true → (checks k && within_limits k) ≡ true
checked_sound j k e w = go (checks j) refl e
  where
    held_by : checks j ≡ true → k ≡ j → (checks k && within_limits k) ≡ true
    held_by c same = subst (λ i. (checks i && within_limits i) ≡ true) (sym same) (rw (c, w) refl)

    go : (b : Bool) → checks j ≡ b → Ok k ≡ choose b j → (checks k && within_limits k) ≡ true
    go true c f = held_by c (cc (f))
    go false c f = absurd (cc (f))

pub box : (w h : ℕ) → 1 ≤ w → w ≤ 4096 → 1 ≤ h → h ≤ 4096 → ((nat_le 1 w && nat_le w 4096) && (nat_le 1 h && nat_le h 4096)) ≡ true
box w h a b c d = grind (arith, nat_tests)

pub box_and : (w h r : ℕ) → 1 ≤ w → w ≤ 4096 → 1 ≤ h → h ≤ 4096 → 1 ≤ r → r ≤ 16 → (((nat_le 1 w && nat_le w 4096) && (nat_le 1 h && nat_le h 4096)) && (nat_le 1 r && nat_le r 16)) ≡ true
box_and w h r a b c d e f = grind (arith, nat_tests)

pub small : (r : ℕ) → r ≤ 128 → nat_le r 128 ≡ true
small r h = grind (arith, nat_tests)
