-- Laws of masks.
use Rattle.std.specs.Prelude.{ℕ, ◌≡◌, ◌<◌, ◌≤◌, ◌*◌, ◌⊎◌, ℤ, pos, ◌-ℤ◌, Bool, true, false}
use Rattle.brush_mask.specs.Mask.{mask, distance2}

-- a mask is 0 outside its circle and full at the centre
pub record LawsOfTheCircle : Type 0 where
  pub outside : (r : ℕ) (soft : Bool) (dx dy : ℤ) → r * r < distance2 dx dy → mask r soft dx dy ≡ 0
  pub centre : (r : ℕ) (soft : Bool) → mask r soft (pos 0) (pos 0) ≡ 255

-- it is the same on all eight sides
pub record LawsOfTheSides : Type 0 where
  pub across : (r : ℕ) (soft : Bool) (dx dy : ℤ) → mask r soft (pos 0 -ℤ dx) dy ≡ mask r soft dx dy
  pub down : (r : ℕ) (soft : Bool) (dx dy : ℤ) → mask r soft dx (pos 0 -ℤ dy) ≡ mask r soft dx dy
  pub swapped : (r : ℕ) (soft : Bool) (dx dy : ℤ) → mask r soft dy dx ≡ mask r soft dx dy

-- a hard mask is nothing or full, and a soft one is nowhere stronger
pub record LawsOfHardness : Type 0 where
  pub hard : (r : ℕ) (dx dy : ℤ) → (mask r false dx dy ≡ 0) ⊎ (mask r false dx dy ≡ 255)
  pub softer : (r : ℕ) (dx dy : ℤ) → mask r true dx dy ≤ mask r false dx dy
