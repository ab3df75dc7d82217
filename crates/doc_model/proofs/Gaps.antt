-- Where the dabs of a segment stand.
use Rattle.std.proofs.Common.{◌≡◌, ◌⊎◌, inl, inr, ℕ, suc, zero, ◌+◌, ◌*◌, ◌≤◌, ◌<◌, arith}
use Rattle.std.specs.Int.{div_ceil}
use Rattle.std.proofs.Math.Nat.{mul-le-mul_right}
use Rattle.std.proofs.lemmas.Grind.{div_ceil_times}
use native.Mathlib.Nat.{add-mul}
use Rattle.doc_model.specs.Trails.{distance}
use Rattle.doc_model.specs.Laws.{DabsStandBefore}

before_end : (gap k d : ℕ) → 1 ≤ gap → k < div_ceil d gap → k * gap < d
before_end gap k d h l =
    let most : div_ceil d gap * gap < d + gap = (div_ceil_times d gap (omega arith)).1 in
    let more : (k + 1) * gap ≤ div_ceil d gap * gap = mul-le-mul_right gap (omega arith) in
    omega (arith, most, more, add-mul k 1 gap)

at_end : (gap k d : ℕ) → 1 ≤ gap → div_ceil d gap ≤ k → d ≤ k * gap
at_end gap k d h l =
    let least : d ≤ div_ceil d gap * gap = (div_ceil_times d gap (omega arith)).0 in
    let more : div_ceil d gap * gap ≤ k * gap = mul-le-mul_right gap l in
    omega (arith, least, more)

below_or_at : (k n : ℕ) → (k < n) ⊎ (n ≤ k)
below_or_at k zero = inr (omega arith)
below_or_at zero (suc n) = inl (omega arith)
below_or_at (suc k) (suc n) = elim (below_or_at k n) [ inl h ↦ inl (omega arith) | inr h ↦ inr (omega arith) ]

counted : (gap k d : ℕ) → 1 ≤ gap → k * gap < d → k < div_ceil d gap
counted gap k d h l = elim (below_or_at k (div_ceil d gap)) [ inl e ↦ e | inr e ↦ absurd (omega (arith, at_end gap k d h e, l)) ]

pub dabs_stand_before : DabsStandBefore
dabs_stand_before gap k p q h = (before_end gap k (distance p q) h, counted gap k (distance p q) h)
