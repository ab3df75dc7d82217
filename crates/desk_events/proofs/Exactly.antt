-- Tests that tell a fact both ways.
use Rattle.std.proofs.Common.{◌≡◌, Bool, true, false, ◌↔◌, Result, Ok, Err, refl, sym}
use Rattle.std.specs.Prelude.{IsTrue, IfOk}
use Rattle.geom_core.proofs.Tests.{never}

-- a test that is false tells that a fact doesn't hold
pub refuses : {P : Type 0} → (P → ⊥) → IsTrue false ↔ P
refuses wrong = (λ t. absurd (never t), λ p. absurd (wrong p))

-- what is told of a test that is true, and of one that is false, together
pub exactly : {P : Type 0} (b : Bool) → (b ≡ true → P) → (b ≡ false → P → ⊥) → IsTrue b ↔ P
exactly true holds fails = (holds, λ p. refl)
exactly false holds fails = (holds, λ p. absurd (fails refl p))

-- the same of a test that may fail
pub exactly_if : {E P : Type 0} (r : Result Bool E) → (r ≡ Ok true → P) → (r ≡ Ok false → P → ⊥) → IfOk r (λ b. IsTrue b ↔ P)
exactly_if (Ok true) holds fails = exactly true (λ t. holds refl) (λ f. absurd (never (sym f)))
exactly_if (Ok false) holds fails = refuses (fails refl)
exactly_if (Err e) holds fails = tt
