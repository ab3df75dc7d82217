-- Lists of groups in which none stands twice.
use Rattle.std.proofs.Common.{◌≡◌, ℕ, false, nat_eq, List, [], ◌∷◌, sym, subst}
use Rattle.std.specs.List.{IsDistinct}

pair_distinct : (a b : ℕ) → nat_eq a b ≡ false → IsDistinct nat_eq (a ∷ b ∷ [])
unfolding IsDistinct
pair_distinct a b e = ((e, tt), (tt, tt))

triple_distinct : (a b c : ℕ) → nat_eq a b ≡ false → nat_eq a c ≡ false → nat_eq b c ≡ false → IsDistinct nat_eq (a ∷ b ∷ c ∷ [])
unfolding IsDistinct
triple_distinct a b c e f g = ((e, (f, tt)), ((g, tt), (tt, tt)))

pub two_groups : (gs : List ℕ) (a b : ℕ) → gs ≡ a ∷ b ∷ [] → nat_eq a b ≡ false → IsDistinct nat_eq gs
two_groups gs a b is e = subst (IsDistinct nat_eq) (sym is) (pair_distinct a b e)

pub three_groups : (gs : List ℕ) (a b c : ℕ) → gs ≡ a ∷ b ∷ c ∷ [] → nat_eq a b ≡ false → nat_eq a c ≡ false → nat_eq b c ≡ false → IsDistinct nat_eq gs
three_groups gs a b c is e f g = subst (IsDistinct nat_eq) (sym is) (triple_distinct a b c e f g)
