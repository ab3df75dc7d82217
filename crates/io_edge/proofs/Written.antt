-- What several writes in a row do.
use Rattle.std.proofs.Common.{◌≡◌, ℕ, zero, suc, ◌<◌, List, [], ◌∷◌, ◌++◌, length, take, drop, get_or, Option, Result, Ok, Err, OnErr, refl, sym, ap, subst, ◌∙◌, append_assoc, append-nil, arith}
use Rattle.std.specs.List.{flat_map}
use Rattle.std.specs.Io.KnownBytes.{Appends}
use Rattle.std.proofs.KnownBytes.{Appends-trans}
use Rattle.io_edge.specs.declared.outside.Failed.{Failed}
use Rattle.io_edge.specs.Told.{AppendsPrefix}

-- a prefix of a part, behind what was added before it
pub prefix_behind : (a b c : Option (List ℕ)) (before part rest whole : List ℕ) → Appends a b before → AppendsPrefix b c part → whole ≡ before ++ (part ++ rest) → AppendsPrefix a c whole
prefix_behind a b c before part rest whole h p e = (
  before ++ p.0,
  p.1 ++ rest,
  e ∙ ap (λ l. before ++ (l ++ rest)) p.2 ∙ ap (λ l. before ++ l) (append_assoc p.0 p.1 rest) ∙ sym (append_assoc before p.0 (p.1 ++ rest)),
  Appends-trans a b c before p.0 h p.3,
)

-- two parts make the whole
pub appends_to : (a b c : Option (List ℕ)) (xs ys zs : List ℕ) → Appends a b xs → Appends b c ys → xs ++ ys ≡ zs → Appends a c zs
appends_to a b c xs ys zs h k e = rw (← e) (Appends-trans a b c xs ys h k)

-- what holds in any case holds of a failure
pub on_err_any : {P : Type 0} (r : Result (Unit {0}) Failed) → P → OnErr r P
on_err_any (Ok u) p = tt
on_err_any (Err e) p = p

-- a prefix of the same bytes
pub prefix_is : (r : Result (Unit {0}) Failed) (a b : Option (List ℕ)) (xs ys : List ℕ) → OnErr r (AppendsPrefix a b xs) → xs ≡ ys → OnErr r (AppendsPrefix a b ys)
prefix_is r a b xs ys h e = subst (λ l. OnErr r (AppendsPrefix a b l)) e h

-- the part of one item, with those before it and behind it
pub flat_at : {X : Type 0} (f : X → List ℕ) (xs : List X) (i : ℕ) (d : X) → i < length xs → flat_map f xs ≡ flat_map f (take i xs) ++ (f (get_or xs i d) ++ flat_map f (drop (suc i) xs))
flat_at f [] i d h = absurd (omega arith)
flat_at f (x ∷ xs) zero d h = refl
flat_at f (x ∷ xs) (suc i) d h = ap (λ l. f x ++ l) (flat_at f xs i d (omega arith)) ∙ sym (append_assoc (f x) _ _)

-- one item more
pub flat_more : {X : Type 0} (f : X → List ℕ) (xs : List X) (i : ℕ) (d : X) → i < length xs → flat_map f (take i xs) ++ f (get_or xs i d) ≡ flat_map f (take (suc i) xs)
flat_more f [] i d h = absurd (omega arith)
flat_more f (x ∷ xs) zero d h = sym (append-nil (f x))
flat_more f (x ∷ xs) (suc i) d h = append_assoc (f x) _ _ ∙ ap (λ l. f x ++ l) (flat_more f xs i d (omega arith))
