-- The children of a group, as a walk lays them.
use Rattle.std.proofs.Common.{◌≡◌, ◌≢◌, ℕ, ◌+◌, ◌<◌, Bool, true, false, cond, List, [], ◌∷◌, ◌++◌, take, length, get_or, refl, sym, ap, ◌∙◌, arith, eqb}
use Rattle.std.proofs.lemmas.List.{take_more}
use Rattle.std.proofs.lemmas.Bool.Decides.{nat_tests}
use Rattle.pixel_core.specs.Rgba.{Rgba}
use Rattle.geom_core.specs.Areas.{Area, Point}
use Rattle.geom_core.proofs.Tests.{taken, kept}
use Rattle.doc_model.specs.declared.tree.Look.{Look}
use Rattle.doc_model.specs.Picture.{with_look}
use Rattle.machine_model.specs.State.{Child}
use Rattle.machine_model.specs.Walks.{value_in, walk_folded}
use Rattle.walker_core.specs.declared.gathered.Source.{Source}
use Rattle.walker_core.specs.Views.{child_of, children_in}

-- the children of a group as a walk has them, with one more source
folded_more : (vs : List (ℕ × Rgba)) (cs : List Child) (c : Child) (p : Point) (b : Rgba) → walk_folded vs (cs ++ c ∷ []) p b ≡ with_look c.look (value_in vs c p) (walk_folded vs cs p b)
folded_more vs [] c p b = refl
folded_more vs (d ∷ cs) c p b = folded_more vs cs c p (with_look d.look (value_in vs d p) b)

pub children_more : (rect : Area) (g : ℕ) (ss : List Source) (s : Source) → children_in rect g (ss ++ s ∷ []) ≡ cond (eqb s.group g) (children_in rect g ss ++ child_of rect s ∷ []) (children_in rect g ss)
children_more rect g [] s = refl
children_more rect g (t ∷ ss) s = go (eqb t.group g) (eqb s.group g) (children_more rect g ss s)
  where
    go : (b c : Bool) → children_in rect g (ss ++ s ∷ []) ≡ cond c (children_in rect g ss ++ child_of rect s ∷ []) (children_in rect g ss)
        → cond b (child_of rect t ∷ children_in rect g (ss ++ s ∷ [])) (children_in rect g (ss ++ s ∷ [])) ≡ cond c (cond b (child_of rect t ∷ children_in rect g ss) (children_in rect g ss) ++ child_of rect s ∷ []) (cond b (child_of rect t ∷ children_in rect g ss) (children_in rect g ss))
    go true true e = ap (λ cs. child_of rect t ∷ cs) e
    go true false e = ap (λ cs. child_of rect t ∷ cs) e
    go false true e = e
    go false false e = e

-- the children below the k-th source, and with it
pub source_passed : (rect : Area) (g : ℕ) (ss : List Source) (k : ℕ) (s : Source) → k < length ss → s ≡ get_or ss k s → eqb s.group g ≡ false → children_in rect g (take (k + 1) ss) ≡ children_in rect g (take k ss)
source_passed rect g ss k s h at e =
    ap (children_in rect g) (take_more ss k s h ∙ ap (λ t. take k ss ++ t ∷ []) (sym at)) ∙ children_more rect g (take k ss) s ∙ kept (eqb s.group g) _ _ e

pub source_laid : (rect : Area) (g : ℕ) (ss : List Source) (k : ℕ) (s : Source) (vs : List (ℕ × Rgba)) (p : Point) (b : Rgba) → k < length ss → s ≡ get_or ss k s → eqb s.group g ≡ true
    → walk_folded vs (children_in rect g (take (k + 1) ss)) p b ≡ with_look s.look (value_in vs (child_of rect s) p) (walk_folded vs (children_in rect g (take k ss)) p b)
source_laid rect g ss k s vs p b h at e =
    ap (λ cs. walk_folded vs cs p b) (ap (children_in rect g) (take_more ss k s h ∙ ap (λ t. take k ss ++ t ∷ []) (sym at)) ∙ children_more rect g (take k ss) s ∙ taken (eqb s.group g) _ _ e)
    ∙ folded_more vs (children_in rect g (take k ss)) (child_of rect s) p b

pub test_off : (m n : ℕ) → m ≢ n → eqb m n ≡ false
test_off m n e = grind (arith, nat_tests)

-- an invisible child
pub unseen : (look : Look) (s b : Rgba) → look.visible ≡ false → with_look look s b ≡ b
unseen look s b hidden = kept look.visible _ _ hidden
