use Rattle.std.proofs.Common.{◌≡◌, ℕ, [], ◌∷◌, ◌++◌, length, true, false, ap, arith, sym, subst, List, ◌∙◌}
use Rattle.stroke_core.specs.Bounds.{Encloses, AreBlocks}
use Rattle.stroke_core.specs.declared.bound.Bound.{Bound}
use Rattle.stroke_core.specs.Marks.{Marks}
use Rattle.stroke_core.proofs.Apart.{edges_more}
use Rattle.stroke_core.proofs.footprint.Footprints.push.Goals as goal
use Rattle.stroke_core.proofs.footprint.Footprints.push.Goals.{then-footprint, else-footprint}

pub invariant_of-self-2 : goal.invariant_of-self-2
invariant_of-self-2 c =
    let exact : c.push_reserved.new.items.items ≡ c.self.inside.exact.items ++ c.args.footprint ∷ [] = c.push_reserved.ensures ∙ ap (λ (l : List Marks). l ++ c.args.footprint ∷ []) c.reserve.ensures.items in
    let lefts : c.push_reserved-2.new.items.items ≡ c.self.inside.lefts.items ++ c.bound-bound.result.left ∷ [] = c.push_reserved-2.ensures ∙ ap (λ (l : List ℕ). l ++ c.bound-bound.result.left ∷ []) c.reserve-2.ensures.items in
    let unique : c.push_reserved-3.new.items.items ≡ c.self.inside.lefts_for_unique.items ++ c.if-footprint.for_unique.left ∷ [] = c.push_reserved-3.ensures ∙ ap (λ (l : List ℕ). l ++ c.if-footprint.for_unique.left ∷ []) c.reserve-3.ensures.items in
    let rights : c.push_reserved-4.new.items.items ≡ c.self.inside.rights.items ++ c.bound-bound.result.right ∷ [] = c.push_reserved-4.ensures ∙ ap (λ (l : List ℕ). l ++ c.bound-bound.result.right ∷ []) c.reserve-4.ensures.items in
    let tops : c.push_reserved-5.new.items.items ≡ c.self.inside.tops.items ++ c.bound-bound.result.top ∷ [] = c.push_reserved-5.ensures ∙ ap (λ (l : List ℕ). l ++ c.bound-bound.result.top ∷ []) c.reserve-5.ensures.items in
    let bottoms : c.push_reserved-6.new.items.items ≡ c.self.inside.bottoms.items ++ c.bound-bound.result.bottom ∷ [] = c.push_reserved-6.ensures ∙ ap (λ (l : List ℕ). l ++ c.bound-bound.result.bottom ∷ []) c.reserve-6.ensures.items in
    let left : c.args.footprint.unique ≡ false → c.if-footprint.for_unique.left ≡ c.bound-bound.result.left = elim c.if-footprint.branch [
      | then-footprint w ↦ (λ u. let v : c.args.footprint.unique ≡ true = sym (ap (λ (m : Marks). m.unique) c.footprint.view_is) ∙ w.if-footprint.true in cc)
      | else-footprint w ↦ (λ u. ap (λ (b : Bound). b.left) w.for_unique-is)
    ] in
    let bounded : c.args.footprint.unique ≡ false → Encloses c.if-footprint.for_unique c.args.footprint = elim c.if-footprint.branch [
      | then-footprint w ↦ (λ u. let v : c.args.footprint.unique ≡ true = sym (ap (λ (m : Marks). m.unique) c.footprint.view_is) ∙ w.if-footprint.true in cc)
      | else-footprint w ↦ (λ u. subst (λ (b : Bound). Encloses b c.args.footprint) (sym w.for_unique-is) c.bound-bound.ensures)
    ] in
    let len : length c.self.inside.exact.items ≡ c.len-len.result = omega (arith, ap length c.reserve.ensures.items) in
    let all : AreBlocks false (c.self.inside.exact.items ++ c.args.footprint ∷ []) c.add_to_blocks.new.blocks.items = c.add_to_blocks.ensures false c.self.inside.exact.items c.args.footprint len (subst (λ (bs : List Bound). AreBlocks false c.self.inside.exact.items bs) (sym c.reserve-7.ensures.items) c.self.invariant.all) (λ _. c.bound-bound.ensures) in
    let shared : AreBlocks true (c.self.inside.exact.items ++ c.args.footprint ∷ []) c.add_to_blocks-2.new.blocks.items = c.add_to_blocks-2.ensures true c.self.inside.exact.items c.args.footprint len (subst (λ (bs : List Bound). AreBlocks true c.self.inside.exact.items bs) (sym c.reserve-8.ensures.items) c.self.invariant.shared) bounded in
    rw (exact, lefts, unique, rights, tops, bottoms) (record {
      edges = edges_more _ _ _ _ _ _ c.args.footprint c.bound-bound.result c.if-footprint.for_unique.left c.self.invariant.edges c.bound-bound.ensures left;
      all = all;
      shared = shared;
    })
