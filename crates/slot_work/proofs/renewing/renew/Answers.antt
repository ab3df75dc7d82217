use Rattle.std.proofs.Common.{◌≡◌, ◌++◌, ◌∷◌, [], subst, sym, ap, ◌∙◌}
use Rattle.std.specs.Prelude.{nat_eq}
use Rattle.std.specs.List.{IsDistinct}
use Rattle.doc_model.specs.Readers.{order}
use Rattle.doc_model.specs.declared.canvas.Walk.TheVariants.{All}
use Rattle.slot_work.proofs.SamePaths.{path_same, path_distinct}
use Rattle.slot_work.proofs.renewing.renew.Goals as goal

pub keep-requires-clause-once : goal.keep-requires-clause-once
keep-requires-clause-once c =
    let doc = c.args.store.now.present in
    let listed : c.as_slice.result.now ≡ order doc ++ 0 ∷ [] = c.as_slice.ensures.value ∙ c.all_groups-groups.ensures ∙ ap (λ t. order t ++ 0 ∷ []) c.tree.ensures.value ∙ path_same All doc in
    subst (IsDistinct nat_eq) (sym listed) (path_distinct All doc c.tree.ensures.limits.tree)

pub keep-requires-clause-of_tree : goal.keep-requires-clause-of_tree
keep-requires-clause-of_tree c =
    let doc = c.args.store.now.present in
    (doc, c.as_slice.ensures.value ∙ c.all_groups-groups.ensures ∙ ap (λ t. order t ++ 0 ∷ []) c.tree.ensures.value ∙ path_same All doc)

pub returns-clause-caches : goal.returns-clause-caches
returns-clause-caches c =
    let doc = c.args.store.now.present in
    c.keep.ensures.caches doc (c.as_slice.ensures.value ∙ c.all_groups-groups.ensures ∙ ap (λ t. order t ++ 0 ∷ []) c.tree.ensures.value ∙ path_same All doc)
