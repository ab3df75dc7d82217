-- Every document that entries reach is within the limits.
use Rattle.std.proofs.Common.{◌≡◌, ℕ, suc, ◌≤◌, max, refl, ap, arith}
use Rattle.doc_model.specs.Layers.{Layer, plain}
use Rattle.doc_model.specs.Forest.{Forest, none, paint, group, count, height, with_content}
use Rattle.doc_model.specs.Picture.{Doc}
use Rattle.doc_model.specs.Meaning.{start}
use Rattle.doc_model.specs.Laws.{IsDocument, ChangesKeepLimits, MeaningKeepsLimits}
use Rattle.doc_model.proofs.Weights.{weight_count, weight_with_content, tree_none, tree_with_content}
use Rattle.doc_model.proofs.TreeChanges.{tree_changed, count_changed}
use Rattle.doc_model.proofs.Heights.{height_changed}
use Rattle.doc_model.proofs.Reached.{each_told_all}

height_content : {A : Type 0} (q : ℕ) (new : A) (f : Forest A) → height (with_content q new f) ≡ height f
height_content q new none = refl
height_content q new (paint id look x rest) = ap (max 1) (height_content q new rest)
height_content q new (group id look nodes rest) = λ i. max (suc (height_content q new nodes i)) (height_content q new rest i)

count_content : {A : Type 0} (q : ℕ) (new : A) (f : Forest A) → count f ≤ 256 → count (with_content q new f) ≤ 256
count_content q new f few = omega (arith, weight_count f, weight_count (with_content q new f), weight_with_content (λ _. 1) q new f)

content_keeps : (q : ℕ) (new : Layer) (f : Doc) → IsDocument f → IsDocument (with_content q new f)
content_keeps q new f d = record {
  tree = tree_with_content q new f d.tree;
  few = count_content q new f d.few;
  low = omega (arith, height_content q new f, d.low);
}

pub changes_keep_limits : ChangesKeepLimits
changes_keep_limits change doc new e d = record {
  tree = tree_changed plain change doc new e d.tree;
  few = count_changed plain change doc new e d.tree d.few;
  low = height_changed plain change doc new e d.tree d.low;
}

pub meaning_keeps_limits : MeaningKeepsLimits
meaning_keeps_limits canvas es = each_told_all (IsDocument {A = Layer}) content_keeps changes_keep_limits canvas start es
    (record { past = tt; document = record { tree = tree_none; few = omega arith; low = omega arith }; future = tt })
