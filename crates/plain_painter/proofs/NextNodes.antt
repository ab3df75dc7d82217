-- The next of the children of a group, read by its place, and what a tree without pixels tells of it.
use Rattle.std.proofs.Common.{◌≡◌, ℕ, suc, ◌≤◌, Bool, true, false, Option, max, inl, inr, sym, ap, subst, ◌∙◌, arith}
use Rattle.std.specs.Prelude.{is_some, Some}
use Rattle.std.specs.Option.{unwrap_or}
use Rattle.pixel_core.specs.Rgba.{Rgba, clear}
use Rattle.geom_core.specs.Areas.{Point}
use Rattle.geom_core.proofs.Tests.{taken, kept}
use Rattle.doc_model.specs.declared.tree.Look.{Look}
use Rattle.doc_model.specs.Layers.{at, plain}
use Rattle.doc_model.specs.Forest.{has, height, upper, content}
use Rattle.doc_model.specs.Children.{look_in, child_in}
use Rattle.doc_model.specs.Changes.{takes}
use Rattle.doc_model.specs.Ids.{IsTree}
use Rattle.doc_model.specs.Laws.{IsDocument}
use Rattle.doc_model.specs.Picture.{Doc, with_look, laid, picture}
use Rattle.doc_model.proofs.NextChildren.{IsPaintAt, IsGroupAt, child_there, next_child, upper_low}
use Rattle.doc_model.proofs.SameTree.{look_each, takes_each, child_each, has_each}
use Rattle.machine_model.specs.Groups.{nodes_in}
use Rattle.machine_model.specs.Effects.{layer_in}
use Rattle.desk_steps.specs.Archives.{shape}
use Rattle.plain_painter.specs.Pictures.{node_pixel}
use Rattle.plain_painter.proofs.Filling.{Shape}

-- a node of the document stands k-th among the nodes: what lies on it, that it is a layer if it is no group, and how high its group is
pub record IsNext (doc nodes : Doc) (k id : ℕ) (look : Look) : Type 0 where
  pub laid_next : (p : Point) (b : Rgba) → laid (upper k nodes) p b ≡ laid (upper (suc k) nodes) p (with_look look (node_pixel id doc p) b)
  pub layer : takes id doc ≡ false → is_some (content id doc) ≡ true
  pub some : 1 ≤ height nodes
  pub low : takes id doc ≡ true → suc (height (nodes_in id doc)) ≤ height nodes

paint_next : (doc nodes : Doc) (k id : ℕ) (look : Look) → IsPaintAt doc nodes k id look → IsNext doc nodes k id look
paint_next doc nodes k id look is =
    let pixel : (p : Point) → at is.held p ≡ node_pixel id doc p = (λ p. sym (kept (takes id doc) (picture (nodes_in id doc) p) (at (layer_in id doc) p) is.paints ∙ ap (λ o. at (unwrap_or o (plain clear)) p) is.holds)) in
    let high : max 1 (height (upper (suc k) nodes)) ≤ height nodes = subst (λ (f : Doc). height f ≤ height nodes) is.here (upper_low k nodes) in record {
      laid_next = λ p b. ap (λ f. laid f p b) is.here ∙ ap (λ c. laid (upper (suc k) nodes) p (with_look look c b)) (pixel p);
      layer = λ _. ap is_some is.holds;
      some = omega arith;
      low = λ t. let f : takes id doc ≡ false = is.paints in absurd (cc);
    }

group_next : (doc nodes : Doc) (k id : ℕ) (look : Look) → IsGroupAt doc nodes k id look → IsNext doc nodes k id look
group_next doc nodes k id look is =
    let pixel : (p : Point) → laid (nodes_in id doc) p clear ≡ node_pixel id doc p = (λ p. sym (taken (takes id doc) (picture (nodes_in id doc) p) (at (layer_in id doc) p) is.groups)) in
    let high : max (suc (height (nodes_in id doc))) (height (upper (suc k) nodes)) ≤ height nodes = subst (λ (f : Doc). height f ≤ height nodes) is.here (upper_low k nodes) in record {
      laid_next = λ p b. ap (λ f. laid f p b) is.here ∙ ap (λ c. laid (upper (suc k) nodes) p (with_look look c b)) (pixel p);
      layer = λ f. let t : takes id doc ≡ true = is.groups in absurd (cc);
      some = omega arith;
      low = λ _. omega arith;
    }

is_next : (doc : Doc) (g k id : ℕ) (look : Look) → IsTree doc → child_in g k doc ≡ Some id → look_in id doc ≡ Some look → IsNext doc (nodes_in g doc) k id look
is_next doc g k id look tree e l = elim (next_child doc g k id look tree e l) [
  | inl is ↦ paint_next doc (nodes_in g doc) k id look is
  | inr is ↦ group_next doc (nodes_in g doc) k id look is
]

pub takes_read : (doc : Doc) (t : Shape) (id : ℕ) (b r : Bool) → t ≡ shape doc → r ≡ takes id t → r ≡ b → takes id doc ≡ b
takes_read doc t id b r e h is = sym (takes_each _ id doc) ∙ sym (ap (takes id) e) ∙ sym h ∙ is

child_read : (doc : Doc) (t : Shape) (g k : ℕ) (o : Option ℕ) → t ≡ shape doc → o ≡ child_in g k t → child_in g k doc ≡ o
child_read doc t g k o e h = sym (child_each _ g k doc) ∙ sym (ap (child_in g k) e) ∙ sym h

-- the child that is read stands next
pub next_read : (doc : Doc) (t : Shape) (g k id : ℕ) (look : Look) → IsDocument doc → t ≡ shape doc → Some id ≡ child_in g k t → Some look ≡ look_in id t → IsNext doc (nodes_in g doc) k id look
next_read doc t g k id look d e h l = is_next doc g k id look d.tree (child_read doc t g k (Some id) e h) (sym (look_each _ id doc) ∙ sym (ap (look_in id) e) ∙ sym l)

-- a child has a look
pub has_look : (doc : Doc) (t : Shape) (g k id : ℕ) → t ≡ shape doc → Some id ≡ child_in g k t → has id t ≡ false → ⊥
has_look doc t g k id e h f =
    let t : has id doc ≡ true = child_there g k id doc (child_read doc t g k (Some id) e h) in
    let n : has id doc ≡ false = sym (has_each _ id doc) ∙ sym (ap (has id) e) ∙ f in
    cc
