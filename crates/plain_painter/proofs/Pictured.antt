-- Pictures, one child more at a time, and lists of them.
use Rattle.std.proofs.Common.{◌≡◌, ℕ, suc, ◌≤◌, Bool, true, false, not, None, refl, sym, ap, ◌∙◌, arith}
use Rattle.pixel_core.specs.Rgba.{Rgba, clear}
use Rattle.pixel_core.specs.Compose.{compose}
use Rattle.geom_core.specs.Areas.{Point}
use Rattle.geom_core.proofs.Tests.{taken, kept}
use Rattle.doc_model.specs.declared.tree.Look.{Look}
use Rattle.doc_model.specs.Forest.{none, width, upper}
use Rattle.doc_model.specs.Children.{child_in}
use Rattle.doc_model.specs.Changes.{takes, child_count}
use Rattle.doc_model.specs.Layers.{at}
use Rattle.doc_model.specs.Picture.{Doc, laid, picture}
use Rattle.machine_model.specs.Groups.{nodes_in}
use Rattle.machine_model.specs.Effects.{layer_in}
use Rattle.desk_steps.specs.Archives.{shape}
use Rattle.plain_painter.specs.Pictures.{node_pixel}
use Rattle.doc_model.proofs.SameTree.{child_each, child_count_each}
use Rattle.doc_model.proofs.NextChildren.{none_next, upper_all}
use Rattle.plain_painter.proofs.NextNodes.{IsNext}
use Rattle.plain_painter.proofs.Filling.{Shape}
use Rattle.std.proofs.lemmas.Bool.{not-false}

-- where no child is read, none stands next
pub none_told : (doc : Doc) (t : Shape) (g k : ℕ) (p : Point) (b : Rgba) → t ≡ shape doc → None ≡ child_in g k t → laid (upper k (nodes_in g doc)) p b ≡ laid (upper (suc k) (nodes_in g doc)) p b
none_told doc t g k p b e h = ap (λ f. laid f p b) (none_next k (nodes_in g doc) (sym (child_each _ g k doc) ∙ sym (ap (child_in g k) e) ∙ sym h))

-- an invisible child is passed over
pub hidden_told : (doc nodes : Doc) (k id : ℕ) (look : Look) (p : Point) (b : Rgba) → IsNext doc nodes k id look → look.visible ≡ false → laid (upper k nodes) p b ≡ laid (upper (suc k) nodes) p b
hidden_told doc nodes k id look p b next v = next.laid_next p b ∙ ap (laid (upper (suc k) nodes) p) (kept look.visible _ b v)

-- a visible one is laid on those below it
pub child_told : (doc nodes : Doc) (k id : ℕ) (look : Look) (p : Point) (b q r : Rgba) → IsNext doc nodes k id look → look.visible ≡ true → q ≡ node_pixel id doc p → r ≡ compose look.op q b look.opacity
    → laid (upper k nodes) p b ≡ laid (upper (suc k) nodes) p r
child_told doc nodes k id look p b q r next v e laid_on = next.laid_next p b ∙ ap (laid (upper (suc k) nodes) p) (taken look.visible _ b v ∙ ap (λ c. compose look.op c b look.opacity) (sym e) ∙ sym laid_on)

-- where all children are laid, the group is told
pub group_told : (doc : Doc) (t : Shape) (g n i : ℕ) (p : Point) (q : Rgba) → t ≡ shape doc → n ≡ child_count g t → n ≤ i → takes g doc ≡ true → laid (nodes_in g doc) p clear ≡ laid (upper i (nodes_in g doc)) p q → q ≡ node_pixel g doc p
group_told doc t g n i p q e h low is so =
    let many : n ≡ width (nodes_in g doc) = h ∙ ap (child_count g) e ∙ child_count_each _ g doc in
    let all : upper i (nodes_in g doc) ≡ none = upper_all i (nodes_in g doc) (omega arith) in
    sym (so ∙ ap (λ f. laid f p q) all) ∙ sym (taken (takes g doc) (picture (nodes_in g doc) p) (at (layer_in g doc) p) is)

-- a layer is no group
pub layer_told : (doc : Doc) (id : ℕ) (p : Point) (q : Rgba) → takes id doc ≡ false → q ≡ at (layer_in id doc) p → q ≡ node_pixel id doc p
layer_told doc id p q f e = e ∙ sym (kept (takes id doc) (picture (nodes_in id doc) p) (at (layer_in id doc) p) f)
