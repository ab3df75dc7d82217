-- Trees to which an exchange leads.
use Rattle.std.proofs.Common.{◌≡◌, Result, Ok, Err, ◌≤◌, List, length, sym, ap, ◌∙◌, subst, append-nil, []}
use Rattle.std.specs.Prelude.{IfOk}
use Rattle.geom_core.specs.declared.NoMemory.{NoMemory}
use Rattle.doc_model.specs.Flat.{read, flat, read-flat}
use Rattle.doc_model.specs.Laws.{IsDocument}
use Rattle.tree_core.specs.declared.node.Node.{Node}
use Rattle.tree_core.specs.declared.exchange.Exchange.{Exchange}
use Rattle.tree_core.specs.Nodes.{Tree, rows_of, tree_of, IsKept}
use Rattle.tree_core.specs.Exchanges.{exchanged, led, Fits, Leads}
use Rattle.tree_core.proofs.Kept.{kept_from, length_flat, tree_from, count_is}

-- the nodes of a tree are its rows
pub rows_are : (nodes : List Node) (t : Tree) → IsKept nodes → tree_of nodes ≡ t → rows_of nodes ≡ flat 0 t
rows_are nodes t k e = k.whole ∙ ap (flat 0) e

module _ (x : Exchange) (nodes : List Node) (t : Tree) (k : IsKept nodes) (e : tree_of nodes ≡ t) (l : Leads x t) where
  rows_led : exchanged x (rows_of nodes) ≡ flat 0 (led x t)
  rows_led = ap (exchanged x) (rows_are nodes t k e) ∙ l.whole

  pub few_led : length (exchanged x (rows_of nodes)) ≤ 256
  few_led = subst (λ n. n ≤ 256) (sym (ap length rows_led ∙ length_flat 0 (led x t))) l.limits.few

  module _ (new : List Node) (is : rows_of new ≡ exchanged x (rows_of nodes)) where
    pub new_led : tree_of new ≡ led x t
    new_led = tree_from new (led x t) (is ∙ rows_led)

    pub kept_led : IsKept new
    kept_led = kept_from new (led x t) (is ∙ rows_led) l.limits.tree l.limits.low

    module _ (y : Exchange) (back : exchanged y (rows_of new) ≡ rows_of nodes) (fits : Fits y (rows_of new)) where
      rows_back : exchanged y (flat 0 (tree_of new)) ≡ flat 0 t
      rows_back = ap (exchanged y) (sym kept_led.whole) ∙ back ∙ rows_are nodes t k e

      pub back_led : led y (tree_of new) ≡ t
      back_led = ap (read 0) rows_back ∙ ap (read 0) (sym (append-nil (flat 0 t))) ∙ read-flat 0 t [] tt

      pub back_leads : IsDocument t → Leads y (tree_of new)
      back_leads d = record {
        whole = rows_back ∙ ap (flat 0) (sym back_led);
        limits = subst IsDocument (sym back_led) d;
        fits = subst (Fits y) kept_led.whole fits;
      }

-- a tree that is kept is one of the limits, where there is room for no more nodes
pub is_document : (nodes : List Node) (t : Tree) → IsKept nodes → tree_of nodes ≡ t → length nodes ≤ 256 → IsDocument t
is_document nodes t k e few = subst IsDocument e (record { tree = k.once; few = subst (λ n. n ≤ 256) (count_is nodes k) few; low = k.low })

-- what makes the nodes those of another tree leads to it
pub between_leads : (r : Result Exchange NoMemory) (nodes others : List Node) (t u : Tree) (here there : List Node) → IsKept nodes → tree_of nodes ≡ t → IsKept others → tree_of others ≡ u → length others ≤ 256 → here ≡ nodes → there ≡ others
    → IfOk r (λ x. exchanged x (rows_of here) ≡ rows_of there) → IfOk r (λ x. Fits x (rows_of here)) → IfOk r (λ x. Leads x t)
between_leads (Err y) nodes others t u here there k e l f few a b ok fits = tt
between_leads (Ok x) nodes others t u here there k e l f few a b ok fits =
    let rows : exchanged x (flat 0 t) ≡ flat 0 u = ap (exchanged x) (sym (rows_are nodes t k e) ∙ ap rows_of (sym a)) ∙ ok ∙ ap rows_of b ∙ rows_are others u l f in
    let is : led x t ≡ u = ap (read 0) rows ∙ ap (read 0) (sym (append-nil (flat 0 u))) ∙ read-flat 0 u [] tt in
    record {
      whole = rows ∙ ap (flat 0) (sym is);
      limits = subst IsDocument (sym is) (is_document others u l f few);
      fits = subst (Fits x) (ap rows_of a ∙ rows_are nodes t k e) fits;
    }
