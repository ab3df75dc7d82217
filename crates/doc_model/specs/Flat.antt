-- A forest as a list of its nodes, each before those in it, with depths.
use Rattle.std.specs.Prelude.{◌≡◌, ℕ, suc, ◌==◌, nat_lt, Bool, true, false, if◌then◌else◌, cond, Option, Some, None, List, [], ◌∷◌, ◌++◌, ◌<◌}
use Rattle.std.proofs.Common.{refl, sym, ap, ◌∙◌, arith, append_assoc, append-nil}
use Rattle.std.proofs.lemmas.Bool.Decides.{nat_tests}
use Rattle.doc_model.specs.declared.tree.Look.{Look}
use Rattle.doc_model.specs.Forest.{Forest, none, paint, group}

-- a node: how many groups stand round it, its id, its look, and its content, which a group has not
pub record Row (A : Type 0) : Type 0 where
  pub depth : ℕ
  pub id : ℕ
  pub look : Look
  pub content : Option A

branch_true : {B : Type 0} (b : Bool) (x y : B) → b ≡ true → cond b x y ≡ x
branch_true b x y e = rw e refl

branch_false : {B : Type 0} (b : Bool) (x y : B) → b ≡ false → cond b x y ≡ y
branch_false b x y e = rw e refl

equal_test : (d : ℕ) → (d == d) ≡ true
equal_test d = grind (arith, nat_tests)

unequal_test : (k d : ℕ) → d < k → (k == d) ≡ false
unequal_test k d h = grind (arith, nat_tests)

unequal_test' : (k d : ℕ) → k < d → (k == d) ≡ false
unequal_test' k d h = grind (arith, nat_tests)

less_test : (d k : ℕ) → d < k → nat_lt d k ≡ true
less_test d k h = grind (arith, nat_tests)

not_less_test : (d k : ℕ) → k < d → nat_lt d k ≡ false
not_less_test d k h = grind (arith, nat_tests)

module _ {A : Type 0} where
  -- the nodes in order
  abbrev pub flat : ℕ → Forest A → List (Row A)
  flat d none = []
  flat d (paint id look x rest) = record { depth = d; id = id; look = look; content = Some x } ∷ flat d rest
  flat d (group id look nodes rest) = record { depth = d; id = id; look = look; content = None } ∷ (flat (suc d) nodes ++ flat d rest)

  -- a paint node where there is a content, else a group
  abbrev pub node : Option A → ℕ → Look → Forest A → Forest A → Forest A
  node None id look nodes rest = group id look nodes rest
  node (Some x) id look nodes rest = paint id look x rest

  -- the nodes at the depth d, up to the first row of a lesser depth
  abbrev pub read : ℕ → List (Row A) → Forest A
  read d [] = none
  read d (row ∷ rows) =
      if row.depth == d
      then node row.content row.id row.look (read (suc d) rows) (read d rows)
      else (if nat_lt d row.depth then read d rows else none)

  -- no row, or the first one is above the depth d
  abbrev pub EndsAt : ℕ → List (Row A) → Type 0
  EndsAt d [] = Unit {0}
  EndsAt d (row ∷ rows) = row.depth < d

  -- a deeper row at the front is passed over
  skipped : (d : ℕ) (row : Row A) (rows : List (Row A)) → d < row.depth → read d (row ∷ rows) ≡ read d rows
  skipped d row rows h = branch_false _ _ _ (unequal_test row.depth d h) ∙ branch_true _ _ _ (less_test d row.depth h)

  taken : (d : ℕ) (row : Row A) (rows : List (Row A)) → row.depth ≡ d → read d (row ∷ rows) ≡ node row.content row.id row.look (read (suc d) rows) (read d rows)
  taken d row rows e = branch_true (row.depth == d) _ _ (rw e (equal_test d))

  ends_none : (d : ℕ) (rows : List (Row A)) → EndsAt d rows → read d rows ≡ none
  ends_none d [] e = refl
  ends_none d (row ∷ rows) e = branch_false _ _ _ (unequal_test' row.depth d e) ∙ branch_false _ _ _ (not_less_test d row.depth e)

  -- deeper rows are passed over
  pub read-deeper : (d k : ℕ) (f : Forest A) (rows : List (Row A)) → d < k → read d (flat k f ++ rows) ≡ read d rows
  read-deeper d k none rows h = refl
  read-deeper d k (paint id look x rest) rows h = skipped d (record { depth = k; id = id; look = look; content = Some x }) _ h ∙ read-deeper d k rest rows h
  read-deeper d k (group id look nodes rest) rows h = skipped d (record { depth = k; id = id; look = look; content = None }) _ h
      ∙ ap (read d) (append_assoc (flat (suc k) nodes) (flat k rest) rows)
      ∙ read-deeper d (suc k) nodes (flat k rest ++ rows) (omega arith)
      ∙ read-deeper d k rest rows h

  ends_deeper : (d : ℕ) (rows : List (Row A)) → EndsAt d rows → EndsAt (suc d) rows
  ends_deeper d [] e = tt
  ends_deeper d (row ∷ rows) e = omega arith

  pub ends_below : (d : ℕ) (f : Forest A) (rows : List (Row A)) → EndsAt d rows → EndsAt (suc d) (flat d f ++ rows)
  ends_below d none rows e = ends_deeper d rows e
  ends_below d (paint id look x rest) rows e = omega arith
  ends_below d (group id look nodes rest) rows e = omega arith

  same_group : (id : ℕ) (look : Look) {a a' b b' : Forest A} → a ≡ a' → b ≡ b' → group id look a b ≡ group id look a' b'
  same_group id look e h i = group id look (e i) (h i)

  -- what is read back is the forest
  pub read-flat : (d : ℕ) (f : Forest A) (rows : List (Row A)) → EndsAt d rows → read d (flat d f ++ rows) ≡ f
  read-flat d none rows e = ends_none d rows e
  read-flat d (paint id look x rest) rows e = taken d (record { depth = d; id = id; look = look; content = Some x }) _ refl ∙ ap (paint id look x) (read-flat d rest rows e)
  read-flat d (group id look nodes rest) rows e = taken d (record { depth = d; id = id; look = look; content = None }) _ refl ∙ same_group id look
      (ap (read (suc d)) (append_assoc (flat (suc d) nodes) (flat d rest) rows) ∙ read-flat (suc d) nodes (flat d rest ++ rows) (ends_below d rest rows e))
      (ap (read d) (append_assoc (flat (suc d) nodes) (flat d rest) rows) ∙ read-deeper d (suc d) nodes (flat d rest ++ rows) (omega arith) ∙ read-flat d rest rows e)

-- the list of the nodes gives the forest back
pub flat_injective : {A : Type 0} (f g : Forest A) → flat 0 f ≡ flat 0 g → f ≡ g
flat_injective {A = A} f g e = sym (whole f) ∙ ap (read 0) e ∙ whole g
  where
    whole : (h : Forest A) → read 0 (flat 0 h) ≡ h
    whole h = ap (read 0) (sym (append-nil (flat 0 h))) ∙ read-flat 0 h [] tt
