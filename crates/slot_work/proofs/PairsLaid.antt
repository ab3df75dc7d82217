-- Pairs of a walk are laid one after another.
use Rattle.std.proofs.Common.{◌≡◌, ℕ, ◌+◌, ◌≤◌, Bool, true, false, cond, List, [], ◌∷◌, ◌++◌, Some, Result, Ok, Err, OnOk, OnErr, length, take, drop, refl, sym, ap, ◌∙◌, subst, append-nil, append_assoc, take-append-drop, arith}
use Rattle.std.specs.Prelude.{slice_get}
use Rattle.std.specs.Ordering.{nat_cmp}
use Rattle.std.specs.List.{list_any, list_all}
use Rattle.std.specs.FinMap.{FinMap}
use Rattle.std.proofs.lemmas.List.{map-append, take_all}
use Rattle.geom_core.specs.Grid.{Key, same_key}
use Rattle.geom_core.proofs.Tests.{or_left, both_true}
use Rattle.geom_core.proofs.Tiles.{key_is}
use Rattle.doc_model.specs.Layers.{Layer}
use Rattle.machine_model.specs.Guards.{same_pair}
use Rattle.machine_model.specs.Walks.{walk_value}
use Rattle.walker_core.specs.Readings.{Readings, path_in}
use Rattle.walker_core.specs.Composing.{Composition, composition, has_pair}
use Rattle.walker_core.specs.Sameness.{ReadTheSame}
use Rattle.group_caches.specs.Kept.{with_picture}
use Rattle.update_queue.proofs.Elements.{drop_here, take_here}
use Rattle.desk_state.proofs.KeyTests.{on_all}
use Rattle.desk_state.proofs.WalkLaying.{composed_is}
use Rattle.slot_work.specs.LaidTiles.{Laid, laid, laid_as, laid_all, lacking, pairs_at, Lays, LaysFront, LaysSome}

-- ---- what is laid, and what lacks then

laid_then : (r : Readings) (xs ys : List (ℕ × Key)) (l : Laid) → laid_all r (xs ++ ys) l ≡ laid_all r ys (laid_all r xs l)
laid_then r [] ys l = refl
laid_then r (x ∷ xs) ys l = laid_then r xs ys (laid r x l)

lacking_then : (r : Readings) (xs ys : List (ℕ × Key)) (l : Laid) → lacking l.published (xs ++ ys) ≡ lacking l.published xs ++ lacking (laid_all r (lacking l.published xs) l).published ys
lacking_then r [] ys l = refl
lacking_then r (x ∷ xs) ys l = go (list_any (same_pair x.0 x.1) l.published) (lacking_then r xs ys l) (lacking_then r xs ys (laid r x l))
  where
    go : (b : Bool) → lacking l.published (xs ++ ys) ≡ lacking l.published xs ++ lacking (laid_all r (lacking l.published xs) l).published ys
        → lacking (x ∷ l.published) (xs ++ ys) ≡ lacking (x ∷ l.published) xs ++ lacking (laid_all r (lacking (x ∷ l.published) xs) (laid r x l)).published ys
        → cond b (lacking l.published (xs ++ ys)) (x ∷ lacking (x ∷ l.published) (xs ++ ys)) ≡ cond b (lacking l.published xs) (x ∷ lacking (x ∷ l.published) xs) ++ lacking (laid_all r (cond b (lacking l.published xs) (x ∷ lacking (x ∷ l.published) xs)) l).published ys
    go true one two = one
    go false one two = ap (λ ps. x ∷ ps) two

-- of pairs and then of others
pub lays_then : (r : Readings) (xs ys : List (ℕ × Key)) (a b c : Laid) → Lays r xs a b → Lays r ys b c → Lays r (xs ++ ys) a c
lays_then r xs ys a b c one two =
    two ∙ ap (λ (l : Laid). laid_all r (lacking l.published ys) l) one
    ∙ sym (laid_then r (lacking a.published xs) (lacking (laid_all r (lacking a.published xs) a).published ys) a)
    ∙ ap (λ ps. laid_all r ps a) (sym (lacking_then r xs ys a))

-- all of them are a front
pub front_all : (r : Readings) (xs : List (ℕ × Key)) (a b : Laid) → Lays r xs a b → LaysFront r xs a b
front_all r xs a b one = record { front = lacking a.published xs; rest = []; are = append-nil (lacking a.published xs); lays = one }

-- a front of pairs is one of more pairs
pub front_more : (r : Readings) (xs ys : List (ℕ × Key)) (a b : Laid) → LaysFront r xs a b → LaysFront r (xs ++ ys) a b
front_more r xs ys a b f = record {
  front = f.front;
  rest = f.rest ++ lacking (laid_all r (lacking a.published xs) a).published ys;
  are = sym (append_assoc f.front f.rest (lacking (laid_all r (lacking a.published xs) a).published ys))
      ∙ ap (λ ps. ps ++ lacking (laid_all r (lacking a.published xs) a).published ys) f.are
      ∙ sym (lacking_then r xs ys a);
  lays = f.lays;
}

-- ---- one pair

pub lays_there : (r : Readings) (p : ℕ × Key) (l : Laid) → list_any (same_pair p.0 p.1) l.published ≡ true → Lays r (p ∷ []) l l
lays_there r p l h = ap (λ b. laid_all r (cond b [] (p ∷ [])) l) (sym h)

pub lays_one : {A E : Type 0} (r : Readings) (key : Key) (g : ℕ) (o : Result A E) (caches caches' : FinMap nat_cmp Layer) (published published' : List (ℕ × Key)) → list_any (same_pair g key) published ≡ false
    → OnOk o (caches' ≡ with_picture caches g r.patch.rect key (walk_value r.groups g)) → OnOk o (published' ≡ (g, key) ∷ published) → OnOk o (Lays r ((g, key) ∷ []) (laid_as caches published) (laid_as caches' published'))
lays_one r key g (Ok x) caches caches' published published' fresh c p = (λ i. laid_as (c i) (p i)) ∙ ap (λ b. laid_all r (cond b [] ((g, key) ∷ [])) (laid_as caches published)) (sym fresh)
lays_one r key g (Err x) caches caches' published published' fresh c p = tt

pub lays_not : {A E : Type 0} (o : Result A E) (caches caches' : FinMap nat_cmp Layer) (published published' : List (ℕ × Key)) → OnErr o (caches' ≡ caches) → OnErr o (published' ≡ published) → OnErr o (laid_as caches' published' ≡ laid_as caches published)
lays_not (Ok x) caches caches' published published' c p = tt
lays_not (Err x) caches caches' published published' c p = λ i. laid_as (c i) (p i)

-- ---- the groups of a tile

at_next : (path : List ℕ) (key : Key) (i g : ℕ) → slice_get path i ≡ Some g → pairs_at (take (i + 1) path) key ≡ pairs_at (take i path) key ++ (g, key) ∷ []
at_next path key i g at = ap (λ gs. pairs_at gs key) (take_here path i g at) ∙ map-append (λ q. (q, key)) (take i path) (g ∷ [])

pub groups_next : (r : Readings) (path : List ℕ) (key : Key) (i g : ℕ) (a b c : Laid) → slice_get path i ≡ Some g → Lays r (pairs_at (take i path) key) a b → Lays r ((g, key) ∷ []) b c → Lays r (pairs_at (take (i + 1) path) key) a c
groups_next r path key i g a b c at one two = subst (λ ps. Lays r ps a c) (sym (at_next path key i g at)) (lays_then r (pairs_at (take i path) key) ((g, key) ∷ []) a b c one two)

pub groups_stop : (r : Readings) (path : List ℕ) (key : Key) (i : ℕ) (a b c : Laid) → Lays r (pairs_at (take i path) key) a b → c ≡ b → LaysFront r (pairs_at path key) a c
groups_stop r path key i a b c one same =
    subst (λ ps. LaysFront r ps a c) (sym (map-append (λ q. (q, key)) (take i path) (drop i path)) ∙ ap (λ gs. pairs_at gs key) (take-append-drop i path))
    (front_more r (pairs_at (take i path) key) (pairs_at (drop i path) key) a c (front_all r (pairs_at (take i path) key) a c (same ∙ one)))

-- a pair that isn't published is lacking
first_lacks : (published ps : List (ℕ × Key)) (g : ℕ) (key : Key) → list_any (same_pair g key) published ≡ false → 1 ≤ length (lacking published ((g, key) ∷ ps))
first_lacks published ps g key fresh = subst (λ b. 1 ≤ length (cond b (lacking published ps) ((g, key) ∷ lacking ((g, key) ∷ published) ps))) (sym fresh) (omega arith)

-- where a group's turn came and its pair wasn't laid, some are left
pub groups_left : (r : Readings) (path : List ℕ) (key : Key) (i g : ℕ) (a b c : Laid) → slice_get path i ≡ Some g → Lays r (pairs_at (take i path) key) a b → c ≡ b → list_any (same_pair g key) b.published ≡ false → LaysSome r (pairs_at path key) a c
unfolding front_more front_all
groups_left r path key i g a b c at one same fresh =
    subst (λ ps. LaysSome r ps a c) (sym (map-append (λ q. (q, key)) (take i path) (drop i path)) ∙ ap (λ gs. pairs_at gs key) (take-append-drop i path))
    (record {
      part = front_more r (pairs_at (take i path) key) (pairs_at (drop i path) key) a c (front_all r (pairs_at (take i path) key) a c (same ∙ one));
      left = subst (λ (l : Laid). 1 ≤ length (lacking l.published (pairs_at (drop i path) key))) one
          (subst (λ gs. 1 ≤ length (lacking b.published (pairs_at gs key))) (sym (drop_here path i g at)) (first_lacks b.published (pairs_at (drop (i + 1) path) key) g key fresh));
    })

pub groups_end : (r : Readings) (path : List ℕ) (key : Key) (i : ℕ) (a b : Laid) → length path ≤ i → Lays r (pairs_at (take i path) key) a b → Lays r (pairs_at path key) a b
groups_end r path key i a b past one = subst (λ gs. Lays r (pairs_at gs key) a b) (take_all i path past) one

-- ---- what was composed of the same is the walk's own

same_laid : (own other : Readings) (key : Key) (g : ℕ) (l : Laid) → ReadTheSame own other key → laid other (g, key) l ≡ laid own (g, key) l
same_laid own other key g l same = λ i. record { caches = composed_is l.caches g key own other same i; published = (g, key) ∷ l.published }

-- a front of the pairs of a tile is laid alike by both
same_front : (own other : Readings) (key : Key) → ReadTheSame own other key → (path : List ℕ) (front rest : List (ℕ × Key)) (published : List (ℕ × Key)) (l : Laid) → front ++ rest ≡ lacking published (pairs_at path key) → laid_all other front l ≡ laid_all own front l
same_front own other key same path [] rest published l e = refl
same_front own other key same [] (p ∷ front) rest published l e = cc
same_front own other key same (g ∷ path) (p ∷ front) rest published l e = go (list_any (same_pair g key) published) e (same_front own other key same path (p ∷ front) rest published l) (same_front own other key same path front rest ((g, key) ∷ published) (laid other p l))
  where
    go : (b : Bool) → (p ∷ front) ++ rest ≡ cond b (lacking published (pairs_at path key)) ((g, key) ∷ lacking ((g, key) ∷ published) (pairs_at path key))
        → ((p ∷ front) ++ rest ≡ lacking published (pairs_at path key) → laid_all other (p ∷ front) l ≡ laid_all own (p ∷ front) l)
        → (front ++ rest ≡ lacking ((g, key) ∷ published) (pairs_at path key) → laid_all other front (laid other p l) ≡ laid_all own front (laid other p l))
        → laid_all other (p ∷ front) l ≡ laid_all own (p ∷ front) l
    go true h there more = there h
    go false h there more =
        let first : p ≡ (g, key) = cc in
        let others : front ++ rest ≡ lacking ((g, key) ∷ published) (pairs_at path key) = cc in
        more others ∙ ap (laid_all own front) (ap (λ q. laid other q l) first ∙ same_laid own other key g l same ∙ ap (λ q. laid own q l) (sym first))

pub same_lays : (own other : Readings) (key : Key) (path : List ℕ) (a b : Laid) → ReadTheSame own other key → Lays other (pairs_at path key) a b → Lays own (pairs_at path key) a b
same_lays own other key path a b same one = one ∙ same_front own other key same path (lacking a.published (pairs_at path key)) [] a.published a (append-nil (lacking a.published (pairs_at path key)))

pub same_lays_front : (own other : Readings) (key : Key) (path : List ℕ) (a b : Laid) → ReadTheSame own other key → LaysFront other (pairs_at path key) a b → LaysFront own (pairs_at path key) a b
same_lays_front own other key path a b same f = record { front = f.front; rest = f.rest; are = f.are; lays = f.lays ∙ same_front own other key same path f.front f.rest a.published a f.are }

pub same_lays_some : (own other : Readings) (key : Key) (path : List ℕ) (a b : Laid) → ReadTheSame own other key → LaysSome other (pairs_at path key) a b → LaysSome own (pairs_at path key) a b
unfolding same_lays_front
same_lays_some own other key path a b same f = record { part = same_lays_front own other key path a b same f.part; left = f.left }

-- a tile that was composed was composed of all groups of the walk
pub all_composed : (r : Readings) (c : Composition) (key : Key) → c ≡ composition r (key ∷ []) → list_all (λ g. has_pair c g key) (path_in r) ≡ true
all_composed r c key is = ap (λ (d : Composition). list_all (λ g. has_pair d g key) (path_in r)) is
    ∙ on_all (λ g. has_pair (composition r (key ∷ [])) g key) (path_in r) (λ g on_path. both_true _ _ on_path (or_left (same_key key key) _ (key_is key key refl)))
