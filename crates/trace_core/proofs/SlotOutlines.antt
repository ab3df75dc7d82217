-- What stands in the slots, without pixels.
use Rattle.std.proofs.Common.{◌≡◌, ℕ, suc, zero, Bool, true, false, ◌&&◌, ◌||◌, not, cond, List, [], ◌∷◌, map, refl, sym, ap, ◌∙◌, arith, eqb}
use Rattle.std.specs.Prelude.{slice_set}
use Rattle.std.specs.List.{list_any, list_all}
use Rattle.std.specs.FinSet as set
use Rattle.std.proofs.lemmas.Bool.Decides.{nat_tests}
use Rattle.geom_core.specs.Areas.{Area}
use Rattle.geom_core.specs.Grid.{Key, key_cmp, same_key, keys_of, all_keys_of}
use Rattle.geom_core.specs.Keys.{key_cmp_total}
use Rattle.doc_model.specs.declared.job.Kind.{Kind}
use Rattle.doc_model.specs.Strokes.{Jobs}
use Rattle.doc_model.specs.Jobs.{writes}
use Rattle.machine_model.specs.State as state
use Rattle.machine_model.specs.State.{Child}
use Rattle.machine_model.specs.Slots as model
use Rattle.machine_model.specs.Guards as guard
use Rattle.machine_model.specs.Guards.{same_pair}
use Rattle.machine_model.specs.Groups.{on}
use Rattle.machine_model.specs.Next as next
use Rattle.machine_model.specs.Next.{groups_of, may_publish, may_compose}
use Rattle.trace_state.specs.declared.group.WalkedGroup.{WalkedGroup}
use Rattle.trace_state.specs.declared.slot.Slot.{Slot}
use Rattle.trace_state.specs.Painting.{Painting, lacks_tile, is_painted}
use Rattle.trace_state.specs.Walking.{Walking, lacks, noted, lacks_pair, with_pair, is_composed}
use Rattle.trace_state.specs.Tiles.{has_all}
use Rattle.trace_state.specs.Slots.{is_free, is_painter, is_walker, blocks, meets_walker}
use Rattle.trace_core.specs.Outline.{slot_of, tiles_of, walked_group}
use Rattle.std.proofs.lemmas.Bool.{eqb-true}

pub any_slots : (f : Slot → Bool) (g : state.Slot → Bool) → ((x : state.Slot) → f (slot_of x) ≡ g x) → (xs : List state.Slot) → list_any f (map slot_of xs) ≡ list_any g xs
any_slots f g e [] = refl
any_slots f g e (x ∷ xs) = λ i. e x i || any_slots f g e xs i

pub all_slots : (f : Slot → Bool) (g : state.Slot → Bool) → ((x : state.Slot) → f (slot_of x) ≡ g x) → (xs : List state.Slot) → list_all f (map slot_of xs) ≡ list_all g xs
all_slots f g e [] = refl
all_slots f g e (x ∷ xs) = λ i. e x i && all_slots f g e xs i

pub set_slots : (xs : List state.Slot) (i : ℕ) (y : state.Slot) → map slot_of (slice_set xs i y) ≡ slice_set (map slot_of xs) i (slot_of y)
set_slots [] i y = refl
set_slots (x ∷ xs) zero y = refl
set_slots (x ∷ xs) (suc i) y = ap (λ t. slot_of x ∷ t) (set_slots xs i y)

pub free_slot : (x : state.Slot) → is_free (slot_of x) ≡ state.is_free x
free_slot state.Free = refl
free_slot (state.Paints w) = refl
free_slot (state.Walks w) = refl

pub painter_slot : (x : state.Slot) → is_painter (slot_of x) ≡ model.is_painter x
painter_slot state.Free = refl
painter_slot (state.Paints w) = refl
painter_slot (state.Walks w) = refl

pub walker_slot : (x : state.Slot) → is_walker (slot_of x) ≡ model.is_walker x
walker_slot state.Free = refl
walker_slot (state.Paints w) = refl
walker_slot (state.Walks w) = refl

pub blocks_slot : (jobs : Jobs) (kind : Kind) (x : state.Slot) → blocks jobs kind (slot_of x) ≡ guard.blocks jobs kind x
blocks_slot jobs kind state.Free = refl
blocks_slot jobs kind (state.Paints w) = refl
blocks_slot jobs kind (state.Walks w) = refl

pub meets_slot : (rect : Area) (x : state.Slot) → meets_walker rect (slot_of x) ≡ guard.meets_walker rect x
meets_slot rect state.Free = refl
meets_slot rect (state.Paints w) = refl
meets_slot rect (state.Walks w) = refl

-- the tiles of a set made of a list
pub has_tile : (keys : List Key) (key : Key) → set.contains (set.from_list {R = key_cmp} keys) key ≡ list_any (same_key key) keys
has_tile keys key = set.contains-from_list key_cmp_total keys key

abbrev pub painting : state.Painter → Painting
painting w = record { index = w.index; job = w.job; published = set.from_list w.published }

pub lacks_told : (w : state.Painter) (key : Key) → lacks_tile (painting w) key ≡ may_publish w key
lacks_told w key = ap (λ b. list_any (same_key key) (all_keys_of (writes w.job)) && not b) (has_tile w.published key)

all_same : (f g : Key → Bool) → ((k : Key) → f k ≡ g k) → (keys : List Key) → list_all f keys ≡ list_all g keys
all_same f g e [] = refl
all_same f g e (k ∷ keys) = λ i. e k i && all_same f g e keys i

pub painted_told : (w : state.Painter) → is_painted (painting w) ≡ next.is_painted w
painted_told w = all_same (set.contains (set.from_list {R = key_cmp} w.published)) (λ key. list_any (same_key key) w.published) (has_tile w.published) (all_keys_of (writes w.job))

-- the tiles of a group
tiles_told : (g : ℕ) (published : List (ℕ × Key)) (key : Key) → list_any (same_key key) (tiles_of g published) ≡ list_any (same_pair g key) published
tiles_told g [] key = refl
tiles_told g (e ∷ es) key = go (eqb e.0 g) (tiles_told g es key)
  where
    go : (b : Bool) → list_any (same_key key) (tiles_of g es) ≡ list_any (same_pair g key) es → list_any (same_key key) (cond b (e.1 ∷ tiles_of g es) (tiles_of g es)) ≡ ((b && same_key key e.1) || list_any (same_pair g key) es)
    go true more = ap (λ c. same_key key e.1 || c) more
    go false more = more

has_pair : (g : ℕ) (published : List (ℕ × Key)) (key : Key) → set.contains (walked_group published g).published key ≡ list_any (same_pair g key) published
has_pair g published key = has_tile (tiles_of g published) key ∙ tiles_told g published key

lacks_groups : (published : List (ℕ × Key)) (g : ℕ) (key : Key) (gs : List ℕ) → list_any (lacks g key) (map (walked_group published) gs) ≡ (on g gs && not (list_any (same_pair g key) published))
lacks_groups published g key [] = refl
lacks_groups published g key (q ∷ gs) = go (lacks_groups published g key gs) (eqb q g) refl
  where
    both : (b c d : Bool) → c ≡ (b && d) → (d || c) ≡ d
    both b c true e = refl
    both true c false e = e
    both false c false e = e

    go : list_any (lacks g key) (map (walked_group published) gs) ≡ (on g gs && not (list_any (same_pair g key) published)) → (b : Bool) → eqb q g ≡ b → ((eqb q g && not (set.contains (walked_group published q).published key)) || list_any (lacks g key) (map (walked_group published) gs)) ≡ ((eqb q g || on g gs) && not (list_any (same_pair g key) published))
    go more true e = (λ i. (e i && not (set.contains (walked_group published (eqb-true q g e i)).published key)) || more i)
        ∙ ap (λ c. not c || (on g gs && not (list_any (same_pair g key) published))) (has_pair g published key)
        ∙ both (on g gs) _ _ refl
        ∙ ap (λ b. (b || on g gs) && not (list_any (same_pair g key) published)) (sym e)
    go more false e = ap (λ b. (b && not (set.contains (walked_group published q).published key)) || list_any (lacks g key) (map (walked_group published) gs)) e
        ∙ more
        ∙ ap (λ b. (b || on g gs) && not (list_any (same_pair g key) published)) (sym e)

abbrev pub walking : state.Walker → Walking
walking w = record { patch = w.patch; groups = map (walked_group w.published) (groups_of w) }

and_swap : (a b c : Bool) → (a && (b && c)) ≡ (b && (a && c))
and_swap true b c = refl
and_swap false true c = refl
and_swap false false c = refl

pub lacks_pair_told : (w : state.Walker) (g : ℕ) (key : Key) → lacks_pair (walking w) g key ≡ may_compose w g key
lacks_pair_told w g key = ap (λ b. list_any (same_key key) (keys_of w.patch.rect) && b) (lacks_groups w.published g key (groups_of w)) ∙ and_swap (list_any (same_key key) (keys_of w.patch.rect)) (on g (groups_of w)) _

note_groups : (published : List (ℕ × Key)) (g : ℕ) (key : Key) (gs : List ℕ) → map (walked_group ((g, key) ∷ published)) gs ≡ map (noted g key) (map (walked_group published) gs)
note_groups published g key [] = refl
note_groups published g key (q ∷ gs) = λ i. go (eqb g q) i ∷ note_groups published g key gs i
  where
    go : (b : Bool) → record { group = q; published = set.from_list (cond b (key ∷ tiles_of q published) (tiles_of q published)) } ≡ cond b (record (walked_group published q) { published = set.insert (walked_group published q).published key }) (walked_group published q)
    go true = refl
    go false = refl

pub with_pair_told : (w : state.Walker) (g : ℕ) (key : Key) → walking (record w { published = (g, key) ∷ w.published }) ≡ with_pair (walking w) g key
with_pair_told w g key = λ i. record { patch = w.patch; groups = note_groups w.published g key (groups_of w) i }

composed_groups : (published : List (ℕ × Key)) (keys : List Key) (gs : List ℕ) → list_all (λ (c : WalkedGroup). has_all c.published keys) (map (walked_group published) gs) ≡ list_all (λ g. list_all (λ key. list_any (same_pair g key) published) keys) gs
composed_groups published keys [] = refl
composed_groups published keys (g ∷ gs) = λ i. all_same (set.contains (walked_group published g).published) (λ key. list_any (same_pair g key) published) (has_pair g published) keys i && composed_groups published keys gs i

pub composed_told : (w : state.Walker) → is_composed (walking w) ≡ next.is_composed w
composed_told w = composed_groups w.published (keys_of w.patch.rect) (groups_of w)

-- a walk that starts has published nothing
pub unpublished_groups : (gs : List ℕ) → map (walked_group []) gs ≡ map (λ g. record { group = g; published = set.empty }) gs
unpublished_groups [] = refl
unpublished_groups (g ∷ gs) = ap (λ t. walked_group [] g ∷ t) (unpublished_groups gs)
