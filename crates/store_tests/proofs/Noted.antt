-- Transactions of a device in which a key was noted.
use Rattle.std.proofs.Common.{◌≡◌, Bool, true, false, Option, Some, None, is_some, List, ◌∷◌, refl, sym, ap, ◌∙◌, subst}
use Rattle.std.specs.Prelude.{All, IfSome, IfNone}
use Rattle.std.proofs.lemmas.List.Elements.{All-cons, All-head, All-rest, All-same, All-weaker}
use Rattle.std.specs.FinMap as map
use Rattle.std.specs.Option.{unwrap_or}
use Rattle.geom_core.specs.Grid.{Key, same_key}
use Rattle.geom_core.proofs.Tiles.{key_same}
use Rattle.tile_core.specs.Pixels.{Pixels}
use Rattle.tile_core.specs.Blocks.{Piece}
use Rattle.paint_device.specs.Sheets.{Sheet, WritesBlock}
use Rattle.memento_core.specs.Planes.{Keyed, tile_under}
use Rattle.memento_core.specs.Revisions.{AllStand, Exchanges, PutsBack, noted_under}
use Rattle.memento_core.specs.Books.{Pages, RollsBack, RollsForward}
use Rattle.memento_core.proofs.Booked.{exchange_keys, noted_stands, nothing_stands, same_some}
use Rattle.geom_core.specs.declared.Touched.{Touched}

-- where a tile stands its key is there
stands_there : (plane : Keyed Pixels) (k : Key) → is_some (tile_under plane k) ≡ true → map.contains_key plane k ≡ true
stands_there plane k h = go (map.get plane k) h
  where
    go : (o : Option (Option Pixels)) → is_some (unwrap_or o None) ≡ true → is_some o ≡ true
    go None h = h
    go (Some t) h = refl

-- a key that was noted twice, once a tile stands there
pub twice_noted : (plane : Keyed Pixels) (k : Key) (index : Option (Keyed Pixels)) → is_some (tile_under plane k) ≡ true → index ≡ Some (noted_under (noted_under map.empty k None) k None) → (r : Keyed Pixels) → index ≡ Some r → AllStand r plane
twice_noted plane k index there is r e =
    let has : map.contains_key plane k ≡ true = stands_there plane k there in
    subst (λ v. AllStand v plane) (same_some (noted_under (noted_under map.empty k None) k None) r index is e)
    (noted_stands (noted_under map.empty k None) plane k None (noted_stands map.empty plane k None (nothing_stands plane) has) has)

-- keys that are there stay where a block is written
pub write_keeps : (old new : Sheet) (b : Piece) → WritesBlock old new b → (q : Key) → map.contains_key old.tiles q ≡ true → map.contains_key new.tiles q ≡ true
write_keeps old new b w q h = go (same_key q b.key) refl
  where
    go : (c : Bool) → same_key q b.key ≡ c → map.contains_key new.tiles q ≡ true
    go true e = stands_there new.tiles q (ap (λ k. is_some (tile_under new.tiles k)) (key_same q b.key e) ∙ w.stands)
    go false e = ap is_some (w.others q e) ∙ h

-- and where a transaction is dropped
pub drop_keeps : (index : Option (Keyed Pixels)) (old new : Keyed Pixels) → is_some index ≡ true → ((r : Keyed Pixels) → index ≡ Some r → PutsBack r old new) → (q : Key) → map.contains_key old q ≡ true → map.contains_key new q ≡ true
drop_keeps None old new h back q there = absurd (no h)
  where
    no : false ≡ true → ⊥
    no e = cc
drop_keeps (Some r) old new h back q there = go (map.contains_key r q) refl
  where
    go : (c : Bool) → map.contains_key r q ≡ c → map.contains_key new q ≡ true
    go true e = ap is_some ((back r refl).laid q e) ∙ e
    go false e = ap is_some ((back r refl).others q e) ∙ there

-- between transactions each revision of a book stands in its plane
abbrev pub IsClosed : Pages Pixels → Keyed Pixels → Type 0
IsClosed b plane = (b.index ≡ None) × All (λ r. AllStand r plane) b.past × All (λ r. AllStand r plane) b.redo

-- they stand where no key goes
pub still_stand : (rs : List (Keyed Pixels)) (old new : Keyed Pixels) → ((q : Key) → map.contains_key old q ≡ true → map.contains_key new q ≡ true) → All (λ r. AllStand r old) rs → All (λ r. AllStand r new) rs
still_stand rs old new keys h = All-weaker (λ r. AllStand r old) (λ r. AllStand r new) (λ r s q i. keys q (s q i)) rs h

-- an exchange of the first of them, and what it gave is the first of the others
exchanged_stand : (xs ys zs ws : List (Keyed Pixels)) (r given old new : Keyed Pixels) → xs ≡ r ∷ ys → ws ≡ given ∷ zs → Exchanges r given old new
    → All (λ r. AllStand r old) xs → All (λ r. AllStand r old) zs → All (λ r. AllStand r new) ys × All (λ r. AllStand r new) ws
exchanged_stand xs ys zs ws r given old new from to e h i =
    let stands : AllStand r old = All-head (λ r. AllStand r old) r ys (All-same (λ r. AllStand r old) (r ∷ ys) xs (sym from) h) in
    let keys : (q : Key) → map.contains_key old q ≡ true → map.contains_key new q ≡ true = λ q there. exchange_keys r given old new stands e q ∙ there in
    let stands_again : AllStand given new = λ q k. keys q (stands q (sym (e.keys q) ∙ k)) in (
      still_stand ys old new keys (All-rest (λ r. AllStand r old) r ys xs from h),
      All-same (λ r. AllStand r new) ws (given ∷ zs) to (All-cons (λ r. AllStand r new) given zs stands_again (still_stand zs old new keys i)),
    )

pub rolled_back : (o : Option Touched) (b c : Pages Pixels) (s t : Sheet) → IfSome o (λ _. RollsBack b c s.tiles t.tiles) → IfNone o ((c ≡ b) × (t ≡ s)) → IsClosed b s.tiles → IsClosed c t.tiles
rolled_back None b c s t some none h = subst (λ d. IsClosed d t.tiles) (sym none.0) (subst (λ (u : Sheet). IsClosed b u.tiles) (sym none.1) h)
rolled_back (Some x) b c s t some none h =
    let both = exchanged_stand b.past c.past b.redo c.redo some.revision some.given s.tiles t.tiles some.past some.redo some.exchanges h.1 h.2 in
    (some.index ∙ h.0, both.0, both.1)

pub rolled_forward : (o : Option Touched) (b c : Pages Pixels) (s t : Sheet) → IfSome o (λ _. RollsForward b c s.tiles t.tiles) → IfNone o ((c ≡ b) × (t ≡ s)) → IsClosed b s.tiles → IsClosed c t.tiles
rolled_forward None b c s t some none h = subst (λ d. IsClosed d t.tiles) (sym none.0) (subst (λ (u : Sheet). IsClosed b u.tiles) (sym none.1) h)
rolled_forward (Some x) b c s t some none h =
    let both = exchanged_stand b.redo c.redo b.past c.past some.revision some.given s.tiles t.tiles some.redo some.past some.exchanges h.2 h.1 in
    (some.index ∙ h.0, both.1, both.0)

-- a dropped transaction leaves what was closed before
pub dropped_closed : (b p c : Pages Pixels) (old mid new : Keyed Pixels) → IsClosed b old → ((q : Key) → map.contains_key old q ≡ true → map.contains_key mid q ≡ true) → is_some p.index ≡ true → ((r : Keyed Pixels) → p.index ≡ Some r → PutsBack r mid new)
    → p.past ≡ b.past → p.redo ≡ b.redo → c ≡ record p { index = None } → IsClosed c new
dropped_closed b p c old mid new h keys began back past redo is =
    let stay : (q : Key) → map.contains_key old q ≡ true → map.contains_key new q ≡ true = λ q there. drop_keeps p.index mid new began back q (keys q there) in (
      ap (λ (d : Pages Pixels). d.index) is,
      All-same (λ r. AllStand r new) c.past b.past (ap (λ (d : Pages Pixels). d.past) is ∙ past) (still_stand b.past old new stay h.1),
      All-same (λ r. AllStand r new) c.redo b.redo (ap (λ (d : Pages Pixels). d.redo) is ∙ redo) (still_stand b.redo old new stay h.2),
    )
