-- What is laid on a device, as its layer.
use Rattle.std.proofs.Common.{◌≡◌, ℕ, ◌+◌, ◌*◌, ◌%◌, ◌<◌, replicate, Bool, true, false, ◌||◌, ◌&&◌, cond, List, [], ◌∷◌, Option, Some, None, is_some, refl, sym, ap, subst, ◌∙◌, arith}
use Rattle.std.specs.FinMap as map
use Rattle.std.specs.Prelude.{ℤ, pos, ◌+ℤ◌, ◌≤ℤ◌, int_le, int_lt, IfSome, IfNone}
use Rattle.std.specs.Borrow.{Bor}
use borrow.Author.Differences.{ints}
use Rattle.std.specs.Option.{unwrap_or, option_copied}
use Rattle.std.proofs.lemmas.List.{get_or-replicate}
use Rattle.pixel_core.specs.Rgba.{Rgba, clear, same_pixel}
use Rattle.geom_core.specs.Areas.{Area, holds, Point}
use Rattle.geom_core.specs.Rects.{any_holds, IsShared, IsWithin}
use Rattle.geom_core.specs.Place.{across, down}
use Rattle.geom_core.specs.Grid.{Key, key_cmp, key_of, same_key, tile}
use Rattle.geom_core.specs.Keys.{key_cmp_total}
use Rattle.geom_core.proofs.Tests.{taken, kept, and_left, and_right, both_true}
use Rattle.geom_core.proofs.Tiles.{holder, key_of_holder, key_same, key_is}
use Rattle.tile_core.specs.Pixels.{Pixels, pixel_at, pixel_or, HasPixels}
use Rattle.tile_core.specs.Blocks.{Piece, IsPiece, piece, piece_at, LaysBlock}
use Rattle.tile_core.proofs.Taken.{within_holds}
use Rattle.doc_model.specs.Layers.{Layer, at, painted, plain}
use Rattle.doc_model.proofs.LayerLaws.{layer_ext, at-painted, default-painted, at-plain, default-plain}
use Rattle.doc_model.specs.Shots.{in_tile}
use Rattle.memento_core.specs.Planes.{tile_under}
use Rattle.compose_core.specs.declared.children.Given.{Given}
use Rattle.compose_core.specs.declared.children.Given.TheVariants.{Plain}
use Rattle.paint_device.specs.Sheets.{Sheet, sheet, sheet_at, with_under, readied, tile_or}
use Rattle.paint_device.specs.Seen.{layer_of}
use Rattle.paint_device.specs.InPlace.{LaysUnder}
use Rattle.paint_device.proofs.Shown.{at-layer_of, default-layer_of}
use Rattle.paint_device.proofs.Writes as writes
use Rattle.compose_core.specs.Spots.{given_on}
use Rattle.group_caches.specs.Laying.{StandsFor, HasNone, LaysPoints, LaysGiven, LaysWhole}
use Rattle.group_caches.specs.Kept.{SameThere}

lone_rect : (rect : Area) (p : Point) (b : Bool) → (any_holds (rect ∷ []) p && b) ≡ (holds rect p && b)
lone_rect rect p b = go (holds rect p)
  where
    go : (a : Bool) → ((a || false) && b) ≡ (a && b)
    go true = refl
    go false = refl

-- the layer with the pixels of the rectangle in the tile
pub laid_layer : (rect : Area) (key : Key) (given : Given) (old new : Sheet) (f : Point → Rgba) → LaysGiven rect key given old new → SameThere rect key (given_on given) f → layer_of new ≡ painted (rect ∷ []) (in_tile key) f (layer_of old)
laid_layer rect key given old new f lays same = layer_ext _ _
    (default-layer_of new ∙ lays.default_pixel ∙ sym (default-layer_of old) ∙ sym (default-painted (rect ∷ []) (in_tile key) f (layer_of old)))
    (λ p. at-layer_of new p ∙ lays.at p ∙ go p (holds rect p) refl (in_tile key p) refl ∙ ap (λ b. cond b (f p) (at (layer_of old) p)) (sym (lone_rect rect p (in_tile key p))) ∙ sym (at-painted (rect ∷ []) (in_tile key) f (layer_of old) p))
  where
    go : (p : Point) (a : Bool) → holds rect p ≡ a → (b : Bool) → in_tile key p ≡ b → cond (a && b) (given_on given p) (sheet_at old p) ≡ cond (a && b) (f p) (at (layer_of old) p)
    go p true h true k = same p h k
    go p true h false k = sym (at-layer_of old p)
    go p false h b k = sym (at-layer_of old p)

tile_held : (k : Key) (p : Point) → same_key (key_of p) k ≡ true → holds (tile k) p ≡ true
tile_held k p h = (holder p k).0 (key_same (key_of p) k h)

held_tile : (k : Key) (p : Point) → holds (tile k) p ≡ true → same_key (key_of p) k ≡ true
held_tile k p h = key_is (key_of p) k (key_of_holder k p h)

-- what stands under the key of an exchange, and under the others
under_key : (s : Sheet) (key : Key) (o : Option Pixels) → tile_under (with_under s key o).tiles key ≡ o
under_key s key o = ap (λ x. unwrap_or x None) (map.get-insert key_cmp_total s.tiles key o key ∙ taken (same_key key key) (Some o) (map.get s.tiles key) (key_is key key refl))

under_others : (s : Sheet) (key k : Key) (o : Option Pixels) → same_key k key ≡ false → tile_under (with_under s key o).tiles k ≡ tile_under s.tiles k
under_others s key k o e = ap (λ x. unwrap_or x None) (map.get-insert key_cmp_total s.tiles key o k ∙ kept (same_key k key) (Some o) (map.get s.tiles k) e)

-- a tile goes under a key
pub tile_laid : (old mid new : Sheet) (key : Key) (t : Pixels) (given : Given) → mid ≡ readied old key → new ≡ with_under mid key (Some t) → StandsFor given (Some t) → LaysWhole key given old new
tile_laid old mid new key t given ready put is = record {
  here = subst (StandsFor given) (sym (ap (λ (s : Sheet). tile_under s.tiles key) put ∙ under_key mid key (Some t))) is;
  rest = record {
    default_pixel = ap (λ (s : Sheet). s.default_pixel) put ∙ ap (λ (s : Sheet). s.default_pixel) ready ∙ first (map.contains_key old.tiles key);
    others = λ k e. ap (λ (s : Sheet). tile_under s.tiles k) put ∙ under_others mid key k (Some t) e ∙ ap (λ (s : Sheet). tile_under s.tiles k) ready ∙ others k e (map.contains_key old.tiles key);
  };
}
  where
    first : (b : Bool) → (cond b old (with_under old key None)).default_pixel ≡ old.default_pixel
    first true = refl
    first false = refl

    others : (k : Key) → same_key k key ≡ false → (b : Bool) → tile_under (cond b old (with_under old key None)).tiles k ≡ tile_under old.tiles k
    others k e true = refl
    others k e false = under_others old key k None e

-- a tile is taken away
pub tile_gone : (old new : Sheet) (key : Key) → new ≡ with_under old key None → HasNone key old new
tile_gone old new key put = record {
  here = ap (λ (s : Sheet). tile_under s.tiles key) put ∙ under_key old key None;
  rest = record { default_pixel = ap (λ (s : Sheet). s.default_pixel) put; others = λ k e. ap (λ (s : Sheet). tile_under s.tiles k) put ∙ under_others old key k None e };
}

pub none_laid : (old new : Sheet) (key : Key) (given : Given) → HasNone key old new → StandsFor given None → LaysWhole key given old new
none_laid old new key given gone is = record { here = subst (StandsFor given) (sym gone.here) is; rest = gone.rest }

-- the pixels after a whole tile was laid
whole_at : (key : Key) (given : Given) (old new : Sheet) → old.default_pixel ≡ clear → LaysWhole key given old new → (p : Point) → sheet_at new p ≡ cond (in_tile key p) (given_on given p) (sheet_at old p)
whole_at key given old new c lays p = go (same_key (key_of p) key) refl
  where
    go : (b : Bool) → same_key (key_of p) key ≡ b → sheet_at new p ≡ cond b (given_on given p) (sheet_at old p)
    go true k = (λ i. pixel_or (tile_under new.tiles (key_same (key_of p) key k i)) ((lays.rest.default_pixel ∙ c) i) p) ∙ lays.here.shows p
    go false k = (λ i. pixel_or (lays.rest.others (key_of p) k i) (lays.rest.default_pixel i) p)

-- no tile is lent where none stands
pub none_under : (o : Option (Bor Pixels)) (d : Sheet) (key : Key) → option_copied o ≡ tile_under d.tiles key → is_some o ≡ false → tile_under d.tiles key ≡ None
none_under None d key e h = sym e
none_under (Some t) d key e h = cc

-- a clear picture changes nothing where no tile stands
pub nothing_given : (part : Area) (key : Key) (given : Given) (old : Sheet) → old.default_pixel ≡ clear → given ≡ Plain clear → tile_under old.tiles key ≡ None → LaysGiven part key given old old
nothing_given part key given old c e none = record { default_pixel = refl; at = λ p. sym (go p (holds part p) (in_tile key p) refl) }
  where
    here : (p : Point) → in_tile key p ≡ true → sheet_at old p ≡ clear
    here p k = ap (λ m. pixel_or (tile_under old.tiles m) old.default_pixel p) (key_same (key_of p) key k) ∙ ap (λ o. pixel_or o old.default_pixel p) none ∙ c

    go : (p : Point) (a b : Bool) → in_tile key p ≡ b → cond (a && b) (given_on given p) (sheet_at old p) ≡ sheet_at old p
    go p true true k = ap (λ g. given_on g p) e ∙ sym (here p k)
    go p true false k = refl
    go p false b k = refl

-- one axis: a part that is as large as the tile is the tile
whole_along : (a b x : ℤ) (n : ℕ) → n ≡ 64 → b ≤ℤ a → (a +ℤ pos n) ≤ℤ (b +ℤ pos 64) → (int_le b x && int_lt x (b +ℤ pos 64)) ≡ true → (int_le a x && int_lt x (a +ℤ pos n)) ≡ true
whole_along a b x n e l r h = grind (arith, ints)

whole_held : (part : Area) (key : Key) (p : Point) → IsWithin part (tile key) → part.w ≡ 64 → part.h ≡ 64 → same_key (key_of p) key ≡ true → holds part p ≡ true
whole_held part key p in_b w h k =
    let there : holds (tile key) p ≡ true = tile_held key p k in
    both_true _ _ (whole_along part.x (tile key).x p.x part.w w in_b.left in_b.right (and_left _ _ there)) (whole_along part.y (tile key).y p.y part.h h in_b.top in_b.bottom (and_right _ _ there))

-- a rectangle that has the whole tile
pub whole_given : (rect part : Area) (key : Key) (t : Area) (given : Given) (old new : Sheet) → old.default_pixel ≡ clear → t ≡ tile key → part.w ≡ 64 → part.h ≡ 64 → IsShared rect t part → LaysWhole key given old new → LaysGiven rect key given old new
whole_given rect part key t given old new c e w h shared lays = record { default_pixel = lays.rest.default_pixel; at = λ p. whole_at key given old new c lays p ∙ go p (in_tile key p) refl }
  where
    held : (p : Point) → in_tile key p ≡ true → holds rect p ≡ true
    held p k = and_left (holds rect p) (holds t p) (sym (shared.held p) ∙ whole_held part key p (subst (IsWithin part) e shared.in_b) w h k)

    go : (p : Point) (b : Bool) → in_tile key p ≡ b → cond b (given_on given p) (sheet_at old p) ≡ cond (holds rect p && b) (given_on given p) (sheet_at old p)
    go p true k = sym (taken (holds rect p && true) _ _ (ap (λ a. a && true) (held p k)))
    go p false k = sym (kept (holds rect p && false) _ _ (none (holds rect p)))
      where
        none : (a : Bool) → (a && false) ≡ false
        none true = refl
        none false = refl

same_tests : (rect part : Area) (t : Area) (key : Key) (p : Point) → t ≡ tile key → IsShared rect t part → (holds part p && in_tile key p) ≡ (holds rect p && in_tile key p)
same_tests rect part t key p e shared = ap (λ b. b && in_tile key p) (shared.held p ∙ ap (λ a. holds rect p && holds a p) e) ∙ go (in_tile key p) refl (holds (tile key) p) refl
  where
    go : (b : Bool) → in_tile key p ≡ b → (c : Bool) → holds (tile key) p ≡ c → ((holds rect p && c) && b) ≡ (holds rect p && b)
    go true k true h = ap (λ a. a && true) (with_true (holds rect p))
      where
        with_true : (a : Bool) → (a && true) ≡ a
        with_true true = refl
        with_true false = refl
    go true k false h = absurd (let t : holds (tile key) p ≡ true = tile_held key p k in cc)
    go false k c h = both_none (holds rect p) c
      where
        both_none : (a c : Bool) → ((a && c) && false) ≡ (a && false)
        both_none true true = refl
        both_none true false = refl
        both_none false c = refl

-- a rectangle that has a part of the tile
pub part_given : (rect part : Area) (key : Key) (t : Area) (given : Given) (old new : Sheet) → t ≡ tile key → IsShared rect t part → LaysGiven part key given old new → LaysGiven rect key given old new
part_given rect part key t given old new e shared lays = record { default_pixel = lays.default_pixel; at = λ p. lays.at p ∙ ap (λ b. cond b (given_on given p) (sheet_at old p)) (same_tests rect part t key p e shared) }

-- a rectangle that has nothing of it
pub none_given : (rect : Area) (key : Key) (t : Area) (given : Given) (old : Sheet) → t ≡ tile key → ((p : Point) → holds rect p ≡ true → holds t p ≡ false) → LaysGiven rect key given old old
none_given rect key t given old e apart = record { default_pixel = refl; at = λ p. sym (kept (holds rect p && in_tile key p) _ _ (go p (holds rect p) refl (in_tile key p) refl)) }
  where
    go : (p : Point) (a : Bool) → holds rect p ≡ a → (b : Bool) → in_tile key p ≡ b → (a && b) ≡ false
    go p true h true k = absurd (let f : holds (tile key) p ≡ false = sym (ap (λ m. holds m p) e) ∙ apart p h in let t : holds (tile key) p ≡ true = tile_held key p k in cc)
    go p true h false k = refl
    go p false h b k = refl

-- a block of what is given
pub block_given : (part : Area) (key : Key) (given : Given) (ps : List Rgba) (b : Piece) (old new : Sheet) → b ≡ piece key part ps → IsWithin part (tile key) → HasPixels part (given_on given) ps → LaysPoints old new b → LaysGiven part key given old new
block_given part key given ps b old new e inside has lays = record { default_pixel = lays.default_pixel; at = λ p. lays.at p ∙ ap (λ (q : Piece). cond (holds q.rect p) (piece_at q p) (sheet_at old p)) e ∙ go p (holds part p) refl }
  where
    go : (p : Point) (a : Bool) → holds part p ≡ a → cond a (piece_at (piece key part ps) p) (sheet_at old p) ≡ cond (a && in_tile key p) (given_on given p) (sheet_at old p)
    go p true h = has p h ∙ sym (taken (in_tile key p) _ _ (held_tile key p (within_holds part (tile key) p inside h)))
    go p false h = refl

-- a tile of one pixel
place_small : (c r : ℕ) → 64 * (r % 64) + c % 64 < 4096
place_small c r = omega arith

plain_at : (t : Pixels) (c : Rgba) (p : Point) → t ≡ replicate 4096 c → pixel_at t p ≡ c
plain_at t c p e = ap (λ q. pixel_at q p) e ∙ get_or-replicate 4096 (64 * (down p % 64) + across p % 64) c clear (place_small (across p) (down p))

pub plain_stands : (given : Given) (t : Pixels) (c : Rgba) → given ≡ Plain c → t ≡ replicate 4096 c → false ≡ same_pixel c clear → StandsFor given (Some t)
plain_stands given t c is e other = record {
  none = λ h. absurd (let same : Plain c ≡ Plain clear = sym is ∙ h in let bare : c ≡ clear = cc in let f : false ≡ true = other ∙ ap (λ x. same_pixel x clear) bare in cc);
  shows = λ p. plain_at t c p e ∙ sym (ap (λ g. given_on g p) is);
}

-- a block laid in place
pub alone_laid : (old new : Sheet) (b : Piece) (k : Key) → k ≡ b.key → IsPiece b → LaysUnder (λ x y. LaysBlock x y b) old new k → LaysPoints old new b
alone_laid old new b k e is under =
    let there : tile_or (tile_under old.tiles b.key) old.default_pixel ≡ under.before = ap (λ o. tile_or o old.default_pixel) (ap (tile_under old.tiles) (sym e) ∙ under.was) in
    let put : new ≡ with_under old b.key (Some under.after) = under.new_is ∙ ap (λ m. with_under old m (Some under.after)) e in
    record {
      default_pixel = ap (λ (s : Sheet). s.default_pixel) put;
      at = λ p. ap (λ s. sheet_at s p) put ∙ writes.at-with_under old b under.after is (subst (λ t. LaysBlock t under.after b) (sym there) under.lays) p;
    }

-- a key that was readied is there
pub readied_has : (s mid : Sheet) (k : Key) → mid ≡ readied s k → map.contains_key mid.tiles k ≡ true
readied_has s mid k e = ap (λ (m : Sheet). map.contains_key m.tiles k) e ∙ go (map.contains_key s.tiles k) refl
  where
    go : (b : Bool) → map.contains_key s.tiles k ≡ b → map.contains_key (cond b s (with_under s k None)).tiles k ≡ true
    go true h = h
    go false h = ap is_some (map.get-insert key_cmp_total s.tiles k None k ∙ taken (same_key k k) _ _ (key_is k k refl))

-- a device without tiles
pub empty_layer : (d : Sheet) (c : Rgba) → d ≡ sheet c map.empty → layer_of d ≡ plain c
empty_layer d c e = ap layer_of e ∙ layer_ext (layer_of (sheet c map.empty)) (plain c)
    (default-layer_of (sheet c map.empty) ∙ sym (default-plain c))
    (λ p. at-layer_of (sheet c map.empty) p ∙ ap (λ o. pixel_or (unwrap_or o None) c p) (map.get-empty key_cmp (key_of p)) ∙ sym (at-plain c p))

-- the tile under a key, as its layer shows it
pub tile_shows : (d : Sheet) (key : Key) (o : Option (Bor Pixels)) (l : Layer) → layer_of d ≡ l → option_copied o ≡ tile_under d.tiles key → IfSome o (λ t. (p : Point) → in_tile key p ≡ true → pixel_at t.now p ≡ at l p)
tile_shows d key None l e f = tt
tile_shows d key (Some t) l e f = λ p k. ap (λ o. pixel_or o d.default_pixel p) (f ∙ ap (tile_under d.tiles) (sym (key_same (key_of p) key k))) ∙ sym (at-layer_of d p) ∙ ap (λ m. at m p) e

pub none_shows : (d : Sheet) (key : Key) (o : Option (Bor Pixels)) (l : Layer) → d.default_pixel ≡ clear → layer_of d ≡ l → option_copied o ≡ tile_under d.tiles key → IfNone o ((p : Point) → in_tile key p ≡ true → at l p ≡ clear)
none_shows d key None l c e f = λ p k. sym (ap (λ m. at m p) e) ∙ at-layer_of d p ∙ ap (λ o. pixel_or o d.default_pixel p) (sym (f ∙ ap (tile_under d.tiles) (sym (key_same (key_of p) key k)))) ∙ c
none_shows d key (Some t) l c e f = tt
