-- Pixmaps of a film's frames, one after another.
use Rattle.std.proofs.Common.{◌≡◌, ℕ, suc, List, [], ◌∷◌, ◌++◌, take, drop, map, refl, sym, ap, ◌∙◌, append-nil}
use Rattle.std.specs.List.{concat, flat_map}
use Rattle.std.proofs.lemmas.Option.{get_or_from_slice_get, slice_get_within}
use Rattle.frame_core.specs.Frames.{Scene, Shows, colours_at}
use Rattle.geom_core.specs.Areas.{area, points_of, Point}
use Rattle.std.specs.Prelude.{Option, Some, Result, Ok, Err, OnOk, OnErr, pos, ◌*◌, slice_get}
use Rattle.std.specs.Io.KnownBytes.{Appends}
use Rattle.io_edge.specs.declared.outside.Failed.{Failed}
use Rattle.io_edge.specs.Told.{AppendsPrefix}
use Rattle.io_edge.proofs.Written.{prefix_behind, appends_to, flat_at}
use Rattle.ppm_out.specs.Scenes.{scene_bytes}
use Rattle.frame_core.specs.Scenes.{colours_of}

-- the colours of points, one after another
pub concat_is : (f : Point → List ℕ) (ps : List Point) → flat_map f ps ≡ concat (map f ps)
concat_is f [] = refl
concat_is f (p ∷ ps) = ap (λ l. f p ++ l) (concat_is f ps)

-- the pixmaps of a film, those before a place, the one there and those behind it
pub pixmaps_at : (film : List Scene) (i : ℕ) (s : Scene) → slice_get film i ≡ Some s → flat_map scene_bytes film ≡ flat_map scene_bytes (take i film) ++ (scene_bytes s ++ flat_map scene_bytes (drop (suc i) film))
pixmaps_at film i s at =
    flat_at scene_bytes film i s (slice_get_within film i s at)
    ∙ ap (λ v. flat_map scene_bytes (take i film) ++ (scene_bytes v ++ flat_map scene_bytes (drop (suc i) film))) (get_or_from_slice_get film i s s at)

-- the first bytes of a picture
pub shown_bytes : (s : Scene) (bytes : List ℕ) (w h : ℕ) → w ≡ s.width → h ≡ s.height → Shows s bytes → take (3 * (w * h)) bytes ≡ concat (colours_of s)
shown_bytes s bytes w h e f shows = ap (λ i. take (3 * (i * h)) bytes) e ∙ ap (λ i. take (3 * (s.width * i)) bytes) f ∙ shows ∙ concat_is (colours_at s) (points_of (area (pos 0) (pos 0) s.width s.height))

-- what is written behind other bytes
pub ok_behind : (r : Result (Unit {0}) Failed) (a b c : Option (List ℕ)) (xs ys zs : List ℕ) → Appends a b xs → OnOk r (Appends b c ys) → ys ≡ zs → OnOk r (Appends a c (xs ++ zs))
ok_behind (Ok u) a b c xs ys zs h k e = appends_to a b c xs ys (xs ++ zs) h k (ap (λ l. xs ++ l) e)
ok_behind (Err x) a b c xs ys zs h k e = tt

pub err_behind : (r : Result (Unit {0}) Failed) (a b c : Option (List ℕ)) (xs ys zs : List ℕ) → Appends a b xs → OnErr r (AppendsPrefix b c ys) → ys ≡ zs → OnErr r (AppendsPrefix a c (xs ++ zs))
err_behind (Ok u) a b c xs ys zs h k e = tt
err_behind (Err x) a b c xs ys zs h k e = prefix_behind a b c xs ys [] (xs ++ zs) h k (ap (λ l. xs ++ l) (sym e ∙ sym (append-nil ys)))
