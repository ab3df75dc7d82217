-- Points of a polyline, printed one after another.
use Rattle.std.proofs.Common.{◌≡◌, ℕ, ◌+◌, ◌<◌, List, [], ◌∷◌, ◌++◌, map, take, length, get_or, refl, sym, ap, ◌∙◌, append_assoc}
use Rattle.std.specs.Prelude.{ℤ, pos}
use Rattle.std.specs.Fmt.{signed_decimal}
use Rattle.std.proofs.lemmas.List.{take_more, map-append}
use Rattle.std.proofs.lemmas.Grind.{flat_map-append}
use Rattle.geom_core.specs.Areas.{Point}
use Rattle.doc_model.specs.Tracks.{point_of}
use Rattle.script_text.specs.Text.{spaced, points_fields}

-- one point more
pub point_printed : (points : List (ℤ × ℤ)) (i : ℕ) (x y : ℤ) (first now half next : List ℕ) → i < length points → x ≡ (get_or points i (pos 0, pos 0)).0 → y ≡ (get_or points i (pos 0, pos 0)).1
    → now ≡ first ++ spaced (points_fields (map point_of (take i points))) → half ≡ now ++ spaced (signed_decimal x ∷ []) → next ≡ half ++ spaced (signed_decimal y ∷ [])
    → next ≡ first ++ spaced (points_fields (map point_of (take (i + 1) points)))
point_printed points i x y first now half next lt ex ey e f g =
    let p : ℤ × ℤ = get_or points i (pos 0, pos 0) in
    let old : List ℕ = spaced (points_fields (map point_of (take i points))) in
    let pair : List ℕ = spaced (signed_decimal p.0 ∷ signed_decimal p.1 ∷ []) in
    let split : points_fields (map point_of (take (i + 1) points)) ≡ points_fields (map point_of (take i points)) ++ (signed_decimal p.0 ∷ signed_decimal p.1 ∷ []) =
    ap (λ ps. points_fields (map point_of ps)) (take_more points i (pos 0, pos 0) lt)
    ∙ ap points_fields (map-append point_of (take i points) (p ∷ []))
    ∙ flat_map-append (λ (q : Point). signed_decimal q.x ∷ signed_decimal q.y ∷ []) (map point_of (take i points)) (point_of p ∷ []) in
    let whole : spaced (points_fields (map point_of (take (i + 1) points))) ≡ old ++ pair =
    ap spaced split ∙ flat_map-append (λ (s : List ℕ). 32 ∷ s) (points_fields (map point_of (take i points))) (signed_decimal p.0 ∷ signed_decimal p.1 ∷ []) in
    let two : spaced (signed_decimal p.0 ∷ []) ++ spaced (signed_decimal p.1 ∷ []) ≡ pair = sym (flat_map-append (λ (s : List ℕ). 32 ∷ s) (signed_decimal p.0 ∷ []) (signed_decimal p.1 ∷ [])) in
    g
    ∙ (λ j. f j ++ spaced (signed_decimal (ey j) ∷ []))
    ∙ (λ j. (e j ++ spaced (signed_decimal (ex j) ∷ [])) ++ spaced (signed_decimal p.1 ∷ []))
    ∙ append_assoc (first ++ old) (spaced (signed_decimal p.0 ∷ [])) (spaced (signed_decimal p.1 ∷ []))
    ∙ ap (λ l. (first ++ old) ++ l) two
    ∙ append_assoc first old pair
    ∙ ap (λ l. first ++ l) (sym whole)
