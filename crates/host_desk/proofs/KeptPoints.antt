-- Points of a path in few bytes.
use Rattle.std.proofs.Common.{◌≡◌, ℕ, ℤ, zero, suc, ◌+◌, ◌<◌, true, List, [], ◌∷◌, ◌++◌, map, length, get_or, set, take, sym, subst, ap, ◌∙◌, arith}
use Rattle.std.specs.List.{list_all}
use Rattle.std.proofs.lemmas.List.{length-map, map-append, take_all, take_more, take_more_set}
use Rattle.std.proofs.lemmas.List.Folds.{list_all-map}
use Rattle.geom_core.proofs.Tests.{and_left, and_right}
use Rattle.doc_model.specs.Tracks.{point_of}
use Rattle.script_forms.specs.Ranges.{is_short}
use Rattle.host_lines.specs.declared.structs.StrokesPoint.{StrokesPoint}
use Rattle.host_desk.specs.Paths.{is_near, spot}

-- each of them may stand in a line
pub short_at : (ps : List StrokesPoint) (i : ℕ) (d : StrokesPoint) → list_all is_near ps ≡ true → i < length ps → is_near (get_or ps i d) ≡ true
short_at [] i d h t = absurd (omega arith)
short_at (q ∷ qs) zero d h t = and_left (is_near q) _ h
short_at (q ∷ qs) (suc i) d h t = short_at qs i d (and_right (is_near q) _ h) (omega arith)

-- as points too
pub short_all : (ps : List StrokesPoint) → list_all is_short (map spot ps) ≡ list_all is_near ps
short_all ps = list_all-map is_short spot ps

pub spot_count : (ps : List StrokesPoint) → length (map spot ps) ≡ length ps
spot_count ps = length-map ps spot

-- one more of them is kept
pub kept_more : (ps : List StrokesPoint) (ks : List (ℤ × ℤ)) (i : ℕ) (d : StrokesPoint) (k : ℤ × ℤ) → i < length ps → i < length ks → point_of k ≡ spot (get_or ps i d)
    → map point_of (take i ks) ≡ map spot (take i ps) → map point_of (take (i + 1) (set ks i k)) ≡ map spot (take (i + 1) ps)
kept_more ps ks i d k t room is so =
    ap (map point_of) (take_more_set ks i k room) ∙ map-append point_of (take i ks) (k ∷ []) ∙ ap (λ qs. qs ++ point_of k ∷ []) so ∙ ap (λ q. map spot (take i ps) ++ q ∷ []) is
    ∙ sym (ap (map spot) (take_more ps i d t) ∙ map-append spot (take i ps) (get_or ps i d ∷ []))

-- all are kept
pub kept_all : (ps : List StrokesPoint) (ks : List (ℤ × ℤ)) (i : ℕ) → i ≡ length ps → map point_of (take i ks) ≡ map spot (take i ps) → map point_of (take (length ps) ks) ≡ map spot ps
kept_all ps ks i e so = subst (λ n. map point_of (take n ks) ≡ map spot (take n ps)) e so ∙ ap (map spot) (take_all (length ps) ps (omega arith))
