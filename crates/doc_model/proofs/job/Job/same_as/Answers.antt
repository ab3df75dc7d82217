-- Jobs that are told to be one are.
use Rattle.std.proofs.Common.{◌≡◌, ℕ, Bool, true, arith, rules, ap, sym, ◌∙◌}
use Rattle.geom_core.specs.Grid.{Key}
use Rattle.geom_core.specs.contracts.key.TileKeyPartialEq.TheImpl as keys
use Rattle.doc_model.specs.contracts.track.TrackPartialEq.TheImpl as tracks
use Rattle.doc_model.proofs.Tracks.{same_trail}
use Rattle.std.specs.Prelude.{ℤ, nat_eq}
use Rattle.std.specs.Bool.{beq}
use Rattle.std.specs.Ordering.{int_eq}
use Rattle.std.proofs.lemmas.Bool.Decides.{nat_tests}
use Rattle.pixel_core.specs.declared.blending.Op.{Op}
use Rattle.pixel_core.specs.contracts.blending.OpPartialEq.TheImpl as ops
use Rattle.pixel_core.specs.Rgba.{Rgba, same_pixel}
use Rattle.geom_core.specs.Areas.{Area}
use Rattle.geom_core.specs.Same.{same_area}
use Rattle.geom_core.proofs.Tests.{and_left, and_right}
use Rattle.doc_model.specs.declared.job.Job.{Job}
use Rattle.doc_model.specs.declared.job.Job.TheVariants.{Fill, Dab, Move, Blur, Track}
use Rattle.doc_model.specs.contracts.job.JobPartialEq.TheImpl as derived
use Rattle.doc_model.specs.contracts.job.JobEq.TheImpl.Laws as laws
use Rattle.doc_model.proofs.job.Job.same_as.Goals as goal

same_rect : (a b : Area) → same_area a b ≡ true → a ≡ b
same_rect a b e = search rules

same_colour : (a b : Rgba) → same_pixel a b ≡ true → a ≡ b
same_colour a b e = search rules

same_op : (a b : Op) → (ops.ghosts).eq a b ≡ true → a ≡ b
same_op a b e = search rules

same_number : (a b : ℕ) → nat_eq a b ≡ true → a ≡ b
same_number a b e = grind (arith, nat_tests)

same_signed : (a b : ℤ) → int_eq a b ≡ true → a ≡ b
same_signed a b e = search rules

same_bool : (a b : Bool) → beq a b ≡ true → a ≡ b
same_bool a b e = search rules

same_key : (a b : Key) → (keys.ghosts).eq a b ≡ true → a ≡ b
same_key a b e = search rules

same : (a b : Job) → (derived.ghosts).eq a b ≡ true → a ≡ b
same (Fill r c o s) (Fill r' c' o' s') e =
    let e1 = and_right (same_area r r') _ e in
    let e2 = and_right (same_pixel c c') _ e1 in
    λ i. Fill (same_rect r r' (and_left _ _ e) i) (same_colour c c' (and_left _ _ e1) i) (same_op o o' (and_left _ _ e2) i) (same_number s s' (and_right ((ops.ghosts).eq o o') _ e2) i)
same (Dab x y r f c o s) (Dab x' y' r' f' c' o' s') e =
    let e1 = and_right (int_eq x x') _ e in
    let e2 = and_right (int_eq y y') _ e1 in
    let e3 = and_right (nat_eq r r') _ e2 in
    let e4 = and_right (beq f f') _ e3 in
    let e5 = and_right (same_pixel c c') _ e4 in
    λ i. Dab (same_signed x x' (and_left _ _ e) i) (same_signed y y' (and_left _ _ e1) i) (same_number r r' (and_left _ _ e2) i) (same_bool f f' (and_left _ _ e3) i)
    (same_colour c c' (and_left _ _ e4) i) (same_op o o' (and_left _ _ e5) i) (same_number s s' (and_right ((ops.ghosts).eq o o') _ e5) i)
same (Move r x y) (Move r' x' y') e =
    let e1 = and_right (same_area r r') _ e in
    λ i. Move (same_rect r r' (and_left _ _ e) i) (same_signed x x' (and_left _ _ e1) i) (same_signed y y' (and_right (int_eq x x') _ e1) i)
same (Blur r n) (Blur r' n') e = λ i. Blur (same_rect r r' (and_left _ _ e) i) (same_number n n' (and_right (same_area r r') _ e) i)
same (Track t k) (Track t' k') e = λ i. Track (same_trail t t' (and_left _ _ e) i) (same_key k k' (and_right ((tracks.ghosts).eq t t') _ e) i)
same (Fill r c o s) (Dab _ _ _ _ _ _ _) e = cc
same (Fill r c o s) (Move _ _ _) e = cc
same (Fill r c o s) (Blur _ _) e = cc
same (Dab _ _ _ _ _ _ _) (Fill r c o s) e = cc
same (Dab _ _ _ _ _ _ _) (Move _ _ _) e = cc
same (Dab _ _ _ _ _ _ _) (Blur _ _) e = cc
same (Move _ _ _) (Fill r c o s) e = cc
same (Move _ _ _) (Dab _ _ _ _ _ _ _) e = cc
same (Move _ _ _) (Blur _ _) e = cc
same (Blur _ _) (Fill r c o s) e = cc
same (Blur _ _) (Dab _ _ _ _ _ _ _) e = cc
same (Blur _ _) (Move _ _ _) e = cc
same (Fill _ _ _ _) (Track _ _) e = cc
same (Dab _ _ _ _ _ _ _) (Track _ _) e = cc
same (Move _ _ _) (Track _ _) e = cc
same (Blur _ _) (Track _ _) e = cc
same (Track _ _) (Fill _ _ _ _) e = cc
same (Track _ _) (Dab _ _ _ _ _ _ _) e = cc
same (Track _ _) (Move _ _ _) e = cc
same (Track _ _) (Blur _ _) e = cc

pub returns : goal.returns
returns c = (
  (λ t. same c.args.self.now c.args.other.now (sym c.eq.ensures ∙ t)),
  (λ e. c.eq.ensures ∙ ap ((derived.ghosts).eq c.args.self.now) (sym e) ∙ (laws.laws-law).refl c.args.self.now),
)
