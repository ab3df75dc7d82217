-- The parts of lines, each with the first field at which it fails.
use Rattle.std.proofs.Common.{ℕ, suc, List, [], ◌∷◌, Option, None, refl, inl}
use Rattle.std.specs.Prelude.{Result, Ok, Err, pos, negsuc}
use Rattle.std.specs.Result.{result_err}
use Rattle.geom_core.specs.Areas.{Point}
use Rattle.geom_core.specs.Grid.{Key}
use Rattle.doc_model.specs.declared.track.Stamp.{Stamp}
use Rattle.script_lines.specs.declared.cause.Cause.{Cause}
use Rattle.script_lines.specs.declared.cause.Cause.TheVariants.{FieldCount}
use Rattle.script_lines.specs.Values.{natural, number_in, rgba, ◌>>=◌}
use Rattle.script_forms.specs.declared.jobs.Outline.{Outline}
use Rattle.script_forms.specs.declared.jobs.Ink.{Ink}
use Rattle.script_forms.specs.declared.jobs.Tip.{Tip}
use Rattle.script_forms.specs.Forms.{sides, spot}
use Rattle.script_forms.specs.Jobs.{cell_at, coordinate, edge_of, Fields, ink, op_of, outline, point_at, points_at, stamp, tip}
use Rattle.script_fields.specs.Fields.{fault_from, or_later}
use Rattle.script_fields.specs.Laws.{IsTold}
use Rattle.script_fields.proofs.Told.{failed, of_line, told_assoc, told_then}

-- two fields that make one value
two : {A B R T : Type 0} (a : Result A Cause) (b : Result B Cause) (make : A → B → R) (h : R → Result T Cause) (n : ℕ) (later : Option (ℕ × Cause)) → ((r : R) → IsTold (h r) later)
    → IsTold ((a >>= λ x. b >>= λ y. Ok (make x y)) >>= h) (or_later n (result_err a) (or_later (suc n) (result_err b) later))
two (Err c) b make h n later f = failed n c
two (Ok x) (Err c) make h n later f = failed (suc n) c
two (Ok x) (Ok y) make h n later f = f (make x y)

-- three
three : {A B C R T : Type 0} (a : Result A Cause) (b : Result B Cause) (c : Result C Cause) (make : A → B → C → R) (h : R → Result T Cause) (n : ℕ) (later : Option (ℕ × Cause)) → ((r : R) → IsTold (h r) later)
    → IsTold ((a >>= λ x. b >>= λ y. c >>= λ z. Ok (make x y z)) >>= h) (or_later n (result_err a) (or_later (suc n) (result_err b) (or_later (suc (suc n)) (result_err c) later)))
three (Err e) b c make h n later f = failed n e
three (Ok x) (Err e) c make h n later f = failed (suc n) e
three (Ok x) (Ok y) (Err e) make h n later f = failed (suc (suc n)) e
three (Ok x) (Ok y) (Ok z) make h n later f = f (make x y z)

-- four
four : {A B C D R T : Type 0} (a : Result A Cause) (b : Result B Cause) (c : Result C Cause) (d : Result D Cause) (make : A → B → C → D → R) (h : R → Result T Cause) (n : ℕ) (later : Option (ℕ × Cause)) → ((r : R) → IsTold (h r) later)
    → IsTold ((a >>= λ x. b >>= λ y. c >>= λ z. d >>= λ w. Ok (make x y z w)) >>= h) (or_later n (result_err a) (or_later (suc n) (result_err b) (or_later (suc (suc n)) (result_err c) (or_later (suc (suc (suc n))) (result_err d) later))))
four (Err e) b c d make h n later f = failed n e
four (Ok x) (Err e) c d make h n later f = failed (suc n) e
four (Ok x) (Ok y) (Err e) d make h n later f = failed (suc (suc n)) e
four (Ok x) (Ok y) (Ok z) (Err e) make h n later f = failed (suc (suc (suc n))) e
four (Ok x) (Ok y) (Ok z) (Ok w) make h n later f = f (make x y z w)

pub told_sides : {T : Type 0} (width height : List ℕ) (h : ℕ × ℕ → Result T Cause) (n : ℕ) (later : Option (ℕ × Cause)) → ((r : ℕ × ℕ) → IsTold (h r) later)
    → IsTold (sides width height >>= h) (or_later n (result_err (natural 1 2048 width)) (or_later (suc n) (result_err (natural 1 2048 height)) later))
unfolding sides
told_sides width height h n later f = two (natural 1 2048 width) (natural 1 2048 height) (λ w k. (w, k)) h n later f

pub told_spot : {T : Type 0} (id parent place : List ℕ) (h : ℕ × ℕ × ℕ → Result T Cause) (n : ℕ) (later : Option (ℕ × Cause)) → ((r : ℕ × ℕ × ℕ) → IsTold (h r) later)
    → IsTold (spot id parent place >>= h) (or_later n (result_err (natural 1 65535 id)) (or_later (suc n) (result_err (natural 0 65535 parent)) (or_later (suc (suc n)) (result_err (natural 0 255 place)) later)))
unfolding spot
told_spot id parent place h n later f = three (natural 1 65535 id) (natural 0 65535 parent) (natural 0 255 place) (λ i p k. (i, p, k)) h n later f

pub told_outline : {T : Type 0} (left top width height : List ℕ) (h : Outline → Result T Cause) (n : ℕ) (later : Option (ℕ × Cause)) → ((r : Outline) → IsTold (h r) later)
    → IsTold (outline left top width height >>= h) (or_later n (result_err (coordinate left)) (or_later (suc n) (result_err (coordinate top)) (or_later (suc (suc n)) (result_err (natural 1 4096 width)) (or_later (suc (suc (suc n))) (result_err (natural 1 4096 height)) later))))
unfolding outline
told_outline left top width height h n later f = four (coordinate left) (coordinate top) (natural 1 4096 width) (natural 1 4096 height) (λ x y w k. record { x = x; y = y; w = w; h = k }) h n later f

pub told_ink : {T : Type 0} (colour operation strength : List ℕ) (h : Ink → Result T Cause) (n : ℕ) (later : Option (ℕ × Cause)) → ((r : Ink) → IsTold (h r) later)
    → IsTold (ink colour operation strength >>= h) (or_later n (result_err (rgba colour)) (or_later (suc n) (result_err (op_of operation)) (or_later (suc (suc n)) (result_err (natural 0 255 strength)) later)))
unfolding ink
told_ink colour operation strength h n later f = three (rgba colour) (op_of operation) (natural 0 255 strength) (λ p o m. record { colour = p; op = o; strength = m }) h n later f

pub told_tip : {T : Type 0} (left top radius edge : List ℕ) (h : Tip → Result T Cause) (n : ℕ) (later : Option (ℕ × Cause)) → ((r : Tip) → IsTold (h r) later)
    → IsTold (tip left top radius edge >>= h) (or_later n (result_err (coordinate left)) (or_later (suc n) (result_err (coordinate top)) (or_later (suc (suc n)) (result_err (natural 0 128 radius)) (or_later (suc (suc (suc n))) (result_err (edge_of edge)) later))))
unfolding tip
told_tip left top radius edge h n later f = four (coordinate left) (coordinate top) (natural 0 128 radius) (edge_of edge) (λ x y r s. record { x = x; y = y; r = r; soft = s }) h n later f

pub told_cell : {T : Type 0} (column row : List ℕ) (h : Key → Result T Cause) (n : ℕ) (later : Option (ℕ × Cause)) → ((r : Key) → IsTold (h r) later)
    → IsTold (cell_at column row >>= h) (or_later n (result_err (number_in (negsuc 255) (pos 255) column)) (or_later (suc n) (result_err (number_in (negsuc 255) (pos 255) row)) later))
unfolding cell_at
told_cell column row h n later f = two (number_in (negsuc 255) (pos 255) column) (number_in (negsuc 255) (pos 255) row) (λ x y. record { col = x; row = y }) h n later f

told_point : {T : Type 0} (left top : List ℕ) (h : Point → Result T Cause) (n : ℕ) (later : Option (ℕ × Cause)) → ((r : Point) → IsTold (h r) later)
    → IsTold (point_at left top >>= h) (or_later n (result_err (coordinate left)) (or_later (suc n) (result_err (coordinate top)) later))
unfolding point_at
told_point left top h n later f = two (coordinate left) (coordinate top) (λ x y. record { x = x; y = y }) h n later f

-- points, behind which no field stands
pub told_points : {T : Type 0} (fields : Fields) (h : List Point → Result T Cause) (n : ℕ) → ((ps : List Point) (fault : Option (ℕ × Cause)) → IsTold (h ps) fault) → IsTold (points_at fields >>= h) (fault_from n [] fields)
told_points [] h n f = f [] None
told_points (left ∷ []) h n f = of_line FieldCount (fault_from n [] (left ∷ [])) (inl refl)
told_points (left ∷ top ∷ others) h n f =
    told_assoc (point_at left top) (λ p. points_at others >>= λ ps. Ok (p ∷ ps)) h (fault_from n [] (left ∷ top ∷ others))
    (told_point left top (λ p. (points_at others >>= λ ps. Ok (p ∷ ps)) >>= h) n (fault_from (suc (suc n)) [] others)
    (λ p. told_assoc (points_at others) (λ ps. Ok (p ∷ ps)) h (fault_from (suc (suc n)) [] others) (told_points others (λ ps. h (p ∷ ps)) (suc (suc n)) (λ ps fault. f (p ∷ ps) fault))))

-- what each dab of a track or a path paints
pub told_stamp : {T : Type 0} (radius edge colour operation strength : List ℕ) (h : Stamp → Result T Cause) (n : ℕ) (later : Option (ℕ × Cause)) → ((r : Stamp) → IsTold (h r) later)
    → IsTold (stamp radius edge colour operation strength >>= h) (or_later n (result_err (natural 0 128 radius)) (or_later (suc n) (result_err (edge_of edge)) (or_later (suc (suc n)) (result_err (rgba colour)) (or_later (suc (suc (suc n))) (result_err (op_of operation)) (or_later (suc (suc (suc (suc n)))) (result_err (natural 0 255 strength)) later)))))
unfolding stamp
told_stamp radius edge colour operation strength h n later f =
    told_assoc (natural 0 128 radius) _ h _ (told_then (natural 0 128 radius) _ n _
    (λ r. told_assoc (edge_of edge) _ h _ (told_then (edge_of edge) _ (suc n) _
    (λ s. told_assoc (ink colour operation strength) _ h _ (told_ink colour operation strength _ (suc (suc n)) later (λ i. f _))))))
