-- A printed job reads back.
use Rattle.std.proofs.Common.{◌≡◌, ℕ, ◌+◌, ◌-◌, ◌*◌, ◌%◌, ◌≤◌, ap, ◌∙◌, sym, Bool, true, ◌&&◌, nat_le, List, [], ◌∷◌, ◌++◌, length, Ok, refl, arith}
use Rattle.std.specs.Prelude.{ℤ, pos, negsuc, ◌+ℤ◌, ◌-ℤ◌, ◌*ℤ◌, int_le, ◌==◌}
use Rattle.std.specs.List.{list_all}
use Rattle.std.specs.Fmt.{decimal, signed_decimal}
use borrow.Author.Differences.{ints}
use Rattle.std.proofs.lemmas.Bool.Decides.{nat_tests}
use Rattle.geom_core.specs.Areas.{Point, point, Area, lies_in, world}
use Rattle.geom_core.specs.Grid.{Key, key, tile}
use Rattle.doc_model.specs.declared.track.Stamp.{Stamp}
use Rattle.doc_model.specs.Trails.{Trail, trail, centres}
use Rattle.doc_model.specs.Jobs.{squares, checks}
use Rattle.pixel_core.specs.Rgba.{Rgba}
use Rattle.pixel_core.specs.declared.blending.Op.{Op}
use Rattle.doc_model.specs.declared.job.Kind.{Kind}
use Rattle.doc_model.specs.declared.job.Job.{Job}
use Rattle.doc_model.specs.declared.job.Job.TheVariants as job
use Rattle.doc_model.specs.declared.command.Command.{Command}
use Rattle.doc_model.specs.declared.command.Command.TheVariants.{Add}
use Rattle.doc_model.specs.Lawful.{within_limits, of_limits}
use Rattle.script_lines.specs.Values.{number_in}
use Rattle.script_lines.specs.Colours.{is_byte, is_pixel}
use Rattle.script_forms.specs.declared.words.JobWord.{JobWord}
use Rattle.script_forms.specs.declared.words.JobWord.TheVariants.{Fill, Dab, Move, Blur, Track}
use Rattle.script_forms.specs.declared.words.Word.{Word}
use Rattle.script_forms.specs.declared.words.Word.TheVariants.{Paint}
use Rattle.script_forms.specs.declared.jobs.Outline.{Outline}
use Rattle.script_forms.specs.Jobs.{outline, ink, tip, checked, stamp, point_at, points_at, are_points, polyline, along, measured, trail_of, cell_at, track, job_of, job_fields, paint}
use Rattle.script_forms.specs.Texts.{word_text, kind_text, op_text, edge_text}
use Rattle.script_forms.specs.Forms.{command_of}
use Rattle.script_forms.specs.Ranges.{is_coordinate, is_short, trail_in_range, job_in_range, is_number}
use Rattle.script_text.specs.Text.{area_fields, ink_fields, points_fields, trail_fields, job_text_fields, rgba_text, command_text, line}
use Rattle.script_text.proofs.PrintedFields.{signed_back, rgba_back}
use Rattle.script_lines.specs.Fronts.{is_field}
use Rattle.script_lines.proofs.FieldLemmas.{first, second, both}
use Rattle.script_text.proofs.PrintedWords.{kind_back, kind_field, op_back, op_field, edge_back, edge_field, natural_field, signed_field, rgba_field, upto_back, from_one_back}

-- a command, told as a word and fields
pub record Told (c : Command) : Type 0 where
  pub word : Word
  pub fields : List (List ℕ)
  pub text : command_text c ≡ line (word_text word) fields
  pub plain : list_all is_field fields ≡ true
  pub reads : command_of word fields ≡ Ok c

axis : (x : ℤ) (n : ℕ) → (int_le (negsuc 16383) x && int_le (x +ℤ pos n) (pos 16384)) ≡ true → is_coordinate x ≡ true
axis x n h = grind (arith, ints)

axis_grown : (x : ℤ) (n r : ℕ) → (int_le (negsuc 16383) (x -ℤ pos r) && int_le ((x -ℤ pos r) +ℤ pos (n + 2 * r)) (pos 16384)) ≡ true → is_coordinate x ≡ true
axis_grown x n r h = grind (arith, ints)

axis_square : (x : ℤ) (r : ℕ) → (int_le (negsuc 16383) (x -ℤ pos r) && int_le ((x -ℤ pos r) +ℤ pos (2 * r + 1)) (pos 16384)) ≡ true → is_coordinate x ≡ true
axis_square x r h = grind (arith, ints)

axis_moved : (x d : ℤ) (n : ℕ) → 1 ≤ n → (int_le (negsuc 16383) x && int_le (x +ℤ pos n) (pos 16384)) ≡ true → (int_le (negsuc 16383) (x +ℤ d) && int_le ((x +ℤ d) +ℤ pos n) (pos 16384)) ≡ true → (int_le (negsuc 32766) d && int_le d (pos 32767)) ≡ true
axis_moved x d n s h k = grind (arith, ints)

at_least : (n high : ℕ) → (nat_le 1 n && nat_le n high) ≡ true → 1 ≤ n
at_least n high h =
    let low = first (nat_le 1 n) (nat_le n high) h in
    grind (arith, nat_tests)

abbrev pub outline_of : Area → Outline
outline_of a = record { x = a.x; y = a.y; w = a.w; h = a.h }

-- the numbers of a rectangle are in their ranges
pub record IsPlaced (a : Area) : Type 0 where
  pub x : is_coordinate a.x ≡ true
  pub y : is_coordinate a.y ≡ true
  pub w : (nat_le 1 a.w && nat_le a.w 4096) ≡ true
  pub h : (nat_le 1 a.h && nat_le a.h 4096) ≡ true

placed : (a : Area) → is_coordinate a.x ≡ true → is_coordinate a.y ≡ true → of_limits a ≡ true → IsPlaced a
placed a x y l = record { x = x; y = y; w = first (nat_le 1 a.w && nat_le a.w 4096) (nat_le 1 a.h && nat_le a.h 4096) l; h = second (nat_le 1 a.w && nat_le a.w 4096) (nat_le 1 a.h && nat_le a.h 4096) l }

pub placed_in : (a : Area) → lies_in a world ≡ true → of_limits a ≡ true → IsPlaced a
placed_in a h l = placed a (axis a.x a.w (first _ _ h)) (axis a.y a.h (second _ _ h)) l

coordinate_back : (x : ℤ) → is_coordinate x ≡ true → number_in (negsuc 32767) (pos 32767) (signed_decimal x) ≡ Ok x
coordinate_back x h = signed_back 32767 32767 x (omega arith) (omega arith) (first (int_le (negsuc 32767) x) (int_le x (pos 32767)) h) (second (int_le (negsuc 32767) x) (int_le x (pos 32767)) h)

coordinate_field : (x : ℤ) → is_coordinate x ≡ true → is_field (signed_decimal x) ≡ true
coordinate_field x h = signed_field 32767 32767 x (omega arith) (omega arith) (first (int_le (negsuc 32767) x) (int_le x (pos 32767)) h) (second (int_le (negsuc 32767) x) (int_le x (pos 32767)) h)

distance_back : (x : ℤ) → (int_le (negsuc 32766) x && int_le x (pos 32767)) ≡ true → number_in (negsuc 32766) (pos 32767) (signed_decimal x) ≡ Ok x
distance_back x h = signed_back 32766 32767 x (omega arith) (omega arith) (first (int_le (negsuc 32766) x) (int_le x (pos 32767)) h) (second (int_le (negsuc 32766) x) (int_le x (pos 32767)) h)

distance_field : (x : ℤ) → (int_le (negsuc 32766) x && int_le x (pos 32767)) ≡ true → is_field (signed_decimal x) ≡ true
distance_field x h = signed_field 32766 32767 x (omega arith) (omega arith) (first (int_le (negsuc 32766) x) (int_le x (pos 32767)) h) (second (int_le (negsuc 32766) x) (int_le x (pos 32767)) h)

pub outline_back : (a : Area) → IsPlaced a → outline (signed_decimal a.x) (signed_decimal a.y) (decimal a.w) (decimal a.h) ≡ Ok (outline_of a)
unfolding outline
outline_back a p = rw (coordinate_back a.x p.x, coordinate_back a.y p.y, from_one_back 4096 a.w (omega arith) p.w, from_one_back 4096 a.h (omega arith) p.h) refl

pub area_plain : (a : Area) (more : List (List ℕ)) → IsPlaced a → list_all is_field more ≡ true → list_all is_field (area_fields a ++ more) ≡ true
area_plain a more p h =
    let w = natural_field 4096 a.w (omega arith) (second (nat_le 1 a.w) (nat_le a.w 4096) p.w) in
    let t = natural_field 4096 a.h (omega arith) (second (nat_le 1 a.h) (nat_le a.h 4096) p.h) in
    both _ _ (coordinate_field a.x p.x) (both _ _ (coordinate_field a.y p.y) (both _ _ w (both _ _ t h)))

ink_back : (p : Rgba) (op : Op) (m : ℕ) → (is_pixel p && is_byte m) ≡ true → ink (rgba_text p) (op_text op) (decimal m) ≡ Ok (record { colour = p; op = op; strength = m })
unfolding ink
ink_back p op m h = rw (rgba_back p (first (is_pixel p) (is_byte m) h), op_back op, upto_back 255 m (omega arith) (second (is_pixel p) (is_byte m) h)) refl

ink_plain : (p : Rgba) (op : Op) (m : ℕ) → (is_pixel p && is_byte m) ≡ true → list_all is_field (ink_fields p op m) ≡ true
ink_plain p op m h = both _ _ (rgba_field p) (both _ _ (op_field op) (both _ _ (natural_field 255 m (omega arith) (second (is_pixel p) (is_byte m) h)) refl))

checked_back : (j : Job) → checks j ≡ true → checked j ≡ Ok j
checked_back j h = rw h refl

fill_back : (a : Area) (p : Rgba) (op : Op) (m : ℕ) → IsPlaced a → (is_pixel p && is_byte m) ≡ true → checks (job.Fill a p op m) ≡ true → job_of Fill (area_fields a ++ ink_fields p op m) ≡ Ok (job.Fill a p op m)
unfolding job_of
fill_back a p op m l r h = rw (outline_back a l, ink_back p op m r) (checked_back (job.Fill a p op m) h)

tip_back : (x y : ℤ) (r : ℕ) (soft : Bool) → is_coordinate x ≡ true → is_coordinate y ≡ true → nat_le r 128 ≡ true → tip (signed_decimal x) (signed_decimal y) (decimal r) (edge_text soft) ≡ Ok (record { x = x; y = y; r = r; soft = soft })
unfolding tip
tip_back x y r soft h k l = rw (coordinate_back x h, coordinate_back y k, upto_back 128 r (omega arith) l, edge_back soft) refl

dab_back : (x y : ℤ) (r : ℕ) (soft : Bool) (p : Rgba) (op : Op) (m : ℕ) → is_coordinate x ≡ true → is_coordinate y ≡ true → nat_le r 128 ≡ true → (is_pixel p && is_byte m) ≡ true → checks (job.Dab x y r soft p op m) ≡ true → job_of Dab (job_text_fields (job.Dab x y r soft p op m)) ≡ Ok (job.Dab x y r soft p op m)
unfolding job_of
dab_back x y r soft p op m a b c i h = rw (tip_back x y r soft a b c, ink_back p op m i) (checked_back (job.Dab x y r soft p op m) h)

move_back : (a : Area) (dx dy : ℤ) → IsPlaced a → (int_le (negsuc 32766) dx && int_le dx (pos 32767)) ≡ true → (int_le (negsuc 32766) dy && int_le dy (pos 32767)) ≡ true → checks (job.Move a dx dy) ≡ true → job_of Move (job_text_fields (job.Move a dx dy)) ≡ Ok (job.Move a dx dy)
unfolding job_of
move_back a dx dy l x y h = rw (outline_back a l, distance_back dx x, distance_back dy y) (checked_back (job.Move a dx dy) h)

blur_back : (a : Area) (r : ℕ) → IsPlaced a → (nat_le 1 r && nat_le r 16) ≡ true → checks (job.Blur a r) ≡ true → job_of Blur (job_text_fields (job.Blur a r)) ≡ Ok (job.Blur a r)
unfolding job_of
blur_back a r l k h = rw (outline_back a l, from_one_back 16 r (omega arith) k) (checked_back (job.Blur a r) h)

paint_back : (work : JobWord) (n : ℕ) (kind : Kind) (others : List (List ℕ)) (j : Job) → is_number n ≡ true → job_fields work (length others) ≡ true → job_of work others ≡ Ok j → paint work (decimal n ∷ kind_text kind ∷ others) ≡ Ok (Add n kind j)
unfolding paint
paint_back work n kind others j h l k = rw (l, upto_back 4294967295 n (omega arith) h, kind_back kind, k) refl

job_plain : (n : ℕ) (kind : Kind) (others : List (List ℕ)) → is_number n ≡ true → list_all is_field others ≡ true → list_all is_field (decimal n ∷ kind_text kind ∷ others) ≡ true
job_plain n kind others h k = both _ _ (natural_field 4294967295 n (omega arith) h) (both _ _ (kind_field kind) k)

-- tracks

stamp_back : (s : Stamp) → nat_le s.r 128 ≡ true → (is_pixel s.colour && is_byte s.strength) ≡ true → stamp (decimal s.r) (edge_text s.soft) (rgba_text s.colour) (op_text s.op) (decimal s.strength) ≡ Ok s
unfolding stamp
stamp_back s h k = rw (upto_back 128 s.r (omega arith) h, edge_back s.soft, ink_back s.colour s.op s.strength k) refl

point_back : (p : Point) → is_short p ≡ true → point_at (signed_decimal p.x) (signed_decimal p.y) ≡ Ok p
unfolding point_at
point_back p h = rw (coordinate_back p.x (first (is_coordinate p.x) (is_coordinate p.y) h), coordinate_back p.y (second (is_coordinate p.x) (is_coordinate p.y) h)) refl

points_back : (ps : List Point) → list_all is_short ps ≡ true → points_at (points_fields ps) ≡ Ok ps
points_back [] h = refl
points_back (p ∷ ps) h = rw (point_back p (first (is_short p) (list_all is_short ps) h), points_back ps (second (is_short p) (list_all is_short ps) h)) refl

points_plain : (ps : List Point) → list_all is_short ps ≡ true → list_all is_field (points_fields ps) ≡ true
points_plain [] h = refl
points_plain (p ∷ ps) h =
    let here = first (is_short p) (list_all is_short ps) h in
    both _ _ (coordinate_field p.x (first (is_coordinate p.x) (is_coordinate p.y) here))
    (both _ _ (coordinate_field p.y (second (is_coordinate p.x) (is_coordinate p.y) here)) (points_plain ps (second (is_short p) (list_all is_short ps) h)))

length-points : (ps : List Point) → length (points_fields ps) ≡ 2 * length ps
length-points [] = refl
length-points (p ∷ ps) = let e : length (points_fields ps) ≡ 2 * length ps = length-points ps in omega arith

even_few : (n : ℕ) → (nat_le 2 n && nat_le n 8) ≡ true → are_points (2 * n) ≡ true
even_few n h = both (nat_le 4 (2 * n) && nat_le (2 * n) 16) (2 * n % 2 == 0) (both (nat_le 4 (2 * n)) (nat_le (2 * n) 16) (low n (first (nat_le 2 n) (nat_le n 8) h)) (high n (second (nat_le 2 n) (nat_le n 8) h))) (even n)
  where
    low : (n : ℕ) → nat_le 2 n ≡ true → nat_le 4 (2 * n) ≡ true
    low n h = grind (arith, nat_tests)

    high : (n : ℕ) → nat_le n 8 ≡ true → nat_le (2 * n) 16 ≡ true
    high n h = grind (arith, nat_tests)

    halved : (n : ℕ) → 2 * n % 2 ≡ 0
    halved n = omega arith

    even : (n : ℕ) → (2 * n % 2 == 0) ≡ true
    even n = ap (λ k. k == 0) (halved n)

-- the numbers of a track are in their ranges
record IsSpelled (t : Trail) : Type 0 where
  short : list_all is_short t.points ≡ true
  count : (nat_le 2 (length t.points) && nat_le (length t.points) 8) ≡ true
  gap : (nat_le 1 t.gap && nat_le t.gap 255) ≡ true
  radius : nat_le t.stamp.r 128 ≡ true
  ink : (is_pixel t.stamp.colour && is_byte t.stamp.strength) ≡ true

spelled : (t : Trail) → trail_in_range t ≡ true → IsSpelled t
spelled t h =
    let several = nat_le 2 (length t.points) && nat_le (length t.points) 8 in
    let gaps = nat_le 1 t.gap && nat_le t.gap 255 in
    let inks = is_pixel t.stamp.colour && is_byte t.stamp.strength in
    let points = first (list_all is_short t.points && several) (gaps && (nat_le t.stamp.r 128 && inks)) h in
    let others = second (list_all is_short t.points && several) (gaps && (nat_le t.stamp.r 128 && inks)) h in
    let dab = second gaps (nat_le t.stamp.r 128 && inks) others in
    record {
      short = first (list_all is_short t.points) several points;
      count = second (list_all is_short t.points) several points;
      gap = first gaps (nat_le t.stamp.r 128 && inks) others;
      radius = first (nat_le t.stamp.r 128) inks dab;
      ink = second (nat_le t.stamp.r 128) inks dab;
    }

count_back : (ps : List Point) → (nat_le 2 (length ps) && nat_le (length ps) 8) ≡ true → are_points (length (points_fields ps)) ≡ true
count_back ps h = ap are_points (length-points ps) ∙ even_few (length ps) h

polyline_back : (ps : List Point) → list_all is_short ps ≡ true → (nat_le 2 (length ps) && nat_le (length ps) 8) ≡ true → polyline (points_fields ps) ≡ Ok ps
unfolding polyline
polyline_back ps h k = rw (count_back ps k) (points_back ps h)

trail_back : (t : Trail) → IsSpelled t → nat_le (length (centres t)) 4096 ≡ true → trail_of (trail_fields t) ≡ Ok t
unfolding trail_of
trail_back t s few = rw (stamp_back t.stamp s.radius s.ink, from_one_back 255 t.gap (omega arith) s.gap, polyline_back t.points s.short s.count, few) refl

axis_cell : (c : ℤ) → (int_le (negsuc 16383) (pos 64 *ℤ c) && int_le ((pos 64 *ℤ c) +ℤ pos 64) (pos 16384)) ≡ true → (int_le (negsuc 255) c && int_le c (pos 255)) ≡ true
axis_cell c h = grind (arith, ints)

place_back : (x : ℤ) → (int_le (negsuc 255) x && int_le x (pos 255)) ≡ true → number_in (negsuc 255) (pos 255) (signed_decimal x) ≡ Ok x
place_back x h = signed_back 255 255 x (omega arith) (omega arith) (first (int_le (negsuc 255) x) (int_le x (pos 255)) h) (second (int_le (negsuc 255) x) (int_le x (pos 255)) h)

pub place_field : (x : ℤ) → (int_le (negsuc 255) x && int_le x (pos 255)) ≡ true → is_field (signed_decimal x) ≡ true
place_field x h = signed_field 255 255 x (omega arith) (omega arith) (first (int_le (negsuc 255) x) (int_le x (pos 255)) h) (second (int_le (negsuc 255) x) (int_le x (pos 255)) h)

pub cell_back : (k : Key) → (int_le (negsuc 255) k.col && int_le k.col (pos 255)) ≡ true → (int_le (negsuc 255) k.row && int_le k.row (pos 255)) ≡ true → cell_at (signed_decimal k.col) (signed_decimal k.row) ≡ Ok k
unfolding cell_at
cell_back k x y = rw (place_back k.col x, place_back k.row y) refl

track_back : (t : Trail) (k : Key) → IsSpelled t → nat_le (length (centres t)) 4096 ≡ true → (int_le (negsuc 255) k.col && int_le k.col (pos 255)) ≡ true → (int_le (negsuc 255) k.row && int_le k.row (pos 255)) ≡ true → checks (job.Track t k) ≡ true → track (job_text_fields (job.Track t k)) ≡ Ok (job.Track t k)
unfolding track
track_back t k s few x y c = rw (cell_back k x y, trail_back t s few) (checked_back (job.Track t k) c)

trail_plain : (t : Trail) → IsSpelled t → list_all is_field (trail_fields t) ≡ true
trail_plain t s =
    both _ _ (natural_field 128 t.stamp.r (omega arith) s.radius)
    (both _ _ (edge_field t.stamp.soft)
    (both _ _ (rgba_field t.stamp.colour) (both _ _ (op_field t.stamp.op) (both _ _ (natural_field 255 t.stamp.strength (omega arith) (second (is_pixel t.stamp.colour) (is_byte t.stamp.strength) s.ink))
    (both _ _ (natural_field 255 t.gap (omega arith) (second (nat_le 1 t.gap) (nat_le t.gap 255) s.gap)) (points_plain t.points s.short))))))

track_count : (t : Trail) (k : Key) → IsSpelled t → job_fields Track (length (job_text_fields (job.Track t k))) ≡ true
track_count t k s =
    let e : length (job_text_fields (job.Track t k)) - 8 ≡ length (points_fields t.points) = omega arith in
    ap are_points e ∙ count_back t.points s.count

-- a job of a stroke
pub told_job : (n : ℕ) (kind : Kind) (j : Job) → is_number n ≡ true → job_in_range j ≡ true → (checks j && within_limits j) ≡ true → Told (Add n kind j)
unfolding command_of job_of
told_job n kind (job.Fill a p op m) h r s =
    let c = first (checks (job.Fill a p op m)) (of_limits a) s in
    let l = placed_in a (first (lies_in a world) true c) (second (checks (job.Fill a p op m)) (of_limits a) s) in
    record {
      word = Paint Fill;
      fields = decimal n ∷ kind_text kind ∷ job_text_fields (job.Fill a p op m);
      text = refl;
      plain = job_plain n kind (job_text_fields (job.Fill a p op m)) h (area_plain a (ink_fields p op m) l (ink_plain p op m r));
      reads = paint_back Fill n kind (job_text_fields (job.Fill a p op m)) (job.Fill a p op m) h refl (fill_back a p op m l r c);
    }
told_job n kind (job.Dab x y r soft p op m) h i s =
    let c = first (checks (job.Dab x y r soft p op m)) (nat_le r 128) s in
    let small = second (checks (job.Dab x y r soft p op m)) (nat_le r 128) s in
    let radius = natural_field 128 r (omega arith) small in
    let inside = first _ true c in
    let column = axis_square x r (first _ _ inside) in
    let row = axis_square y r (second _ _ inside) in
    record {
      word = Paint Dab;
      fields = decimal n ∷ kind_text kind ∷ job_text_fields (job.Dab x y r soft p op m);
      text = refl;
      plain = job_plain n kind (job_text_fields (job.Dab x y r soft p op m)) h (both _ _ (coordinate_field x column) (both _ _ (coordinate_field y row) (both _ _ radius (both _ _ (edge_field soft) (ink_plain p op m i)))));
      reads = paint_back Dab n kind (job_text_fields (job.Dab x y r soft p op m)) (job.Dab x y r soft p op m) h refl (dab_back x y r soft p op m column row small i c);
    }
told_job n kind (job.Move a dx dy) h r s =
    let c = first (checks (job.Move a dx dy)) (of_limits a) s in
    let limits = second (checks (job.Move a dx dy)) (of_limits a) s in
    let inside = first (lies_in a world) _ c in
    let l = placed_in a inside limits in
    let after = first _ true (second (lies_in a world) _ c) in
    let columns = axis_moved a.x dx a.w (at_least a.w 4096 l.w) (first _ _ inside) (first _ _ after) in
    let rows = axis_moved a.y dy a.h (at_least a.h 4096 l.h) (second _ _ inside) (second _ _ after) in
    record {
      word = Paint Move;
      fields = decimal n ∷ kind_text kind ∷ job_text_fields (job.Move a dx dy);
      text = refl;
      plain = job_plain n kind (job_text_fields (job.Move a dx dy)) h (area_plain a (signed_decimal dx ∷ signed_decimal dy ∷ []) l (both _ _ (distance_field dx columns) (both _ _ (distance_field dy rows) refl)));
      reads = paint_back Move n kind (job_text_fields (job.Move a dx dy)) (job.Move a dx dy) h refl (move_back a dx dy l columns rows c);
    }
told_job n kind (job.Blur a r) h i s =
    let c = first (checks (job.Blur a r)) (of_limits a && (nat_le 1 r && nat_le r 16)) s in
    let limits = second (checks (job.Blur a r)) (of_limits a && (nat_le 1 r && nat_le r 16)) s in
    let radius = second (of_limits a) (nat_le 1 r && nat_le r 16) limits in
    let width = natural_field 16 r (omega arith) (second (nat_le 1 r) (nat_le r 16) radius) in
    let inside = first _ true c in
    let l = placed a (axis_grown a.x a.w r (first _ _ inside)) (axis_grown a.y a.h r (second _ _ inside)) (first (of_limits a) (nat_le 1 r && nat_le r 16) limits) in
    record {
      word = Paint Blur;
      fields = decimal n ∷ kind_text kind ∷ job_text_fields (job.Blur a r);
      text = refl;
      plain = job_plain n kind (job_text_fields (job.Blur a r)) h (area_plain a (decimal r ∷ []) l (both _ _ width refl));
      reads = paint_back Blur n kind (job_text_fields (job.Blur a r)) (job.Blur a r) h refl (blur_back a r l radius c);
    }
told_job n kind (job.Track t cell) h i s =
    let c = first (checks (job.Track t cell)) (nat_le (length (centres t)) 4096) s in
    let few = second (checks (job.Track t cell)) (nat_le (length (centres t)) 4096) s in
    let inside = first (lies_in (tile cell) world) _ c in
    let column = axis_cell cell.col (first _ _ inside) in
    let row = axis_cell cell.row (second _ _ inside) in
    let spelling = spelled t i in
    record {
      word = Paint Track;
      fields = decimal n ∷ kind_text kind ∷ job_text_fields (job.Track t cell);
      text = refl;
      plain = job_plain n kind (job_text_fields (job.Track t cell)) h (both _ _ (place_field cell.col column) (both _ _ (place_field cell.row row) (trail_plain t spelling)));
      reads = paint_back Track n kind (job_text_fields (job.Track t cell)) (job.Track t cell) h (track_count t cell spelling) (track_back t cell spelling few column row c);
    }
