use Rattle.std.proofs.Common.{◌≡◌, ℕ, ◌+◌, ◌-◌, ◌*◌, ◌/◌, ◌%◌, ◌≤◌, ◌<◌, ◌∙◌, sym, ap, refl, arith, length, get_or}
use Rattle.std.proofs.lemmas.Nat.{div-add-mod', div_below, mod_below, mul-le}
use Rattle.picture_reading.specs.Formats.{pixel_bytes, size}
use Rattle.picture_reading.specs.Reading.{byte_at, row_bytes}
use Rattle.picture_reading.proofs.Places.{row_written}
use Rattle.picture_reading.proofs.Sizes.{row_inside, some_bytes, some_row, within_stride}
use Rattle.picture_reading.proofs.reading.read_rows.Goals as goal

pub loop-row-preserved : goal.loop-row-preserved
loop-row-preserved g c i =
    let s = g.P.Picture.shown c.args.picture.now in
    let l = c.args.layout in
    let w = c.args.part.now.w in
    let r : ℕ = i % l.stride in
    let room : c.loop-row.row * l.stride + row_bytes l w ≤ length c.args.out.now = row_inside l w c.args.part.now.h (length c.args.out.now) c.loop-row.row c.requires.room c.loop-row-test.true in
    let narrow : row_bytes l w ≤ l.stride = within_stride l w c.args.part.now.h (length c.args.out.now) c.requires.room in
    let some : 1 ≤ row_bytes l w = some_row l w (omega arith) in
    row_written l.stride (row_bytes l w) c.loop-row.row i (byte_at s l c.args.part.now.x c.args.part.now.y i) (get_or c.args.out.now i 0) c.loop-row.out c.read_row.new.out _ _
    (ap (λ v. v * l.stride) c.from.ensures) (omega (arith, c.row_bytes-bytes.ensures)) (omega (arith, c.row_bytes-bytes.ensures)) (omega (arith, c.from.ensures, ap (λ v. v * l.stride) c.from.ensures)) narrow (omega arith)
    (λ q h. ap (λ v. get_or c.read_row.new.out v 0) (sym (div-add-mod' r (size l.format)))
    ∙ c.read_row.ensures (r / size l.format) (r % size l.format) (div_below r (size l.format) w (some_bytes l.format) h) (mod_below r (size l.format) (some_bytes l.format))
    ∙ ap (λ v. get_or (pixel_bytes l.format s.paper (s.pixel (c.args.part.now.x + r / size l.format) (c.args.part.now.y + v))) (r % size l.format) 0) (sym q))
    (c.loop-row.invariant i)
