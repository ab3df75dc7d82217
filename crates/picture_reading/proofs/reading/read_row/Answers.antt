use Rattle.std.proofs.Common.{◌≡◌, ℕ, ◌+◌, ◌-◌, ◌*◌, ◌≤◌, ◌<◌, ◌∙◌, ap, arith, length, get_or}
use Rattle.picture_reading.specs.Formats.{pixel_bytes, size}
use Rattle.std.proofs.lemmas.Nat.{mul-le}
use Rattle.picture_reading.proofs.Places.{run_written}
use Rattle.picture_reading.proofs.reading.read_row.Goals as goal

pub loop-col-preserved : goal.loop-col-preserved
loop-col-preserved g c k c' few left t =
    let s = g.P.Picture.shown c.args.picture.now in
    let f = c.args.format in
    let x : ℕ = c.args.part.now.x in
    let seen : ℕ → ℕ → ℕ = (λ k c'. get_or (pixel_bytes f s.paper (s.pixel (x + k) (c.args.part.now.y + c.args.row))) c' 0) in
    let d : ℕ = c.from.result in
    let n : ℕ = c.from-n.result in
    let is_at : c.from.result * c.size.result ≡ c.from.result * size f = ap (λ v. c.from.result * v) c.size.ensures in
    let is_bytes : c.from.result * c.size.result + c.from-n.result * c.size-in-loop-col.result - c.from.result * c.size.result ≡ c.from-n.result * size f =
    omega (arith, ap (λ v. c.from-n.result * v) c.size-in-loop-col.ensures) in
    let room : (c.from.result + c.from-n.result) * size f ≤ c.args.part.now.w * size f = mul-le (c.from.result + c.from-n.result) (size f) c.args.part.now.w (size f) (omega arith) (omega arith) in
    run_written (size f) seen c.loop-col.out c.read_run.new.out _ _ d n is_at is_bytes (omega (arith, is_bytes)) (omega (arith, room, is_at, is_bytes))
    (λ j c' h t. c.loop-col.invariant j c' (omega arith) (omega arith) t)
    (λ j c' h t. c.read_run.ensures j c' h t ∙ ap (λ v. get_or (pixel_bytes f s.paper (s.pixel v (c.args.part.now.y + c.args.row))) c' 0) (omega arith))
    k c' (omega arith) t
