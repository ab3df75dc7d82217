use Rattle.std.proofs.Common.{arith, ◌<◌, ◌+◌, ◌-◌, ◌*◌, ◌/◌}
use Rattle.pixel_core.proofs.Sums.{most, weight_most, byte}
use Rattle.pixel_core.proofs.blending.channel_of.Goals as goal

pub overflow_add-n-2 : goal.overflow_add-n-2
overflow_add-n-2 c = omega (arith, most c.args.sa c.args.da c.args.s c.args.d c.blend_of-f.result (omega arith) (omega arith) (omega arith) (omega arith) (omega arith), weight_most c.args.sa c.args.da (omega arith) (omega arith))

pub overflow_mul-result : goal.overflow_mul-result
overflow_mul-result c = omega (arith, most c.args.sa c.args.da c.args.s c.args.d c.blend_of-f.result (omega arith) (omega arith) (omega arith) (omega arith) (omega arith), weight_most c.args.sa c.args.da (omega arith) (omega arith))

pub overflow_add-result : goal.overflow_add-result
overflow_add-result c = omega (arith, most c.args.sa c.args.da c.args.s c.args.d c.blend_of-f.result (omega arith) (omega arith) (omega arith) (omega arith) (omega arith), weight_most c.args.sa c.args.da (omega arith) (omega arith))

pub overflow_cast-result : goal.overflow_cast-result
overflow_cast-result c =
    let small : (2 * ((255 - c.args.sa) * c.args.da * c.args.d + (255 - c.args.da) * c.args.sa * c.args.s + c.args.sa * c.args.da * c.blend_of-f.result) + (255 * (c.args.sa + c.args.da) - c.args.sa * c.args.da)) / (2 * (255 * (c.args.sa + c.args.da) - c.args.sa * c.args.da)) < 256 =
    byte ((255 - c.args.sa) * c.args.da * c.args.d + (255 - c.args.da) * c.args.sa * c.args.s + c.args.sa * c.args.da * c.blend_of-f.result) (255 * (c.args.sa + c.args.da) - c.args.sa * c.args.da) c.requires
    (most c.args.sa c.args.da c.args.s c.args.d c.blend_of-f.result (omega arith) (omega arith) (omega arith) (omega arith) (omega arith)) in
    omega (arith, small)
