use Rattle.paint_device.proofs.Shown.{at-layer_of, default-layer_of}
use Rattle.paint_device.proofs.laws.layer_of_sheet.Goals as goal

pub returns-clause-pixels : goal.returns-clause-pixels
returns-clause-pixels c = at-layer_of

pub returns-clause-default_pixel : goal.returns-clause-default_pixel
returns-clause-default_pixel c = default-layer_of
