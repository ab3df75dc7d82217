use Rattle.std.proofs.Common.{◌∙◌, ap, sym, get_or}
use Rattle.std.proofs.lemmas.List.{get_or-replicate}
use Rattle.pixel_core.specs.Rgba.{clear}
use Rattle.job_core.specs.Laid.{inked}
use Rattle.job_core.proofs.ink.Ink.on_all.Goals as goal

pub returns-in-None : goal.returns-in-None
returns-in-None c k h = ap (inked c.args.self.now 0 0) (ap (λ v. get_or v k clear) (c.is_plain.ensures.0 c.if-is_plain.true) ∙ get_or-replicate 4096 k c.pixel-first.result clear h) ∙ sym c.on.ensures
