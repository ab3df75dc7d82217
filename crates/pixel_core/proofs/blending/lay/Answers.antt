use Rattle.std.proofs.Common.{◌∙◌, ap, sym, get_or}
use Rattle.pixel_core.specs.Rgba.{if_canonical}
use Rattle.pixel_core.proofs.ComposeLaws.{made_on_clear}
use Rattle.pixel_core.proofs.blending.lay.Goals as goal

pub returns-in-0 : goal.returns-in-0
returns-in-0 c =
    c.new.ensures ∙ ap (λ xs. if_canonical (get_or xs 0 0) (get_or xs 1 0) (get_or xs 2 0) c.args.sa) c.bytes.ensures.value
    ∙ made_on_clear c.args.op c.args.s c.args.d c.args.sa c.requires (c.alpha.ensures.known.clear_where_0 (sym c.alpha.ensures.value ∙ c.in-0.is))
