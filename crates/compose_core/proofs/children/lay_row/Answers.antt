use Rattle.std.proofs.Common.{arith, refl, ap, sym, ◌+◌, ◌*◌, ◌-◌}
use Rattle.compose_core.specs.Children.{given_at}
use Rattle.compose_core.proofs.LaidChildren.{row_lays, held_sources}
use Rattle.compose_core.proofs.children.lay_row.Goals as goal

pub returns-in-Held : goal.returns-in-Held
returns-in-Held c = row_lays c.args.look c.args.given.now _ c.args.pixels.now c.lay_sources.new.backdrop _ _ c.args.part.w c.args.part.left c.args.row c.requires.visible refl c.requires.across c.requires.row c.requires.whole (omega arith) (omega arith)
    (held_sources c.args.given.now c.in-Held.tile c.pixels.result.now (64 * c.args.row + c.args.part.left) (64 * c.args.row + c.args.part.left + c.args.part.w - (64 * c.args.row + c.args.part.left)) c.args.part.w c.args.part.left c.args.row c.in-Held.is c.pixels.ensures.value refl (omega arith))
    c.lay_sources.ensures

pub returns-in-Plain : goal.returns-in-Plain
returns-in-Plain c = row_lays c.args.look c.args.given.now _ c.args.pixels.now c.lay_colour.new.backdrop _ _ c.args.part.w c.args.part.left c.args.row c.requires.visible refl c.requires.across c.requires.row c.requires.whole (omega arith) (omega arith)
    (λ col from few. ap (given_at col c.args.row) (sym c.in-Plain.is))
    c.lay_colour.ensures
