use Rattle.std.proofs.Common.{◌∙◌, sym}
use Rattle.tile_core.specs.Shots.{sight_at}
use Rattle.pixel_rows.specs.Rows.{LaysRow}
use Rattle.job_core.proofs.Values.{refilled}
use Rattle.job_core.proofs.FillValues.{inked_pixels}
use Rattle.job_core.proofs.fills.inked.Goals as goal

pub returns-clause-has : goal.returns-clause-has
returns-clause-has c =
    let each : LaysRow c.args.ink.now.op (λ _. c.args.ink.now.colour) (λ _. c.args.ink.now.strength) c.in_ok-pixels.pixels.items c.lay_colour.new.backdrop = rw (← c.deref_mut.ensures.value) c.lay_colour.ensures in
    rw (refilled c.in_ok-pixels.pixels.len c.lay_colour.new.backdrop c.in_ok-pixels.pixels.items (c.lay_colour.auto.backdrop ∙ c.deref_mut.ensures.len))
    (inked_pixels c.args.ink.now c.args.part.now (sight_at c.args.shot.now) c.in_ok-pixels.pixels.items c.lay_colour.new.backdrop (sym c.in_ok-pixels.pixels.ok.0 ∙ c.in_ok-pixels.ensures.all) c.in_ok-pixels.ensures.has each)
