use Rattle.std.proofs.Common.{arith, length}
use borrow.Author.Differences.{ints}
use Rattle.brush_mask.specs.Chords.{IsChord}
use Rattle.job_core.proofs.ChordRows.{chord_row, chord_of, round_chord, soft_columns, hard_columns}
use Rattle.job_core.proofs.dabs.lay_dab_row.Goals as goal

pub returns-then-brush : goal.returns-then-brush
returns-then-brush c =
    let chord : IsChord c.args.brush.now.r c.args.dx c.args.dy (length c.args.row.now) c.chord_in_row-chord.result.first c.chord_in_row-chord.result.end = chord_of _ _ _ _ _ _ _ _ (omega (arith, ints)) (omega (arith, ints)) c.chord_in_row-chord.ensures.value in
    chord_row c.args.brush.now c.args.ink.now c.args.dx c.args.dy c.whole_blocks-blocks.result.first c.whole_blocks-blocks.result.end _ c.args.row.now c.lay_soft_row.new.row
    (round_chord _ _ _ _ _ _ _ _ chord c.whole_blocks-blocks.ensures.left c.whole_blocks-blocks.ensures.right)
    (omega arith) c.whole_blocks-blocks.ensures.inside (omega arith) (omega arith) c.tell_canonical.ensures
    (soft_columns c.args.brush.now c.args.ink.now c.args.dx _ c.args.dy _ c.whole_blocks-blocks.result.first _ _ c.lay_soft_row.new.row (omega (arith, ints)) (omega (arith, ints)) (omega arith) c.lay_soft_row.ensures)

pub returns-else-brush : goal.returns-else-brush
returns-else-brush c =
    let chord : IsChord c.args.brush.now.r c.args.dx c.args.dy (length c.args.row.now) c.chord_in_row-chord.result.first c.chord_in_row-chord.result.end = chord_of _ _ _ _ _ _ _ _ (omega (arith, ints)) (omega (arith, ints)) c.chord_in_row-chord.ensures.value in
    chord_row c.args.brush.now c.args.ink.now c.args.dx c.args.dy c.chord_in_row-chord.result.first c.chord_in_row-chord.result.end _ c.args.row.now c.lay_colour.new.backdrop (round_chord _ _ _ _ _ _ _ _ chord (omega arith) (omega arith))
    c.chord_in_row-chord.ensures.order c.chord_in_row-chord.ensures.inside (omega arith) (omega arith) c.tell_canonical.ensures
    (hard_columns c.args.brush.now c.args.ink.now c.args.dx c.args.dy _ c.chord_in_row-chord.result.first c.chord_in_row-chord.result.end _ c.lay_colour.new.backdrop c.if-brush.false chord c.chord_in_row-chord.ensures.inside (λ j small. c.lay_colour.ensures j (omega arith)))
