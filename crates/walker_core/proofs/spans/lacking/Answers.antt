use Rattle.walker_core.proofs.SpanPoints.{lacking_across, lacking_down, part_itself, within_spans}
use Rattle.walker_core.proofs.spans.lacking.Goals as goal

pub returns-then-lies_in-clause-all : goal.returns-then-lies_in-clause-all
returns-then-lies_in-clause-all c = λ p h. lacking_across c.args.part.now c.args.known.now c.rect_of.result c.columns-across.result c.rows-down.result c.columns-known_across.result c.rows-known_down.result c.beyond.result p
    c.columns-across.ensures.along c.rows-down.ensures.along c.columns-known_across.ensures.along c.rows-known_down.ensures.along c.rect_of.ensures.across c.rect_of.ensures.down
    (c.lies_in.ensures.0 c.if-lies_in.true) c.beyond.ensures.all h

pub returns-then-lies_in-2-clause-within : goal.returns-then-lies_in-2-clause-within
returns-then-lies_in-2-clause-within c = within_spans c.rect_of-then-lies_in-2.result c.args.part.now c.columns-across.result c.beyond-then-lies_in-2.result c.columns-across.result c.rows-down.result
    c.rect_of-then-lies_in-2.ensures.across c.rect_of-then-lies_in-2.ensures.down c.columns-across.ensures.along c.rows-down.ensures.along (part_itself c.columns-across.result) c.beyond-then-lies_in-2.ensures.within

pub returns-then-lies_in-2-clause-all : goal.returns-then-lies_in-2-clause-all
returns-then-lies_in-2-clause-all c = λ p h. lacking_down c.args.part.now c.args.known.now c.rect_of-then-lies_in-2.result c.columns-across.result c.rows-down.result c.columns-known_across.result c.rows-known_down.result c.beyond-then-lies_in-2.result p
    c.columns-across.ensures.along c.rows-down.ensures.along c.columns-known_across.ensures.along c.rows-known_down.ensures.along c.rect_of-then-lies_in-2.ensures.across c.rect_of-then-lies_in-2.ensures.down
    (c.lies_in-2.ensures.0 c.if-lies_in-2.true) c.beyond-then-lies_in-2.ensures.all h
