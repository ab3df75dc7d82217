use Rattle.strokes_c.proofs.shoot.Goals as goal

pub returns : goal.returns
returns c = (c.in-Some.taken.value, c.dirty.result, c.put.ensures, c.in-Some.ensures, c.rect_of.ensures, c.dirty.ensures.round, c.dirty.ensures.picture)
