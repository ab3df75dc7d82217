use Rattle.strokes_top.proofs.Outputs.{no_rows, one_rows, all_rows}
use Rattle.strokes_top.proofs.writing.rows_at_once.Goals as goal

pub returns-in-None : goal.returns-in-None
returns-in-None c = no_rows c.args.film.now c.args.rows 0 c.in-None.ensures

pub returns-in-One : goal.returns-in-One
returns-in-One c = one_rows c.args.film.now _ c.args.rows c.band_rows.result c.in-One.ensures c.band_rows.ensures

pub returns-in-Series : goal.returns-in-Series
returns-in-Series c = all_rows c.args.film.now c.args.rows c.in-Series.ensures.1
