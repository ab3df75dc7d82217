-- What a writer is lent for.
use Rattle.doc_model.specs.declared.canvas.Canvas.{Canvas}

-- a canvas without points
abbrev pub no_canvas : Canvas
no_canvas = record { w = 0; h = 0; paper = record { r = 0; g = 0; b = 0; a = 255 } }
