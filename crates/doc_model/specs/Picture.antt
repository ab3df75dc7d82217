-- The picture of a document.
use Rattle.std.specs.Prelude.{ℕ, if◌then◌else◌, List, map, pos}
use Rattle.pixel_core.specs.Rgba.{Rgba, clear}
use Rattle.pixel_core.specs.Compose.{compose, on_paper}
use Rattle.geom_core.specs.Areas.{Area, area, points_of, Point}
use Rattle.doc_model.specs.declared.tree.Look.{Look}
use Rattle.doc_model.specs.declared.canvas.Canvas.{Canvas}
use Rattle.doc_model.specs.Layers.{Layer, at}
use Rattle.doc_model.specs.Forest.{Forest, none, paint, group}

-- a document: the nodes in the root
abbrev pub Doc : Type 0
Doc = Forest Layer

-- a pixel laid on a backdrop as a node with that look
abbrev pub with_look : Look → Rgba → Rgba → Rgba
with_look look p backdrop = if look.visible then compose look.op p backdrop look.opacity else backdrop

-- the nodes laid on a backdrop at a point, from the bottom, each group on a clear one first: isolated groups in the sense of W3C Compositing and Blending Level 1
abbrev pub laid : Doc → Point → Rgba → Rgba
laid none p backdrop = backdrop
laid (paint id look layer rest) p backdrop = laid rest p (with_look look (at layer p) backdrop)
laid (group id look nodes rest) p backdrop = laid rest p (with_look look (laid nodes p clear) backdrop)

-- the root's picture
abbrev pub picture : Doc → Point → Rgba
picture doc p = laid doc p clear

-- the points of the canvas
abbrev pub canvas_area : Canvas → Area
canvas_area canvas = area (pos 0) (pos 0) canvas.w canvas.h

-- red, green and blue of each point of a canvas, in row order
abbrev pub Frame : Type 0
Frame = List (List ℕ)

-- the root's picture on the canvas's paper
abbrev pub frame : Doc → Canvas → Frame
frame doc canvas = map (λ p. on_paper (picture doc p) canvas.paper) (points_of (canvas_area canvas))
