-- What a job does to a layer.
use Rattle.std.specs.Prelude.{ℕ, ◌+◌, ◌*◌, ◌==◌, ℤ, pos, ◌-ℤ◌, Bool, true, if◌then◌else◌, List, [], ◌∷◌, map, sum}
use Rattle.pixel_core.specs.Rgba.{Rgba, clear}
use Rattle.pixel_core.specs.Compose.{compose, mul, nearest}
use Rattle.brush_mask.specs.Mask.{mask}
use Rattle.geom_core.specs.Areas.{Area, Point, area, lies_in, point, holds, world, moved, points_of}
use Rattle.geom_core.specs.Grid.{tile}
use Rattle.doc_model.specs.declared.job.Job.{Job}
use Rattle.doc_model.specs.declared.job.Job.TheVariants.{Fill, Dab, Move, Blur, Track}
use Rattle.doc_model.specs.declared.track.Stamp.{Stamp}
use Rattle.doc_model.specs.Trails.{Trail, centres}
use Rattle.doc_model.specs.Layers.{Layer, at, painted}
use Rattle.std.specs.List.{list_all}

-- the square of side 2r + 1 round (x, y)
abbrev pub square : ℤ → ℤ → ℕ → Area
square x y r = area (x -ℤ pos r) (y -ℤ pos r) (2 * r + 1) (2 * r + 1)

-- the rectangle with r more columns and rows on each side
abbrev pub grown : Area → ℕ → Area
grown a r = area (a.x -ℤ pos r) (a.y -ℤ pos r) (a.w + 2 * r) (a.h + 2 * r)

-- the rectangles that a job may change
abbrev pub writes : Job → List Area
writes (Fill rect colour op strength) = rect ∷ []
writes (Dab x y r soft colour op strength) = square x y r ∷ []
writes (Move rect dx dy) = rect ∷ moved rect dx dy ∷ []
writes (Blur rect r) = rect ∷ []
writes (Track t cell) = tile cell ∷ []

-- the rectangles that it looks at
abbrev pub reads : Job → List Area
reads (Fill rect colour op strength) = rect ∷ []
reads (Dab x y r soft colour op strength) = square x y r ∷ []
reads (Move rect dx dy) = rect ∷ moved rect dx dy ∷ []
reads (Blur rect r) = grown rect r ∷ []
reads (Track t cell) = tile cell ∷ []

-- the squares of a track's dabs, the first of them first
abbrev pub squares : Trail → List Area
squares t = map (λ (c : Point). square c.x c.y t.stamp.r) (centres t)

-- the rectangles that have to lie in the world: those that a job reads, and for a track those of all its dabs
abbrev pub extent : Job → List Area
extent (Track t cell) = tile cell ∷ squares t
extent job = reads job

-- each of them lies in the world
abbrev pub checks : Job → Bool
checks job = list_all (λ a. lies_in a world) (extent job)

-- the sum of a channel over some pixels, each by its alpha
abbrev pub weighed : (Rgba → ℕ) → List Rgba → ℕ
weighed channel pixels = sum (map (λ (q : Rgba). q.a * channel q) pixels)

-- the mean of n pixels: their mean alpha, and the colours weighed by alpha. The box blur is a rule of this engine, not of a standard
abbrev pub mean : ℕ → List Rgba → Rgba
mean n pixels =
    let alphas = sum (map (λ (q : Rgba). q.a) pixels) in
    let alpha = nearest alphas n in
    if alpha == 0
    then clear
    else record {
      r = nearest (weighed (λ q. q.r) pixels) alphas;
      g = nearest (weighed (λ q. q.g) pixels) alphas;
      b = nearest (weighed (λ q. q.b) pixels) alphas;
      a = alpha;
    }

-- what a dab round a point leaves of a pixel: within its square the colour by the mask of its brush, and outside what was there
abbrev pub stamped : Stamp → Point → Point → Rgba → Rgba
stamped s c p d = if holds (square c.x c.y s.r) p then compose s.op s.colour d (mul (mask s.r s.soft (p.x -ℤ c.x) (p.y -ℤ c.y)) s.strength) else d

-- what dabs round these points leave of it, the first of them first
abbrev pub all_stamped : Stamp → List Point → Point → Rgba → Rgba
all_stamped s [] p d = d
all_stamped s (c ∷ cs) p d = all_stamped s cs p (stamped s c p d)

-- the pixel that a job leaves at a point of its writes
abbrev pub value : Job → Layer → Point → Rgba
value (Fill rect colour op strength) layer p = compose op colour (at layer p) strength
value (Dab x y r soft colour op strength) layer p = compose op colour (at layer p) (mul (mask r soft (p.x -ℤ x) (p.y -ℤ y)) strength)
value (Move rect dx dy) layer p =
    if holds (moved rect dx dy) p
    then at layer (point (p.x -ℤ dx) (p.y -ℤ dy))
    else layer.default_pixel
value (Blur rect r) layer p = mean ((2 * r + 1) * (2 * r + 1)) (map (at layer) (points_of (square p.x p.y r)))
value (Track t cell) layer p = all_stamped t.stamp (centres t) p (at layer p)

-- the layer after the job
unfoldable pub apply : Job → Layer → Layer
apply job layer = painted (writes job) (λ _. true) (value job layer) layer

-- the layer after the jobs, the first of them first
abbrev pub apply_all : List Job → Layer → Layer
apply_all [] layer = layer
apply_all (job ∷ jobs) layer = apply_all jobs (apply job layer)
