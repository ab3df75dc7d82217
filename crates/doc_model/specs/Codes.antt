-- Codes of documents.
use Rattle.std.specs.Prelude.{ℕ, ◌≡◌, Option, ◌≢◌, Some}
use Rattle.std.specs.Coded.{Coded, code_by, coded×, coded_ℕ, coded_list, coded_option}
use base.Stored.{coded_via}
use Rattle.std.proofs.Common.{refl}
use Rattle.doc_model.specs.declared.tree.Look.{Look}
use Rattle.doc_model.specs.contracts.tree.Look as look
use Rattle.doc_model.specs.Layers.{Layer}
use Rattle.doc_model.specs.Forest.{Forest}
use Rattle.doc_model.specs.Flat.{Row, flat, flat_injective}
use Rattle.std.specs.FinMap as map
use Rattle.std.specs.FinMap.{FinMap}
use mathlib.Core.HLevel.{Π_prop, ¬_prop, Σ_prop_path}
use Rattle.pixel_core.specs.Rgba.{Rgba}
use Rattle.geom_core.specs.Points.{point_code}
use Rattle.geom_core.specs.Areas.{Point, point_cmp}
use Rattle.pixel_core.specs.Words.{pixel_code}

-- the two parts that tell a layer
abbrev pub parts : Layer → Rgba × FinMap point_cmp Rgba
parts layer = (layer.default_pixel, layer.pixels)

pub same_parts : (a b : Layer) → parts a ≡ parts b → a ≡ b
same_parts a b e =
    let whole : ◌≡◌ {A = (t : Rgba × FinMap point_cmp Rgba) × ((p : Point) → map.get t.1 p ≢ Some t.0)} (parts a, a.kept) (parts b, b.kept) = Σ_prop_path (λ t. Π_prop (λ p. ¬_prop)) e in
    λ i. record { default_pixel = (whole i).0.0; pixels = (whole i).0.1; kept = (whole i).1 }

-- as the default pixel and the entries of the map
abbrev pub layer_code : Coded Layer
layer_code = coded_via (coded× pixel_code (map.code point_code pixel_code)) parts same_parts

abbrev pub look_code : Coded Look
look_code = (look.the_row).coded

abbrev pub row_code : {A : Type 0} → Coded A → Coded (Row A)
row_code {A} a = code_by ((ℕ × ℕ) × (Look × Option A)) (coded× (coded× coded_ℕ coded_ℕ) (coded× look_code (coded_option a))) (λ r. ((r.depth, r.id), (r.look, r.content))) (λ t. record { depth = t.0.0; id = t.0.1; look = t.1.0; content = t.1.1 }) (λ _. refl)

-- as the list of its nodes
abbrev pub forest_code : {A : Type 0} → Coded A → Coded (Forest A)
forest_code a = coded_via (coded_list (row_code a)) (flat 0) flat_injective

abbrev pub doc_code : Coded (Forest Layer)
doc_code = forest_code layer_code
