-- Commands of scripts, and keys of rectangles.
use Rattle.std.proofs.Common.{◌≡◌, ℕ, ◌<◌, get_or, length, true, List, refl, subst}
use Rattle.std.proofs.lemmas.Option.{slice_get_read}
use Rattle.std.specs.List.{list_any, list_all}
use Rattle.geom_core.specs.Areas.{Area}
use Rattle.geom_core.specs.Grid.{Key, same_key, keys_of, all_keys_of}
use Rattle.doc_model.specs.Canvases.{IsOfLimits}
use Rattle.doc_model.specs.declared.command.Command.{Command}
use Rattle.doc_model.specs.Strokes.{entries}
use Rattle.doc_model.specs.Feeding.{is_closed_entry}
use Rattle.script_text.specs.Script.{Contents}
use Rattle.script_text.specs.Closed.{is_script}
use Rattle.script_text.proofs.Scripts.{script_holds}
use Rattle.filmed_caches.proofs.KeyLists.{key_in_one}

pub limits_of : (s : Contents) → is_script s ≡ true → IsOfLimits s.canvas
limits_of s h = (script_holds s h).canvas

-- all strokes are closed
pub closed_of : (s : Contents) (commands : List Command) → is_script s ≡ true → s.commands ≡ commands → list_all is_closed_entry (entries commands) ≡ true
closed_of s commands h same = subst (λ cs. list_all is_closed_entry (entries cs) ≡ true) same (script_holds s h).closed

-- a key of one of the rectangles
pub key_at : (rects : List Area) (i : ℕ) (r : Area) (k : Key) → i < length rects → r ≡ get_or rects i r → list_any (same_key k) (keys_of r) ≡ true → list_any (same_key k) (all_keys_of rects) ≡ true
key_at rects i r k below is met = key_in_one rects i r k (slice_get_read rects (length rects) i r refl below is) met
