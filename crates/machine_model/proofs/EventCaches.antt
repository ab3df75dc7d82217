-- Every event keeps what caches and running walks hold.
use Rattle.std.proofs.Common.{◌≡◌, ℕ, true, List, [], ◌∷◌, Some, map, sym, ap, ◌∙◌}
use Rattle.std.specs.List.{AllByRecursion}
use Rattle.geom_core.specs.Areas.{holds, Point}
use Rattle.doc_model.specs.declared.canvas.Walk.{Walk}
use Rattle.doc_model.specs.Picture.{Doc, canvas_area}
use Rattle.doc_model.proofs.Weights.{tree_distinct}
use Rattle.doc_model.specs.Ids.{IsTree}
use Rattle.doc_model.proofs.QueueLaws.{in_grid}
use Rattle.machine_model.specs.State.{Reach, State}
use Rattle.machine_model.specs.Groups.{path_of, on}
use Rattle.machine_model.specs.Event.{Event, Feed, Init, Start, Publish, End, Finish, Cancel, Act, WalkStart, WalkPublish, WalkEnd}
use Rattle.machine_model.specs.Step.{Step}
use Rattle.machine_model.specs.Sound.{IsSound}
use Rattle.machine_model.specs.Caches.{CachesFold, WalkIsRight}
use Rattle.machine_model.specs.Walking.{IsGroupOf, WalkInside}
use Rattle.machine_model.specs.UnderWay.{UnderWay}
use Rattle.doc_model.specs.Forest.{content}
use Rattle.doc_model.specs.Strokes.{Stroke}
use Rattle.doc_model.proofs.Contents.{content-with_content}
use Rattle.machine_model.proofs.StateTrees.{trees, base_tree, present_tree}
use Rattle.machine_model.proofs.CanvasPoints.{canvas_grid}
use Rattle.machine_model.proofs.JobKeeps.{painting}
use Rattle.machine_model.proofs.WalkPaths.{grouped, path_grouped}
use Rattle.machine_model.proofs.JobCaches.{caches_init, walks_init, caches_start, walks_start, caches_end, walks_end, caches_finish, walks_finish}
use Rattle.machine_model.proofs.PublishCaches.{caches_publish, walks_publish}
use Rattle.machine_model.proofs.CancelCaches.{caches_cancel, walks_cancel}
use Rattle.machine_model.proofs.ActCaches.{caches_act, walks_act, AllTrees}
use Rattle.machine_model.proofs.FeedCaches.{caches_feed, walks_feed}
use Rattle.machine_model.proofs.WalkStartCaches.{caches_walk_start, walks_walk_start}
use Rattle.machine_model.proofs.WalkPublishCaches.{caches_walk_publish, walks_walk_publish}
use Rattle.machine_model.proofs.WalkEndCaches.{caches_walk_end, walks_walk_end}

all_unmapped : (es : List (Doc × Reach)) → AllByRecursion IsTree (map (λ (e : Doc × Reach). e.0) es) → AllTrees es
all_unmapped [] all = tt
all_unmapped (e ∷ es) all = (all.0, all_unmapped es all.1)

sound_past : (s : State) → IsSound s → AllTrees s.past
sound_past s sound = all_unmapped s.past (trees s sound.orderly.told).past

-- the patches of walks at work lie in the canvas
abbrev pub WalksInside : State → Type 0
WalksInside s = AllByRecursion (WalkInside (canvas_area s.canvas)) s.slots

-- what caches and running walks hold
pub record CachesRight (s : State) : Type 0 where
  pub caches : CachesFold s
  pub walks : AllByRecursion (WalkIsRight s) s.slots

-- every event keeps them, from a sound state whose running walks' patches lie in the canvas
pub caches_stay_right : (old : State) (event : Event) (new : State) → Step old event new → IsSound old → WalksInside old → CachesRight new
caches_stay_right old event new step sound inside = by_event event step
  where
    tree : IsTree old.present
    tree = present_tree old sound.orderly

    grid : (p : Point) → holds (canvas_area old.canvas) p ≡ true → in_grid p ≡ true
    grid = canvas_grid old.canvas sound.orderly.counted.canvas

    groups : (w : Walk) (g : ℕ) → IsGroupOf old.present w → on g (path_of w old.present) ≡ true → grouped g old.present ≡ true
    groups w g is on' = path_grouped w g old.present (tree_distinct old.present tree) is on'

    by_event : (event : Event) → Step old event new → CachesRight new
    by_event (Feed c) step = record { caches = caches_feed old new c step sound.orderly.on_way sound.caches; walks = walks_feed old new c step sound.orderly.on_way sound.orderly.walking.walks inside sound.walks }
    by_event Init step = record { caches = caches_init old new step sound.caches; walks = walks_init old new step sound.orderly.walking.walks inside sound.walks }
    by_event (Start place) step = record { caches = caches_start old new place step sound.caches; walks = walks_start old new place step sound.orderly.walking.walks inside sound.walks }
    by_event (Publish place key) step = record {
      caches = caches_publish old new place key tree step way.layer on_layer sound.caches;
      walks = walks_publish old new place key tree step way.layer on_layer groups sound.orderly.walking.walks inside sound.walks;
    }
      where
        under : (n : ℕ) × (old.way ≡ Some n) × UnderWay old n
        under = painting old place step.painter step.runs old.way sound.orderly.on_way

        way : UnderWay old under.0
        way = under.2

        on_layer : content step.stroke.layer old.present ≡ Some way.layer
        on_layer =
            let same : Some step.stroke ≡ Some way.stroke = sym step.at_head ∙ way.at_head in
            let one : step.stroke ≡ way.stroke = cc in
            ap (λ (t : Stroke). content t.layer old.present) one ∙ ap (content way.stroke.layer) way.is ∙ content-with_content way.stroke.layer way.layer way.base_layer old.base way.was
    by_event (End place) step = record { caches = caches_end old new place grid step sound.caches; walks = walks_end old new place grid groups step sound.orderly.walking.walks inside sound.walks }
    by_event Finish step = record { caches = caches_finish old new step sound.orderly.on_way sound.caches; walks = walks_finish old new step sound.orderly.on_way sound.orderly.walking.walks inside sound.walks }
    by_event Cancel step = record { caches = caches_cancel old new (base_tree old sound.orderly) tree sound.orderly.on_way step grid sound.caches; walks = walks_cancel old new (base_tree old sound.orderly) tree sound.orderly.on_way step grid groups sound.orderly.walking.walks inside sound.walks }
    by_event Act step = record { caches = caches_act old new step sound.orderly.on_way grid (base_tree old sound.orderly) (sound_past old sound) sound.orderly.reached.past sound.orderly.reached.future sound.caches; walks = walks_act old new step }
    by_event (WalkStart place patch) step = record { caches = caches_walk_start old new place patch step sound.caches; walks = walks_walk_start old new place patch step sound.orderly.walking.walks inside sound.walks }
    by_event (WalkPublish place g key) step = record { caches = caches_walk_publish old new place g key step tree sound.orderly.walking.walks sound.caches; walks = walks_walk_publish old new place g key step sound.orderly.walking.apart sound.orderly.walking.walks sound.walks }
    by_event (WalkEnd place) step = record { caches = caches_walk_end old new place step tree sound.orderly.walking.walks sound.walks sound.caches; walks = walks_walk_end old new place step sound.orderly.walking.walks inside sound.walks }
