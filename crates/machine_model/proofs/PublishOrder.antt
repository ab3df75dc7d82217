-- Two jobs at work publish in either order.
use Rattle.std.proofs.Common.{◌≡◌, ◌≢◌, ℕ, ◌∷◌, Some, refl, sym, ap, ◌∙◌, inl, inr}
use Rattle.std.specs.Prelude.{slice_get, slice_set}
use Rattle.geom_core.specs.Grid.{Key}
use Rattle.doc_model.specs.declared.job.Kind.{Kind}
use Rattle.doc_model.specs.Layers.{Layer}
use Rattle.doc_model.specs.Shots.{published}
use Rattle.doc_model.specs.Forest.{content, with_content}
use Rattle.doc_model.specs.Adjusting.{adjusted}
use Rattle.doc_model.specs.Picture.{Doc}
use Rattle.doc_model.specs.Strokes.{Stroke}
use Rattle.doc_model.proofs.Contents.{content-with_content, adjusted-with_content}
use Rattle.doc_model.proofs.SameContent.{adjusted_is}
use Rattle.doc_model.proofs.Parents.{Distinct}
use Rattle.doc_model.proofs.Weights.{tree_distinct}
use Rattle.machine_model.specs.State.{Painter, Paints, State, head_stroke}
use Rattle.machine_model.specs.UnderWay.{UnderWay}
use Rattle.machine_model.specs.Sound.{IsOrderly}
use Rattle.machine_model.specs.GuardLaws.{RunsAs}
use Rattle.machine_model.specs.CommutingLaws.{OtherWayRound, PublishesCommute}
use Rattle.machine_model.proofs.Lists.{get_other, set_swapped}
use Rattle.machine_model.proofs.StateTrees.{present_tree}
use Rattle.machine_model.proofs.JobKeeps.{painting}
use Rattle.machine_model.proofs.Sharing.{listed_job, at_work_of_run}
use Rattle.machine_model.proofs.RunsCommute.{run_tiles_commute}

-- a layer that two functions change in either order
adjusted_swapped : (id : ℕ) (f g : Layer → Layer) (layer : Layer) (doc : Doc) → Distinct doc → content id doc ≡ Some layer → f (g layer) ≡ g (f layer) → adjusted id f (adjusted id g doc) ≡ adjusted id g (adjusted id f doc)
adjusted_swapped id f g layer doc distinct there same =
    ap (adjusted id f) (adjusted_is id g layer doc distinct there) ∙ adjusted-with_content id f (g layer) doc
    ∙ ap (λ x. with_content id x doc) same
    ∙ sym (ap (adjusted id g) (adjusted_is id f layer doc distinct there) ∙ adjusted-with_content id g (f layer) doc)

-- the tiles of two jobs at work
tiles_swapped : (s : State) (n : ℕ) (way : UnderWay s n) (p q : ℕ) (v w : Painter) (k l : Key) → IsOrderly s → slice_get s.slots p ≡ Some (Paints v) → slice_get s.slots q ≡ Some (Paints w) → p ≢ q
    → published w.job w.shot l (published v.job v.shot k way.layer) ≡ published v.job v.shot k (published w.job w.shot l way.layer)
tiles_swapped s n way p q v w k l sound at_p at_q apart = go (listed_job s p v sound at_p) (listed_job s q w sound at_q)
  where
    go : (a : Kind) × (x : RunsAs s p a) × (x.painter ≡ v) → (b : Kind) × (y : RunsAs s q b) × (y.painter ≡ w) → published w.job w.shot l (published v.job v.shot k way.layer) ≡ published v.job v.shot k (published w.job w.shot l way.layer)
    go one other = carried one.1.painter other.1.painter one.2 other.2 (elim (at_work_of_run s n way p q one.0 other.0 one.1 other.1 apart) [
      | inl run ↦ sym (run_tiles_commute way.stroke.jobs (one.0, one.1.painter.job) (other.0, other.1.painter.job) one.1.painter.shot other.1.painter.shot k l way.layer run)
      | inr run ↦ run_tiles_commute way.stroke.jobs (other.0, other.1.painter.job) (one.0, one.1.painter.job) other.1.painter.shot one.1.painter.shot l k way.layer run
    ])
      where
        carried : (x y : Painter) → x ≡ v → y ≡ w → published y.job y.shot l (published x.job x.shot k way.layer) ≡ published x.job x.shot k (published y.job y.shot l way.layer)
            → published w.job w.shot l (published v.job v.shot k way.layer) ≡ published v.job v.shot k (published w.job w.shot l way.layer)
        carried x y e f h = rw (sym e, sym f) h

pub publishes_commute : PublishesCommute
publishes_commute old mid new p q k l sound one two apart = go (painting old p v one.runs old.way sound.on_way)
  where
    v : Painter
    v = one.painter

    w : Painter
    w = two.painter

    v' : Painter
    v' = record v { published = k ∷ v.published }

    w' : Painter
    w' = record w { published = l ∷ w.published }

    there : slice_get old.slots q ≡ Some (Paints w)
    there = sym (get_other old.slots p q (Paints v') apart) ∙ ap (λ (s : State). slice_get s.slots q) (sym one.new_is) ∙ two.runs

    same_head : head_stroke mid ≡ head_stroke old
    same_head = ap head_stroke one.new_is

    turned : q ≢ p
    turned e = apart (sym e)

    between : State
    between = record old { present = adjusted two.stroke.layer (published w.job w.shot l) old.present; slots = slice_set old.slots q (Paints w') }

    go : (n : ℕ) × (old.way ≡ Some n) × UnderWay old n → OtherWayRound old new p q k l
    go found = record {
      between = between;
      second_first = record { painter = w; runs = there; in_job = two.in_job; fresh = two.fresh; stroke = two.stroke; at_head = sym same_head ∙ two.at_head; new_is = refl };
      first_second = record { painter = v; runs = get_other old.slots q p (Paints w') turned ∙ one.runs; in_job = one.in_job; fresh = one.fresh; stroke = one.stroke; at_head = one.at_head; new_is = both };
    }
      where
        way : UnderWay old found.0
        way = found.2

        same_stroke : (t : Stroke) → head_stroke old ≡ Some t → t ≡ way.stroke
        same_stroke t h = let e : Some t ≡ Some way.stroke = sym h ∙ way.at_head in cc

        first_layer : one.stroke.layer ≡ way.stroke.layer
        first_layer = ap (λ (t : Stroke). t.layer) (same_stroke one.stroke one.at_head)

        second_layer : two.stroke.layer ≡ way.stroke.layer
        second_layer = ap (λ (t : Stroke). t.layer) (same_stroke two.stroke (sym same_head ∙ two.at_head))

        there_layer : content way.stroke.layer old.present ≡ Some way.layer
        there_layer = ap (content way.stroke.layer) way.is ∙ content-with_content way.stroke.layer way.layer way.base_layer old.base way.was

        swapped_at : (a b : ℕ) → a ≡ way.stroke.layer → b ≡ way.stroke.layer → adjusted b (published w.job w.shot l) (adjusted a (published v.job v.shot k) old.present) ≡ adjusted a (published v.job v.shot k) (adjusted b (published w.job w.shot l) old.present)
        swapped_at a b e f = rw (e, f) (adjusted_swapped way.stroke.layer (published w.job w.shot l) (published v.job v.shot k) way.layer old.present (tree_distinct old.present (present_tree old sound)) there_layer (tiles_swapped old found.0 way p q v w k l sound one.runs there apart))

        both : new ≡ record between { present = adjusted one.stroke.layer (published v.job v.shot k) between.present; slots = slice_set between.slots p (Paints v') }
        both = two.new_is
            ∙ ap (λ (s : State). record s { present = adjusted two.stroke.layer (published w.job w.shot l) s.present; slots = slice_set s.slots q (Paints w') }) one.new_is
            ∙ (λ i. record old { present = swapped_at one.stroke.layer two.stroke.layer first_layer second_layer i; slots = set_swapped old.slots p q (Paints v') (Paints w') apart i })
