use Rattle.std.proofs.Common.{[], ◌∷◌, ◌++◌, sym, ap, ◌∙◌, subst}
use Rattle.frame_core.specs.Films.{Renews}
use Rattle.tree_core.specs.Outline.{outline}
use Rattle.desk_state.specs.Cached.{ShowsCache}
use Rattle.filmed_caches.specs.Filmed.{Filmed, filmed_as, IsMarked}
use Rattle.filmed_caches.specs.Made.{IsOfCanvas, ShowsDocument}
use Rattle.filmed_caches.proofs.FilmedRoot.{before_unmarked, shown_renews, marked_shown}
use Rattle.filmed_caches.proofs.filmed.FilmedCaches.take_frame.Goals as goal

pub frame_after-requires-clause-before : goal.frame_after-requires-clause-before
frame_after-requires-clause-before c = λ scene e. before_unmarked c.self.inside.caches c.args.canvas c.self.inside.film c.self.inside.laid c.requires.limits c.self.invariant
    (subst (λ (f : Filmed). IsOfCanvas c.args.canvas f.frames) (sym c.self.view_is) c.requires.sides) scene (sym c.newest.ensures ∙ e)

pub frame_after-requires-clause-settled : goal.frame_after-requires-clause-settled
frame_after-requires-clause-settled c = record {
  stages = c.deref.ensures.value ∙ c.in_ok-stages.ensures ∙ ap outline c.tree.ensures.value;
  limits = c.tree.ensures.limits;
  shown = subst (λ (f : Filmed). ShowsDocument f.caches c.args.canvas c.args.store.now.present) (sym c.self.view_is) c.requires.settled;
}

pub push-requires : goal.push-requires
push-requires c = λ before newest. subst (Renews c.in_ok-frame.frame before) (sym c.copy.ensures)
    (shown_renews c.self.inside.caches c.args.canvas c.self.inside.film c.self.inside.laid c.in_ok-frame.frame c.requires.limits c.self.invariant c.in_ok-frame.ensures before newest)

pub invariant_of-self-in_err-push : goal.invariant_of-self-in_err-push
invariant_of-self-in_err-push c = subst (λ frames. IsMarked c.self.inside.caches frames c.self.inside.laid) (sym c.in_err-push.ensures.err) c.self.invariant

pub invariant_of-self-2 : goal.invariant_of-self-2
invariant_of-self-2 c = subst (λ frames. IsMarked c.self.inside.caches frames c.none-self-inside.result) (sym c.in_ok-push.ensures.ok)
    (marked_shown c.self.inside.caches c.args.canvas c.self.inside.film c.none-self-inside.result c.in_ok-frame.frame c.in_ok-frame.ensures)

pub returns-clause-ok : goal.returns-clause-ok
returns-clause-ok c = record {
  shown = c.in_ok-frame.frame;
  shows = subst (λ (f : Filmed). ShowsCache f.caches c.args.canvas c.in_ok-frame.frame) c.self.view_is c.in_ok-frame.ensures;
  new_is = ap (filmed_as c.self.inside.caches) c.in_ok-push.ensures.ok ∙ ap (λ (f : Filmed). filmed_as f.caches (f.frames ++ c.in_ok-frame.frame ∷ [])) c.self.view_is;
}
