use borrow.Follows.Closed.{read_of}
use Rattle.std.proofs.Common.{◌≡◌, Some, None, refl, sym, ap, ◌∙◌}
use Rattle.std.specs.Prelude.{slice_get, slice_set, length}
use Rattle.std.specs.Option.{ghost_name_of, unwrap_or}
use Rattle.std.proofs.lemmas.List.{set-get_or}
use Rattle.std.proofs.lemmas.Option.{slice_get_read}
use Rattle.slot_core.specs.declared.Busy.{Busy}
use Rattle.slot_core.proofs.Slots.busy_mut.Goals as goal

pub returns : goal.returns
returns g c =
    let items = c.self.inside.places.items in
    let was = c.in_ok-self-inside.field-0.now in
    let there : slice_get items c.args.place ≡ Some was = slice_get_read items (length items) c.args.place was refl c.in_ok-self-inside.ensures.item.3.0 c.in_ok-self-inside.ensures.value in
    rw (← c.self.view_is) (
      λ t. read_of (ghost_name_of c.as_mut.result) (λ (b : Busy g.row.W.Denot). slice_set items c.args.place (Some b)) ((ap (slice_set items c.args.place) c.in_ok-self-inside.ensures.value ∙ set-get_or items c.args.place was) t),
      record { lends = tt; busy = c.as_mut.ensures.value ∙ ap (λ o. unwrap_or o None) (sym there) },
    )
