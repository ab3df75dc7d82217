-- What a tile that is put leaves of a store.
use Rattle.std.proofs.Common.{◌≡◌, ℕ, true, Some, ap, ◌∙◌}
use Rattle.std.specs.Prelude.{is_some}
use Rattle.std.specs.FinSet.{FinSet}
use Rattle.geom_core.specs.Grid.{key_cmp}
use Rattle.job_core.specs.Paints.{Paint}
use Rattle.desk_steps.specs.Archives.{Archive, with_put}

-- the stroke that was begun stays under way, and the room for it stays
pub put_keeps : (w : Paint) (before begun after : Archive) (id : ℕ) (keys : FinSet key_cmp) → begun ≡ record before { way = Some (id, keys) } → before.room ≡ true → after ≡ with_put begun.way w begun → (is_some after.way ≡ true) × (after.room ≡ true)
put_keeps w before begun after id keys is room put =
    let so : after ≡ with_put (Some (id, keys)) w (record before { way = Some (id, keys) }) = put ∙ ap (λ (s : Archive). with_put s.way w s) is in
    (ap (λ (s : Archive). is_some s.way) so, ap (λ (s : Archive). s.room) so ∙ room)
