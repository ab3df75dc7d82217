use Rattle.std.proofs.Common.{◌≡◌, ◌+◌, vec_len, ◌∙◌, sym}
use Rattle.desk_state.proofs.NewestFirst.{after_pop}
use Rattle.desk_state.proofs.newest.Newest.take_back.Goals as goal

pub returns : goal.returns
returns g c key rest e = after_pop ((vec_len c.self.inside.items ≡ 0) × (vec_len c.pop.new.self ≡ 0)) (λ _. vec_len c.pop.new.self + 1 ≡ vec_len c.self.inside.items) c.self.inside.items.items c.pop.new.self.items c.pop.result key rest c.pop.ensures.items c.pop.ensures.cases (λ m. sym c.self.inside.items.ok.0 ∙ m.0) (c.self.view_is ∙ e)
