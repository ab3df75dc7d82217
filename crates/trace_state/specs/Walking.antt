-- A walk at work, without pixels.
use Rattle.std.specs.Prelude.{ℕ, ◌==◌, Bool, ◌&&◌, not, if◌then◌else◌, List, map, refl}
use Rattle.std.specs.List.{list_any, list_all}
use Rattle.std.specs.FinSet as set
use Rattle.std.specs.FinSet.{FinSet}
use Rattle.std.specs.Coded.{Coded, code_by, coded×, coded_ℕ, coded_list}
use Rattle.geom_core.specs.Grid.{Key, key_cmp, same_key, keys_of}
use Rattle.geom_core.specs.Keys.{key_code}
use Rattle.doc_model.specs.declared.canvas.Patch.{Patch}
use Rattle.doc_model.specs.contracts.canvas.Patch as patch_row
use Rattle.trace_state.specs.declared.group.WalkedGroup.{WalkedGroup}
use Rattle.trace_state.specs.Tiles.{has_all}

-- a walk at work: its patch, and the groups that it composes, each with its tiles that are published
pub record Walking : Type 0 where
  pub patch : Patch
  pub groups : List WalkedGroup

-- a group of which no tile is published
abbrev pub unpublished : ℕ → WalkedGroup
unpublished g = record { group = g; published = set.empty }

-- whether it is that group, and the tile is still to be published
abbrev pub lacks : ℕ → Key → WalkedGroup → Bool
lacks g key c = (c.group == g) && not (set.contains c.published key)

-- the group with the tile published, where it is that group
abbrev pub noted : ℕ → Key → WalkedGroup → WalkedGroup
noted g key c = if g == c.group then record c { published = set.insert c.published key } else c

-- whether it is a tile of a group of the walk, still to be published
abbrev pub lacks_pair : Walking → ℕ → Key → Bool
lacks_pair w g key = list_any (same_key key) (keys_of w.patch.rect) && list_any (lacks g key) w.groups

-- the walk with the tile of the group published
abbrev pub with_pair : Walking → ℕ → Key → Walking
with_pair w g key = record w { groups = map (noted g key) w.groups }

-- whether all tiles of all its groups are published
abbrev pub is_composed : Walking → Bool
is_composed w = list_all (λ (c : WalkedGroup). has_all c.published (keys_of w.patch.rect)) w.groups

abbrev pub group_code : Coded WalkedGroup
group_code = code_by (ℕ × FinSet key_cmp) (coded× coded_ℕ (set.code key_code)) (λ c. (c.group, c.published)) (λ t. record { group = t.0; published = t.1 }) (λ _. refl)

-- the code by which contracts tell walks apart
abbrev pub walking_code : Coded Walking
walking_code = code_by (Patch × List WalkedGroup) (coded× (patch_row.the_row).coded (coded_list group_code)) (λ w. (w.patch, w.groups)) (λ t. record { patch = t.0; groups = t.1 }) (λ _. refl)
