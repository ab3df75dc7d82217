-- Artists that have sent their commands.
use Rattle.std.specs.Prelude.{◌≡◌, ℕ, ◌<◌, Bool, true, List, [], ◌∷◌, length, slice_index_or}
use Rattle.std.specs.List.{flat_map, list_all}
use Rattle.atomic_table.specs.Seated.{TableId}
use Rattle.doc_model.specs.declared.command.Command.{Command}
use Rattle.studio.specs.declared.signed.Signed.{Signed}
use Rattle.artists.specs.declared.sending.Sender.{Sender}
use Rattle.artists.specs.SignedShares.{share}

-- artist k of n, with its pass of the studio; where it is done, all its commands were accepted
pub record IsSender (id : TableId) (n : ℕ) (commands : List Command) (k : ℕ) (s : Sender) : Type 0 where
  pub studio : s.pass.lock ≡ id
  pub numbers : s.pass.numbers ≡ k ∷ []
  pub made : s.done ≡ true → s.pass.made ≡ share n k commands

-- one for each artist, in order
abbrev pub AreSenders : TableId → ℕ → List Command → List Sender → Type 0
AreSenders id n commands senders = (i : ℕ) (d : Sender) → i < length senders → IsSender id n commands i (slice_index_or senders i d)

abbrev pub made_of : Sender → List Signed
made_of s = s.pass.made

abbrev pub is_done : Sender → Bool
is_done s = s.done

-- a sender with one number, which took in none
abbrev pub IsOne : TableId → Sender → Type 0
IsOne id s = (s.pass.lock ≡ id) × (length s.pass.numbers ≡ 1)

-- a sender whose pass took in those of all these
pub record IsAll (id : TableId) (senders : List Sender) (s : Sender) : Type 0 where
  pub studio : s.pass.lock ≡ id
  pub numbers : length s.pass.numbers ≡ length senders
  pub made : s.pass.made ≡ flat_map made_of senders
  pub done : s.done ≡ list_all is_done senders
