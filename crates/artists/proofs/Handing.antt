-- Each artist with the pass that it was given.
use Rattle.std.proofs.Common.{◌≡◌, ℕ, true, ◌<◌, List, length, ap, ◌∙◌, arith}
use Rattle.std.specs.Prelude.{slice_index_or}
use Rattle.std.proofs.lemmas.List.FromFn.{get_or-map-range_with_len, length-map-range_with_len}
use Rattle.atomic_table.specs.Seated.{TableId}
use Rattle.doc_model.specs.declared.command.Command.{Command}
use Rattle.turn_lock.specs.Passes.{Known, fresh, all_fresh, own}
use Rattle.studio.specs.declared.signed.Signed.{Signed}
use Rattle.artists.specs.declared.sending.Sender.{Sender}
use Rattle.artists.specs.SignedShares.{share}
use Rattle.artists.specs.Senders.{IsSender, AreSenders}

pub pass_count : (id : TableId) (n : ℕ) → length (all_fresh {E = Signed} id n) ≡ n
pass_count id n = length-map-range_with_len (fresh {E = Signed} id) 0 n

-- the pass at a place is that artist's
pub pass_is : (id : TableId) (n : ℕ) (passes : List (Known Signed)) (i : ℕ) (p : Known Signed) → passes ≡ all_fresh id n → i < length passes → p ≡ slice_index_or passes i p → p ≡ fresh id i
pass_is id n passes i p all lt at =
    let count : length passes ≡ n = ap length all ∙ pass_count id n in
    at ∙ (ap (λ (l : List (Known Signed)). slice_index_or l i p) all ∙ get_or-map-range_with_len (fresh {E = Signed} id) 0 n i i p (omega (arith, lt, count)) (omega arith))

-- what came of a pass: where all commands were accepted, they are what it made
pub record CameOf (n : ℕ) (cs : List Command) (p : Known Signed) (s : Sender) : Type 0 where
  pub studio : s.pass.lock ≡ p.lock
  pub numbers : s.pass.numbers ≡ p.numbers
  pub made : s.done ≡ true → s.pass.made ≡ share n (own p) cs

is_sender : (id : TableId) (n : ℕ) (cs : List Command) (i : ℕ) (p : Known Signed) (s : Sender) → p ≡ fresh id i → CameOf n cs p s → IsSender id n cs i s
is_sender id n cs i p s is came = record {
  studio = came.studio ∙ ap (λ (q : Known Signed). q.lock) is;
  numbers = came.numbers ∙ ap (λ (q : Known Signed). q.numbers) is;
  made = λ done. came.made done ∙ ap (λ (q : Known Signed). share n (own q) cs) is;
}

pub are_senders : (id : TableId) (n : ℕ) (cs : List Command) (passes : List (Known Signed)) (senders : List Sender) → passes ≡ all_fresh id n → length senders ≡ length passes
    → ((i : ℕ) (d : Sender) → i < length passes → (p : Known Signed) × (p ≡ slice_index_or passes i p) × CameOf n cs p (slice_index_or senders i d))
    → AreSenders id n cs senders
are_senders id n cs passes senders all count each = λ i d lt.
    let here : i < length passes = omega (arith, lt, count) in
    let e = each i d here in
    is_sender id n cs i e.0 (slice_index_or senders i d) (pass_is id n passes i e.0 all here e.1) e.2
