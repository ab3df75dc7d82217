-- A job's tiles that aren't published yet.
use Rattle.std.proofs.Common.{◌≡◌, ℕ, suc, zero, ◌<◌, ◌≤◌, true, Some, List, [], ◌∷◌, take, drop, length, get_or, refl, sym, ap, ◌∙◌, subst, arith}
use Rattle.std.specs.Prelude.{slice_get}
use Rattle.std.specs.List.{list_any}
use Rattle.std.proofs.lemmas.Option.{get_or_from_slice_get}
use Rattle.geom_core.specs.Grid.{Key, same_key}
use Rattle.geom_core.proofs.Tests.{never, or_left, or_right}
use Rattle.geom_core.proofs.Tiles.{key_is}
use Rattle.whole_tiles.specs.Wholes.{Entire}
use Rattle.machine_model.specs.State.{State, Painter, Paints}
use Rattle.machine_model.specs.Step.{PublishStep, Run}
use Rattle.machine_model.proofs.Lists.{get_set}
use Rattle.desk_events.specs.AtWork.{HasPublished}
use Rattle.desk_events.specs.Commits.{MayCommit, RunsFront}
use Rattle.desk_events.specs.declared.tickets.SlotId.{SlotId}
use Rattle.desk_core.specs.Commits.{commit_events}
use Rattle.host_pieces.specs.Giving.{IsUnpublished, LetsGo}

one_painter : (a b : Painter) → Some (Paints a) ≡ Some (Paints b) → a ≡ b
one_painter a b e = cc

events_count : (place : ℕ) (tiles : List Entire) → length (commit_events place tiles) ≡ suc (length tiles)
events_count place [] = refl
events_count place (y ∷ tiles) = ap suc (events_count place tiles)

-- ---- a tile is published

module _ (s t : State) (place serial : ℕ) (key : Key) (step : PublishStep s place key t) where
  abbrev published : Painter
  published = record step.painter { published = key ∷ step.painter.published }

  there : slice_get t.slots place ≡ Some (Paints published)
  there = ap (λ (x : State). slice_get x.slots place) step.new_is ∙ get_set s.slots place (Paints step.painter) (Paints published) step.runs

  -- it is, and those before it
  published_here : step.painter.serial ≡ serial → HasPublished t place serial key
  published_here drawn = record { painter = published; runs = there; drawn = drawn; published = or_left (same_key key key) _ (key_is key key refl) }

  published_before : (k : Key) → HasPublished s place serial k → HasPublished t place serial k
  published_before k h =
      let same : step.painter ≡ h.painter = one_painter step.painter h.painter (sym step.runs ∙ h.runs) in
      record { painter = published; runs = there; drawn = ap (λ (q : Painter). q.serial) same ∙ h.drawn; published = or_right (same_key k key) _ (subst (λ (q : Painter). list_any (same_key k) q.published ≡ true) (sym same) h.published) }

  -- the job lacks the others
  lacks_others : (x : Entire) (xs : List Entire) → x.key ≡ key → MayCommit s place serial (x ∷ xs) → MayCommit t place serial xs
  lacks_others x xs is may =
      let same : step.painter ≡ may.painter = one_painter step.painter may.painter (sym step.runs ∙ may.runs) in
      record {
        painter = record may.painter { published = x.key ∷ may.painter.published };
        runs = there ∙ (λ i. Some (Paints (record (same i) { published = sym is i ∷ (same i).published })));
        drawn = may.drawn;
        lacking = may.lacking.3;
      }

-- what is published stays so
stay_published : (place serial : ℕ) (tiles : List Entire) (n : ℕ) (s t : State) (key : Key) → n ≤ length tiles → Run s (take n (commit_events place tiles)) t → HasPublished s place serial key → HasPublished t place serial key
stay_published place serial tiles zero s t key few run h = subst (λ x. HasPublished x place serial key) (sym run) h
stay_published place serial [] (suc n) s t key few run h = absurd (omega arith)
stay_published place serial (x ∷ tiles) (suc n) s t key few run h = stay_published place serial tiles n run.0 t key (omega arith) run.2 (published_before s run.0 place serial x.key run.1 key h)

-- a tile that the job lacks isn't published
lacking_first : (s : State) (place serial : ℕ) (x : Entire) (xs : List Entire) → MayCommit s place serial (x ∷ xs) → HasPublished s place serial x.key → ⊥
lacking_first s place serial x xs may h =
    let same : h.painter ≡ may.painter = one_painter h.painter may.painter (sym h.runs ∙ may.runs) in
    never (sym may.lacking.2 ∙ subst (λ (q : Painter). list_any (same_key x.key) q.published ≡ true) same h.published)

-- ---- some tiles are published

others_left : (place serial : ℕ) (tiles : List Entire) (c n : ℕ) (s t : State) → MayCommit s place serial tiles → c ≤ length tiles → n ≤ length tiles → Run s (take c (commit_events place tiles)) t
    → ((i : ℕ) (x : Entire) → i < n → slice_get tiles i ≡ Some x → HasPublished t place serial x.key) → ((x : Entire) → slice_get tiles n ≡ Some x → HasPublished t place serial x.key → ⊥) → MayCommit t place serial (drop n tiles)
others_left place serial tiles zero zero s t may few low run before next = subst (λ x. MayCommit x place serial tiles) (sym run) may
others_left place serial [] zero (suc n) s t may few low run before next = absurd (omega arith)
others_left place serial [] (suc c) n s t may few low run before next = absurd (omega arith)
others_left place serial (x ∷ xs) zero (suc n) s t may few low run before next = absurd (lacking_first s place serial x xs may (subst (λ y. HasPublished y place serial x.key) run (before 0 x (omega arith) refl)))
others_left place serial (x ∷ xs) (suc c) zero s t may few low run before next =
    absurd (next x refl (stay_published place serial xs c run.0 t x.key (omega arith) run.2 (published_here s run.0 place serial x.key run.1 (ap (λ (q : Painter). q.serial) (one_painter run.1.painter may.painter (sym run.1.runs ∙ may.runs)) ∙ may.drawn))))
others_left place serial (x ∷ xs) (suc c) (suc n) s t may few low run before next =
    others_left place serial xs c n run.0 t (lacks_others s run.0 place serial x.key run.1 x xs refl may) (omega arith) (omega arith) run.2 (λ i y h at. before (suc i) y (omega arith) at) next

-- so the desk waits for those that are kept, if it waited for all
pub goes_on : (s t : State) (slot : SlotId) (old new : List Entire) → RunsFront s (commit_events slot.place old) t → LetsGo t slot old new → MayCommit s slot.place slot.serial old → MayCommit t slot.place slot.serial new
goes_on s t slot old new front lets may =
    let n : length (commit_events slot.place old) ≡ suc (length old) = events_count slot.place old in
    let h : front.count < length (commit_events slot.place old) = front.short in
    subst (MayCommit t slot.place slot.serial) (sym lets.rest)
    (others_left slot.place slot.serial old front.count lets.count s t may (omega arith) lets.unpublished.few front.run lets.unpublished.published lets.unpublished.next)

-- ---- which tiles are published

-- the tile at an index
pub published_at : (s : State) (place serial : ℕ) (tiles : List Entire) (i : ℕ) (y : Entire) (key : Key) → y ≡ get_or tiles i y → key ≡ y.key → HasPublished s place serial key → (x : Entire) → slice_get tiles i ≡ Some x → HasPublished s place serial x.key
published_at s place serial tiles i y key is named h x at =
    subst (HasPublished s place serial) (named ∙ ap (λ (z : Entire). z.key) (is ∙ get_or_from_slice_get tiles i x y at)) h

-- it isn't, and is the first of those
pub lacks_at : (s : State) (place serial : ℕ) (tiles : List Entire) (i : ℕ) (y : Entire) (key : Key) → y ≡ get_or tiles i y → key ≡ y.key → (HasPublished s place serial key → ⊥) → (x : Entire) → slice_get tiles i ≡ Some x → HasPublished s place serial x.key → ⊥
lacks_at s place serial tiles i y key is named lacks x at h =
    lacks (subst (HasPublished s place serial) (sym (named ∙ ap (λ (z : Entire). z.key) (is ∙ get_or_from_slice_get tiles i x y at))) h)

none_behind : (tiles : List Entire) (x : Entire) → slice_get tiles (length tiles) ≡ Some x → ⊥
none_behind [] x e = cc
none_behind (y ∷ tiles) x e = none_behind tiles x e

-- all of them
pub all_published : (s : State) (slot : SlotId) (tiles : List Entire) (i : ℕ) → length tiles ≤ i → ((k : ℕ) → k < i → (x : Entire) → slice_get tiles k ≡ Some x → HasPublished s slot.place slot.serial x.key) → IsUnpublished s slot tiles (length tiles)
all_published s slot tiles i few before = record {
  few = omega arith;
  published = λ k x h at. before k (omega arith) x at;
  next = λ x at h. none_behind tiles x at;
}
