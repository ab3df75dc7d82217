-- What calls through handles told.
use Rattle.std.proofs.Common.{◌≡◌, ℕ, Bool, true, false, Option, Err, List, refl, inl, inr, subst}
use Rattle.geom_core.specs.Areas.{Area}
use Rattle.machine_model.specs.State.{State}
use Rattle.host_lines.specs.declared.answer.Answer.{Answer}
use Rattle.host_lines.specs.declared.answer.Answer.TheVariants as answer
use Rattle.host_lines.specs.contracts.answer.AnswerPartialEq.TheImpl as derived
use Rattle.host_lines.specs.Lines.{has_more, line_fault, said}
use Rattle.host_pieces.specs.declared.piece.Piece.{Piece}
use Rattle.host_pieces.specs.declared.piece.Piece.TheVariants as piece
use Rattle.host_pieces.specs.Pieces.{Shared}
use Rattle.host_desk.specs.Feeding.{Fed}
use Rattle.host_desk.specs.Taking.{Took}
use Rattle.host_desk.specs.Texts.{TextTold}
use Rattle.strokes_c.specs.Calls.{DirtyTold, FedLine, TextGiven}
use Rattle.host_lines.specs.declared.structs.StrokesRect.{StrokesRect}

-- a line was fed, or it was more than one
pub line_fed : (bytes : List ℕ) (s t : State) (a : Answer) → (has_more bytes ≡ true → (a ≡ answer.SecondLine) × (t ≡ s)) → (has_more bytes ≡ false → Fed s (line_fault s.canvas s.fed bytes) (said bytes) a t) → FedLine bytes s a t
line_fed bytes s t a more fed = go (has_more bytes) refl
  where
    go : (b : Bool) → has_more bytes ≡ b → FedLine bytes s a t
    go true e = let told = more e in inl (e, told.0, told.1)
    go false e = inr (e, fed e)

-- an answer that equals `Done` is it
pub is_done : (a : Answer) → (derived.ghosts).eq a answer.Done ≡ true → a ≡ answer.Done
is_done answer.Done e = refl
is_done answer.Again e = cc
is_done answer.Idle e = cc
is_done answer.Settled e = cc
is_done answer.Nothing e = cc
is_done answer.NoMemory e = cc
is_done answer.Shut e = cc
is_done answer.InUse e = cc
is_done answer.Undone e = cc
is_done answer.Stranger e = cc
is_done answer.Outside e = cc
is_done answer.NoRoom e = cc
is_done answer.Full e = cc
is_done (answer.Fault c) e = cc
is_done answer.SecondLine e = cc

pub not_done : (a : Answer) → (derived.ghosts).eq a answer.Done ≡ false → a ≡ answer.Done → ⊥
not_done a e is = let other : (derived.ghosts).eq answer.Done answer.Done ≡ false = subst (λ (b : Answer). (derived.ghosts).eq b answer.Done ≡ false) is e in cc

-- with another one no rectangle is told
pub kept_rect : (a : Answer) (d : Option Area) (old : StrokesRect) → (a ≡ answer.Done → ⊥) → DirtyTold a d old old
kept_rect answer.Done d old other = absurd (other refl)
kept_rect answer.Again d old other = refl
kept_rect answer.Idle d old other = refl
kept_rect answer.Settled d old other = refl
kept_rect answer.Nothing d old other = refl
kept_rect answer.NoMemory d old other = refl
kept_rect answer.Shut d old other = refl
kept_rect answer.InUse d old other = refl
kept_rect answer.Undone d old other = refl
kept_rect answer.Stranger d old other = refl
kept_rect answer.Outside d old other = refl
kept_rect answer.NoRoom d old other = refl
kept_rect answer.Full d old other = refl
kept_rect (answer.Fault c) d old other = refl
kept_rect answer.SecondLine d old other = refl

-- nor is there a piece
pub took_none : (s : State) (a : Answer) (p : Piece) (t : State) → (a ≡ answer.Done → ⊥) → Took s a p t → Took s a piece.Empty t
took_none s answer.Done p t other h = absurd (other refl)
took_none s answer.Again p t other h = (refl, h.1, h.2)
took_none s answer.Idle p t other h = (refl, h.1, h.2)
took_none s answer.Settled p t other h = (refl, h.1, h.2)
took_none s answer.Nothing p t other h = h
took_none s answer.NoMemory p t other h = (refl, h.1, h.2)
took_none s answer.Shut p t other h = h
took_none s answer.InUse p t other h = h
took_none s answer.Undone p t other h = h
took_none s answer.Stranger p t other h = h
took_none s answer.Outside p t other h = h
took_none s answer.NoRoom p t other h = h
took_none s answer.Full p t other h = h
took_none s (answer.Fault c) p t other h = h
took_none s answer.SecondLine p t other h = h

-- nor a piece that shares
pub shared_none : (shares : ℕ) (p : Piece) (a : Answer) (other q : Piece) → (a ≡ answer.Done → ⊥) → Shared shares p a other q → Shared shares p a piece.Empty q
shared_none shares p answer.Done other q unlike h = absurd (unlike refl)
shared_none shares p answer.Nothing other q unlike h = (h.0, h.1, refl, h.3)
shared_none shares p answer.Shut other q unlike h = (h.0, refl, h.2)
shared_none shares p answer.Again other q unlike h = absurd h
shared_none shares p answer.Idle other q unlike h = absurd h
shared_none shares p answer.Settled other q unlike h = absurd h
shared_none shares p answer.NoMemory other q unlike h = (h.0, refl, h.2)
shared_none shares p answer.InUse other q unlike h = absurd h
shared_none shares p answer.Undone other q unlike h = absurd h
shared_none shares p answer.Stranger other q unlike h = absurd h
shared_none shares p answer.Outside other q unlike h = absurd h
shared_none shares p answer.NoRoom other q unlike h = absurd h
shared_none shares p answer.Full other q unlike h = absurd h
shared_none shares p (answer.Fault c) other q unlike h = absurd h
shared_none shares p answer.SecondLine other q unlike h = absurd h

-- no text was written
pub text_refused : (s : State) (next : ℕ) (out : List ℕ) (written : ℕ) (a : Answer) (out' : List ℕ) → TextTold s next out (Err a) out' → TextGiven s next out written a next out' written
text_refused s next out written answer.Done out' h = absurd h
text_refused s next out written answer.Again out' h = (h, refl, refl)
text_refused s next out written answer.Idle out' h = (h, refl, refl)
text_refused s next out written answer.Settled out' h = (h, refl, refl)
text_refused s next out written answer.Nothing out' h = (h, refl, refl)
text_refused s next out written answer.NoMemory out' h = (h, refl, refl)
text_refused s next out written answer.Shut out' h = (h, refl, refl)
text_refused s next out written answer.InUse out' h = (h, refl, refl)
text_refused s next out written answer.Undone out' h = (h, refl, refl)
text_refused s next out written answer.Stranger out' h = (h, refl, refl)
text_refused s next out written answer.Outside out' h = (h, refl, refl)
text_refused s next out written answer.NoRoom out' h = (h, refl, refl)
text_refused s next out written answer.Full out' h = (h, refl, refl)
text_refused s next out written (answer.Fault c) out' h = (h, refl, refl)
text_refused s next out written answer.SecondLine out' h = (h, refl, refl)
