-- Work that is taken from a desk.
use Rattle.std.specs.Prelude.{◌≡◌, ℕ, true, []}
use Rattle.std.specs.List.{list_all}
use Rattle.machine_model.specs.State.{State, is_free}
use Rattle.machine_model.specs.Settled.{IsSettled}
use Rattle.machine_model.specs.MeaningLaws.{HasMeaning, waits_for_commands}
use Rattle.machine_model.specs.Event.{Start, WalkStart}
use Rattle.machine_model.specs.Step.{Step}
use Rattle.desk_state.specs.Choices.{DoesAtOnce, HeadWaits, IsIdle, MayWant}
use Rattle.desk_events.specs.declared.tickets.PaintTicket.{PaintTicket}
use Rattle.desk_events.specs.Shown.{ShowsPicture}
use Rattle.desk_events.specs.Tickets.{IsPaintTicket, IsWalkTicket}
use Rattle.host_lines.specs.declared.answer.Answer.{Answer}
use Rattle.host_lines.specs.declared.answer.Answer.TheVariants as answer
use Rattle.host_pieces.specs.declared.piece.Piece.{Piece}
use Rattle.host_pieces.specs.declared.piece.Piece.TheVariants as piece
use Rattle.desk_core.specs.Roots.{RootStays}
use Rattle.host_pieces.specs.Jobs.{IsOfTicket}
use Rattle.host_pieces.specs.Walks.{patch_keys, walk_work}

-- a job or a walk was started, and the piece has it; a walk is started last
abbrev pub Started : State → Piece → State → Type 0
Started s piece.Empty t = ⊥
Started s (piece.Job j) t = (k : PaintTicket) × IsOfTicket k j × Step s (Start k.slot.place) t × IsPaintTicket k t
Started s (piece.Walk w) t = Step s (WalkStart w.ticket.slot.place w.ticket.inputs.patch) t × IsWalkTicket w.ticket t × HeadWaits s × (w ≡ walk_work w.ticket (patch_keys w.ticket) [] w.load)

-- nothing may be done before work at hand ends or commands come, and with nothing at hand commands have to come
pub record Idles (s : State) : Type 0 where
  pub idle : IsIdle s
  pub stuck : list_all is_free s.slots ≡ true → waits_for_commands s ≡ true

-- all is done, and it is what the commands mean
pub record IsAllDone (s : State) : Type 0 where
  pub settled : IsSettled s
  pub meaning : HasMeaning s
  pub picture : ShowsPicture s

-- what was taken; no pixel of the root's picture changed
abbrev pub Took : State → Answer → Piece → State → Type 0
Took s answer.Done p t = Started s p t × RootStays s t
Took s answer.Again p t = (p ≡ piece.Empty) × ((before now : ℕ) × DoesAtOnce s t before now) × RootStays s t
Took s answer.Idle p t = (p ≡ piece.Empty) × Idles s × (t ≡ s)
Took s answer.Settled p t = (p ≡ piece.Empty) × IsAllDone s × (t ≡ s)
Took s answer.NoMemory p t = (p ≡ piece.Empty) × MayWant s × (t ≡ s)
Took s a p t = ⊥
