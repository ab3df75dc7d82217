-- `shut` owns nothing.
use mathlib.Core.Path.{refl, sym, subst}
use mathlib.Core.List.{List, [], ◌∷◌, ◌++◌}
use seplogic.Ra.Ura.{Ura}
use mir.Val.{Val}
use base.Logic.{SProp, ent, emp}
use base.Fml.{ftrue, fsep}
use prog.Memory.{Memory}
use prog.Routine.{Routine}
use prog.Wp.{WpFn, Tables}
use types.Logic.{Logic}
use contract.Monad.{Fun}
use contract.Running.{tables, tables_of}
use sound.WpLaws.{WpFn-mono}
use types.Kit.{Item, ‵, raw, ◌⊛◌, ◌$◌, ◌∵◌, !, qed, by, move, drop, use1, join, split, fsplit, fjoin, suffices, done}
use types.Part.{agg}
use types.Run.{lit, false_lit, no_more, and_then, returns, enter}
use types.ByLocal.{alloc_all, pass_all, free_all, look_at, get, sets}
use denote.Exit.{yes}
use Rattle.std.proofs.alloc.Calls.{handle_tells}
use denote.Steps.{nothing}
use denote.Triple.Spec.{triple_of}
use denote.Triple.Table.{entered}
use denote.Triple.Walked.{says, Stays, stay_dropped, walk_of, ends_at, Goes-dropped, walk_Meets}
use Rattle.loose_box.proofs.Slots.{FromGlobal as From, word3, kept_none}
use Rattle.host_handles.proofs.DeskHandleSlots.{E, Row, handle_in}
use Rattle.std_alloc.proofs.ResultValues.{and_tt}
use mathlib.Core.Bool.{false}
use lib.Dec.{T, lit<}
use mir.Val.{has_ty, WT}
use denote.RawPtr.{null_ptr}
use denote.Param.{layout}
use Rattle.host_handles.specs.contracts.desk_handle.DeskHandle.shut as F
use Rattle.host_handles.specs.contracts.desk_handle.DeskHandle.shut.Key.{name as #self}
use Rattle.host_handles.proofs.desk_handle.DeskHandle.shut.Statement as stated
use Rattle.host_handles.proofs.desk_handle.DeskHandle.shut.Code as code

abbrev stayed : Stays (F.ended).signature.params (F.ended).kept
stayed = (stay_dropped From yes, tt)

module _ {M : Type 1} {𝓤 : Ura M} (𝓛 : Logic 𝓤) (at_mem : Memory → SProp 𝓤) (run : Routine → Fun 𝓤) (𝓣 : Tables 𝓤 𝓛.H) where
  open 𝓛 use {H}

  walk : (z : (walk_of 𝓛 F.ended stayed (F.clauses 𝓛 at_mem run)).Ghost)
      → ent 𝓤 ((walk_of 𝓛 F.ended stayed (F.clauses 𝓛 at_mem run)).pre z) (WpFn 𝓤 H 𝓣.C 𝓣.Λ code.function (z.0.4.0 ++ []) ((walk_of 𝓛 F.ended stayed (F.clauses 𝓛 at_mem run)).post z))
  walk z =
      let Post = (walk_of 𝓛 F.ended stayed (F.clauses 𝓛 at_mem run)).post z in
      let a = z.0.3.0 in
      let made : Row.Denot = record { at = null_ptr; alloc = a; full = false; value = [] } in
      qed 𝓛 ((‵ ftrue ⊛ ‵ (fsep (E.al.row.own_val a z.0.4.0) ftrue)) ∷ raw (emp 𝓤) ∷ []) ∵ split ! $ drop ! $ fsplit ! $
      handle_tells E.al ! a z.0.4.0 (λ hv ws fa.
      let w₃ : Val = word3 null_ptr hv false in
      let typed : T (has_ty (layout Row) w₃) × WT w₃ = (and_tt _ fa.0, (record { fits = lit< tt }, (fa.1, (tt, tt)))) in
      kept_none E.row E.laws ! a null_ptr $ handle_in ! made hv $ move ! (1 ∷ 2 ∷ []) $ drop ! $ drop ! $
      let Γ : List (Item 𝓤) = ‵ (Row.own_val made (w₃ ∷ [])) ∷ [] in
      by ! (subst (λ (us : List Val). ent 𝓤 (types.Kit.⋆ 𝓛 Γ) (WpFn 𝓤 H 𝓣.C 𝓣.Λ code.function (us ++ []) Post)) (sym ws)
      (qed 𝓛 Γ ∵ enter ! 𝓣.C 𝓣.Λ code.function (hv ∷ []) _ $ alloc_all ! (λ ls. pass_all ! refl (fa, tt) $
      sets ! (agg ! (and_then ! (lit ! tt) (and_then ! (get ! refl) (and_then ! (false_lit !) (no_more !))))) refl typed $ returns ! (look_at ! 0 refl) $ free_all ! refl $
      suffices ! _ (ends_at 𝓛 F.ended stayed (F.clauses 𝓛 at_mem run) z w₃ made (tt, tt) (tt, tt)) $ says ! refl $
      nothing ! $ nothing ! $ fjoin ! $ join ! $ nothing ! $ join ! $ done !))))

pub shut_spec : {M : Type 1} → stated.statement M
unfolding tables_of
shut_spec 𝓤 𝓛 𝓜 𝓡 wired =
    let 𝓣 : Tables 𝓤 𝓛.H = tables_of 𝓤 𝓛.H 𝓜 (tables 𝓤 𝓛.H 𝓜 𝓡 𝓡.env) in
    entered 𝓤 𝓛.H (triple_of 𝓛 F.signature (F.spec 𝓛 𝓜.mem 𝓡.returns)) 𝓣.C 𝓣.Λ #self code.function (code.unfolded 𝓤 𝓛.H 𝓜 𝓡 wired)
    (walk_Meets 𝓛 F.ended stayed (Goes-dropped 𝓛 0 From yes (λ κs x f. refl), tt) (F.clauses 𝓛 𝓜.mem 𝓡.returns) (WpFn 𝓤 𝓛.H 𝓣.C 𝓣.Λ code.function) (WpFn-mono 𝓤 𝓛.H 𝓛.laws 𝓣 code.function)
    (walk 𝓛 𝓜.mem 𝓡.returns 𝓣))
