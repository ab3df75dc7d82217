-- The machine values of a handle of a desk. Assumes `Logic`.
use mathlib.Core.Path.{◌≡◌, refl, subst}
use mathlib.Core.Bool.{Bool}
use mathlib.Core.List.{List, [], ◌∷◌, ◌++◌}
use lib.Dec.{T}
use seplogic.Ra.Ura.{Ura}
use mir.Syntax.{ty_ptr}
use mir.Val.{Val, vbool, vstruct, of_list, has_ty, WT}
use denote.Param.{layout}
use types.Logic.{Logic}
use types.Kit.{Item, Goal, Seq, Step, step, ‵, ◌$◌, move, drop, fsplit, fjoin, fpick, fpack, feq_i, feq_l}
use denote.RattleType.{RattleType, Valss}
use denote.RawPtr.{Ptr, ptr_val}
use denote.Signature.{Slot, plain}
use denote.Steps.{nothing}
use denote.Struct.Struct.{within}
use denote.Struct.Owning.{shape, to}
use Rattle.std.proofs.alloc.Calls.{handle_tells, Fits}
use Rattle.std_alloc.proofs.BoxSteps.Form.{Bx}
use Rattle.std_heap.specs.contracts.Global as Heap
use Rattle.std_heap.specs.contracts.GlobalAllocator.TheImpl.{ghosts}
use Rattle.loose_box.proofs.Slots.{boxed, word3, Ptr-Good, both_tt}
use Rattle.loose_box.specs.contracts.loose.Loose as Loose
use Rattle.host_handles.specs.DeskHandles.{desk_kept}
use Rattle.host_desk.specs.contracts.host.Host as Home
use Rattle.host_desk.proofs.host.Host.TheLaws as home
use Rattle.host_handles.specs.contracts.desk_handle.DeskHandle as handle

abbrev pub E : Bx
E = boxed Home.the_row home.the_row_laws

abbrev pub Row : RattleType
Row = handle.the_row

abbrev pub LooseRow : RattleType
LooseRow = Loose.the_row Home.the_row Heap.the_row ghosts

abbrev pub FromLoose : Slot 0
FromLoose = plain (λ _. LooseRow)

abbrev pub FromHandle : Slot 0
FromHandle = plain (λ _. Row)

pub handle_typed : (p : Ptr) (h : Val) (full : Bool) → Fits E.al h → T (has_ty (layout Row) (word3 p h full)) × WT (word3 p h full)
handle_typed p h full fits = let g = Ptr-Good p in (both_tt (has_ty ty_ptr (ptr_val p)) (has_ty (layout E.al.row) h) g.0 fits.0, (g.1, (fits.1, (tt, tt))))

module _ {M : Type 1} {𝓤 : Ura M} {𝓛 : Logic 𝓤} {K : Type 0} {Γ : List (Item 𝓤)} {G : Goal 𝓤 𝓛.H} where
  pub handle_out : K → (d : Row.Denot) (vs : List Val)
      → ((h : Val) → vs ≡ word3 d.at h d.full ∷ [] → Fits E.al h → Seq K 𝓛 (‵ (desk_kept d.alloc d.at d.full d.value) ∷ ‵ (E.al.row.own_val d.alloc (h ∷ [])) ∷ Γ) G)
      → Seq K 𝓛 (‵ (Row.own_val d vs) ∷ Γ) G
  handle_out t d vs k =
      fsplit t $ fpick t (λ vss. fsplit t $ feq_l t (λ ev. fsplit t $ feq_l t (λ ep. fsplit t $ handle_tells E.al t d.alloc vss.1.0 (λ h ea fits. move t (1 ∷ []) $ fsplit t $ feq_l t (λ eb. drop t $ move t (1 ∷ []) $
      k h
      (subst (λ (bs : List Val). vs ≡ vstruct (of_list (ptr_val d.at ∷ h ∷ (bs ++ []))) ∷ []) eb
      (subst (λ (ws : List Val). vs ≡ vstruct (of_list (ptr_val d.at ∷ (ws ++ (vss.1.1.0 ++ [])))) ∷ []) ea
      (subst (λ (ps : List Val). vs ≡ vstruct (of_list (ps ++ (vss.1.0 ++ (vss.1.1.0 ++ [])))) ∷ []) ep ev))) fits)))))

  pub handle_in : K → (d : Row.Denot) (h : Val)
      → Step K 𝓛 (‵ (Row.own_val d (word3 d.at h d.full ∷ [])) ∷ Γ) G (‵ (desk_kept d.alloc d.at d.full d.value) ∷ ‵ (E.al.row.own_val d.alloc (h ∷ [])) ∷ Γ) G
  handle_in t d h = step (λ s. let v : Val = word3 d.at h d.full in
      nothing t $ feq_i t (List Val) (vbool d.full ∷ []) (vbool d.full ∷ []) refl $ fjoin t $ move t (2 ∷ 0 ∷ []) $ fjoin t $
      feq_i t (List Val) (ptr_val d.at ∷ []) (ptr_val d.at ∷ []) refl $ fjoin t $ feq_i t (List Val) (v ∷ []) (v ∷ []) refl $ fjoin t $
      fpack t (Valss (shape handle.the_type).fields) (within (shape handle.the_type) (to handle.the_type d) (v ∷ [])) (ptr_val d.at ∷ [], (h ∷ [], (vbool d.full ∷ [], tt))) $ fjoin t $ s)
