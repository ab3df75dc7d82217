-- The machine values of handles' fields, and what a handle owns. Assumes `Logic`.
use mathlib.Core.Path.{◌≡◌, refl, ap}
use mathlib.Core.Bool.{Bool, true, false, ◌&&◌}
use mathlib.Core.List.{List, [], ◌∷◌}
use Prim.Native.Nat.{ℕ}
use lib.Dec.{T, lit<}
use seplogic.Ra.Ura.{Ura}
use mir.Syntax.{ty_ptr}
use mir.Val.{Val, vbool, vstruct, of_list, has_ty, WT}
use mir.Raw.{raw as bare}
use base.Logic.{never, fst∗}
use base.Shift.{Keyless}
use types.Logic.{Logic, sem}
use types.Kit.{Item, Goal, Seq, Step, step, ‵, ◌$◌, fsplit, fjoin, feq_i, feq_l}
use denote.RattleType.{RattleType}
use denote.Memory.{lone}
use denote.Param.Laws.{Laws}
use denote.Param.Send.{IsSend}
use denote.RawPtr.{Ptr, block_ptr, null_ptr, ptr_val, in_a_block}
use mir.Syntax.{impl, tnil, dnil}
use denote.Signature.{Slot, plain}
use Rattle.std.proofs.alloc.Calls.{token}
use Rattle.std.proofs.Crossing as heap
use Rattle.std.specs.Global.{Global}
use Rattle.std_alloc.proofs.BoxSteps.Form.{Bx}
use Rattle.std_alloc.proofs.SendSync.{lies}
use Rattle.std_heap.specs.contracts.Global as Heap
use Rattle.std_heap.specs.contracts.GlobalAllocator.TheImpl.{ghosts, dict}
use Rattle.std_heap.proofs.Global.TheLaws as heap_laws
use Rattle.loose_box.specs.Kept.{kept, owns_one}

-- a box of that type in the heap
abbrev pub boxed : (X : RattleType) → Laws X → Bx
boxed X laws = record { row = X; laws = laws; al = record { row = Heap.the_row; laws = heap_laws.the_row_laws; g = ghosts; d = dict; drops = impl [] tnil dnil } }

abbrev pub FromGlobal : Slot 0
FromGlobal = plain (λ _. Heap.the_row)

-- the machine value of a handle with such fields
abbrev pub word3 : Ptr → Val → Bool → Val
word3 p h full = vstruct (of_list (ptr_val p ∷ h ∷ vbool full ∷ []))

pub Ptr-Good : (p : Ptr) → T (has_ty ty_ptr (ptr_val p)) × WT (ptr_val p)
Ptr-Good (block_ptr b o) = (tt, tt)
Ptr-Good null_ptr = (tt, record { fits = lit< tt })

pub both_tt : (x y : Bool) → T x → T y → T (x && (y && true))
both_tt true true s t = tt
both_tt true false s t = absurd t
both_tt false y s t = absurd s

-- what is kept may go to another thread, as the value may
pub quiet_kept : (X : RattleType) → IsSend X → (a : Global) (p : Ptr) (full : Bool) (xs : List X.Denot) → Keyless (kept X a p full xs)
unfolding kept
quiet_kept X goes a p full [] = tt
quiet_kept X goes a p full (x ∷ xs) = (tt, (tt, (lies X goes p x, heap.frees.frees a (bare (lone X.mir)) p)))

module _ (X : RattleType) (laws : Laws X) {M : Type 1} {𝓤 : Ura M} {𝓛 : Logic 𝓤} {K : Type 0} {Γ : List (Item 𝓤)} {G : Goal 𝓤 𝓛.H} where
  pub kept_cases : K → (a : Global) (p : Ptr) (full : Bool) (xs : List X.Denot)
      → (full ≡ false → xs ≡ [] → Seq K 𝓛 Γ G)
      → ((b o : ℕ) (x : X.Denot) → p ≡ block_ptr b o → xs ≡ x ∷ [] → full ≡ true → Seq K 𝓛 (‵ (owns_one X a (block_ptr b o) x) ∷ Γ) G)
      → Seq K 𝓛 (‵ (kept X a p full xs) ∷ Γ) G
  unfolding kept
  kept_cases t a p full [] none some = feq_l t (λ e. none e refl)
  kept_cases t a p full (x ∷ xs) none some = fsplit t $ feq_l t (λ e. fsplit t $ feq_l t (λ en.
      in_a_block t p (λ q. owns_one X a q x) (fst∗ 𝓤 (never 𝓤) (sem 𝓛 (token (boxed X laws).al a (bare (lone X.mir)) null_ptr))) (λ b o ep. some b o x ep (ap (λ (ys : List X.Denot). x ∷ ys) en) e)))

  pub kept_one : K → (a : Global) (p : Ptr) (x : X.Denot) → Step K 𝓛 (‵ (kept X a p true (x ∷ [])) ∷ Γ) G (‵ (owns_one X a p x) ∷ Γ) G
  unfolding kept
  kept_one t a p x = step (λ s. feq_i t (List X.Denot) [] [] refl $ fjoin t $ feq_i t Bool true true refl $ fjoin t $ s)

  pub kept_none : K → (a : Global) (p : Ptr) → Step K 𝓛 (‵ (kept X a p false []) ∷ Γ) G Γ G
  unfolding kept
  kept_none t a p = step (λ s. feq_i t Bool false false refl $ s)
