-- The commands of each number are a script.
use Rattle.std.proofs.Common.{◌≡◌, ℕ, suc, zero, ◌+◌, ◌%◌, ◌≤◌, ◌<◌, Bool, true, false, cond, List, [], ◌∷◌, ◌++◌, length, refl, sym, ap, ◌∙◌, subst, arith}
use Rattle.std.specs.Prelude.{◌==◌, nat_le, nat_lt, not}
use Rattle.std.specs.List.{list_any, list_all, filter}
use Rattle.std.proofs.lemmas.Bool.Decides.{nat_tests}
use Rattle.geom_core.proofs.Tests.{both_true}
use Rattle.doc_model.specs.declared.command.Command.{Command}
use Rattle.doc_model.specs.declared.job.Kind.TheVariants.{Seq}
use Rattle.doc_model.specs.declared.command.Command.TheVariants as command
use Rattle.doc_model.specs.Strokes.{Jobs, Open, Ended, Cancelled, Entry, Changes, Undoes, Redoes, Exports, fed, all_fed, is_stroke, is_export, is_open}
use Rattle.doc_model.specs.Lawful.{may_follow}
use Rattle.doc_model.specs.Feeding.{is_closed_entry}
use Rattle.script_forms.specs.Ranges.{in_range, is_id}
use Rattle.script_text.specs.Closed.{is_script}
use Rattle.demo_gen.specs.Demo.{later, draw, dabs, after_dabs, move_job, closing, layer, stroke, after_stroke, only_if, look, block, after_blocks, blocks, tree, demo}
use Rattle.demo_gen.specs.Adds.{move}
use Rattle.demo_gen.proofs.Blocks.{more_blocks}
use Rattle.demo_gen.proofs.Feeds.{Goes, goes_nowhere, goes_on, goes_one, IsReady, none_last, all_last, few_last, stroke_of, IsDabbed, dabbed, job_goes, close_goes, told_below, checks_move}

-- commands that lead to ready entries
record Leads (k m : ℕ) (es : List Entry) (cs : List Command) : Type 0 where
  pub new : List Entry
  pub ready : IsReady k m new
  pub goes : Goes es new cs

leads_on : (k m k' m' : ℕ) (es : List Entry) (a b : List Command) → Leads k m es a → ((mid : List Entry) → IsReady k m mid → Leads k' m' mid b) → Leads k' m' es (a ++ b)
leads_on k m k' m' es a b l more =
    let n : Leads k' m' l.new b = more l.new l.ready in
    record { new = n.new; ready = n.ready; goes = goes_on es l.new n.new a b l.goes n.goes }

ready_last : (k m k' m' : ℕ) (es : List Entry) (e : Entry) → IsReady k m es → k ≤ k' → is_closed_entry e ≡ true → ((n : ℕ) → k' ≤ n → is_stroke n e ≡ false) → length (filter is_export (es ++ e ∷ [])) ≤ m' → IsReady k' m' (es ++ e ∷ [])
ready_last k m k' m' es e r h closed other few = record {
  closed = all_last is_closed_entry es e r.closed closed;
  fresh = λ n l. none_last (is_stroke n) es e (r.fresh n (omega arith)) (other n l);
  few = few;
}

quiet_last : (es : List Entry) (e : Entry) → is_export e ≡ false → length (filter is_export (es ++ e ∷ [])) ≡ length (filter is_export es)
quiet_last [] e h = rw h refl
quiet_last (x ∷ es) e h = go (is_export x) (quiet_last es e h)
  where
    go : (b : Bool) → length (filter is_export (es ++ e ∷ [])) ≡ length (filter is_export es) → length (cond b (x ∷ filter is_export (es ++ e ∷ [])) (filter is_export (es ++ e ∷ []))) ≡ length (cond b (x ∷ filter is_export es) (filter is_export es))
    go true k = ap suc k
    go false k = k

-- a command, or none, that adds no stroke and no export
maybe_leads : (k m : ℕ) (es : List Entry) (b : Bool) (c : Command) (e : Entry) → IsReady k m es → may_follow es c ≡ true → in_range c ≡ true → fed es c ≡ es ++ e ∷ [] → is_closed_entry e ≡ true → ((n : ℕ) → is_stroke n e ≡ false) → is_export e ≡ false → Leads k m es (only_if b c)
maybe_leads k m es true c e r may range f closed other quiet =
    let same : length (filter is_export (es ++ e ∷ [])) ≡ length (filter is_export es) = quiet_last es e quiet in
    let few : length (filter is_export es) ≤ m = r.few in
    record { new = es ++ e ∷ []; ready = ready_last k m k m es e r (omega arith) closed (λ n l. other n) (omega arith); goes = subst (λ x. Goes es x (c ∷ [])) f (goes_one es c may range) }
maybe_leads k m es false c e r may range f closed other quiet = record { new = es; ready = r; goes = goes_nowhere es }

export_leads : (k m : ℕ) (es : List Entry) (b : Bool) → m < 64 → IsReady k m es → Leads k (suc m) es (only_if b command.Export)
export_leads k m es true h r =
    let few : length (filter is_export es) ≤ m = r.few in
    let more : length (filter is_export (es ++ Exports ∷ [])) ≤ suc (length (filter is_export es)) = few_last es Exports in
    let may : nat_lt (length (filter is_export es)) 64 ≡ true = grind (arith, nat_tests) in
    record { new = es ++ Exports ∷ []; ready = ready_last k m k (suc m) es Exports r (omega arith) refl (λ n l. refl) (omega arith); goes = goes_one es command.Export may refl }
export_leads k m es false h r =
    let few : length (filter is_export es) ≤ m = r.few in
    record { new = es; ready = record { closed = r.closed; fresh = r.fresh; few = omega arith }; goes = goes_nowhere es }

small_number : (k : ℕ) → k ≤ 64 → nat_le k 4294967295 ≡ true
small_number k h = grind (arith, nat_tests)

layer_is_id : (s : ℕ) → is_id (layer s) ≡ true
layer_is_id s = go (draw s 1 6) (told_below _ 6 (omega arith))
  where
    go : (n : ℕ) → n < 6 → is_id (3 + n) ≡ true
    go n h = grind (arith, nat_tests)

look_fits : (id s : ℕ) → is_id id ≡ true → in_range (look id s) ≡ true
look_fits id s h = both_true _ _ h (go (draw s 1 156) (told_below _ 156 (omega arith)))
  where
    go : (n : ℕ) → n < 156 → nat_le (100 + n) 255 ≡ true
    go n h = grind (arith, nat_tests)

other_number : (k n : ℕ) → suc k ≤ n → (k == n) ≡ false
other_number k n h = grind (arith, nat_tests)

new_stroke : (es : List Entry) (k : ℕ) → list_any (is_stroke k) es ≡ false → not (list_any (is_stroke k) es) ≡ true
new_stroke es k h = rw h refl

closed_fate : (b : Bool) → not (is_open (cond b Cancelled Ended)) ≡ true
closed_fate true = refl
closed_fate false = refl

stroke_leads : (k m s : ℕ) (es : List Entry) → k ≤ 40 → IsReady k m es → Leads (suc k) m es (stroke k s)
stroke_leads k m s es h r =
    let fresh : list_any (is_stroke k) es ≡ false = r.fresh k (omega arith) in
    let x : Bool = (k % 10) == 0 in
    let l : ℕ = layer s in
    let c : Bool = (k % 7) == 3 in
    let now : ℕ = after_dabs 24 (later 1 s) in
    let start : Goes es (es ++ stroke_of k l x [] Open ∷ []) (command.Stroke k l x ∷ []) = goes_one es (command.Stroke k l x) (new_stroke es k fresh) (both_true _ _ (small_number k (omega arith)) (layer_is_id s)) in
    let d : IsDabbed es k l x 24 (dabs k 24 (later 1 s)) = dabbed es k l x 24 (later 1 s) fresh (omega arith) (omega arith) in
    let few : length d.jobs ≤ 24 = d.few in
    let jobs : Jobs = d.jobs ++ (Seq, move_job now) ∷ [] in
    let moved : Goes (es ++ stroke_of k l x d.jobs Open ∷ []) (es ++ stroke_of k l x jobs Open ∷ []) (move k now ∷ [])
    = job_goes es k l x d.jobs Seq (move_job now) fresh (omega arith) (omega arith) (both_true _ _ (checks_move (draw now 1 600) (draw now 2 400) (draw now 3 201) (draw now 4 201) (told_below _ 600 (omega arith)) (told_below _ 400 (omega arith)) (told_below _ 201 (omega arith)) (told_below _ 201 (omega arith))) refl) refl in
    let end : Goes (es ++ stroke_of k l x jobs Open ∷ []) (es ++ stroke_of k l x jobs (cond c Cancelled Ended) ∷ []) (closing k ∷ []) = close_goes es k l x jobs c fresh (omega arith) in
    let e : Entry = stroke_of k l x jobs (cond c Cancelled Ended) in
    let same : length (filter is_export (es ++ e ∷ [])) ≡ length (filter is_export es) = quiet_last es e refl in
    let few' : length (filter is_export es) ≤ m = r.few in
    record {
      new = es ++ e ∷ [];
      ready = ready_last k m (suc k) m es e r (omega arith) (closed_fate c) (λ n l. other_number k n l) (omega arith);
      goes = goes_on _ _ _ _ _ start (goes_on _ _ _ _ _ d.goes (goes_on _ _ _ _ _ moved end));
    }

block_leads : (k m s : ℕ) (es : List Entry) → k ≤ 40 → m < 64 → IsReady k m es → Leads (suc k) (suc m) es (block k s)
block_leads k m s es h few r =
    leads_on (suc k) m (suc k) (suc m) es _ _ (stroke_leads k m s es h r) (λ a ra.
    leads_on (suc k) m (suc k) (suc m) a _ _ (maybe_leads (suc k) m a ((k % 9) == 4) command.Undo Undoes ra refl refl refl refl (λ n. refl) refl) (λ b rb.
    leads_on (suc k) m (suc k) (suc m) b _ _ (maybe_leads (suc k) m b ((k % 18) == 4) command.Redo Redoes rb refl refl refl refl (λ n. refl) refl) (λ c rc.
    leads_on (suc k) m (suc k) (suc m) c _ _ (look_leads c rc) (λ d rd. export_leads (suc k) m d ((k % 20) == 0) few rd))))
  where
    look_leads : (c : List Entry) → IsReady (suc k) m c → Leads (suc k) m c (only_if ((k % 5) == 0) (look (layer s) (after_stroke s)))
    look_leads c rc = maybe_leads (suc k) m c ((k % 5) == 0) (look (layer s) (after_stroke s)) (Changes _) rc refl (look_fits (layer s) (after_stroke s) (layer_is_id s)) refl refl (λ n. refl) refl

no_block : (s : ℕ) → blocks 0 s ≡ []
unfolding blocks
no_block s = refl

blocks_lead : (n s : ℕ) (es : List Entry) → n ≤ 40 → IsReady 1 0 es → Leads (suc n) n es (blocks n s)
blocks_lead zero s es h r = subst (λ cs. Leads 1 0 es cs) (sym (no_block s)) (record { new = es; ready = r; goes = goes_nowhere es })
blocks_lead (suc n) s es h r = subst (λ cs. Leads (suc (suc n)) (suc n) es cs) (sym (more_blocks n s))
    (leads_on (suc n) n (suc (suc n)) (suc n) es _ _ (blocks_lead n s es (omega arith) r) (λ mid rm. block_leads (suc n) n (after_blocks n s) mid (omega arith) (omega arith) rm))

tree_leads : Leads 1 0 [] tree
unfolding tree
tree_leads = record { new = all_fed [] tree; ready = record { closed = refl; fresh = λ n l. refl; few = omega arith }; goes = record { lawful = refl; ranges = refl; leads = refl } }

whole : (number : ℕ) → Leads 41 40 [] (tree ++ blocks 40 number)
whole number = leads_on 1 0 41 40 [] tree (blocks 40 number) tree_leads (λ mid r. blocks_lead 40 number mid (omega arith) r)

pub demo_is_script : (number : ℕ) → is_script (demo number) ≡ true
unfolding is_script demo
demo_is_script number =
    let l : Leads 41 40 [] (tree ++ blocks 40 number) = whole number in
    both_true _ _ (both_true _ _ refl l.goes.ranges) (both_true _ _ l.goes.lawful (ap (list_all is_closed_entry) l.goes.leads ∙ l.ready.closed))
