-- Whether the entries that are left take jobs yet.
use Rattle.std.proofs.Common.{◌≡◌, ℕ, suc, zero, true, ◌&&◌, List, [], ◌∷◌, ◌++◌, map, length, drop, take, Option, Some, None, refl, sym, ap, ◌∙◌}
use Rattle.std.specs.List.{list_all}
use Rattle.std.proofs.lemmas.List.Folds.{list_all-append}
use Rattle.geom_core.proofs.Tests.{and_left, and_right}
use Rattle.doc_model.specs.declared.command.Command.{Command}
use Rattle.doc_model.specs.Strokes as doc
use Rattle.doc_model.specs.Strokes.{Fate, Open, Ended, Cancelled, entries, is_open}
use Rattle.doc_model.specs.Feeding.{is_closed_entry}
use Rattle.entry_queue.specs.declared.entry.Entry.{Entry}
use Rattle.entry_queue.specs.Keys.{entries_at, with_first}
use Rattle.entry_queue.specs.Pushed.{Pending, StandsFor, is_shut, is_shut_if, kept_of, queued, stroke_of}
use Rattle.std.specs.Prelude.{not}

-- ---- by their keys

keys_shut : (slots : ℕ → Option Entry) (ks : List ℕ) → list_all (λ k. is_shut_if (slots k)) ks ≡ list_all is_shut (entries_at slots ks)
keys_shut slots [] = refl
keys_shut slots (k ∷ ks) = go (slots k) (keys_shut slots ks)
  where
    go : (o : Option Entry) → list_all (λ k. is_shut_if (slots k)) ks ≡ list_all is_shut (entries_at slots ks) → (is_shut_if o && list_all (λ k. is_shut_if (slots k)) ks) ≡ list_all is_shut (with_first o (entries_at slots ks))
    go None rest = rest
    go (Some e) rest = ap (λ b. is_shut e && b) rest

-- keys that come in two lists
pub both_shut : (slots : ℕ → Option Entry) (front back ks : List ℕ) → front ++ back ≡ ks → (list_all (λ k. is_shut_if (slots k)) front && list_all (λ k. is_shut_if (slots k)) back) ≡ list_all is_shut (entries_at slots ks)
both_shut slots front back ks e = sym (list_all-append (λ k. is_shut_if (slots k)) front back) ∙ ap (list_all (λ k. is_shut_if (slots k))) e ∙ keys_shut slots ks

-- ---- by the commands

shut_same : (e : doc.Entry) → is_shut (queued e) ≡ is_closed_entry e
shut_same (doc.Strokes s) = go s.fate
  where
    go : (f : Fate) → is_shut (stroke_of f (kept_of s)) ≡ not (is_open f)
    go Open = refl
    go Ended = refl
    go Cancelled = refl
shut_same (doc.Changes c) = refl
shut_same doc.Undoes = refl
shut_same doc.Redoes = refl
shut_same (doc.Purges k) = refl
shut_same doc.Exports = refl

all_same : (es : List doc.Entry) → list_all is_shut (map queued es) ≡ list_all is_closed_entry es
all_same [] = refl
all_same (e ∷ es) = λ i. shut_same e i && all_same es i

-- behind a front of closed ones
behind : (k : ℕ) (es : List doc.Entry) → list_all is_closed_entry (take k es) ≡ true → list_all is_closed_entry (drop k es) ≡ list_all is_closed_entry es
behind zero es h = refl
behind (suc k) [] h = refl
behind (suc k) (e ∷ es) h =
    behind k es (and_right (is_closed_entry e) _ h) ∙ ap (λ b. b && list_all is_closed_entry es) (sym (and_left (is_closed_entry e) _ h))

-- all strokes are closed exactly where none of those that are left takes jobs
pub closed_all : (commands : List Command) (q : Pending) → StandsFor commands q → list_all is_shut q.left ≡ list_all is_closed_entry (entries commands)
closed_all commands q h = ap (list_all is_shut) h.left_is ∙ all_same (drop (length q.outcomes) (entries commands)) ∙ behind (length q.outcomes) (entries commands) h.closed
