-- The documents of the past and the future, without pixels.
use Rattle.std.specs.Prelude.{Option, Some, None, Result, Ok, Err, List, [], ◌∷◌, refl}
use Rattle.std.specs.Coded.{Coded, code_by, coded×, coded_list}
use Rattle.doc_model.specs.declared.tree.TreeFault.{TreeFault}
use Rattle.tree_core.specs.declared.exchange.Exchange.{Exchange}
use Rattle.tree_core.specs.Exchanges.{led, Leads}
use Rattle.tree_core.specs.Codes.{tree_code}
use Rattle.trace_state.specs.declared.history.Reach.{Reach}
use Rattle.trace_state.specs.declared.history.Reach.TheVariants.{Whole}
use Rattle.trace_state.specs.declared.history.Link.{Link}
use Rattle.trace_state.specs.contracts.history.Reach as reach_row
use Rattle.trace_state.specs.Trees.{Shape}

-- a document of the history, with the reach of the change next to it
pub record Former : Type 0 where
  pub tree : Shape
  pub reach : Reach

abbrev pub former : Shape → Reach → Former
former tree reach = record { tree = tree; reach = reach }

-- a document between those of the past and of the future, the nearest first
pub record Course : Type 0 where
  pub tree : Shape
  pub past : List Former
  pub future : List Former

-- the course the other way round
abbrev pub turned : Course → Course
turned c = record { tree = c.tree; past = c.future; future = c.past }

-- the course with the document kept as the newest of the past
abbrev pub kept : Course → Reach → Course
kept c reach = record { tree = c.tree; past = former c.tree reach ∷ c.past; future = [] }

-- the course once a change of the document was made or refused
abbrev pub after_change : Course → Result Shape TreeFault → Course
after_change c (Err fault) = c
after_change c (Ok new) = record (kept c Whole) { tree = new }

-- the reach of a change that was made
abbrev pub change_reach : Result Shape TreeFault → Option Reach
change_reach (Err fault) = None
change_reach (Ok new) = Some Whole

-- the course once it went back to the first of these, which are its past
abbrev pub back_by : Course → List Former → Course
back_by c [] = c
back_by c (e ∷ past) = record { tree = e.tree; past = past; future = former c.tree e.reach ∷ c.future }

abbrev pub back : Course → Course
back c = back_by c c.past

-- the reach of the change next to the first of them
abbrev pub first_reach : List Former → Option Reach
first_reach [] = None
first_reach (e ∷ more) = Some e.reach

-- the tree that a link leads to
abbrev pub next_tree : Option Exchange → Shape → Shape
next_tree None t = t
next_tree (Some x) t = led x t

-- a link leads on from the tree
abbrev pub LeadsOn : Option Exchange → Shape → Type 0
LeadsOn None t = Unit {0}
LeadsOn (Some x) t = Leads x t

-- each link leads on from the tree that those before it lead to
abbrev pub AllLead : Shape → List Link → Type 0
AllLead t [] = Unit {0}
AllLead t (l ∷ ls) = LeadsOn l.tree t × AllLead (next_tree l.tree t) ls

-- the documents that the links lead to, one after another
abbrev pub formers : Shape → List Link → List Former
formers t [] = []
formers t (l ∷ ls) = former (next_tree l.tree t) l.reach ∷ formers (next_tree l.tree t) ls

abbrev pub course : Shape → List Link → List Link → Course
course t past future = record { tree = t; past = formers t past; future = formers t future }

abbrev pub former_code : Coded Former
former_code = code_by (Shape × Reach) (coded× tree_code (reach_row.the_row).coded) (λ e. (e.tree, e.reach)) (λ t. record { tree = t.0; reach = t.1 }) (λ _. refl)

-- the code by which contracts tell courses apart
abbrev pub course_code : Coded Course
course_code = code_by (Shape × (List Former × List Former)) (coded× tree_code (coded× (coded_list former_code) (coded_list former_code))) (λ c. (c.tree, (c.past, c.future))) (λ t. record { tree = t.0; past = t.1.0; future = t.1.1 }) (λ _. refl)
