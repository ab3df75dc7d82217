-- What stands at the front of a text, field by field.
use Rattle.std.proofs.Common.{◌≡◌, ◌∙◌, ℕ, true, List, [], ◌∷◌, ◌++◌, length, Result, Ok, refl, ap}
use Rattle.std.specs.Prelude.{ℤ, ◌==◌}
use Rattle.doc_model.specs.declared.job.Kind.{Kind}
use Rattle.doc_model.specs.declared.job.Job.{Job}
use Rattle.doc_model.specs.declared.job.Job.TheVariants as job
use Rattle.doc_model.specs.declared.command.Command.TheVariants.{Add}
use Rattle.script_lines.specs.declared.cause.Cause.{Cause}
use Rattle.script_lines.specs.Values.{rgba, natural}
use Rattle.script_lines.specs.Fronts.{Begins, is_field, with_field}
use Rattle.script_lines.proofs.FieldLemmas.{space_lines, feed_lines}
use Rattle.script_forms.specs.declared.words.JobWord.{JobWord}
use Rattle.script_forms.specs.declared.words.JobWord.TheVariants.{Fill, Dab}
use Rattle.script_forms.specs.declared.jobs.Outline.{Outline}
use Rattle.script_forms.specs.declared.jobs.Ink.{Ink}
use Rattle.script_forms.specs.declared.jobs.Tip.{Tip}
use Rattle.script_forms.specs.Jobs.{kind_of, op_of, edge_of, Fields, coordinate, outline, area_of, ink, tip, checked, job_fields, job_of, paint}
use Rattle.script_forms.specs.Plain.{BeginsOutline, BeginsTip, IsInkLine, IsPaintLine}

-- words

-- the text begins with a word and a space
pub word_first : {A : Type 0} (says : List ℕ → Result A Cause) (v : A) (word text behind : List ℕ) → is_field word ≡ true → says word ≡ Ok v → text ≡ word ++ 32 ∷ behind → Begins says 32 text v behind
word_first says v word text behind is told front = record { field = word; is_field = is; told = told; front = front }

-- parts of a line

outline_told : (left top width height : List ℕ) (x y : ℤ) (w h : ℕ) → coordinate left ≡ Ok x → coordinate top ≡ Ok y → natural 1 4096 width ≡ Ok w → natural 1 4096 height ≡ Ok h → outline left top width height ≡ Ok (record { x = x; y = y; w = w; h = h })
unfolding outline
outline_told left top width height x y w h a b c d = rw (a, b, c, d) refl

pub outline_first : (text t1 t2 t3 behind : List ℕ) (x y : ℤ) (w h : ℕ) → Begins coordinate 32 text x t1 → Begins coordinate 32 t1 y t2 → Begins (natural 1 4096) 32 t2 w t3 → Begins (natural 1 4096) 32 t3 h behind → BeginsOutline text (record { x = x; y = y; w = w; h = h }) behind
outline_first text t1 t2 t3 behind x y w h a b c d = record {
  left = a.field;
  top = b.field;
  width = c.field;
  height = d.field;
  told = outline_told a.field b.field c.field d.field x y w h a.told b.told c.told d.told;
  line = space_lines _ text x t1 a ∙ ap (with_field a.field) (space_lines _ t1 y t2 b ∙ ap (with_field b.field) (space_lines _ t2 w t3 c ∙ ap (with_field c.field) (space_lines _ t3 h behind d)));
}

tip_told : (left top radius edge : List ℕ) (t : Tip) → coordinate left ≡ Ok t.x → coordinate top ≡ Ok t.y → natural 0 128 radius ≡ Ok t.r → edge_of edge ≡ Ok t.soft → tip left top radius edge ≡ Ok t
unfolding tip
tip_told left top radius edge t a b c d = rw (a, b, c, d) refl

pub tip_first : (text t1 t2 t3 behind : List ℕ) (t : Tip) → Begins coordinate 32 text t.x t1 → Begins coordinate 32 t1 t.y t2 → Begins (natural 0 128) 32 t2 t.r t3 → Begins edge_of 32 t3 t.soft behind → BeginsTip text t behind
tip_first text t1 t2 t3 behind t a b c d = record {
  left = a.field;
  top = b.field;
  radius = c.field;
  edge = d.field;
  told = tip_told a.field b.field c.field d.field t a.told b.told c.told d.told;
  line = space_lines _ text t.x t1 a ∙ ap (with_field a.field) (space_lines _ t1 t.y t2 b ∙ ap (with_field b.field) (space_lines _ t2 t.r t3 c ∙ ap (with_field c.field) (space_lines _ t3 t.soft behind d)));
}

ink_told : (colour operation strength : List ℕ) (i : Ink) → rgba colour ≡ Ok i.colour → op_of operation ≡ Ok i.op → natural 0 255 strength ≡ Ok i.strength → ink colour operation strength ≡ Ok i
unfolding ink
ink_told colour operation strength i a b c = rw (a, b, c) refl

pub ink_last : (text t1 t2 behind : List ℕ) (i : Ink) → Begins rgba 32 text i.colour t1 → Begins op_of 32 t1 i.op t2 → Begins (natural 0 255) 10 t2 i.strength behind → IsInkLine text i behind
ink_last text t1 t2 behind i a b c = record {
  colour = a.field;
  operation = b.field;
  strength = c.field;
  told = ink_told a.field b.field c.field i a.told b.told c.told;
  line = space_lines _ text i.colour t1 a ∙ ap (with_field a.field) (space_lines _ t1 i.op t2 b ∙ ap (with_field b.field) (feed_lines _ t2 i.strength behind c));
}

-- lines

paint_told : (work : JobWord) (number kind : List ℕ) (others : Fields) (n : ℕ) (k : Kind) (j : Job) → job_fields work (length others) ≡ true → natural 0 4294967295 number ≡ Ok n → kind_of kind ≡ Ok k → job_of work others ≡ Ok j → paint work (number ∷ kind ∷ others) ≡ Ok (Add n k j)
unfolding paint
paint_told work number kind others n k j count a b c = rw (count, a, b, c) refl

fill_told : (left top width height colour operation strength : List ℕ) (o : Outline) (i : Ink) (j : Job) → outline left top width height ≡ Ok o → ink colour operation strength ≡ Ok i → checked (job.Fill (area_of o) i.colour i.op i.strength) ≡ Ok j → job_of Fill (left ∷ top ∷ width ∷ height ∷ colour ∷ operation ∷ strength ∷ []) ≡ Ok j
unfolding job_of
fill_told left top width height colour operation strength o i j a b c = rw (a, b) c

dab_told : (left top radius edge colour operation strength : List ℕ) (t : Tip) (i : Ink) (j : Job) → tip left top radius edge ≡ Ok t → ink colour operation strength ≡ Ok i → checked (job.Dab t.x t.y t.r t.soft i.colour i.op i.strength) ≡ Ok j → job_of Dab (left ∷ top ∷ radius ∷ edge ∷ colour ∷ operation ∷ strength ∷ []) ≡ Ok j
unfolding job_of
dab_told left top radius edge colour operation strength t i j a b c = rw (a, b) c

pub fill_line : (text t1 t2 t3 behind : List ℕ) (n : ℕ) (k : Kind) (o : Outline) (i : Ink) (j : Job) → Begins (natural 0 4294967295) 32 text n t1 → Begins kind_of 32 t1 k t2 → BeginsOutline t2 o t3 → IsInkLine t3 i behind → checked (job.Fill (area_of o) i.colour i.op i.strength) ≡ Ok j → IsPaintLine Fill text (Add n k j) behind
fill_line text t1 t2 t3 behind n k o i j a b c d is =
    let others = c.left ∷ c.top ∷ c.width ∷ c.height ∷ d.colour ∷ d.operation ∷ d.strength ∷ [] in
    record {
      others = a.field ∷ b.field ∷ others;
      told = paint_told Fill a.field b.field others n k j refl a.told b.told (fill_told _ _ _ _ _ _ _ o i j c.told d.told is);
      line = space_lines _ text n t1 a ∙ ap (with_field a.field) (space_lines _ t1 k t2 b ∙ ap (with_field b.field) (c.line ∙ ap (λ l. with_field c.left (with_field c.top (with_field c.width (with_field c.height l)))) d.line));
    }

pub dab_line : (text t1 t2 t3 behind : List ℕ) (n : ℕ) (k : Kind) (t : Tip) (i : Ink) (j : Job) → Begins (natural 0 4294967295) 32 text n t1 → Begins kind_of 32 t1 k t2 → BeginsTip t2 t t3 → IsInkLine t3 i behind → checked (job.Dab t.x t.y t.r t.soft i.colour i.op i.strength) ≡ Ok j → IsPaintLine Dab text (Add n k j) behind
dab_line text t1 t2 t3 behind n k t i j a b c d is =
    let others = c.left ∷ c.top ∷ c.radius ∷ c.edge ∷ d.colour ∷ d.operation ∷ d.strength ∷ [] in
    record {
      others = a.field ∷ b.field ∷ others;
      told = paint_told Dab a.field b.field others n k j refl a.told b.told (dab_told _ _ _ _ _ _ _ t i j c.told d.told is);
      line = space_lines _ text n t1 a ∙ ap (with_field a.field) (space_lines _ t1 k t2 b ∙ ap (with_field b.field) (c.line ∙ ap (λ l. with_field c.left (with_field c.top (with_field c.radius (with_field c.edge l)))) d.line));
    }
