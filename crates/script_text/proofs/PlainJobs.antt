-- What a job's plain line says.
use Rattle.std.proofs.Common.{◌≡◌, ◌∙◌, ℕ, true, false, Option, Some, None, Ok, List, [], ◌∷◌, ◌++◌, ◌+◌, length, arith, refl, sym, ap}
use Rattle.std.specs.Prelude.{IsSome}
use Rattle.std.specs.Option.{option_to_list}
use Rattle.std.specs.Str.{bytes_eq}
use Rattle.doc_model.specs.declared.canvas.Canvas.{Canvas}
use Rattle.doc_model.specs.declared.command.Command.{Command}
use Rattle.doc_model.specs.Strokes.{entries}
use Rattle.script_lines.specs.Lines.{is_command}
use Rattle.script_forms.specs.declared.words.JobWord.{JobWord}
use Rattle.script_forms.specs.declared.words.Word.TheVariants.{Paint}
use Rattle.script_forms.specs.Forms.{word_of, canvas_text, path_text}
use Rattle.script_forms.specs.Texts.{work_text}
use Rattle.script_forms.specs.Jobs.{Fields, paint}
use Rattle.script_forms.specs.Forms.{command_of}
use Rattle.script_forms.specs.Plain.{IsJobLine}
use Rattle.script_text.specs.declared.reading.Reading.{Reading}
use Rattle.script_text.specs.Reading.{canvas_in, command_in, start_by, cause_by, misfit}
use Rattle.std.specs.Option.{option_or}
use Rattle.script_text.specs.Read.{Takes, TakesCommand}
use Rattle.script_text.specs.Paths.{path_in, path_commands, path_jobs}
use Rattle.script_text.proofs.PrintedWords.{words}

-- the fields say that job
pub record SaysJob (f : Fields) (c : Command) : Type 0 where
  pub is_command : is_command f ≡ true
  pub canvas : canvas_in f ≡ None
  pub command : command_in f ≡ Some c
  pub path : path_in f ≡ None
  pub cause : (o : Option Canvas) (cells : ℕ) (commands : List Command) → IsSome o → cause_by o cells commands f ≡ misfit (entries commands) c

abbrev pub job_fields : (text behind : List ℕ) (c : Command) → IsJobLine text c behind → Fields
job_fields text behind c is = work_text is.work ∷ is.others

says_job : (work : JobWord) (others : Fields) (c : Command) → paint work others ≡ Ok c → SaysJob (work_text work ∷ others) c
unfolding cause_by command_of
says_job work others c told =
    let w = words (Paint work) in
    record {
      is_command = w.begins others;
      canvas = rw w.no_canvas refl;
      command = rw (w.no_canvas, w.back, told) refl;
      path = rw w.no_path refl;
      cause = go w.no_canvas w.no_path w.back;
    }
  where
    go : bytes_eq (work_text work) canvas_text ≡ false → bytes_eq (work_text work) path_text ≡ false → word_of (work_text work) ≡ Some (Paint work) → (o : Option Canvas) (cells : ℕ) (commands : List Command) → IsSome o → cause_by o cells commands (work_text work ∷ others) ≡ misfit (entries commands) c
    go a p b (Some k) cells commands h = rw (a, p, b, told) refl
    go a p b None cells commands h = absurd (cc (h))

pub job_said : (text behind : List ℕ) (c : Command) (is : IsJobLine text c behind) → SaysJob (job_fields text behind c is) c
job_said text behind c is = says_job is.work is.others c is.told

pub takes_job : (r new : Reading) (n : ℕ) (f : Fields) (c : Command) → SaysJob f c → TakesCommand r new n (Some c) → Takes r new n f
takes_job r new n f c says t = record {
  canvas = t.canvas ∙ (go r.canvas ∙ ap (option_or r.canvas) (sym says.canvas));
  draft = t.draft ∙ sym ((λ i. r.draft ++ (option_to_list (says.command i) ++ path_commands (says.path i))));
  starts = t.starts ∙ ap (λ o. r.starts.items ++ option_to_list (start_by n o)) (sym says.command);
  cells = t.cells ∙ (none r.cells ∙ ap (λ o. r.cells + length (path_jobs o)) (sym says.path));
}
  where
    go : (o : Option Canvas) → o ≡ option_or o None
    go None = refl
    go (Some k) = refl

    none : (n : ℕ) → n ≡ n + 0
    none n = omega arith
