-- Laws on what a run writes, by which a caller joins the clauses of its calls.
--     rows_text-joined      the lines put so far and those of the rows after them are those of all rows
--     text_so_far-next      the text so far, once the rows were put that weren't
--     text_so_far-part      the text so far, where that put failed
--     report_text-put       the whole report, once its tail was put
--     report_text-part      the first of the report, where that put failed
--     report_text-first     the first of the text so far is the first of the report
use Rattle.std.specs.Prelude.{◌≡◌, ◌++◌, ℕ, List, take, drop, Option, Some, None, refl}
use Rattle.std.specs.List.{flat_map}
use Rattle.std.specs.Option.{option_map}
use Rattle.std.proofs.Common.{sym, ap, subst, ◌∙◌, append_assoc}
use Rattle.std.proofs.lemmas.List.{take-append-drop}
use Rattle.std.proofs.lemmas.Grind.{flat_map-append}
use Rattle.lab_lines.specs.declared.script.Script.{Script}
use Rattle.lab_lines.specs.declared.row.Row.{Row}
use Rattle.lab_lines.specs.declared.report.Report.{Report}
use Rattle.lab_report.specs.Text.{row_line, tail_text, report_text}
use Rattle.lab_shelf.specs.Files.{TookPart}
use Rattle.lab_shelf.specs.Changes.{TookPart-first, TookPart-then}
use Rattle.lab_output.specs.Text.{head_text, rows_text, text_so_far, tail_from}

-- the lines of some rows, and those of the rows after them
pub rows_text-joined : (script : Script) (k : ℕ) (rows : List Row)
    → flat_map (row_line script) (take k rows) ++ rows_text script k rows ≡ flat_map (row_line script) rows
rows_text-joined script k rows =
    sym (flat_map-append (row_line script) (take k rows) (drop k rows)) ∙ ap (flat_map (row_line script)) (take-append-drop k rows)

-- the text so far, and the lines of the rows after it
pub text_so_far-joined : (script : Script) (k : ℕ) (rows : List Row)
    → text_so_far script (take k rows) ++ rows_text script k rows ≡ text_so_far script rows
text_so_far-joined script k rows =
    append_assoc head_text (flat_map (row_line script) (take k rows)) (rows_text script k rows)
    ∙ ap (λ (t : List ℕ). head_text ++ t) (rows_text-joined script k rows)

-- the text so far of a report, and what is after it
pub report_text-joined : (script : Script) (k : ℕ) (report : Report)
    → text_so_far script (take k report.rows) ++ tail_from script k report ≡ report_text script report
report_text-joined script k report =
    sym (append_assoc (text_so_far script (take k report.rows)) (rows_text script k report.rows) (tail_text script report))
    ∙ ap (λ (t : List ℕ). t ++ tail_text script report) (text_so_far-joined script k report.rows)

-- bytes that a sink took, and then more
taken-joined : (before between after : Option (List ℕ)) (bytes more : List ℕ)
    → between ≡ option_map (λ taken. taken ++ bytes) before → after ≡ option_map (λ taken. taken ++ more) between
    → after ≡ option_map (λ taken. taken ++ (bytes ++ more)) before
taken-joined before between after bytes more first second =
    second ∙ ap (option_map (λ taken. taken ++ more)) first ∙ joined before
  where
    joined : (o : Option (List ℕ)) → option_map (λ taken. taken ++ more) (option_map (λ taken. taken ++ bytes) o)
        ≡ option_map (λ taken. taken ++ (bytes ++ more)) o
    joined None = refl
    joined (Some taken) = ap Some (append_assoc taken bytes more)

-- the text so far, once the rows were put that weren't
pub text_so_far-next : (script : Script) (k : ℕ) (rows : List Row) (before between after : Option (List ℕ))
    → between ≡ option_map (λ taken. taken ++ text_so_far script (take k rows)) before
    → after ≡ option_map (λ taken. taken ++ rows_text script k rows) between
    → after ≡ option_map (λ taken. taken ++ text_so_far script rows) before
text_so_far-next script k rows before between after first second =
    taken-joined before between after (text_so_far script (take k rows)) (rows_text script k rows) first second
    ∙ ap (λ (t : List ℕ). option_map (λ taken. taken ++ t) before) (text_so_far-joined script k rows)

-- the text so far, where that put failed
pub text_so_far-part : (script : Script) (k : ℕ) (rows : List Row) (before between after : Option (List ℕ))
    → between ≡ option_map (λ taken. taken ++ text_so_far script (take k rows)) before
    → TookPart between after (rows_text script k rows)
    → TookPart before after (text_so_far script rows)
text_so_far-part script k rows before between after first part =
    subst (λ (t : List ℕ). TookPart before after t) (text_so_far-joined script k rows)
    (TookPart-then before between after (text_so_far script (take k rows)) (rows_text script k rows) first part)

-- the whole report, once its tail was put
pub report_text-put : (script : Script) (k : ℕ) (report : Report) (before between after : Option (List ℕ))
    → between ≡ option_map (λ taken. taken ++ text_so_far script (take k report.rows)) before
    → after ≡ option_map (λ taken. taken ++ tail_from script k report) between
    → after ≡ option_map (λ taken. taken ++ report_text script report) before
report_text-put script k report before between after first second =
    taken-joined before between after (text_so_far script (take k report.rows)) (tail_from script k report) first second
    ∙ ap (λ (t : List ℕ). option_map (λ taken. taken ++ t) before) (report_text-joined script k report)

-- the first of the report, where that put failed
pub report_text-part : (script : Script) (k : ℕ) (report : Report) (before between after : Option (List ℕ))
    → between ≡ option_map (λ taken. taken ++ text_so_far script (take k report.rows)) before
    → TookPart between after (tail_from script k report)
    → TookPart before after (report_text script report)
report_text-part script k report before between after first part =
    subst (λ (t : List ℕ). TookPart before after t) (report_text-joined script k report)
    (TookPart-then before between after (text_so_far script (take k report.rows)) (tail_from script k report) first part)

-- the first of the text so far is the first of the report
pub report_text-first : (script : Script) (k : ℕ) (report : Report) (before after : Option (List ℕ))
    → TookPart before after (text_so_far script (take k report.rows)) → TookPart before after (report_text script report)
report_text-first script k report before after part =
    subst (λ (t : List ℕ). TookPart before after t) (report_text-joined script k report)
    (TookPart-first before after (text_so_far script (take k report.rows)) (tail_from script k report) part)
