-- The lines of a drive. A drive stands or none does; T are the tables of the sheet in force.
use Rattle.std.specs.Prelude.{ℕ, if◌then◌else◌, List, [], ◌∷◌, ◌++◌, codes, decimal, Some, None, Ok, Err, Option, Result, vec_items}
use Rattle.sheets.specs.Tables.{Tables}
use Rattle.sheets.specs.Format.{tables_of}
use Rattle.sheets.specs.Whole.{whole}
use Rattle.drives.specs.Model.{begun, shows, reports}
use Rattle.drives.specs.Refusals.{refusal_number}
use Rattle.drives.specs.declared.between.Between.{Between}
use Rattle.drives.specs.declared.refusal.Refusal.{Refusal}
use Rattle.assurance.specs.declared.drive.Drive.{Drive}
use Rattle.assurance.specs.declared.drive.Drive.TheVariants.{Between as between, Waiting as waiting, Ended as ended}
use Rattle.assurance.specs.declared.calls.Call.{Call}
use Rattle.assurance.specs.declared.calls.Answer.{Answer}
use Rattle.assurance.specs.declared.calls.Answer.TheVariants.{Performed, Refused, NotAdmitted}
use Rattle.assurance.specs.Calls.{call_word}
use Rattle.assurance.specs.Made.{makes}
use Rattle.lines.specs.Refusals.{refused_line}
use Rattle.lines.specs.declared.drive.Line.{Line}
use Rattle.lines.specs.declared.drive.Line.TheVariants.{Sheet as sheet_line, Call as call_line, Shown as shown_call, Report as report_call}

abbrev pub not_admitted : List ℕ
not_admitted = codes "not admitted\n"

-- performed, a call is answered by its word
abbrev pub answer_line : Call → Answer → List ℕ
answer_line call Performed = call_word call ++ codes "\n"
answer_line call (Refused why) = refused_line (refusal_number why)
answer_line call NotAdmitted = not_admitted

-- A CALL: the drive that stands then, and the line
abbrev pub call_drive : Tables → Option Drive → Call → Option Drive
call_drive T None call = None
call_drive T (Some d) call = Some ((makes T d call).0)

abbrev pub call_text : Tables → Option Drive → Call → List ℕ
call_text T None call = not_admitted
call_text T (Some d) call = answer_line call ((makes T d call).1)

-- SHOWN alters nothing
abbrev pub shown_line : Result ℕ Refusal → List ℕ
shown_line (Ok r) = codes "shown " ++ (decimal r ++ codes "\n")
shown_line (Err why) = refused_line (refusal_number why)

abbrev pub shown_by : Tables → Drive → List ℕ
shown_by T (between d) = shown_line (shows T d)
shown_by T (waiting d) = not_admitted
shown_by T (ended d) = not_admitted

abbrev pub shown_text : Tables → Option Drive → List ℕ
shown_text T None = not_admitted
shown_text T (Some d) = shown_by T d

-- A REPORT uses an ended drive up
abbrev pub kept_by_report : Drive → Option Drive
kept_by_report (between d) = Some (between d)
kept_by_report (waiting d) = Some (waiting d)
kept_by_report (ended d) = None

abbrev pub report_drive : Option Drive → Option Drive
report_drive None = None
report_drive (Some d) = kept_by_report d

abbrev pub reported_by : Drive → List ℕ
reported_by (between d) = not_admitted
reported_by (waiting d) = not_admitted
reported_by (ended d) = codes "report " ++ (decimal ((reports d).0) ++ (codes " " ++ (decimal ((reports d).1) ++ codes "\n")))

abbrev pub report_text : Option Drive → List ℕ
report_text None = not_admitted
report_text (Some d) = reported_by d

-- AN OPENED SHEET begins a drive where none stands
abbrev pub begun_drive : Result Between Refusal → Option Drive
begun_drive (Ok d) = Some (between d)
begun_drive (Err why) = None

abbrev pub begun_line : Result Between Refusal → List ℕ
begun_line (Ok d) = codes "begun\n"
begun_line (Err why) = refused_line (refusal_number why)

abbrev pub begin_drive : Tables → Option Drive → Option Drive
begin_drive T None = begun_drive (begun T)
begin_drive T (Some d) = Some d

abbrev pub begin_text : Tables → Option Drive → List ℕ
begin_text T None = begun_line (begun T)
begin_text T (Some d) = []

-- A SHEET is opened and then in force, or refused
abbrev pub sheet_drive : List ℕ → Option Drive → Option Drive
sheet_drive bs s = if whole bs then begin_drive (tables_of bs) s else s

abbrev pub sheet_text : List ℕ → Option Drive → List ℕ
sheet_text bs s = if whole bs then codes "opened\n" ++ begin_text (tables_of bs) s else refused_line 18

-- A LINE: the sheet then in force, the drive that then stands, and what is printed
abbrev pub in_force : List ℕ → Line → List ℕ
in_force bs (sheet_line v) = if whole (vec_items v) then vec_items v else bs
in_force bs (call_line call) = bs
in_force bs shown_call = bs
in_force bs report_call = bs

abbrev pub drive_after : List ℕ → Option Drive → Line → Option Drive
drive_after bs s (sheet_line v) = sheet_drive (vec_items v) s
drive_after bs s (call_line call) = call_drive (tables_of bs) s call
drive_after bs s shown_call = s
drive_after bs s report_call = report_drive s

abbrev pub text_of : List ℕ → Option Drive → Line → List ℕ
text_of bs s (sheet_line v) = sheet_text (vec_items v) s
text_of bs s (call_line call) = call_text (tables_of bs) s call
text_of bs s shown_call = shown_text (tables_of bs) s
text_of bs s report_call = report_text s

-- ALL LINES, one after another
abbrev pub drive_lines : List ℕ → Option Drive → List Line → List ℕ
drive_lines bs s [] = []
drive_lines bs s (l ∷ ls) = text_of bs s l ++ drive_lines (in_force bs l) (drive_after bs s l) ls
