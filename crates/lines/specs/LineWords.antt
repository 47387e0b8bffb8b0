-- What a line of a drive's input says: a call by its first word, or else the bytes of a sheet.
use Rattle.std.specs.Prelude.{◌≡◌, ℕ, if◌then◌else◌, ◌⊎◌, List, [], codes, Some, None, Ok, Err, Option, Result, vec_items}
use Rattle.std.specs.Str.{bytes_eq}
use Rattle.assurance.specs.declared.calls.Call.{Call}
use Rattle.assurance.specs.declared.calls.Call.TheVariants.{Read, Command, Claim, Stop}
use Rattle.lines.specs.Words.{StartsWithWord, Blank, NotRead, ReadsBytes, ReadsCapped}
use Rattle.lines.specs.declared.drive.Line.{Line}
use Rattle.lines.specs.declared.drive.Line.TheVariants.{Sheet as sheet_line, Call as call_line, Shown as shown_call, Report as report_call}
use Rattle.lines.specs.declared.line.Word.{Word}
use Rattle.lines.specs.declared.line.Word.TheVariants.{Shown as the_shown, Read as the_read, Command as the_command, Claim as the_claim, Stop as the_stop, Report as the_report}
use Rattle.lines.specs.declared.words.ReadFault.TheVariants.{NotBytes, Memory}
use Rattle.lines.specs.declared.line.LineFault.{LineFault}
use Rattle.lines.specs.declared.line.LineFault.TheVariants.{Sheet as BadSheet, LacksNumber, NotANumber}

abbrev pub word_of : List ℕ → Option Word
word_of w =
    if bytes_eq w (codes "shown") then Some the_shown else
    (if bytes_eq w (codes "read") then Some the_read else
    (if bytes_eq w (codes "command") then Some the_command else
    (if bytes_eq w (codes "claim") then Some the_claim else
    (if bytes_eq w (codes "stop") then Some the_stop else
    (if bytes_eq w (codes "report") then Some the_report else None)))))

-- what is said of a line that is not read
abbrev pub line_message : LineFault → List ℕ
line_message (BadSheet NotBytes) = codes "a line is neither a call nor a list of numbers from 0 to 255"
line_message (BadSheet Memory) = codes "memory allocation failed"
line_message LacksNumber = codes "a call lacks its number"
line_message NotANumber = codes "a call's number is none"

-- the number of a call is its next word; there may be none, or one that is no number
abbrev pub ReadsNumber : List ℕ → Result ℕ LineFault → Type 0
ReadsNumber rest (Ok v) = (w : List ℕ) × (more : List ℕ) × StartsWithWord rest w more × ReadsCapped w (Some v)
ReadsNumber rest (Err (BadSheet fault)) = ⊥
ReadsNumber rest (Err LacksNumber) = Blank rest
ReadsNumber rest (Err NotANumber) = (w : List ℕ) × (more : List ℕ) × StartsWithWord rest w more × ReadsCapped w None

-- a sheet has the bytes of all words
abbrev pub ReadsSheet : List ℕ → Result Line LineFault → Type 0
ReadsSheet text (Ok (sheet_line v)) = ReadsBytes text [] (vec_items v) (Ok tt)
ReadsSheet text (Ok (call_line c)) = ⊥
ReadsSheet text (Ok shown_call) = ⊥
ReadsSheet text (Ok report_call) = ⊥
ReadsSheet text (Err (BadSheet fault)) = NotRead text fault
ReadsSheet text (Err LacksNumber) = ⊥
ReadsSheet text (Err NotANumber) = ⊥

-- a call with its number
abbrev pub ReadsCall : List ℕ → (ℕ → Call) → Result Line LineFault → Type 0
ReadsCall rest make (Ok line) = (x : ℕ) × (line ≡ call_line (make x)) × ReadsNumber rest (Ok x)
ReadsCall rest make (Err fault) = ReadsNumber rest (Err fault)

-- by the first word, which rest follows
abbrev pub ReadsBy : List ℕ → List ℕ → Option Word → Result Line LineFault → Type 0
ReadsBy text rest None r = ReadsSheet text r
ReadsBy text rest (Some the_shown) r = r ≡ Ok shown_call
ReadsBy text rest (Some the_read) r = ReadsCall rest Read r
ReadsBy text rest (Some the_command) r = ReadsCall rest Command r
ReadsBy text rest (Some the_claim) r = ReadsCall rest Claim r
ReadsBy text rest (Some the_stop) r = r ≡ Ok (call_line Stop)
ReadsBy text rest (Some the_report) r = r ≡ Ok report_call

-- A LINE without a word is a sheet of no bytes
abbrev pub ReadsLine : List ℕ → Result Line LineFault → Type 0
ReadsLine text r =
    (Blank text × ReadsSheet text r) ⊎ ((w : List ℕ) × (rest : List ℕ) × StartsWithWord text w rest × ReadsBy text rest (word_of w) r)
