-- The laws of the drive sheet.
use Rattle.std.proofs.Common.{ℕ, List, [], ◌++◌, take, drop, sym, refl, ap, ◌∙◌, ap₂}
use Rattle.std.proofs.lemmas.List.FromFn.{length-map-range_with_len}
use Rattle.std.proofs.lemmas.List.{take_at, take-append-drop}
use Rattle.sheets.specs.Tables.{Tables, SameTables}
use Rattle.sheets.specs.Format.{tables_of}
use Rattle.sheets.specs.Encoding.{sheet_length, sheet_bytes, byte_of}
use Rattle.sheets.specs.Laws.{OpensTo, OpensWritten, OpensNothingElse, EqualSheets, BehindIgnored}
use Rattle.sheets.proofs.Says.{fits, opens_to, total_is}
use Rattle.sheets.proofs.Encoded.{written_holds, held_says}
use Rattle.sheets.proofs.Small.{sheet_is_bytes}
use Rattle.sheets.proofs.Told.{whole_says, whole_fits, whole_in_range}
use Rattle.sheets.proofs.Once.{says_holds, once}
use Rattle.sheets.proofs.Behind.{fronted, front_says}

pub same_refl : (T : Tables) → SameTables T T
same_refl T = record {
  same_a = refl;
  same_b = refl;
  same_k = refl;
  same_n = refl;
  same_start = refl;
  same_lawful = λ _ _ _ _. refl;
  same_step = λ _ _ _ _ _ _. refl;
  same_rank = λ _ _ _ _. refl;
  same_permits = λ _ _ _ _ _ _ _ _. refl;
}

pub opens_written : OpensWritten
opens_written T I = record {
  bytes = sheet_is_bytes T I;
  opens = λ rest. opens_to T (fits T I) (sheet_bytes T ++ rest) (held_says T (sheet_bytes T ++ rest) (written_holds T rest));
}

pub opens_nothing_else : OpensNothingElse
opens_nothing_else bs small w =
    let T = tables_of bs in
    let S = whole_says T bs w (same_refl T) in
    let front = once T bs (sheet_bytes T ++ []) (says_holds T (whole_fits bs w).some_state bs small S) (written_holds T []) in
    let sheet = take_at (sheet_bytes T) [] (sheet_length T) (length-map-range_with_len (byte_of T) 0 (sheet_length T)) in
    let e = total_is T bs S.heads in
    record {
      fits = whole_in_range bs w small;
      written = sym (take-append-drop (sheet_length T) bs) ∙ ap₂ (λ (f r : List ℕ). f ++ r) (front ∙ sheet) (ap (λ (m : ℕ). drop m bs) (sym e));
    }

pub equal_sheets : EqualSheets
equal_sheets bs cs small little w v same =
    let T = tables_of bs in
    let F = whole_fits bs w in
    let S = whole_says T bs w (same_refl T) in
    let U = whole_says T cs v same in
    let e = once T bs cs (says_holds T F.some_state bs small S) (says_holds T F.some_state cs little U) in
    ap (λ (m : ℕ). take m bs) (total_is T bs S.heads) ∙ e ∙ ap (λ (m : ℕ). take m cs) (sym (total_is T cs U.heads))

pub behind_ignored : BehindIgnored
behind_ignored bs w rest =
    let T = tables_of bs in
    let S = whole_says T bs w (same_refl T) in
    let e = total_is T bs S.heads in
    let opened : OpensTo T (take (sheet_length T) bs ++ rest) =
    opens_to T (whole_fits bs w) (take (sheet_length T) bs ++ rest) (front_says T bs (take (sheet_length T) bs ++ rest) S (fronted (sheet_length T) bs rest S.long)) in
    rw e opened
