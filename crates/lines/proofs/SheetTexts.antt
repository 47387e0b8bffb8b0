-- What written sheets print is what their tables and columns print.
use Rattle.std.proofs.Common.{◌≡◌, ℕ, ◌+◌, ◌^◌, ◌<◌, ◌≤◌, if◌then◌else◌, List, [], ◌++◌, codes, decimal, Ok, sym, ap, ap₂, ◌∙◌, append_assoc, arith, ◌==◌}
use Rattle.std.specs.Option.{unwrap_or}
use Rattle.ranges.specs.Ranges.{bits}
use Rattle.ranges.proofs.RangeLaws.{bits_same}
use Rattle.sheets.specs.Tables.{Tables, SameTables}
use Rattle.sheets.specs.Encoding.{set_of}
use Rattle.planner.specs.GroundFormat.{GroundTables}
use Rattle.planner.specs.GroundReading.{ReadsBack}
use Rattle.automata.specs.Arena.{Arena}
use Rattle.games.specs.declared.verdict.Verdict.{Verdict}
use Rattle.planner.specs.Planned.{planned_answer}
use Rattle.lines.specs.Jobs.{sheet_text, answer_text, arena_text}
use Rattle.lines.specs.Verdicts.{verdict_line}
use Rattle.lines.specs.Texts.{texts}
use Rattle.lines.specs.Ranks.{set_texts, rank_line, rank_lines_of, rank_lines}
use Rattle.lines.specs.Columns.{column_reading, column_texts, column_line, column_lines}
use Rattle.lines.proofs.TextLaws.{texts_same}

module _ (T U : Tables) (s : SameTables T U) where
  same_set : (c q x : ℕ) → c ≤ T.k → q < T.n → x < 2 ^ T.a → set_of T c q x ≡ set_of U c q x
  same_set c q x lc lq lx =
      bits_same (2 ^ T.b) (λ y. T.permits c q x y) (λ y. U.permits c q x y) (λ y ly. s.same_permits c q x y lc lq lx ly)
      ∙ ap (λ b. bits (2 ^ b) (λ y. U.permits c q x y)) s.same_b

  same_sets : (c q : ℕ) → c ≤ T.k → q < T.n → set_texts T c q ≡ set_texts U c q
  same_sets c q lc lq =
      texts_same (2 ^ T.a) (λ x. codes " " ++ decimal (set_of T c q x)) (λ x. codes " " ++ decimal (set_of U c q x)) (λ x lx. ap (λ n. codes " " ++ decimal n) (same_set c q x lc lq lx))
      ∙ ap (λ a. texts (2 ^ a) (λ x. codes " " ++ decimal (set_of U c q x))) s.same_a

  same_line : (c q : ℕ) → c ≤ T.k → q < T.n → rank_line T c q ≡ rank_line U c q
  same_line c q lc lq =
      ap₂ (λ r (sets : List ℕ). if r == 65535 then [] else ((decimal c ++ (codes " " ++ (decimal q ++ (codes " " ++ decimal r)))) ++ sets) ++ codes "\n") (s.same_rank c q lc lq) (same_sets c q lc lq)

  same_column : (c : ℕ) → c ≤ T.k → rank_lines_of T c ≡ rank_lines_of U c
  same_column c lc = texts_same T.n (rank_line T c) (rank_line U c) (λ q lq. same_line c q lc lq) ∙ ap (λ n. texts n (rank_line U c)) s.same_n

  pub same_rank_lines : rank_lines T ≡ rank_lines U
  same_rank_lines =
      texts_same (T.k + 1) (rank_lines_of T) (rank_lines_of U) (λ c lc. same_column c (omega arith)) ∙ ap (λ k. texts (k + 1) (rank_lines_of U)) s.same_k

module _ (G : GroundTables) (bs : List ℕ) (back : ReadsBack G bs) where
  same_reading : (c q : ℕ) → c ≤ G.k → q < G.n → column_reading bs c q ≡ G.byte c q
  same_reading c q lc lq = ap (λ o. unwrap_or o 255) (back c q lc lq)

  same_texts : (c : ℕ) → c ≤ G.k → column_texts (column_reading bs c) G.n ≡ column_texts (G.byte c) G.n
  same_texts c lc = texts_same G.n (λ q. codes " " ++ decimal (column_reading bs c q)) (λ q. codes " " ++ decimal (G.byte c q)) (λ q lq. ap (λ b. codes " " ++ decimal b) (same_reading c q lc lq))

  pub same_column_lines : column_lines (column_reading bs) G.n G.k ≡ column_lines G.byte G.n G.k
  same_column_lines =
      texts_same (G.k + 1) (column_line (column_reading bs) G.n) (column_line G.byte G.n) (λ c lc. ap (λ t. (decimal c ++ t) ++ codes "\n") (same_texts c (omega arith)))

-- the verdict's line and what follows it
pub verdict_shown : (A : Arena) (size : ℕ) (v : Verdict) (n k : ℕ) (start : List ℕ) {mid here now : List ℕ} → planned_answer A size ≡ Ok v → n ≡ A.n → k ≡ A.k
    → mid ≡ start ++ verdict_line v n k → now ≡ mid ++ here → here ≡ sheet_text A v → now ≡ start ++ arena_text A size
verdict_shown A size v n k start p en ek m e h =
    e ∙ ap₂ ◌++◌ (m ∙ ap₂ (λ i j. start ++ verdict_line v i j) en ek) h
    ∙ append_assoc start (verdict_line v A.n A.k) (sheet_text A v) ∙ ap (λ a. start ++ answer_text A a) (sym p)
