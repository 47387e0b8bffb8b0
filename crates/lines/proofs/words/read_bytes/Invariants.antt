use Rattle.std.proofs.Common.{◌≡◌, ℕ, List, ◌++◌}
use Rattle.std.specs.Str.Iter.{split_whitespace_rest}
use Rattle.lines.specs.Words.{SplitsTo, AllWrite}
use Rattle.lines.proofs.words.read_bytes.Given as goal

-- the words so far are the numbers behind the old bytes
abbrev pub invariant-loop-word : goal.invariant-loop-word
invariant-loop-word l =
    (ws : List (List ℕ)) × (ns : List ℕ) × SplitsTo l.text ws (split_whitespace_rest l.word-iterator) × AllWrite 8 ws ns × (l.bytes.items ≡ l.fn.bytes.items ++ ns)
