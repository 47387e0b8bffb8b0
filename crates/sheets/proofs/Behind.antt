-- Bytes with the same front say the same.
use Rattle.std.proofs.Common.{◌≡◌, ℕ, ◌+◌, ◌*◌, ◌^◌, ◌<◌, ◌≤◌, List, ◌++◌, length, take, sym, ◌∙◌, ap₂, arith}
use Rattle.std.proofs.lemmas.List.{get_or_append_left, get_or-take, length-append, length-take-le}
use Rattle.sheets.specs.Tables.{Tables}
use Rattle.sheets.specs.Format.{byte, word, lawful_byte, step_word, rank_word, set_byte}
use Rattle.sheets.specs.Encoding.{steps_offset, ranks_offset, sets_offset, sheet_length, lawful_of, field_of, set_of}
use Rattle.sheets.proofs.Places.{row_in, cell_in}
use Rattle.sheets.proofs.Says.{Heads, Says, step_at, rank_at, set_at}

pub record Fronted (m : ℕ) (bs cs : List ℕ) : Type 0 where
  pub agrees : (i : ℕ) → i < m → byte cs i ≡ byte bs i
  pub long : m ≤ length cs

pub fronted : (m : ℕ) (bs rest : List ℕ) → m ≤ length bs → Fronted m bs (take m bs ++ rest)
fronted m bs rest h =
    let n = length-take-le m bs h in
    record {
      agrees = λ i l. get_or_append_left (take m bs) rest 0 i (omega (arith, n)) ∙ get_or-take m bs i 0 l;
      long = omega (arith, n, length-append (take m bs) rest);
    }

module _ (T : Tables) (bs cs : List ℕ) (S : Says T bs) (F : Fronted (sheet_length T) bs cs) where
  byte_is : (i v : ℕ) → i < sheet_length T → byte bs i ≡ v → byte cs i ≡ v
  byte_is i v h e = F.agrees i h ∙ e

  word_is : (i v : ℕ) → i + 1 < sheet_length T → word bs i ≡ v → word cs i ≡ v
  unfolding word
  word_is i v h e = ap₂ (λ (l m : ℕ). l + 256 * m) (F.agrees i (omega arith)) (F.agrees (i + 1) h) ∙ e

  heads : Heads T cs
  heads =
      let H = S.heads in
      record {
        reading_bits_are = byte_is 3 T.a (omega arith) H.reading_bits_are;
        command_bits_are = byte_is 4 T.b (omega arith) H.command_bits_are;
        rights_are = byte_is 5 T.k (omega arith) H.rights_are;
        count_is = word_is 6 T.n (omega arith) H.count_is;
      }

  lawful_says : (q : ℕ) → q < T.n → lawful_byte cs q ≡ lawful_of T q
  unfolding lawful_byte
  lawful_says q hq = byte_is (20 + q) (lawful_of T q) (omega arith) (S.lawful_is q hq)

  step_says : (q x y : ℕ) → q < T.n → x < 2 ^ T.a → y < 2 ^ T.b → step_word cs q x y ≡ field_of (T.step q x y)
  step_says q x y hq hx hy =
      let l = cell_in T.n (2 ^ T.a) (2 ^ T.b) q x y hq hx hy in
      step_at T cs heads q x y ∙ word_is _ (field_of (T.step q x y)) (omega arith) (sym (step_at T bs S.heads q x y) ∙ S.step_is q x y hq hx hy)

  rank_says : (c q : ℕ) → c ≤ T.k → q < T.n → rank_word cs c q ≡ T.rank c q
  rank_says c q hc hq =
      let c' : c < T.k + 1 = omega arith in
      let l = row_in (T.k + 1) T.n c q c' hq in
      rank_at T cs heads c q ∙ word_is _ (T.rank c q) (omega arith) (sym (rank_at T bs S.heads c q) ∙ S.rank_is c q hc hq)

  set_says : (c q x : ℕ) → c ≤ T.k → q < T.n → x < 2 ^ T.a → set_byte cs c q x ≡ set_of T c q x
  set_says c q x hc hq hx =
      let c' : c < T.k + 1 = omega arith in
      let l = cell_in (T.k + 1) T.n (2 ^ T.a) c q x c' hq hx in
      set_at T cs heads c q x ∙ byte_is _ (set_of T c q x) (omega arith) (sym (set_at T bs S.heads c q x) ∙ S.set_is c q x hc hq hx)

  pub front_says : Says T cs
  front_says = record {
    heads = heads;
    first = byte_is 0 68 (omega arith) S.first;
    second = byte_is 1 83 (omega arith) S.second;
    third = byte_is 2 1 (omega arith) S.third;
    start_is = word_is 8 T.start (omega arith) S.start_is;
    lawful_begins = word_is 10 20 (omega arith) S.lawful_begins;
    steps_begin = word_is 12 (steps_offset T) (omega arith) S.steps_begin;
    ranks_begin = word_is 14 (ranks_offset T) (omega arith) S.ranks_begin;
    sets_begin = word_is 16 (sets_offset T) (omega arith) S.sets_begin;
    ends = word_is 18 (sheet_length T) (omega arith) S.ends;
    long = F.long;
    lawful_is = lawful_says;
    step_is = step_says;
    rank_is = rank_says;
    set_is = set_says;
  }
