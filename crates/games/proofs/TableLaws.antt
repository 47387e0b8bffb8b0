-- When a table's rows tell an arena.
use Rattle.std.proofs.Common.{◌≡◌, ℕ, ◌^◌, ◌<◌, ◌≤◌, false, List, get_or, replicate, None, refl, ◌∙◌, rules, arith, pow_mono}
use Rattle.std.proofs.lemmas.Grind.{common_steps}
use Rattle.automata.specs.Arena.{Arena}
use Rattle.automata.specs.Lawful.{LawfulArena}
use Rattle.games.specs.declared.table.Table.{Table}
use Rattle.games.specs.declared.table.Row.{Row}
use Rattle.games.specs.Tables.{blank, Holds, tabled, table_arena, lone}

module _ (A : Arena) (L : LawfulArena A) (rows : List Row) (h : (q : ℕ) → q < A.n → Holds A q (get_or rows q blank)) where
  abbrev told : Arena
  told = tabled A.a A.b A.n A.start A.k rows

  marked_same : (q : ℕ) → told.marked q ≡ A.marked q
  marked_same q = search (rules, h, L.mark_outside)

  right_same : (i q : ℕ) → told.right i q ≡ A.right i q
  right_same i q = grind (arith, common_steps, h q, L.right_outside i q, L.right_state_outside i q, L.no_zeroth q, L.few_rights)

  step_same : (q x y : ℕ) → told.step q x y ≡ A.step q x y
  step_same q x y =
      let few_readings : 2 ^ A.a ≤ 8 = pow_mono L.few_reading_bits in
      let few_commands : 2 ^ A.b ≤ 8 = pow_mono L.few_command_bits in
      grind (arith, common_steps, h q, L.state_outside q x y, L.reading_outside q x y, L.command_outside q x y, L.step_inside q x y)

  pub tells_arena : (a b n start k : ℕ) → a ≡ A.a → b ≡ A.b → n ≡ A.n → start ≡ A.start → k ≡ A.k → tabled a b n start k rows ≡ A
  tells_arena a b n start k ea eb en estart ek =
      (λ i. tabled (ea i) (eb i) (en i) (estart i) (ek i) rows)
      ∙ (λ i. record {
        a = A.a;
        b = A.b;
        n = A.n;
        start = A.start;
        k = A.k;
        marked = λ q. marked_same q i;
        right = λ j q. right_same j q i;
        step = λ q x y. step_same q x y i;
      })

lone_lawful : LawfulArena lone
lone_lawful = search rules

-- rows in which nothing is stored tell the lone arena
pub tells_lone : (rows : List Row) → rows ≡ replicate 256 (record { marked = false; rights = replicate 4 false; steps = replicate 8 (replicate 8 None) }) → tabled 0 0 1 0 0 rows ≡ lone
tells_lone rows e = tells_arena lone lone_lawful rows (λ q l. search rules) 0 0 1 0 0 refl refl refl refl refl

-- what a table tells is lawful
pub table_lawful : (t : Table) → LawfulArena (table_arena t)
table_lawful t = search rules
