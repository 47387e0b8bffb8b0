use Rattle.std.proofs.Common.{◌≡◌, ap, ap₂, ◌∙◌, arith}
use Rattle.sheets.specs.declared.layout.Places.{Places}
use Rattle.sheets.specs.Placed.{places_of, places_for}
use Rattle.sheets.proofs.Places.{sizes, power_small}
use Rattle.planner.proofs.places.lay_out.Goals as goal

-- there are as many readings and commands as their bits tell
placed : (c : goal.After-lay_out) → c.lay_out.result ≡ places_of c.args.numbers.reading_bits c.args.numbers.command_bits c.args.numbers.rights c.args.numbers.count
placed c =
    let n = c.args.numbers in
    c.lay_out.ensures ∙ ap₂ (λ r s. places_for r s n.rights n.count) (power_small n.reading_bits c.requires.readings) (power_small n.command_bits c.requires.commands)

pub returns-clause-steps : goal.returns-clause-steps
returns-clause-steps c = ap (λ (p : Places). p.steps) (placed c)

pub returns-clause-ranks : goal.returns-clause-ranks
returns-clause-ranks c = ap (λ (p : Places). p.ranks) (placed c)

pub returns-clause-sets : goal.returns-clause-sets
returns-clause-sets c = ap (λ (p : Places). p.sets) (placed c)

pub returns-clause-total : goal.returns-clause-total
returns-clause-total c = ap (λ (p : Places). p.total) (placed c)

pub returns-clause-small : goal.returns-clause-small
returns-clause-small c =
    let n = c.args.numbers in
    let z = sizes n.reading_bits n.command_bits n.rights n.count c.requires.readings c.requires.commands c.requires.rights c.requires.states in
    omega (arith, ap (λ (p : Places). p.total) (placed c), z.cells, z.ranks, z.sets)
