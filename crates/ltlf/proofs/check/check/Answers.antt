use Rattle.std.proofs.Common.{◌≡◌, ℕ, ◌+◌, List, sym, subst, rules}
use Rattle.ltlf.specs.Reading.{checked}
use Rattle.ltlf.specs.Laws.{Accepts, Refuses}
use Rattle.ltlf.proofs.Prefixes.{reads_as, accepts}
use Rattle.ltlf.proofs.Places.{refuses}
use Rattle.ltlf.proofs.check.check.Goals as goal

pub returns : goal.returns
returns c =
    let bits : ℕ = c.args.a + c.args.b in
    let text : List ℕ = c.args.text.now in
    let told : c.map.result ≡ checked bits text = search rules in
    record {
      told = told;
      reads = reads_as bits text;
      accepts = subst (Accepts bits text) (sym told) (accepts bits text);
      refuses = subst (Refuses bits text) (sym told) (refuses bits text);
    }
