-- `consistent` meets its contract: each member is below the count, so it is among those that are tested.
use Rattle.std.proofs.Common.{refl, rules, arith}
use Rattle.std.proofs.lemmas.Grind.{common_steps}
use Rattle.std.proofs.lemmas.Iterator.{cases_from_all, YieldsList-from_range}
use Rattle.common.specs.Sets.{In}
use Rattle.common.specs.SetLaws.{in_lt}
use Rattle.search.specs.Search.{ConsistentIn}
use Rattle.search.proofs.Decide.{all_below}
use Rattle.search.proofs.Masks.consistent.Goals as goal

pub returns : goal.returns
returns c =
    let r = c.args.self.now in
    let s = c.args.s in
    let tested = cases_from_all _ _ c.all.result (λ p. In p s → ConsistentIn r s p) (λ p. In p s) c.all.ensures.ran
    (YieldsList-from_range 0 r.count r.count refl (omega arith)) (λ x q k. search rules) (λ x q k. search rules) in
    record {
      yes = λ t p i. all_below (λ q. In q s → ConsistentIn r s q) _ r.count tested t p (in_lt _ i c.requires) i;
      no = λ t f. grind (arith, common_steps);
    }
