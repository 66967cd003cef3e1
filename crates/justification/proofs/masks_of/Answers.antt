-- `masks_of` meets its contract: each part is as the function that makes it says.
use Rattle.std.proofs.Common.{refl, arith}
use Rattle.justification.proofs.masks_of.Goals as goal

pub returns : goal.returns
returns c =
    let needs = c.leading_to-needs.ensures in
    record {
      few = c.requires.few;
      count = refl;
      permitted = refl;
      excludes = λ p q lp lq. c.excludes_of-excludes.ensures p q (omega (arith, c.requires.few));
      needed = λ p q lp i. ((needs p lp).only q i).0;
      needs = λ p q lp lq. (λ i. ((needs p lp).only q i).1, λ e. (needs p lp).all q lq e);
      grants = c.grants_of-grants.ensures;
      role_principals_of = c.role_principals-roles.ensures;
      every = refl;
      wanted = c.listed.ensures.0;
      bounded = c.listed.ensures.1;
    }
