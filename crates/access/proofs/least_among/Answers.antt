-- `least_among` meets its contract: the masks are the record's, but for who is allowed.
use Rattle.std.proofs.Common.{refl}
use Rattle.justification.proofs.MaskLaws.{least_masked}
use Rattle.access.proofs.Choosing.{least_found}
use Rattle.access.proofs.least_among.Goals as goal

pub returns : goal.returns
returns c =
    λ r m a k. least_found _ _ (least_masked r m c.args.allowed _ (record {
      few = k.few;
      count = k.count;
      permitted = refl;
      excludes = k.excludes;
      needed = k.needed;
      needs = k.needs;
      grants = k.grants;
      role_principals_of = k.role_principals_of;
      every = k.every;
      wanted = k.wanted;
      bounded = k.bounded;
    }) c.least.ensures)
