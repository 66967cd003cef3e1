-- `lists_load` meets its contract: each table's test by its columns is that of the record's table (`LoadableLaws`).
use Rattle.std.proofs.Common.{◌∙◌, ◌&&◌}
use Rattle.policy.specs.LoadableLaws.{demarcation_columns, principal_columns, exclusion_columns, method_columns}
use Rattle.policy.proofs.loadable.lists_load.Goals as goal

pub returns : goal.returns
returns c =
    let r = c.args.rules.now in
    let demarcations = c.demarcations_load-demarcations.ensures ∙ demarcation_columns r in
    let principals = c.principals_load-principals.ensures ∙ principal_columns r in
    let exclusions = c.exclusions_load-exclusions.ensures ∙ exclusion_columns r in
    let methods = c.methods_load-methods.ensures ∙ method_columns r in
    λ i. demarcations i && (principals i && (exclusions i && methods i))
