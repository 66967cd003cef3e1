-- `graph_loads` meets its contract: each table's test by its columns is that of the record's table (`LoadableLaws`).
use Rattle.std.proofs.Common.{◌∙◌, ◌&&◌}
use Rattle.policy.specs.LoadableLaws.{user_columns, edge_columns, formula_columns}
use Rattle.policy.proofs.loadable.graph_loads.Goals as goal

pub returns : goal.returns
returns c =
    let r = c.args.rules.now in
    let users = c.users_load-users.ensures ∙ user_columns r in
    let edges = c.edges_load-edges.ensures ∙ edge_columns r in
    let formulas = c.formulas_load-formulas.ensures ∙ formula_columns r in
    λ i. users i && (edges i && formulas i)
