-- `loadable` meets its contract: each part's test is that of the record's tables, and the index of its columns is that of its edges.
use Rattle.std.proofs.Common.{◌≡◌, ◌<◌, sym, ◌∙◌, true, false, ◌&&◌, ltb, arith}
use Rattle.common.specs.BoolLaws.{and_cases, same_test}
use Rattle.policy.specs.declared.Record.{Record}
use Rattle.policy.specs.Table.{head, user, edge}
use Rattle.policy.specs.Loadable.{table_loads, index_agrees}
use Rattle.policy.specs.LoadableLaws.{graph_loads, lists_load, relations_load, loadable_tests, index_agrees_lem}
use Rattle.policy.specs.RecordIndexLaws.{index_columns, edges_rise}
use Rattle.policy.proofs.loadable.loadable.Goals as goal

-- past the test of the tables: the edges load
edge_loads : (r : Record) → graph_loads r && lists_load r ≡ true → table_loads r edge ≡ true
edge_loads r e = (and_cases (table_loads r edge) _ (and_cases (table_loads r user) _ (and_cases (graph_loads r) _ e).0).1).0

pub returns-then-not-graph_loads-lists_load : goal.returns-then-not-graph_loads-lists_load
returns-then-not-graph_loads-lists_load c =
    let r = c.args.rules.now in
    let e : graph_loads r && lists_load r ≡ false =
    (λ i. sym c.graph_loads.ensures i && sym c.lists_load.ensures i) ∙ c.if-not-graph_loads-lists_load.true in
    let few : r.objects < 256 = (c.typed.ensures.fits head 0).1.0 in
    record {
      decides = (λ i. sym e i && ((ltb 0 r.objects && relations_load r) && index_agrees r)) ∙ loadable_tests r (omega arith);
      typed = c.typed.ensures;
    }

pub invariant_of-edges : goal.invariant_of-edges
invariant_of-edges c =
    let r = c.args.rules.now in
    let e : graph_loads r && lists_load r ≡ true =
    (λ i. sym c.graph_loads.ensures i && sym c.lists_load.ensures i) ∙ c.if-not-graph_loads-lists_load.false in
    edges_rise r (edge_loads r e) (omega arith)

pub returns : goal.returns
returns c =
    let r = c.args.rules.now in
    let e : graph_loads r && lists_load r ≡ true =
    (λ i. sym c.graph_loads.ensures i && sym c.lists_load.ensures i) ∙ c.if-not-graph_loads-lists_load.false in
    let same = index_columns r (edge_loads r e) in
    let indexed : c.agrees.result ≡ index_agrees r = same_test c.agrees.result (index_agrees r)
    (λ b. (index_agrees_lem r).1 (c.agrees.ensures.0 b ∙ sym same), λ b. c.agrees.ensures.1 ((index_agrees_lem r).0 b ∙ same)) in
    record {
      decides = (λ i. sym e i && ((ltb 0 r.objects && c.relations_load.ensures i) && indexed i)) ∙ loadable_tests r (omega arith);
      typed = c.typed.ensures;
    }
