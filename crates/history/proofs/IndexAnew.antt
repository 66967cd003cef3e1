-- From a loaded bundle, after every list of calls, the index is the one that building anew would give.
use Rattle.std.specs.Prelude.{ℕ, ◌≡◌, List}
use Rattle.std.proofs.Common.{sym, subst}
use Rattle.edge_index.specs.Index.{Indexes}
use Rattle.edge_index.specs.IndexLaws.{indexes_of}
use Rattle.policy.specs.LoadableLaws.{own_index}
use Rattle.policy.specs.RecordIndexLaws.{loadable_indexed, built_anew}
use Rattle.reading.specs.Loading.{load}
use Rattle.history.specs.Book.{Call, first_book, engine_after}
use Rattle.history.specs.IndexAnew.{IndexAnew}
use Rattle.history.proofs.Theorem.{start, list_agrees}

-- THE THEOREM, of every text that loads and every list of calls: edits, and questions and tickets between them, refused ones included
pub index_anew : (text : List ℕ) → (load text).number ≡ 0 → (calls : List Call) → IndexAnew (engine_after (load text).rules calls)
index_anew text e calls =
    let r = engine_after (load text).rules calls in
    let loads = (list_agrees (load text).rules calls (first_book text) (load text).rules (start text e)).loads in
    let i = loadable_indexed r loads in
    record {
      built = own_index r loads;
      loaded = built_anew r loads;
      indexes =
          subst (Indexes r.edge_count r.edge_labels r.edge_sources r.edge_targets) (sym i.index) (indexes_of i.rises);
    }
