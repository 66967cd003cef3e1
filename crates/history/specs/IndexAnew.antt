-- Request 2026-04: "From a loaded bundle, after every list of edits the index is the one that building anew would give."
use Rattle.std.specs.Prelude.{◌≡◌}
use Rattle.edge_index.specs.Index.{Indexes}
use Rattle.policy.specs.declared.Record.{Record}
use Rattle.policy.specs.Table.{edge, rows, index_of, indexed}

-- the record's index is the one of its edges: as `index_of` builds it from their list, as loading builds it into a record, and by what holds
-- of it (each label's first place and number; the places ordered by label, then to, then from; unused places zero)
pub record IndexAnew (r : Record) : Type 0 where
  pub built : r.index ≡ index_of (rows edge r)
  pub loaded : indexed r ≡ r
  pub indexes : Indexes r.edge_count r.edge_labels r.edge_sources r.edge_targets r.index
