-- Edges in columns: so many, and for each place a label and two ends.
use Rattle.std.specs.Prelude.{ℕ, ◌-◌, List}
use Rattle.edge_index.specs.declared.EdgeIndex.{EdgeIndex}
use Rattle.edge_index.specs.Index.{index_in}
use Rattle.edge_index.specs.Shifts.{less}

pub record EdgeColumns : Type 0 where
  pub count : ℕ
  pub labels : List ℕ
  pub sources : List ℕ
  pub targets : List ℕ

-- their index
abbrev pub columns_index : EdgeColumns → EdgeIndex
columns_index e = index_in e.count e.labels e.sources e.targets

-- the edges but the one at a place
abbrev pub all_but : ℕ → EdgeColumns → EdgeColumns
all_but place e =
    record {
      count = e.count - 1;
      labels = less place e.labels;
      sources = less place e.sources;
      targets = less place e.targets;
    }
