-- A request: an object and a requestor, on the rules of a record.
use Rattle.std.specs.Prelude.{ℕ, ◌≡◌}
use Rattle.common.specs.Sets.{member}
use Rattle.edge_index.specs.Index.{Indexed}
use Rattle.policy.specs.declared.Record.{Record}
use Rattle.formula.specs.Formula.{holds_role}

-- what a contract sees of it
pub record Asked : Type 0 where
  pub rules : Record
  pub object : ℕ
  pub requestor : ℕ

-- the roles in a set of weights are those that requestor s holds
abbrev pub RolesHeld : Record → ℕ → ℕ → Type 0
RolesHeld r s roles = (a : ℕ) → member a roles ≡ holds_role r s a

-- the index of a record's edges is theirs
abbrev pub IsIndexed : Record → Type 0
IsIndexed r = Indexed r.edge_count r.edge_labels r.edge_sources r.edge_targets r.index.firsts r.index.counts r.index.places
