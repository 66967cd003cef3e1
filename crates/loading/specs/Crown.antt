-- The crown bundle of document 01, line by line, and the record that it says.
use Rattle.std.specs.Prelude.{ℕ, ◌-◌, ◌≡◌, refl, List, [], ◌∷◌, replicate}
use Rattle.common.specs.Limits.{most_users, most_edges, most_formulas, most_demarcations, most_pairs, most_principals, most_exclusions}
use Rattle.common.specs.Limits.{most_methods}
use Rattle.octets.specs.Line.{text_of}
use Rattle.edge_index.specs.declared.EdgeIndex.{EdgeIndex}
use Rattle.policy.specs.declared.Record.{Record}
use Rattle.policy.specs.Table.{emptied}
use Rattle.loading.specs.Examples.{computing}
use Rattle.reading.specs.Loading.{load}

-- objects 0 crown, 1 Ana (role 0), 2 Ben (no role)
abbrev pub crown_lines : List (List ℕ)
crown_lines =
    (0x02 ∷ 0x01 ∷ 0x01 ∷ 0x03 ∷ 0xF9 ∷ []) ∷
    (0x03 ∷ 0x02 ∷ 0x01 ∷ 0x00 ∷ 0x01 ∷ 0xF9 ∷ []) ∷
    (0x03 ∷ 0x02 ∷ 0x02 ∷ 0x00 ∷ 0x00 ∷ 0xF9 ∷ []) ∷
    (0x03 ∷ 0x03 ∷ 0x00 ∷ 0x00 ∷ 0x01 ∷ 0xF9 ∷ []) ∷
    (0x03 ∷ 0x03 ∷ 0x01 ∷ 0x00 ∷ 0x01 ∷ 0xF8 ∷ []) ∷
    (0x03 ∷ 0x03 ∷ 0x01 ∷ 0x00 ∷ 0x02 ∷ 0xF7 ∷ []) ∷
    (0x03 ∷ 0x04 ∷ 0x01 ∷ 0x00 ∷ 0x00 ∷ 0xF8 ∷ []) ∷
    (0x03 ∷ 0x04 ∷ 0x07 ∷ 0x00 ∷ 0x00 ∷ 0xF2 ∷ []) ∷
    (0x03 ∷ 0x04 ∷ 0x07 ∷ 0x01 ∷ 0x00 ∷ 0xF1 ∷ []) ∷
    (0x03 ∷ 0x04 ∷ 0x03 ∷ 0x00 ∷ 0x00 ∷ 0xF6 ∷ []) ∷
    (0x08 ∷ 0x05 ∷ 0x00 ∷ 0x00 ∷ 0x00 ∷ 0x00 ∷ 0x00 ∷ 0x00 ∷ 0x00 ∷ 0x01 ∷ 0xF2 ∷ []) ∷
    (0x08 ∷ 0x05 ∷ 0x00 ∷ 0x00 ∷ 0x00 ∷ 0x00 ∷ 0x00 ∷ 0x00 ∷ 0x00 ∷ 0x02 ∷ 0xF1 ∷ []) ∷
    (0x08 ∷ 0x05 ∷ 0x00 ∷ 0x00 ∷ 0x00 ∷ 0x00 ∷ 0x00 ∷ 0x00 ∷ 0x00 ∷ 0x04 ∷ 0xEF ∷ []) ∷
    (0x02 ∷ 0x06 ∷ 0x00 ∷ 0x01 ∷ 0xF7 ∷ []) ∷
    (0x02 ∷ 0x07 ∷ 0x01 ∷ 0x02 ∷ 0xF4 ∷ []) ∷
    (0x02 ∷ 0x07 ∷ 0x02 ∷ 0x01 ∷ 0xF4 ∷ []) ∷
    (0x02 ∷ 0x07 ∷ 0x03 ∷ 0x00 ∷ 0xF4 ∷ []) ∷
    (0x02 ∷ 0x08 ∷ 0x00 ∷ 0x01 ∷ 0xF5 ∷ []) ∷
    (0x02 ∷ 0x09 ∷ 0x02 ∷ 0x01 ∷ 0xF2 ∷ []) ∷
    (0x09 ∷ 0x0A ∷ 0x01 ∷ 0x00 ∷ 0x00 ∷ 0x00 ∷ 0x00 ∷ 0x00 ∷ 0x00 ∷ 0x00 ∷ 0x03 ∷ 0xE9 ∷ []) ∷
    (0x09 ∷ 0x0A ∷ 0x00 ∷ 0x00 ∷ 0x00 ∷ 0x00 ∷ 0x00 ∷ 0x00 ∷ 0x00 ∷ 0x00 ∷ 0x04 ∷ 0xE9 ∷ []) ∷
    (0x09 ∷ 0x0A ∷ 0x01 ∷ 0x00 ∷ 0x00 ∷ 0x00 ∷ 0x00 ∷ 0x00 ∷ 0x00 ∷ 0x00 ∷ 0x00 ∷ 0xEC ∷ []) ∷
    (0x09 ∷ 0x0A ∷ 0x01 ∷ 0x00 ∷ 0x00 ∷ 0x00 ∷ 0x00 ∷ 0x00 ∷ 0x00 ∷ 0x00 ∷ 0x07 ∷ 0xE5 ∷ []) ∷
    (0x06 ∷ 0xFF ∷ 0x00 ∷ 0x17 ∷ 0x00 ∷ 0x00 ∷ 0x17 ∷ 0x00 ∷ 0xCD ∷ []) ∷
    []

abbrev pub crown : List ℕ
crown = text_of crown_lines

-- one edge with label 0, two with label 1; they rise by label, to, from as they do by label, from, to
abbrev crown_index : EdgeIndex
crown_index = record { firsts = 0 ∷ 1 ∷ replicate 14 3; counts = 1 ∷ 2 ∷ replicate 14 0; places = 0 ∷ 1 ∷ 2 ∷ replicate (most_edges - 3) 0 }

-- document 01, "The crown table"
abbrev pub crown_record : Record
crown_record =
    record {
      objects = 3;
      user_count = 2;
      user_objects = 1 ∷ 2 ∷ replicate (most_users - 2) 0;
      user_roles = 1 ∷ 0 ∷ replicate (most_users - 2) 0;
      edge_count = 3;
      edge_labels = 0 ∷ 1 ∷ 1 ∷ replicate (most_edges - 3) 0;
      edge_sources = 0 ∷ 0 ∷ 0 ∷ replicate (most_edges - 3) 0;
      edge_targets = 1 ∷ 1 ∷ 2 ∷ replicate (most_edges - 3) 0;
      formula_count = 4;
      formula_ops = 1 ∷ 7 ∷ 7 ∷ 3 ∷ replicate (most_formulas - 4) 0;
      formula_lefts = 0 ∷ 0 ∷ 1 ∷ 0 ∷ replicate (most_formulas - 4) 0;
      formula_rights = 0 ∷ 0 ∷ 0 ∷ 0 ∷ replicate (most_formulas - 4) 0;
      demarcation_count = 3;
      demarcation_privileges = 1 ∷ 2 ∷ 4 ∷ replicate (most_demarcations - 3) 0;
      hierarchy_count = 1;
      inferiors = 0 ∷ replicate (most_pairs - 1) 0;
      superiors = 1 ∷ replicate (most_pairs - 1) 0;
      principal_count = 3;
      principal_formulas = 1 ∷ 2 ∷ 3 ∷ replicate (most_principals - 3) 0;
      principal_demarcations = 2 ∷ 1 ∷ 0 ∷ replicate (most_principals - 3) 0;
      exclusion_count = 1;
      exclusion_lows = 0 ∷ replicate (most_exclusions - 1) 0;
      exclusion_highs = 1 ∷ replicate (most_exclusions - 1) 0;
      prerequisite_count = 1;
      prerequisites = 2 ∷ replicate (most_pairs - 1) 0;
      dependents = 1 ∷ replicate (most_pairs - 1) 0;
      method_count = 4;
      method_forms = 1 ∷ 0 ∷ 1 ∷ 1 ∷ replicate (most_methods - 4) 0;
      method_privileges = 3 ∷ 4 ∷ 0 ∷ 7 ∷ replicate (most_methods - 4) 0;
      index = crown_index;
      memo = emptied 0 0;
    }

-- the crown bundle loads to that record
pub crown_loads : load crown ≡ record { number = 0; line = 0; rules = crown_record }
unfolding computing
crown_loads = refl
