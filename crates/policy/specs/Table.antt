-- The record: every kind of line is a table, a count and a column for each number of the line's body, in the order of the lines.
use Rattle.std.specs.Prelude.{ℕ, ◌+◌, Bool, false, cond, List, [], ◌∷◌, map, length, set, replicate, eqb}
use Rattle.common.specs.Limits.{most_users, most_edges, most_formulas, most_demarcations, most_principals, most_methods, most_pairs}
use Rattle.common.specs.Limits.{most_exclusions, label_count}
use Rattle.common.specs.Lists.{at, table}
use Rattle.edge_index.specs.declared.EdgeIndex.{EdgeIndex}
pub use Rattle.edge_index.specs.Index.{column, index_of}
use Rattle.policy.specs.declared.Record.{Record}
use Rattle.policy.specs.declared.Memo.{Memo}

pub data Kind : Type 0 where
  head user edge formula demarcation hierarchy principal exclusion prerequisite method end : Kind

-- the kind octet
abbrev pub code : Kind → ℕ
code head = 0x01
code user = 0x02
code edge = 0x03
code formula = 0x04
code demarcation = 0x05
code hierarchy = 0x06
code principal = 0x07
code exclusion = 0x08
code prerequisite = 0x09
code method = 0x0A
code end = 0xFF

-- the kind with this octet; of an octet that is no kind's this is `end`, whose code is another
abbrev pub kind_of : ℕ → Kind
kind_of c =
    cond (eqb c 0x01) head
    (cond (eqb c 0x02) user
    (cond (eqb c 0x03) edge
    (cond (eqb c 0x04) formula
    (cond (eqb c 0x05) demarcation
    (cond (eqb c 0x06) hierarchy
    (cond (eqb c 0x07) principal
    (cond (eqb c 0x08) exclusion
    (cond (eqb c 0x09) prerequisite
    (cond (eqb c 0x0A) method
    end)))))))))

abbrev pub is_kind : Kind → Kind → Bool
is_kind j k = eqb (code j) (code k)

-- the kinds whose lines the record holds, in the order of the lines
abbrev pub kinds : List Kind
kinds = head ∷ user ∷ edge ∷ formula ∷ demarcation ∷ hierarchy ∷ principal ∷ exclusion ∷ prerequisite ∷ method ∷ []

-- how many lines of a kind the record holds
abbrev pub count : Kind → Record → ℕ
count head r = 1
count user r = r.user_count
count edge r = r.edge_count
count formula r = r.formula_count
count demarcation r = r.demarcation_count
count hierarchy r = r.hierarchy_count
count principal r = r.principal_count
count exclusion r = r.exclusion_count
count prerequisite r = r.prerequisite_count
count method r = r.method_count
count end r = 0

-- the columns of a kind's table (of the head: the version 1, the object count)
abbrev pub columns : Kind → Record → List (List ℕ)
columns head r = (1 ∷ []) ∷ (r.objects ∷ []) ∷ []
columns user r = r.user_objects ∷ r.user_roles ∷ []
columns edge r = r.edge_labels ∷ r.edge_sources ∷ r.edge_targets ∷ []
columns formula r = r.formula_ops ∷ r.formula_lefts ∷ r.formula_rights ∷ []
columns demarcation r = r.demarcation_privileges ∷ []
columns hierarchy r = r.inferiors ∷ r.superiors ∷ []
columns principal r = r.principal_formulas ∷ r.principal_demarcations ∷ []
columns exclusion r = r.exclusion_lows ∷ r.exclusion_highs ∷ []
columns prerequisite r = r.prerequisites ∷ r.dependents ∷ []
columns method r = r.method_forms ∷ r.method_privileges ∷ []
columns end r = []

-- the numbers of a body, by how many octets each has
abbrev pub widths : Kind → List ℕ
widths head = 1 ∷ 1 ∷ []
widths user = 1 ∷ 2 ∷ []
widths edge = 1 ∷ 1 ∷ 1 ∷ []
widths formula = 1 ∷ 1 ∷ 1 ∷ []
widths demarcation = 8 ∷ []
widths hierarchy = 1 ∷ 1 ∷ []
widths principal = 1 ∷ 1 ∷ []
widths exclusion = 1 ∷ 1 ∷ []
widths prerequisite = 1 ∷ 1 ∷ []
widths method = 1 ∷ 8 ∷ []
widths end = 2 ∷ 4 ∷ []

-- how many lines the table of a kind has room for
abbrev pub room : Kind → ℕ
room head = 1
room user = most_users
room edge = most_edges
room formula = most_formulas
room demarcation = most_demarcations
room hierarchy = most_pairs
room principal = most_principals
room exclusion = most_exclusions
room prerequisite = most_pairs
room method = most_methods
room end = 0

-- the line at a row of a kind's table, as the numbers of its body; all of the lines
abbrev pub row : Kind → ℕ → Record → List ℕ
row k i r = map (λ c. at c i) (columns k r)

abbrev pub rows : Kind → Record → List (List ℕ)
rows k r = table (count k r) (λ i. row k i r)

-- the edges of three columns, so many of them
abbrev pub edges_of : ℕ → List ℕ → List ℕ → List ℕ → List (List ℕ)
edges_of n labels sources targets = table n (λ i. at labels i ∷ at sources i ∷ at targets i ∷ [])

-- ---- records

-- a memo that knows nothing, for the pair (object, requestor)
unfoldable pub emptied : ℕ → ℕ → Memo
emptied o s = record { object = o; requestor = s; known = replicate most_formulas false; value = replicate most_formulas false }

-- the index of no edges
unfoldable pub no_index : EdgeIndex
no_index = record { firsts = replicate label_count 0; counts = replicate label_count 0; places = replicate most_edges 0 }

-- the blank record: one object and nothing else
unfoldable pub blank : Record
blank =
    record {
      objects = 1;
      user_count = 0;
      user_objects = replicate most_users 0;
      user_roles = replicate most_users 0;
      edge_count = 0;
      edge_labels = replicate most_edges 0;
      edge_sources = replicate most_edges 0;
      edge_targets = replicate most_edges 0;
      formula_count = 0;
      formula_ops = replicate most_formulas 0;
      formula_lefts = replicate most_formulas 0;
      formula_rights = replicate most_formulas 0;
      demarcation_count = 0;
      demarcation_privileges = replicate most_demarcations 0;
      hierarchy_count = 0;
      inferiors = replicate most_pairs 0;
      superiors = replicate most_pairs 0;
      principal_count = 0;
      principal_formulas = replicate most_principals 0;
      principal_demarcations = replicate most_principals 0;
      exclusion_count = 0;
      exclusion_lows = replicate most_exclusions 0;
      exclusion_highs = replicate most_exclusions 0;
      prerequisite_count = 0;
      prerequisites = replicate most_pairs 0;
      dependents = replicate most_pairs 0;
      method_count = 0;
      method_forms = replicate most_methods 0;
      method_privileges = replicate most_methods 0;
      index = no_index;
      memo = emptied 0 0;
    }

-- a line of kind k is taken: of kind j's table the count is one more, and a column has v at the first unused row; other kinds' tables stay
abbrev pub more : Kind → Kind → Record → ℕ
more k j r = cond (is_kind k j) (count j r + 1) (count j r)

abbrev pub put : Kind → Kind → Record → List ℕ → ℕ → List ℕ
put k j r column v = cond (is_kind k j) (set column (count j r) v) column

-- the record with one line more, of kind k and with the numbers v
unfoldable pub appended : Kind → Record → List ℕ → Record
appended k r v =
    record {
      objects = cond (is_kind k head) (at v 1) r.objects;
      user_count = more k user r;
      user_objects = put k user r r.user_objects (at v 0);
      user_roles = put k user r r.user_roles (at v 1);
      edge_count = more k edge r;
      edge_labels = put k edge r r.edge_labels (at v 0);
      edge_sources = put k edge r r.edge_sources (at v 1);
      edge_targets = put k edge r r.edge_targets (at v 2);
      formula_count = more k formula r;
      formula_ops = put k formula r r.formula_ops (at v 0);
      formula_lefts = put k formula r r.formula_lefts (at v 1);
      formula_rights = put k formula r r.formula_rights (at v 2);
      demarcation_count = more k demarcation r;
      demarcation_privileges = put k demarcation r r.demarcation_privileges (at v 0);
      hierarchy_count = more k hierarchy r;
      inferiors = put k hierarchy r r.inferiors (at v 0);
      superiors = put k hierarchy r r.superiors (at v 1);
      principal_count = more k principal r;
      principal_formulas = put k principal r r.principal_formulas (at v 0);
      principal_demarcations = put k principal r r.principal_demarcations (at v 1);
      exclusion_count = more k exclusion r;
      exclusion_lows = put k exclusion r r.exclusion_lows (at v 0);
      exclusion_highs = put k exclusion r r.exclusion_highs (at v 1);
      prerequisite_count = more k prerequisite r;
      prerequisites = put k prerequisite r r.prerequisites (at v 0);
      dependents = put k prerequisite r r.dependents (at v 1);
      method_count = more k method r;
      method_forms = put k method r r.method_forms (at v 0);
      method_privileges = put k method r r.method_privileges (at v 1);
      index = r.index;
      memo = r.memo;
    }

-- the record with these fields of the edges, this index, and this memo
abbrev pub with_edges : Record → ℕ → List ℕ → List ℕ → List ℕ → EdgeIndex → Memo → Record
with_edges r n labels sources targets x m =
    record {
      objects = r.objects;
      user_count = r.user_count;
      user_objects = r.user_objects;
      user_roles = r.user_roles;
      edge_count = n;
      edge_labels = labels;
      edge_sources = sources;
      edge_targets = targets;
      formula_count = r.formula_count;
      formula_ops = r.formula_ops;
      formula_lefts = r.formula_lefts;
      formula_rights = r.formula_rights;
      demarcation_count = r.demarcation_count;
      demarcation_privileges = r.demarcation_privileges;
      hierarchy_count = r.hierarchy_count;
      inferiors = r.inferiors;
      superiors = r.superiors;
      principal_count = r.principal_count;
      principal_formulas = r.principal_formulas;
      principal_demarcations = r.principal_demarcations;
      exclusion_count = r.exclusion_count;
      exclusion_lows = r.exclusion_lows;
      exclusion_highs = r.exclusion_highs;
      prerequisite_count = r.prerequisite_count;
      prerequisites = r.prerequisites;
      dependents = r.dependents;
      method_count = r.method_count;
      method_forms = r.method_forms;
      method_privileges = r.method_privileges;
      index = x;
      memo = m;
    }

-- the record with these edges, in this order, their index, and this memo
unfoldable pub changed : Record → List (List ℕ) → Memo → Record
changed r es m = with_edges r (length es) (column 0 es) (column 1 es) (column 2 es) (index_of es) m

-- the record with this memo
unfoldable pub with_memo : Record → Memo → Record
with_memo r m = with_edges r r.edge_count r.edge_labels r.edge_sources r.edge_targets r.index m

-- the record with this index; with that of its own edges, built anew
unfoldable pub with_index : Record → EdgeIndex → Record
with_index r x = with_edges r r.edge_count r.edge_labels r.edge_sources r.edge_targets x r.memo

abbrev pub indexed : Record → Record
indexed r = with_index r (index_of (rows edge r))
