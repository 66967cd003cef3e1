-- What the masks of a record are, for a method and a set of allowed principals.
use Rattle.std.specs.Prelude.{ℕ, ◌^◌, ◌<◌, ◌≤◌, ◌≡◌, ◌↔◌, true, not, List, eqb}
use Rattle.std.proofs.Math.Option.{Option, none, some}
use Rattle.common.specs.Limits.{most_formulas, most_demarcations, most_principals, most_exclusions, most_methods, privilege_count}
use Rattle.common.specs.Lists.{at}
use Rattle.common.specs.Sets.{In}
use Rattle.tables.specs.Loads.{pairs_load}
use Rattle.policy.specs.declared.Record.{Record}
use Rattle.search.specs.declared.Masks.{Masks}
use Rattle.search.specs.Answers.{FoundValues, granted, denied}
use Rattle.justification.specs.Justification.{demarcation_has, needs, is_role_principal}
use Rattle.justification.specs.MarkedSets.{Marks}
use Rattle.justification.specs.Satisfying.{excluded}

pub record Masked (r : Record) (m allowed : ℕ) (s : Masks) : Type 0 where
  pub few : r.principal_count ≤ most_principals
  pub count : s.count ≡ r.principal_count
  pub permitted : s.allowed ≡ allowed
  pub excludes : (p q : ℕ) → p < r.principal_count → q < r.principal_count → (In q (at s.excludes p) ↔ excluded r p q)
  pub needed : (p q : ℕ) → p < r.principal_count → In q (at s.needs p) → q < r.principal_count
  pub needs : (p q : ℕ) → p < r.principal_count → q < r.principal_count → (In q (at s.needs p) ↔ (needs r p q ≡ true))
  pub grants : (p k : ℕ) → p < r.principal_count
      → (In k (at s.grants p) ↔ (demarcation_has r (at r.principal_demarcations p) k ≡ true))
  pub role_principals_of : Marks r.principal_count (is_role_principal r) s.role_principals
  pub every : s.every ≡ not (eqb (at r.method_forms m) 0)
  pub wanted : s.wanted ≡ at r.method_privileges m
  pub bounded : s.wanted < 2 ^ privilege_count

-- the columns of a record that say what each principal has, excludes and needs, which are role principals, and what each method asks
pub record Grounds : Type 0 where
  pub ops : List ℕ
  pub demarcations : ℕ
  pub lists : List ℕ
  pub ranks : ℕ
  pub inferiors : List ℕ
  pub superiors : List ℕ
  pub principals : ℕ
  pub formulas : List ℕ
  pub held : List ℕ
  pub exclusions : ℕ
  pub lows : List ℕ
  pub highs : List ℕ
  pub links : ℕ
  pub prerequisites : List ℕ
  pub dependents : List ℕ
  pub forms : List ℕ
  pub guards : List ℕ

-- those of a record
abbrev pub grounds_of : Record → Grounds
grounds_of r =
    record {
      ops = r.formula_ops;
      demarcations = r.demarcation_count;
      lists = r.demarcation_privileges;
      ranks = r.hierarchy_count;
      inferiors = r.inferiors;
      superiors = r.superiors;
      principals = r.principal_count;
      formulas = r.principal_formulas;
      held = r.principal_demarcations;
      exclusions = r.exclusion_count;
      lows = r.exclusion_lows;
      highs = r.exclusion_highs;
      links = r.prerequisite_count;
      prerequisites = r.prerequisites;
      dependents = r.dependents;
      forms = r.method_forms;
      guards = r.method_privileges;
    }

-- masks can be made of them for method m: the pairs are of things that there are, and each has a place in its table
pub record MasksFit (g : Grounds) (m : ℕ) : Type 0 where
  pub hierarchy : pairs_load g.demarcations g.ranks g.inferiors g.superiors ≡ true
  pub demarcated : g.demarcations ≤ most_demarcations
  pub few : g.principals ≤ most_principals
  pub formed : (p : ℕ) → p < g.principals → at g.formulas p < most_formulas
  pub holding : (p : ℕ) → p < g.principals → at g.held p < g.demarcations
  pub excluding : g.exclusions ≤ most_exclusions
  pub excluded : (i : ℕ) → i < g.exclusions → (at g.lows i < most_principals) × (at g.highs i < most_principals)
  pub linked : pairs_load g.principals g.links g.prerequisites g.dependents ≡ true
  pub asked : m < most_methods

-- the number and set of the least set, or of none
unfoldable pub least_values : Option ℕ → FoundValues
least_values (some c) = granted c
least_values none = denied
