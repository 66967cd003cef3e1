-- What owning a record says of it: it is `Typed`.
use Prim.Native.Nat.{ℕ, zero, suc, ◌<◌, ◌^◌}
use mathlib.Core.Path.{◌≡◌}
use mathlib.Core.List.{List, [], ◌∷◌}
use native.Mathlib.Omega.{arith}
use lib.ListN.{length}
use lib.Dec.{T, leb}
use mir.Syntax.{Width, w8, w16, w64}
use mir.Val.{Val, bits}
use denote.Shadow.{shadow}
use denote.RattleType.{owns, Valss}
use denote.Struct.Declared.{shape}
use denote.Struct.Field.{uint_field, array_field}
use borrow.Author.Rules.{elem_Fits}
use Rattle.common.specs.Limits.{most_users, most_edges, most_formulas, most_demarcations, most_pairs, most_principals, most_exclusions}
use Rattle.common.specs.Limits.{most_methods}
use Rattle.common.specs.Lists.{at}
use Rattle.policy.specs.declared.Record.{Record}
use Rattle.policy.specs.contracts.Record.{the_type}
use Rattle.policy.specs.Table.{Kind, head, user, edge, formula, demarcation, hierarchy, principal, exclusion, prerequisite, method, end}
use Rattle.policy.specs.Table.{row, widths}
use Rattle.policy.specs.TableLaws.{sized}
use Rattle.policy.specs.Typed.{Fit, Typed}

-- a column of n numbers of a width
pub record Column (w : Width) (n : ℕ) (c : List ℕ) : Type 0 where
  pub long : length c ≡ n
  pub low : (i : ℕ) → at c i < 2 ^ bits w

pub column : (w : Width) (n : ℕ) (c : List ℕ) (vs : List Val) → T (leb (bits w) (bits w))
    → shadow ((array_field (uint_field w) n).row.own_val c vs) → Column w n c
column w n c vs t p = record { long = p.1.0.1; low = λ i. (elem_Fits w w c p.0 i p.1.1 t).fits }

pub record Columns (r : Record) : Type 0 where
  pub objects : r.objects < 256
  pub user_objects_lem : Column w8 most_users r.user_objects
  pub user_roles_lem : Column w16 most_users r.user_roles
  pub labels : Column w8 most_edges r.edge_labels
  pub sources : Column w8 most_edges r.edge_sources
  pub targets : Column w8 most_edges r.edge_targets
  pub ops : Column w8 most_formulas r.formula_ops
  pub lefts : Column w8 most_formulas r.formula_lefts
  pub rights : Column w8 most_formulas r.formula_rights
  pub demarcations : Column w64 most_demarcations r.demarcation_privileges
  pub inferiors : Column w8 most_pairs r.inferiors
  pub superiors : Column w8 most_pairs r.superiors
  pub formulas : Column w8 most_principals r.principal_formulas
  pub grants : Column w8 most_principals r.principal_demarcations
  pub lows : Column w8 most_exclusions r.exclusion_lows
  pub highs : Column w8 most_exclusions r.exclusion_highs
  pub needs : Column w8 most_pairs r.prerequisites
  pub dependents : Column w8 most_pairs r.dependents
  pub forms : Column w8 most_methods r.method_forms
  pub methods : Column w64 most_methods r.method_privileges

one_low : (x : ℕ) → x < 256 → (i : ℕ) → at (x ∷ []) i < 256
one_low x l zero = l
one_low x l (suc i) = omega arith

pub typed : {r : Record} → Columns r → Typed r
typed {r} c =
    record {
      sized =
          sized r (c.user_objects_lem.long, (c.user_roles_lem.long, tt)) (c.labels.long, (c.sources.long, (c.targets.long, tt)))
          (c.ops.long, (c.lefts.long, (c.rights.long, tt))) (c.demarcations.long, tt) (c.inferiors.long, (c.superiors.long, tt))
          (c.formulas.long, (c.grants.long, tt)) (c.lows.long, (c.highs.long, tt)) (c.needs.long, (c.dependents.long, tt))
          (c.forms.long, (c.methods.long, tt));
      fits = fits;
    }
  where
    fits : (k : Kind) (i : ℕ) → Fit (widths k) (row k i r)
    fits head i = (one_low 1 (omega arith) i, (one_low r.objects c.objects i, tt))
    fits user i = (c.user_objects_lem.low i, (c.user_roles_lem.low i, tt))
    fits edge i = (c.labels.low i, (c.sources.low i, (c.targets.low i, tt)))
    fits formula i = (c.ops.low i, (c.lefts.low i, (c.rights.low i, tt)))
    fits demarcation i = (c.demarcations.low i, tt)
    fits hierarchy i = (c.inferiors.low i, (c.superiors.low i, tt))
    fits principal i = (c.formulas.low i, (c.grants.low i, tt))
    fits exclusion i = (c.lows.low i, (c.highs.low i, tt))
    fits prerequisite i = (c.needs.low i, (c.dependents.low i, tt))
    fits method i = (c.forms.low i, (c.methods.low i, tt))
    fits end i = (omega arith, (omega arith, tt))

-- the fields of a record that is owned, in their order
abbrev pub Owned : (r : Record) → Valss (shape the_type).fields → Type 0
Owned r vs = shadow (owns (shape the_type).fields (the_type.to r) vs)

-- its columns, by the places of its fields, counted from 0
pub owned_columns : (r : Record) (vs : Valss (shape the_type).fields) → Owned r vs → Columns r
owned_columns r vs f =
    record {
      objects = f.0.1;
      user_objects_lem = column w8 _ _ _ tt f.1.1.0;
      user_roles_lem = column w16 _ _ _ tt f.1.1.1.0;
      labels = column w8 _ _ _ tt f.1.1.1.1.1.0;
      sources = column w8 _ _ _ tt f.1.1.1.1.1.1.0;
      targets = column w8 _ _ _ tt f.1.1.1.1.1.1.1.0;
      ops = column w8 _ _ _ tt f.1.1.1.1.1.1.1.1.1.0;
      lefts = column w8 _ _ _ tt f.1.1.1.1.1.1.1.1.1.1.0;
      rights = column w8 _ _ _ tt f.1.1.1.1.1.1.1.1.1.1.1.0;
      demarcations = column w64 _ _ _ tt f.1.1.1.1.1.1.1.1.1.1.1.1.1.0;
      inferiors = column w8 _ _ _ tt f.1.1.1.1.1.1.1.1.1.1.1.1.1.1.1.0;
      superiors = column w8 _ _ _ tt f.1.1.1.1.1.1.1.1.1.1.1.1.1.1.1.1.0;
      formulas = column w8 _ _ _ tt f.1.1.1.1.1.1.1.1.1.1.1.1.1.1.1.1.1.1.0;
      grants = column w8 _ _ _ tt f.1.1.1.1.1.1.1.1.1.1.1.1.1.1.1.1.1.1.1.0;
      lows = column w8 _ _ _ tt f.1.1.1.1.1.1.1.1.1.1.1.1.1.1.1.1.1.1.1.1.1.0;
      highs = column w8 _ _ _ tt f.1.1.1.1.1.1.1.1.1.1.1.1.1.1.1.1.1.1.1.1.1.1.0;
      needs = column w8 _ _ _ tt f.1.1.1.1.1.1.1.1.1.1.1.1.1.1.1.1.1.1.1.1.1.1.1.1.0;
      dependents = column w8 _ _ _ tt f.1.1.1.1.1.1.1.1.1.1.1.1.1.1.1.1.1.1.1.1.1.1.1.1.1.0;
      forms = column w8 _ _ _ tt f.1.1.1.1.1.1.1.1.1.1.1.1.1.1.1.1.1.1.1.1.1.1.1.1.1.1.1.0;
      methods = column w64 _ _ _ tt f.1.1.1.1.1.1.1.1.1.1.1.1.1.1.1.1.1.1.1.1.1.1.1.1.1.1.1.1.0;
    }
