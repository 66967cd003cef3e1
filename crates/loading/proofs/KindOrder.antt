-- The kinds that have a table, in the order in which they are read: each is followed by the next, and the last by the end.
use Rattle.std.specs.Prelude.{ℕ, zero, suc, ◌+◌, ◌<◌, ◌≡◌, refl, List, [], ◌∷◌, get_or}
use Rattle.std.proofs.Common.{arith}
use Rattle.policy.specs.Table.{kind_of}
use Rattle.policy.specs.LinesBefore.{following}
use Rattle.lines.specs.declared.TableKind.{TableKind}
use Rattle.lines.specs.declared.TableKind.TheVariants.{Users, Edges, Formulas, Demarcations, Hierarchy, Principals, Exclusions, Prerequisites, Methods}
use Rattle.lines.specs.Judging.{table_of}

abbrev pub in_order : List TableKind
in_order =
    Users ∷ Edges ∷ Formulas ∷ Demarcations ∷ Hierarchy ∷ Principals ∷ Exclusions ∷ Prerequisites ∷ Methods ∷ []

pub followed : (i : ℕ) → i < 9 → (d : TableKind) → following (table_of (get_or in_order i d)) ≡ kind_of (i + 1 + 2)
followed zero l d = refl
followed (suc zero) l d = refl
followed (suc (suc zero)) l d = refl
followed (suc (suc (suc zero))) l d = refl
followed (suc (suc (suc (suc zero)))) l d = refl
followed (suc (suc (suc (suc (suc zero))))) l d = refl
followed (suc (suc (suc (suc (suc (suc zero)))))) l d = refl
followed (suc (suc (suc (suc (suc (suc (suc zero))))))) l d = refl
followed (suc (suc (suc (suc (suc (suc (suc (suc zero)))))))) l d = refl
followed (suc (suc (suc (suc (suc (suc (suc (suc (suc i))))))))) l d = absurd (omega arith)
