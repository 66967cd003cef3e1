-- The crown table and the course example of tickets, computed.
use Rattle.std.specs.Prelude.{refl}
use Rattle.policy.specs.Table.{changed, with_memo}
use Rattle.policy.specs.Loadable.{table_loads, index_agrees, loadable}
use Rattle.policy.specs.Edits.{removed}
use Rattle.formula.specs.Formula.{meaning, true_below, holds_on, holds}
use Rattle.justification.specs.Justification.{demarcation_has, have, meets, consistent, all_sets, candidates, least}
use Rattle.justification.specs.Predicates.{question_refusal, is_enabled, liberal, strict}
use Rattle.memo.specs.Memo.{evaluated}
use Rattle.memo.specs.Walk.{evaluated_all, eagerly, tried, weighed, walk}
use Rattle.memo.specs.Memo.{memo_for, newly}
use Rattle.access.specs.Access.{answered, eager, lazy}
use Rattle.tickets.specs.Tickets.{constraint_refusal, set_refusal, ticket_refusal}
use Rattle.loading.specs.Examples.{computing}
use Rattle.history.specs.CrownTable.{CrownTable, CrownTickets}

-- what a proof by computation opens, beside what loading opens: of the record, of the grounds, of the questions
unfoldable computing_record : Unit {0}
unfolding computing changed with_memo table_loads index_agrees loadable removed question_refusal is_enabled
computing_record = tt

unfoldable computing_grounds : Unit {0}
unfolding computing_record meaning true_below holds_on holds demarcation_has have meets consistent all_sets candidates least
computing_grounds = tt

unfoldable computing_table : Unit {0}
unfolding computing_grounds liberal strict evaluated evaluated_all eagerly tried weighed walk memo_for newly answered eager lazy
computing_table = tt

-- THE CROWN TABLE
pub crown_table : CrownTable
unfolding computing_table
crown_table =
    record { loads = refl; a = refl; b = refl; c = refl; d = refl; e = refl; f = refl; g = refl; h = refl; i = refl; j = refl; k = refl }

-- THE COURSE EXAMPLE of tickets
pub crown_tickets : CrownTickets
unfolding computing_grounds constraint_refusal set_refusal ticket_refusal
crown_tickets = record { ana_both = refl; ana_one = refl; ana_excluded = refl; ana_unmet = refl; ben_one = refl; ben_both = refl }
