-- Rising, as document 01 says it of each kind, beside the key of `Rows`.
use Rattle.std.specs.Prelude.{ℕ, List}
use Rattle.common.specs.Lists.{at, table}
use Rattle.policy.specs.Table.{Kind, head, user, edge, formula, demarcation, hierarchy, principal, exclusion, prerequisite, method}
use Rattle.policy.specs.Table.{end}

-- by how many of a line's numbers, from the first on, the lines of a kind rise: "02 user: .. Rising by object", "03 edge: .. Rising as a
-- triple", "06 hierarchy: .. Rising as a pair", "08 exclusion: p, q .. Rising", "09 prerequisite: p, q .. Rising"; the others do not rise
abbrev pub rising_by : Kind → ℕ
rising_by head = 0
rising_by user = 1
rising_by edge = 3
rising_by formula = 0
rising_by demarcation = 0
rising_by hierarchy = 2
rising_by principal = 0
rising_by exclusion = 2
rising_by prerequisite = 2
rising_by method = 0
rising_by end = 0

-- those numbers of a line
abbrev pub order_of : Kind → List ℕ → List ℕ
order_of k v = table (rising_by k) (at v)
