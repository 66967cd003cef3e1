-- Document 01's limits, and the rooms that follow from them. The code has the same numbers by the same names (`src/lib.rt`).
use Rattle.std.specs.Prelude.{ℕ, ◌+◌, max}

-- "object count N (1 to 255)"; "Rising by object": at most one user line for each
abbrev pub most_objects : ℕ
most_objects = 255

abbrev pub most_users : ℕ
most_users = 255

-- kind 03: "At most 512"
abbrev pub most_edges : ℕ
most_edges = 512

-- kind 04: "At most 64"
abbrev pub most_formulas : ℕ
most_formulas = 64

-- kind 05: "at most 20"
abbrev pub most_demarcations : ℕ
most_demarcations = 20

-- kind 07: "at most 20"
abbrev pub most_principals : ℕ
most_principals = 20

-- the hierarchy relates demarcations, the prerequisites principals: at most so many things of either kind
abbrev pub most_related : ℕ
most_related = max most_demarcations most_principals

-- kind 0A: "at most 32"
abbrev pub most_methods : ℕ
most_methods = 32

-- kinds 06 and 09: ordered pairs of two different things out of 20, 20 · 19
abbrev pub most_pairs : ℕ
most_pairs = 380

-- kind 08: pairs out of 20 with the lower first, 20 · 19 / 2
abbrev pub most_exclusions : ℕ
most_exclusions = 190

-- "label 0 to 15"; "role r, 0 to 15"
abbrev pub highest_label : ℕ
highest_label = 15

abbrev pub highest_role : ℕ
highest_role = 15

-- so many labels
abbrev pub label_count : ℕ
label_count = 16

-- request 2026-03: "In all three, a is 0 to 3": so many slots
abbrev pub highest_slot : ℕ
highest_slot = 3

abbrev pub slot_count : ℕ
slot_count = 4

-- "privileges (8 octets; privilege k has weight 2^k)"
abbrev pub privilege_count : ℕ
privilege_count = 64

-- request 2026-05: "The highest formula in service has height 5. Make that the limit in place of 8."
abbrev pub greatest_height : ℕ
greatest_height = 5

-- the lines of a bundle before its end line: the head, and as many of each kind as there may be
abbrev pub most_lines : ℕ
most_lines =
    1 + most_users + most_edges + most_formulas + most_demarcations + most_pairs + most_principals + most_exclusions + most_pairs + most_methods

-- room for the octets of a line of any kind that a bundle may have
abbrev pub line_room : ℕ
line_room = 16
