-- The documents' table of grounds for refusing: the number of each cause.
use Rattle.std.specs.Prelude.{ℕ}

-- ---- loading: returns number and line, leaves the blank record

-- the line is empty, odd, has another character, or no final 0A
abbrev pub wrong_characters : ℕ
wrong_characters = 1

-- under 3 octets, or the length octet wrong
abbrev pub wrong_length : ℕ
wrong_length = 2

-- the line's sum is not zero
abbrev pub wrong_sum : ℕ
wrong_sum = 3

-- the kind is unknown, misplaced, or of another body length
abbrev pub wrong_kind : ℕ
wrong_kind = 4

-- one line over a kind's limit
abbrev pub over_limit : ℕ
over_limit = 5

-- a body number out of range or naming nothing
abbrev pub out_of_range : ℕ
out_of_range = 6

-- not rising
abbrev pub not_rising : ℕ
not_rising = 7

-- the end line is missing, or its numbers wrong
abbrev pub wrong_end : ℕ
wrong_end = 8

-- a circle in the hierarchy or the prerequisites
abbrev pub circle : ℕ
circle = 9

-- ---- edits: return the number, leave the record

-- the label or an object is out of range
abbrev pub edge_out_of_range : ℕ
edge_out_of_range = 10

-- add: the edge is there
abbrev pub edge_present : ℕ
edge_present = 11

-- remove: the edge isn't there
abbrev pub edge_absent : ℕ
edge_absent = 12

-- add: there are 512 edges
abbrev pub edges_full : ℕ
edges_full = 13

-- ---- questions: 14 to 16 return the empty set and 0, and leave the record; 17 returns the evaluations, and leaves all but the memo

abbrev pub no_method : ℕ
no_method = 14

abbrev pub no_object : ℕ
no_object = 15

-- the requestor isn't a user
abbrev pub not_user : ℕ
not_user = 16

-- no set will do
abbrev pub no_set : ℕ
no_set = 17

-- ---- writing: returns the length needed, leaves the buffer

abbrev pub short_buffer : ℕ
short_buffer = 18

-- ---- any call but loading: no bundle loads to the record (memo aside); leaves record and buffer

abbrev pub not_loadable : ℕ
not_loadable = 19

-- ---- tickets (document 02, 2026-01): return the number alone, leave the record

-- a member is no principal, or isn't enabled
abbrev pub not_enabled : ℕ
not_enabled = 20

-- the set isn't consistent
abbrev pub not_consistent : ℕ
not_consistent = 21

-- the guard isn't met
abbrev pub guard_not_met : ℕ
guard_not_met = 22
