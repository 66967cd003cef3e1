-- The number of each refusal, and of an outcome: of what was done, or refused.
use Rattle.std.specs.Prelude.{◌≡◌, ℕ, Result, Ok, Err}
use Rattle.common.specs.Refusals.{wrong_characters, wrong_length, wrong_sum, wrong_kind, over_limit, out_of_range, not_rising, wrong_end, circle, edge_out_of_range, edge_present, edge_absent, edges_full, no_method, no_object, not_user, no_set, short_buffer, not_loadable, not_enabled, not_consistent, guard_not_met}
use Rattle.common.specs.declared.Refusal.{Refusal}
use Rattle.common.specs.declared.Refusal.TheVariants.{WrongCharacters, WrongLength, WrongSum, WrongKind, OverLimit, OutOfRange, NotRising, WrongEnd, Circle, EdgeOutOfRange, EdgePresent, EdgeAbsent, EdgesFull, NoMethod, NoObject, NotUser, NoSet, ShortBuffer, NotLoadable, NotEnabled, NotConsistent, GuardNotMet}

-- "a definition gives this paper's number and values for each of the enum's cases"
abbrev pub number : Refusal → ℕ
number WrongCharacters = wrong_characters
number WrongLength = wrong_length
number WrongSum = wrong_sum
number WrongKind = wrong_kind
number OverLimit = over_limit
number OutOfRange = out_of_range
number NotRising = not_rising
number WrongEnd = wrong_end
number Circle = circle
number EdgeOutOfRange = edge_out_of_range
number EdgePresent = edge_present
number EdgeAbsent = edge_absent
number EdgesFull = edges_full
number NoMethod = no_method
number NoObject = no_object
number NotUser = not_user
number NoSet = no_set
number ShortBuffer = short_buffer
number NotLoadable = not_loadable
number NotEnabled = not_enabled
number NotConsistent = not_consistent
number GuardNotMet = guard_not_met

abbrev pub IsNumberOf : Refusal → ℕ → Type 0
IsNumberOf refusal n = n ≡ number refusal

-- 0 of what was done, else the refusal's
abbrev pub outcome_number : {A : Type 0} → Result A Refusal → ℕ
outcome_number (Ok a) = 0
outcome_number (Err refusal) = number refusal
