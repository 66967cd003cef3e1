-- How many lines may stand before those of a kind, and the kind after it.
use Rattle.std.specs.Prelude.{ℕ, ◌+◌, ◌≤◌, ◌<◌, ◌≡◌, refl, cond, List, [], ◌∷◌}
use Rattle.std.proofs.Common.{arith}
use Rattle.common.specs.Limits.{most_lines}
use Rattle.policy.specs.Table.{Kind, code, kind_of, is_kind, kinds, room}
use Rattle.policy.specs.Table.{head, user, edge, formula, demarcation, hierarchy, principal, exclusion, prerequisite, method, end}

-- the rooms of the kinds of a list before k, added
abbrev pub rooms_before : Kind → List Kind → ℕ
rooms_before k [] = 0
rooms_before k (j ∷ js) = cond (is_kind j k) 0 (room j + rooms_before k js)

abbrev pub lines_before : Kind → ℕ
lines_before k = rooms_before k kinds

-- the kind with the next octet; after the last of them the end
abbrev pub following : Kind → Kind
following k = kind_of (code k + 1)

-- ---- laws

pub lines_all : lines_before end ≡ most_lines
lines_all = refl

pub lines_following : (k : Kind) → lines_before (following k) ≡ lines_before k + room k
lines_following head = refl
lines_following user = refl
lines_following edge = refl
lines_following formula = refl
lines_following demarcation = refl
lines_following hierarchy = refl
lines_following principal = refl
lines_following exclusion = refl
lines_following prerequisite = refl
lines_following method = refl
lines_following end = refl

pub lines_most : (k : Kind) → lines_before k + room k ≤ most_lines
lines_most head = omega arith
lines_most user = omega arith
lines_most edge = omega arith
lines_most formula = omega arith
lines_most demarcation = omega arith
lines_most hierarchy = omega arith
lines_most principal = omega arith
lines_most exclusion = omega arith
lines_most prerequisite = omega arith
lines_most method = omega arith
lines_most end = omega arith

-- no kind stands between a kind and the one that follows it
last_code : (j : Kind) → code j < code end → code j ≤ code method
last_code head l = omega arith
last_code user l = omega arith
last_code edge l = omega arith
last_code formula l = omega arith
last_code demarcation l = omega arith
last_code hierarchy l = omega arith
last_code principal l = omega arith
last_code exclusion l = omega arith
last_code prerequisite l = omega arith
last_code method l = omega arith
last_code end l = absurd (omega arith)

pub none_between : (k j : Kind) → code j < code (following k) → code j ≤ code k
none_between head j l = omega arith
none_between user j l = omega arith
none_between edge j l = omega arith
none_between formula j l = omega arith
none_between demarcation j l = omega arith
none_between hierarchy j l = omega arith
none_between principal j l = omega arith
none_between exclusion j l = omega arith
none_between prerequisite j l = omega arith
none_between method j l = last_code j l
none_between end j l = omega arith

pub code_rises : (k : Kind) → code k < code end → code k < code (following k)
code_rises head l = omega arith
code_rises user l = omega arith
code_rises edge l = omega arith
code_rises formula l = omega arith
code_rises demarcation l = omega arith
code_rises hierarchy l = omega arith
code_rises principal l = omega arith
code_rises exclusion l = omega arith
code_rises prerequisite l = omega arith
code_rises method l = omega arith
code_rises end l = absurd (omega arith)
