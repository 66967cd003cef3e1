-- What the functions below `least` say to each other.
use Rattle.std.specs.Prelude.{◌≡◌, ℕ, ◌+◌, ◌*◌, ◌^◌, ◌<◌, ◌≤◌, Bool, true, false, List, ◌≢◌, count_ones}
use Rattle.common.specs.Lists.{at}
use Rattle.common.specs.Sets.{In, Apart, Within}
use Rattle.search.specs.declared.Masks.{Masks}
use Rattle.search.specs.declared.Limit.{Limit}
use Rattle.search.specs.Answers.{FoundValues, GrantedOrDenied}
use Rattle.search.specs.Search.{Candidate, Before, role_count_in}

-- the test b says whether P
pub record Decides (b : Bool) (P : Type 0) : Type 0 where
  pub yes : b ≡ true → P
  pub no : b ≡ false → P → ⊥

-- privileges g meet the guard
abbrev pub MetBy : Bool → ℕ → ℕ → Type 0
MetBy true w g = Within w g
MetBy false w g = (k : ℕ) × In k w × In k g

-- g has the privileges that the members of s below n list, and no other
pub record Gathers (n s : ℕ) (lists : List ℕ) (g : ℕ) : Type 0 where
  pub only : (k : ℕ) → In k g → (p : ℕ) × (p < n) × In p s × In k (at lists p)
  pub all : (k p : ℕ) → p < n → In p s → In k (at lists p) → In k g

-- no member of s excludes a member
abbrev pub ConflictFree : Masks → ℕ → Type 0
ConflictFree r s = (p : ℕ) → In p s → Apart s (at r.excludes p)

-- ---- what lets the search turn back early

-- t is a candidate within the limit that holds s and none of b
pub record Holds (r : Masks) (limit : Limit) (s b t : ℕ) : Type 0 where
  pub candidate : Candidate r t
  pub few : count_ones t ≤ limit.members
  pub few_roles : role_count_in r t ≤ limit.role_principals
  pub held : Within s t
  pub apart : Apart t b

-- there is none
abbrev pub NoneHolds : Masks → Limit → ℕ → ℕ → Type 0
NoneHolds r limit s b = (t : ℕ) → Holds r limit s b t → ⊥

-- q gives some privilege of x
pub record Gives (r : Masks) (x q : ℕ) : Type 0 where
  pub privilege : ℕ
  pub asked : In privilege x
  pub given : In privilege (at r.grants q)

-- every candidate has a member that gives some of x
pub record Asks (r : Masks) (x : ℕ) : Type 0 where
  pub some : (t : ℕ) → Candidate r t → (q : ℕ) × In q t × Gives r x q

-- there is none with a member from p on that gives some of x
abbrev pub NoneFrom : Masks → Limit → ℕ → ℕ → ℕ → ℕ → Type 0
NoneFrom r limit s b x p = (t : ℕ) → Holds r limit s b t → (q : ℕ) → p ≤ q → In q t → Gives r x q → ⊥

-- every candidate that holds c holds w
pub record NeededBy (r : Masks) (c w : ℕ) : Type 0 where
  pub by : (t : ℕ) → Candidate r t → Within c t → Within w t

-- each member of a from n on is one of b
pub record WithinFrom (n a b : ℕ) : Type 0 where
  pub from : (q : ℕ) → n ≤ q → In q a → In q b

-- m may stand with c, whose members are above m: what m needs above m is there
pub record Joins (r : Masks) (c m : ℕ) : Type 0 where
  pub allowed : In m r.allowed
  pub apart : Apart c (at r.excludes m)
  pub whole : WithinFrom (m + 1) (at r.needs m) c

-- ---- the search: c is chosen, and k of the principals below n are to be added, j of them role principals

-- c has members from n on alone, all below the count; none of b is in c or added to it
pub record State (r : Masks) (n c b : ℕ) : Type 0 where
  pub small : n ≤ r.count
  pub head : ℕ
  pub above : c ≡ head * 2 ^ n
  pub room : c + 2 ^ n ≤ 2 ^ r.count
  pub barred : (y : ℕ) → y < 2 ^ n → Apart (c + y) b

-- s is the candidate of c and such principals that has the smallest number
pub record LeastCompletion (r : Masks) (n k j c s : ℕ) : Type 0 where
  pub more : ℕ
  pub is : s ≡ c + more
  pub below : more < 2 ^ n
  pub size : count_ones more ≡ k
  pub roles : role_count_in r more ≡ j
  pub candidate : Candidate r s
  pub smallest : (y : ℕ) → y < 2 ^ n → count_ones y ≡ k → role_count_in r y ≡ j → Candidate r (c + y) → more ≤ y

-- there is none
pub record NoCompletion (r : Masks) (n k j c : ℕ) : Type 0 where
  pub none : (y : ℕ) → y < 2 ^ n → count_ones y ≡ k → role_count_in r y ≡ j → Candidate r (c + y) → ⊥

-- the answer of the search, one or the other
abbrev pub Completed : Masks → ℕ → ℕ → ℕ → ℕ → FoundValues → Type 0
Completed r n k j c a = GrantedOrDenied (LeastCompletion r n k j c) (NoCompletion r n k j c) a

-- ---- the candidates of k members

-- s is the least of them
pub record LeastOfSize (r : Masks) (k s : ℕ) : Type 0 where
  pub candidate : Candidate r s
  pub size : count_ones s ≡ k
  pub first : (t : ℕ) → Candidate r t → count_ones t ≡ k → Before (role_count_in r) s t

-- there is none
pub record NoneOfSize (r : Masks) (k : ℕ) : Type 0 where
  pub none : (t : ℕ) → Candidate r t → count_ones t ≢ k

abbrev pub OfSize : Masks → ℕ → FoundValues → Type 0
OfSize r k a = GrantedOrDenied (LeastOfSize r k) (NoneOfSize r k) a
