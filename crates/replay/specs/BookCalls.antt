-- The calls of demand 3 among the octets of a list of calls, and the book after them.
use Rattle.std.specs.Prelude.{ℕ, zero, suc, ◌≡◌, List, [], ◌∷◌, ◌++◌}
use Rattle.policy.specs.declared.Record.{Record}
use Rattle.reading.specs.Loading.{load}
use Rattle.history.specs.Book.{Call, Book, first_book, book_after}
use Rattle.replay.specs.Replay.{ListedCall, call, liberally, strictly, unknown, listed_call_at}

-- the call of demand 3 that a listed call is; a predicate and an unknown kind are none
abbrev pub book_calls_of : ListedCall → List Call
book_calls_of (call c) = c ∷ []
book_calls_of (liberally q) = []
book_calls_of (strictly q) = []
book_calls_of unknown = []

-- those among the first n listed calls, in order
unfoldable pub calls_before : List ℕ → ℕ → List Call
calls_before calls zero = []
calls_before calls (suc n) = calls_before calls n ++ book_calls_of (listed_call_at calls n)

-- ---- a record just loaded, and any octets of calls

module _ (text : List ℕ) (loads : (load text).number ≡ 0) (calls : List ℕ) (n : ℕ) where
  abbrev b : Record
  b = (load text).rules

  abbrev pub book : Book
  book = book_after b (first_book text) (calls_before calls n)
