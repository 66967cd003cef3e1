-- What holds of the engine's record beside the book, after every list of calls.
use Rattle.std.specs.Prelude.{ℕ, ◌≡◌, true, false, List, [], ◌∷◌, length}
use Rattle.policy.specs.declared.Record.{Record}
use Rattle.policy.specs.Table.{edge, rows, emptied, changed}
use Rattle.policy.specs.Loadable.{loadable}
use Rattle.policy.specs.TableLaws.{ColumnLengths}
use Rattle.policy.specs.Edits.{edge_in}
use Rattle.memo.specs.WalkLaws.{MemoLengths}
use Rattle.access.specs.CorrectMemo.{CorrectMemo}
use Rattle.history.specs.Book.{Book, holds_edge}

-- no edge stands twice
pub data Distinct : Book → Type 0 where
  none : Distinct []
  more : {e : List ℕ} {book : Book} → holds_edge book e ≡ false → Distinct book → Distinct (e ∷ book)

-- the record r is loadable, holds the edges of the book, each once, and all else as the bundle's record b has it (memo
-- aside); what its memo knows is true
pub record Agrees (b : Record) (book : Book) (r : Record) : Type 0 where
  pub loads : loadable r ≡ true
  pub edges : (e : List ℕ) → edge_in (rows edge r) e ≡ holds_edge book e
  pub count : r.edge_count ≡ length book
  pub once : Distinct book
  pub rest : changed r [] (emptied 0 0) ≡ changed b [] (emptied 0 0)
  pub sized : ColumnLengths r
  pub lengths : MemoLengths r.memo
  pub correct : CorrectMemo r r.memo
