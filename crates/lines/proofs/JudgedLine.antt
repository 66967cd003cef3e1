-- What the answers of `judged_line` say of the line at a cursor, case by case.
use Rattle.std.specs.Prelude.{ℕ, ◌+◌, ◌≡◌, refl, ◌≢◌, Bool, true, false, cond, List, drop, replicate, eqb, Option, None, Some, Result, Ok, Err}
use Rattle.std.proofs.Common.{sym, ◌∙◌, ap, eqb-true, eq-eqb, ne_eqb}
use Rattle.std.proofs.lemmas.Bool.{false≢true, eqb-false}
use Rattle.std.proofs.lemmas.Option.{none-some}
use Rattle.common.specs.RefusalNumbers.{number}
use Rattle.common.specs.RefusalLaws.{same_refusal}
use Rattle.common.specs.declared.Refusal.{Refusal}
use Rattle.common.specs.Limits.{line_room}
use Rattle.octets.specs.Line.{frame}
use Rattle.octets.specs.Answers.{HoldsLine}
use Rattle.policy.specs.Table.{code}
use Rattle.policy.specs.Rows.{key}
use Rattle.lines.specs.declared.TableKind.{TableKind}
use Rattle.lines.specs.declared.Row.{Row}
use Rattle.lines.specs.declared.Bounds.{Bounds}
use Rattle.lines.specs.declared.Cursor.{Cursor}
use Rattle.lines.specs.declared.Taken.{Taken}
use Rattle.lines.specs.NextLine.{no_line, refused_line, body_line, next_of, octets_at}
use Rattle.lines.specs.Judging.{table_of, row_at, kind_in, fields_of, height_by, refusal_by, moved_past}
use Rattle.lines.specs.Judging.{JudgedValues, not_taken, taken_with, judged_values, judged_row, judged_next, judged_of}
use Rattle.lines.proofs.FoundLine.{refused_some, found_line, found_row, Stands, stands}
use Rattle.lines.proofs.FoundLine.Stands.{past, not_framed, of_another_kind, of_another_size, of_the_kind}

some_same : (t u : Taken) → Some t ≡ Some u → t ≡ u
some_same t u e = cc

-- the number and values say which answer it is
pub same_judged : (a b : Result (Option Taken) Refusal) → judged_values a ≡ judged_values b → a ≡ b
same_judged (Ok None) (Ok None) e = refl
same_judged (Ok None) (Err k) e = absurd (false≢true (ap (λ (v : JudgedValues). v.read) e))
same_judged (Ok None) (Ok (Some t)) e = absurd (false≢true (ap (λ (v : JudgedValues). v.read) e))
same_judged (Err k) (Ok None) e = absurd (false≢true (ap (λ (v : JudgedValues). v.read) (sym e)))
same_judged (Err k) (Err j) e = ap Err (same_refusal (ap (λ (v : JudgedValues). v.number) e))
same_judged (Err k) (Ok (Some t)) e = absurd (none-some _ (ap (λ (v : JudgedValues). v.taken) e))
same_judged (Ok (Some t)) (Ok None) e = absurd (false≢true (ap (λ (v : JudgedValues). v.read) (sym e)))
same_judged (Ok (Some t)) (Err k) e = absurd (none-some _ (ap (λ (v : JudgedValues). v.taken) (sym e)))
same_judged (Ok (Some t)) (Ok (Some u)) e = ap (λ (v : Taken). Ok (Some v)) (some_same _ _ (ap (λ (v : JudgedValues). v.taken) e))

-- a line of a kind and size that is held to the bounds m and the heights of formulas before it
module _ (text : List ℕ) (c : Cursor) (kind : TableKind) (size : ℕ) (m : Bounds) (heights : ℕ → ℕ) where
  -- the line's numbers, its height, and what refuses it
  abbrev pub row_here : Row
  row_here = row_at kind size (octets_at text c.offset)

  abbrev pub height_here : ℕ
  height_here = height_by row_here heights

  abbrev pub refusal_here : ℕ
  refusal_here = refusal_by m height_here row_here

  abbrev pub taken_here : ℕ → ℕ → Taken
  taken_here following sum =
      record {
        row = row_here;
        height = height_here;
        least_key = key (kind_in row_here) (fields_of row_here) + 1;
        cursor = moved_past c (code (table_of kind)) following sum;
      }

  -- refused: as a line, or by its numbers
  pub data Refuses (n : ℕ) : Type 0 where
    as_line : next_of text c.offset (code (table_of kind)) size ≡ refused_line n → Refuses n
    by_numbers :
        {following sum : ℕ} → next_of text c.offset (code (table_of kind)) size ≡ body_line following sum
        → n ≡ refusal_here → n ≢ 0 → Refuses n

  -- taken: with its numbers, its height, the least key that may follow, and the cursor past it
  pub record Takes (t : Taken) : Type 0 where
    pub following : ℕ
    pub sum : ℕ
    pub found : next_of text c.offset (code (table_of kind)) size ≡ body_line following sum
    pub passes : refusal_here ≡ 0
    pub same : t ≡ taken_here following sum

  abbrev pub Judges : Result (Option Taken) Refusal → Type 0
  Judges (Ok None) = next_of text c.offset (code (table_of kind)) size ≡ no_line
  Judges (Err why) = Refuses (number why)
  Judges (Ok (Some t)) = Takes t

  -- a line of the kind
  pub of_body : {following sum : ℕ} → next_of text c.offset (code (table_of kind)) size ≡ body_line following sum
      → judged_of text c kind size m heights ≡ judged_row m heights (moved_past c (code (table_of kind)) following sum) row_here
  unfolding judged_of
  of_body e = ap (judged_next text c kind size m heights) e

  -- what is said has the number and values of the answer
  pub says_other : next_of text c.offset (code (table_of kind)) size ≡ no_line → judged_values (Ok None) ≡ judged_of text c kind size m heights
  unfolding judged_of
  says_other e = sym (ap (judged_next text c kind size m heights) e)

  pub says_refused : {n : ℕ} → next_of text c.offset (code (table_of kind)) size ≡ refused_line n → not_taken true n ≡ judged_of text c kind size m heights
  unfolding judged_of
  says_refused {n} e =
      sym (ap (judged_next text c kind size m heights) e ∙ rw (ne_eqb n 0 (refused_some text c.offset (code (table_of kind)) size e)))

  -- of a line of the kind, of which v, h and n were found to be the numbers, the height and what refuses them
  -- in an empty room for its octets
  module _ {following sum : ℕ} (e : next_of text c.offset (code (table_of kind)) size ≡ body_line following sum) {room : List ℕ}
      (held : HoldsLine size (frame (drop c.offset text)) (replicate line_room 0) room)
      {v : Row} (q : v ≡ row_at kind size room) {h : ℕ} (u : h ≡ height_by v heights) {n : ℕ} (z : n ≡ refusal_by m h v) where
    row_found : v ≡ row_here
    row_found = q ∙ found_row (found_line text c.offset (code (table_of kind)) size e) held kind

    height_found : h ≡ height_here
    height_found = u ∙ ap (λ (w : Row). height_by w heights) row_found

    refusal_found : n ≡ refusal_here
    refusal_found = z ∙ (λ i. refusal_by m (height_found i) (row_found i))

    pub says_wrong : n ≢ 0 → not_taken true n ≡ judged_of text c kind size m heights
    says_wrong ne =
        sym (of_body e ∙ rw (ne_eqb refusal_here 0 (λ y. ne (refusal_found ∙ y))) (ap (not_taken true) (sym refusal_found)))

    pub says_taken : n ≡ 0 → {least : ℕ} → least ≡ key (kind_in v) (fields_of v) + 1
        → {further : Cursor} → further ≡ moved_past c (code (table_of kind)) following sum
        → taken_with (record { row = v; height = h; least_key = least; cursor = further }) ≡ judged_of text c kind size m heights
    says_taken y l w =
        (λ i. taken_with (record {
          row = row_found i;
          height = height_found i;
          least_key = (l ∙ ap (λ (x : Row). key (kind_in x) (fields_of x) + 1) row_found) i;
          cursor = w i;
        }))
        ∙ sym (of_body e ∙ rw (eq-eqb refusal_here 0 (sym refusal_found ∙ y)))

  -- and what has the number and values of an answer says so
  pub values_say : (r : Result (Option Taken) Refusal) → judged_values r ≡ judged_of text c kind size m heights → Judges r
  values_say r e = go (stands text c.offset (code (table_of kind)) size) r e
    where
      -- of a line of the kind
      own : {following sum : ℕ} → next_of text c.offset (code (table_of kind)) size ≡ body_line following sum
          → (x : Bool) → eqb refusal_here 0 ≡ x → (r : Result (Option Taken) Refusal)
          → judged_values r ≡ cond x (taken_with (taken_here following sum)) (not_taken true refusal_here)
          → Judges r
      own f true q (Ok None) e = absurd (false≢true (ap (λ (v : JudgedValues). v.read) e))
      own f true q (Err why) e = absurd (none-some _ (ap (λ (v : JudgedValues). v.taken) e))
      own {following} {sum} f true q (Ok (Some t)) e =
          record {
            following = following;
            sum = sum;
            found = f;
            passes = eqb-true refusal_here 0 q;
            same = some_same t (taken_here following sum) (ap (λ (v : JudgedValues). v.taken) e);
          }
      own f false q (Ok None) e = absurd (false≢true (ap (λ (v : JudgedValues). v.read) e))
      own f false q (Err why) e =
          let z : number why ≡ refusal_here = ap (λ (v : JudgedValues). v.number) e in
          by_numbers f z (λ y. eqb-false refusal_here 0 q (sym z ∙ y))
      own f false q (Ok (Some t)) e = absurd (none-some _ (ap (λ (v : JudgedValues). v.taken) (sym e)))

      -- of none of the kind
      none_here : next_of text c.offset (code (table_of kind)) size ≡ no_line → (r : Result (Option Taken) Refusal)
          → judged_values r ≡ not_taken false 0 → Judges r
      none_here f (Ok None) e = f
      none_here f (Err why) e = absurd (false≢true (ap (λ (v : JudgedValues). v.read) (sym e)))
      none_here f (Ok (Some t)) e = absurd (false≢true (ap (λ (v : JudgedValues). v.read) (sym e)))

      -- of one that is refused
      refused_here : {n : ℕ} → next_of text c.offset (code (table_of kind)) size ≡ refused_line n → (r : Result (Option Taken) Refusal)
          → judged_values r ≡ not_taken true n → Judges r
      refused_here f (Ok None) e = absurd (false≢true (ap (λ (v : JudgedValues). v.read) e))
      refused_here f (Err why) e = as_line (f ∙ ap (λ (v : JudgedValues). refused_line v.number) (sym e))
      refused_here f (Ok (Some t)) e = absurd (none-some _ (ap (λ (v : JudgedValues). v.taken) (sym e)))

      go : Stands text c.offset (code (table_of kind)) size → (r : Result (Option Taken) Refusal)
          → judged_values r ≡ judged_of text c kind size m heights → Judges r
      go (past l f) r e = none_here f r (e ∙ sym (says_other f))
      go (not_framed l g f) r e = refused_here f r (e ∙ sym (says_refused f))
      go (of_another_kind l g h f) r e = none_here f r (e ∙ sym (says_other f))
      go (of_another_size l g o d f) r e = refused_here f r (e ∙ sym (says_refused f))
      go (of_the_kind l g o d f) r e = own f (eqb refusal_here 0) refl r (e ∙ of_body f)
