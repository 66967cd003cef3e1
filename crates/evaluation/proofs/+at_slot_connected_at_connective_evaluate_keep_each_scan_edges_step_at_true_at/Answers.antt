-- Evaluation at one vertex and on sets: what each function answers for its op, from what the parts' answers are.
use Rattle.std.proofs.Common.{◌+◌, ◌≡◌, refl, sym, ap, ◌∙◌, ℕ, Bool, ◌&&◌, ◌||◌, ◌≤◌, eqb, arith}
use Rattle.common.specs.Lists.{at}
use Rattle.vertices.specs.Steps.{is_in}
use Rattle.vertices.specs.Passes.{edges_along}
use Rattle.formula.specs.Formula.{Context, keep, true_below, formulas_of}
use Rattle.formula.specs.Uses.{reads_slot}
use Rattle.formula.specs.Evaluation.{context_in}
use Rattle.evaluation.proofs.Recursion.{by_number, below_at, negation_at, conjunction_at, disjunction_at, forward_at, backward_at, keeping_at, slot_at, among_same, negated, both, either, scanned, stepped, kept_none, each_asked, each_passed, each_answered}
use Rattle.evaluation.proofs.+at_slot_connected_at_connective_evaluate_keep_each_scan_edges_step_at_true_at.Goals.{keep_each-then-asked-i, keep_each-else-asked-i}
use Rattle.evaluation.proofs.+at_slot_connected_at_connective_evaluate_keep_each_scan_edges_step_at_true_at.Goals as goal

-- the last op that has parts
eleven : (op : ℕ) → 10 ≤ op → (op ≡ 10 → ⊥) → op ≤ 11 → op ≡ 11
eleven op l d h = omega arith

-- ---- at one vertex
pub connected_at-returns-in-4 : goal.connected_at-returns-in-4
connected_at-returns-in-4 t c =
    let a = c.args in
    let fs = formulas_of a.rules.now in
    let cx = context_in a.rules.now a.q in
    let line = c.line_of-line.ensures in
    negation_at fs cx a.f a.x (c.true_at-left.ensures ∙ by_number fs cx a.f (c.from.ensures ∙ line.left) a.x) (sym line.op ∙ c.in-4.is)

-- the left part decides, or the right one does
pub connected_at-returns-then-left : goal.connected_at-returns-then-left
connected_at-returns-then-left t c =
    let a = c.args in
    let fs = formulas_of a.rules.now in
    let cx = context_in a.rules.now a.q in
    let line = c.line_of-line.ensures in
    let left = c.true_at-left.ensures ∙ by_number fs cx a.f (c.from.ensures ∙ line.left) a.x in
    let right = c.true_at.ensures ∙ by_number fs cx a.f (c.from-then-left.ensures ∙ line.right) a.x in
    ap (λ (b : Bool). b && c.true_at.result) (sym c.if-left.true) ∙ conjunction_at fs cx a.f a.x left right (sym line.op ∙ c.in-5.is)

pub connected_at-returns-else-left : goal.connected_at-returns-else-left
connected_at-returns-else-left t c =
    let a = c.args in
    let fs = formulas_of a.rules.now in
    let cx = context_in a.rules.now a.q in
    let line = c.line_of-line.ensures in
    let left = c.true_at-left.ensures ∙ by_number fs cx a.f (c.from.ensures ∙ line.left) a.x in
    let right = true_below fs cx a.f (at fs.rights a.f) a.x in
    c.if-left.false ∙ ap (λ (b : Bool). b && right) (sym c.if-left.false) ∙ conjunction_at fs cx a.f a.x left refl (sym line.op ∙ c.in-5.is)

pub connected_at-returns-then-left-2 : goal.connected_at-returns-then-left-2
connected_at-returns-then-left-2 t c =
    let a = c.args in
    let fs = formulas_of a.rules.now in
    let cx = context_in a.rules.now a.q in
    let line = c.line_of-line.ensures in
    let left = c.true_at-left.ensures ∙ by_number fs cx a.f (c.from.ensures ∙ line.left) a.x in
    let right = true_below fs cx a.f (at fs.rights a.f) a.x in
    let op : at fs.ops a.f ≡ 6 = omega arith in
    c.if-left-2.true ∙ ap (λ (b : Bool). b || right) (sym c.if-left-2.true) ∙ disjunction_at fs cx a.f a.x left refl op

pub connected_at-returns-else-left-2 : goal.connected_at-returns-else-left-2
connected_at-returns-else-left-2 t c =
    let a = c.args in
    let fs = formulas_of a.rules.now in
    let cx = context_in a.rules.now a.q in
    let line = c.line_of-line.ensures in
    let left = c.true_at-left.ensures ∙ by_number fs cx a.f (c.from.ensures ∙ line.left) a.x in
    let right = c.true_at-else-left-2.ensures ∙ by_number fs cx a.f (c.from-else-left-2.ensures ∙ line.right) a.x in
    let op : at fs.ops a.f ≡ 6 = omega arith in
    ap (λ (b : Bool). b || c.true_at-else-left-2.result) (sym c.if-left-2.false) ∙ disjunction_at fs cx a.f a.x left right op

pub step_at-returns-in-Several : goal.step_at-returns-in-Several
step_at-returns-in-Several t c =
    let a = c.args in
    let fs = formulas_of a.rules.now in
    let cx = context_in a.rules.now a.q in
    let p = a.pass.now in
    stepped (edges_along p) p.label (λ u. eqb u a.x) (c.reached_from_one-there.ensures p.edge_count p.labels p.label c.requires.positions)
    (among_same (by_number fs cx a.f (c.from-right.ensures ∙ c.line_of.ensures.right)) c.evaluate.ensures) a.x (λ v. refl) c.has_any.ensures

pub true_at-returns-in-7 : goal.true_at-returns-in-7
true_at-returns-in-7 t c =
    let a = c.args in
    let fs = formulas_of a.rules.now in
    let cx = context_in a.rules.now a.q in
    let line = c.line_of-line.ensures in
    c.step_at.ensures
    ∙ forward_at fs cx a.f a.x c.edges_with-pass.ensures.edges (c.edges_with-pass.ensures.label ∙ line.left) (sym line.op ∙ c.in-7.is)
    ∙ below_at fs cx a.f a.x a.n c.in_default.ensures.0

pub true_at-returns-in-8 : goal.true_at-returns-in-8
true_at-returns-in-8 t c =
    let a = c.args in
    let r = a.rules.now in
    let fs = formulas_of r in
    let cx = context_in a.rules.now a.q in
    let line = c.line_of-line.ensures in
    c.step_at-in-8.ensures
    ∙ backward_at fs cx a.f a.x r.edge_count r.edge_labels r.edge_sources r.edge_targets c.edges_with-pass-in-8.ensures.edges refl
    (c.edges_with-pass-in-8.ensures.label ∙ line.left) (sym line.op ∙ c.in-8.is)
    ∙ below_at fs cx a.f a.x a.n c.in_default.ensures.0

pub true_at-returns-in-9 : goal.true_at-returns-in-9
true_at-returns-in-9 t c =
    let a = c.args in
    let r = a.rules.now in
    let fs = formulas_of r in
    let cx = context_in r a.q in
    let line = c.line_of-line.ensures in
    let right = c.from.ensures ∙ line.right in
    let kept = c.keeping-kept.ensures r in
    c.true_at.ensures ∙ (λ j. true_below fs (kept j) a.f (right j) a.x)
    ∙ keeping_at fs cx a.f a.x line.left (sym line.op ∙ c.in-9.is)
    ∙ below_at fs cx a.f a.x a.n c.in_default.ensures.0

pub true_at-returns-in-0-to-6 : goal.true_at-returns-in-0-to-6
true_at-returns-in-0-to-6 t c =
    let a = c.args in
    let r = a.rules.now in
    c.connected_at.ensures ∙ below_at (formulas_of r) (context_in r a.q) a.f a.x a.n c.in_default.ensures.0

pub true_at-returns-in-10-to-255 : goal.true_at-returns-in-10-to-255
true_at-returns-in-10-to-255 t c =
    let a = c.args in
    let r = a.rules.now in
    let fs = formulas_of r in
    let cx = context_in r a.q in
    let parts = c.in_default.ensures in
    let op : at fs.ops a.f ≡ 11 = eleven _ (omega arith) parts.3 parts.2 in
    c.at_slot.ensures ∙ slot_at fs cx a.f a.x op ∙ below_at fs cx a.f a.x a.n parts.0

-- ---- on sets of vertices
pub connective-returns-in-4 : goal.connective-returns-in-4
connective-returns-in-4 t c =
    let a = c.args in
    let fs = formulas_of a.rules.now in
    let cx = context_in a.rules.now a.q in
    let line = c.line_of-line.ensures in
    among_same (λ v. negation_at fs cx a.f v refl (sym line.op ∙ c.in-4.is))
    (negated (among_same (by_number fs cx a.f (c.from.ensures ∙ line.left)) c.evaluate-t.ensures) c.minus.ensures)

pub connective-returns-in-5 : goal.connective-returns-in-5
connective-returns-in-5 t c =
    let a = c.args in
    let fs = formulas_of a.rules.now in
    let cx = context_in a.rules.now a.q in
    let line = c.line_of-line.ensures in
    among_same (λ v. conjunction_at fs cx a.f v refl refl (sym line.op ∙ c.in-5.is))
    (both (among_same (by_number fs cx a.f (c.from.ensures ∙ line.left)) c.evaluate-t.ensures)
    (among_same (by_number fs cx a.f (c.from-right.ensures ∙ line.right)) c.evaluate.ensures))

pub connective-returns-in_default : goal.connective-returns-in_default
connective-returns-in_default t c =
    let a = c.args in
    let fs = formulas_of a.rules.now in
    let cx = context_in a.rules.now a.q in
    let line = c.line_of-line.ensures in
    let op : at fs.ops a.f ≡ 6 = omega arith in
    among_same (λ v. disjunction_at fs cx a.f v refl refl op)
    (either (among_same (by_number fs cx a.f (c.from.ensures ∙ line.left)) c.evaluate-t.ensures)
    (among_same (by_number fs cx a.f (c.from-right.ensures ∙ line.right)) c.evaluate-u.ensures) c.union.ensures)

pub evaluate-returns-in-7 : goal.evaluate-returns-in-7
evaluate-returns-in-7 t c =
    let a = c.args in
    let fs = formulas_of a.rules.now in
    let cx = context_in a.rules.now a.q in
    let line = c.line_of-line.ensures in
    among_same (λ v. forward_at fs cx a.f v c.edges_with-pass.ensures.edges (c.edges_with-pass.ensures.label ∙ line.left) (sym line.op ∙ c.in-7.is)
    ∙ below_at fs cx a.f v a.n c.in_default.ensures.0) c.scan_edges.ensures

pub evaluate-returns-in-8 : goal.evaluate-returns-in-8
evaluate-returns-in-8 t c =
    let a = c.args in
    let r = a.rules.now in
    let fs = formulas_of r in
    let cx = context_in a.rules.now a.q in
    let line = c.line_of-line.ensures in
    among_same (λ v. backward_at fs cx a.f v r.edge_count r.edge_labels r.edge_sources r.edge_targets c.edges_with-pass-in-8.ensures.edges refl
    (c.edges_with-pass-in-8.ensures.label ∙ line.left) (sym line.op ∙ c.in-8.is)
    ∙ below_at fs cx a.f v a.n c.in_default.ensures.0) c.scan_edges-in-8.ensures

pub evaluate-returns-in-9 : goal.evaluate-returns-in-9
evaluate-returns-in-9 t c =
    let a = c.args in
    let r = a.rules.now in
    among_same (λ v. below_at (formulas_of r) (context_in r a.q) a.f v a.n c.in_default.ensures.0) c.keep_each.ensures

pub evaluate-returns-in-0-to-6 : goal.evaluate-returns-in-0-to-6
evaluate-returns-in-0-to-6 t c =
    let a = c.args in
    let r = a.rules.now in
    among_same (λ v. below_at (formulas_of r) (context_in r a.q) a.f v a.n c.in_default.ensures.0) c.connective.ensures

pub evaluate-returns-in-10-to-255 : goal.evaluate-returns-in-10-to-255
evaluate-returns-in-10-to-255 t c =
    let a = c.args in
    let r = a.rules.now in
    let fs = formulas_of r in
    let cx = context_in r a.q in
    let parts = c.in_default.ensures in
    let op : at fs.ops a.f ≡ 11 = eleven _ (omega arith) parts.3 parts.2 in
    among_same (λ v. c.at_slot.ensures ∙ slot_at fs cx a.f v op ∙ below_at fs cx a.f v a.n parts.0) c.asked_if.ensures

pub keep_each-returns-then-not-reads_slot : goal.keep_each-returns-then-not-reads_slot
keep_each-returns-then-not-reads_slot t c =
    let a = c.args in
    let fs = formulas_of a.rules.now in
    let cx = context_in a.rules.now a.q in
    let line = c.line_of-line.ensures in
    let reads = c.reads_slot.ensures ∙ (λ j. reads_slot fs a.f (line.right j) (line.left j)) in
    let each = kept_none fs cx a.f (at fs.lefts a.f) (at fs.rights a.f) a.asked.now reads c.if-not-reads_slot.true
    (c.from-right.ensures ∙ line.right) c.evaluate.ensures in
    among_same (λ v. keeping_at fs cx a.f v refl c.requires.op) (record { members = each })

pub keep_each-loop-v-preserved : goal.keep_each-loop-v-preserved
keep_each-loop-v-preserved t c =
    let r = c.args.rules.now in
    let fs = formulas_of r in
    elim c.if-asked-i.branch [
      | keep_each-then-asked-i w ↦ rw w.r-is (each_asked c.loop-v.invariant c.from-i.ensures (omega arith) w.if-asked-i.true
          (w.true_at.ensures ∙ ap (λ (d : Context). true_below fs d c.args.f c.from-right.result c.loop-v.v) (w.keeping-kept.ensures r)))
      | keep_each-else-asked-i w ↦ rw w.r-is (each_passed c.loop-v.invariant c.from-i.ensures (omega arith) w.if-asked-i.false)
    ]

-- past the last vertex
pub keep_each-returns-after-asked-i : goal.keep_each-returns-after-asked-i
keep_each-returns-after-asked-i t c =
    let a = c.args in
    let r = a.rules.now in
    let fs = formulas_of r in
    let cx = context_in r a.q in
    let line = c.line_of-line.ensures in
    let last : c.loop-v.v + 1 ≡ 256 = omega arith in
    among_same (λ v. ap (λ (k : ℕ). true_below fs (keep cx c.line_of-line.result.left v) a.f k v) (c.from-right.ensures ∙ line.right)
    ∙ keeping_at fs cx a.f v line.left c.requires.op)
    (each_answered last c.told-asked (elim c.if-asked-i.branch [
      | keep_each-then-asked-i w ↦ rw w.r-is (each_asked c.loop-v.invariant c.from-i.ensures (omega arith) w.if-asked-i.true
          (w.true_at.ensures ∙ ap (λ (d : Context). true_below fs d c.args.f c.from-right.result c.loop-v.v) (w.keeping-kept.ensures r)))
      | keep_each-else-asked-i w ↦ rw w.r-is (each_passed c.loop-v.invariant c.from-i.ensures (omega arith) w.if-asked-i.false)
    ]))

pub scan_edges-returns : goal.scan_edges-returns
scan_edges-returns t c =
    let a = c.args in
    let fs = formulas_of a.rules.now in
    let cx = context_in a.rules.now a.q in
    let p = a.pass.now in
    scanned (edges_along p) p.label (is_in a.asked.now) (c.reached_from-there.ensures p.edge_count p.labels p.label c.requires.positions)
    (among_same (by_number fs cx a.f (c.from-right.ensures ∙ c.line_of.ensures.right)) c.evaluate-found.ensures) (λ v. refl)
    (c.starts_to-2.ensures p.edge_count p.labels p.label c.requires.positions (is_in c.evaluate-found.result) (λ v l. refl))
