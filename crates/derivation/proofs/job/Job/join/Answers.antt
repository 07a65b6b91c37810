use Rattle.std.proofs.Common.{◌≡◌, ℕ, ◌+◌, ◌≤◌, true, List, [], ◌∷◌, ◌++◌, map, length, sym, refl, ap, ◌∙◌, subst, arith}
use Rattle.std.proofs.lemmas.List.{append_assoc, map-append}
use Rattle.terms.specs.declared.row.Row.{Row as Stored}
use Rattle.terms.specs.Rows.{Row, turned}
use Rattle.terms.specs.Stored.{row_of, whole}
use Rattle.law.specs.declared.relation.Relation.{Relation}
use Rattle.law.specs.Jobs.{rewritten}
use Rattle.derivation.specs.declared.job.Job.{Job as StoredJob}
use Rattle.derivation.specs.Blank.{blank_from, rows_blank}
use Rattle.derivation.specs.JobView.{job_of, with_rows}
use Rattle.derivation.proofs.BlankRows.{negated_blank, rows_blank_joined}
use Rattle.derivation.proofs.RowsAdded.{front_turned}
use Rattle.derivation.proofs.job.Job.join.Goals as goal

-- a turned row reads 0 where the row does
turned_blank : (n : ℕ) (r s : Stored) → whole s ≡ turned (whole r) → blank_from n r.coefficients.items ≡ true → blank_from n s.coefficients.items ≡ true
turned_blank n r s e h = ap (λ (w : Row). blank_from n w.coefficients) e ∙ negated_blank n r.coefficients.items h

-- the room that a relation's rows leave
room_for : (o : StoredJob) (row : Stored) (relation other : Relation) → relation ≡ other → length o.rows.items + length (rewritten relation (whole row)) ≤ 64 → length o.rows.items + length (rewritten other (whole row)) ≤ 64
room_for o row relation other e h = subst (λ x. length o.rows.items + length (rewritten x (whole row)) ≤ 64) e h

-- the rows after others joined
joined : (o : StoredJob) (rows more : List Stored) (relation other : Relation) (r : Row) → rows ≡ o.rows.items ++ more → map (row_of o.size) more ≡ rewritten other r → relation ≡ other →
    record { costs = (job_of o).costs; rows = map (row_of o.size) rows } ≡ with_rows (job_of o) (rewritten relation r)
joined o rows more relation other r e f is =
    ap (λ rs. record { costs = (job_of o).costs; rows = rs }) (ap (map (row_of o.size)) e ∙ map-append (row_of o.size) o.rows.items more)
    ∙ ap (with_rows (job_of o)) (f ∙ sym (ap (λ x. rewritten x r) is))

pub push-requires : goal.push-requires
push-requires c = let r = room_for c.args.self.now c.args.row _ _ c.in-AtMost.is c.requires.room in (omega arith, omega (arith, r))

pub push-requires-in-AtLeast : goal.push-requires-in-AtLeast
push-requires-in-AtLeast c = let r = room_for c.args.self.now c.args.row _ _ c.in-AtLeast.is c.requires.room in (omega arith, omega (arith, r))

pub push-requires-in-Equal : goal.push-requires-in-Equal
push-requires-in-Equal c = let r = room_for c.args.self.now c.args.row _ _ c.in-Equal.is c.requires.room in (omega arith, omega (arith, r))

pub push-requires-in-Equal-2 : goal.push-requires-in-Equal-2
push-requires-in-Equal-2 c = let r = room_for c.args.self.now c.args.row _ _ c.in-Equal.is c.requires.room in (omega arith, omega (arith, r, c.push-in-Equal.ensures.len))

pub invariant_of-self : goal.invariant_of-self
invariant_of-self c =
    let o = c.args.self.now in
    record { narrow = o.narrow; blank = ap (rows_blank o.size) c.push.ensures.items ∙ rows_blank_joined o.size o.rows.items c.args.row c.requires.blank o.blank }

pub invariant_of-self-in-AtLeast : goal.invariant_of-self-in-AtLeast
invariant_of-self-in-AtLeast c =
    let o = c.args.self.now in let s = c.turned.result in
    record { narrow = o.narrow; blank = ap (rows_blank o.size) c.push-in-AtLeast.ensures.items ∙ rows_blank_joined o.size o.rows.items s (turned_blank o.size c.args.row s c.turned.ensures c.requires.blank) o.blank }

pub invariant_of-self-in-Equal : goal.invariant_of-self-in-Equal
invariant_of-self-in-Equal c =
    let o = c.args.self.now in let s = c.turned-in-Equal.result in
    let first = ap (rows_blank o.size) c.push-in-Equal.ensures.items ∙ rows_blank_joined o.size o.rows.items c.args.row c.requires.blank o.blank in
    record { narrow = o.narrow; blank = ap (rows_blank o.size) c.push-in-Equal-2.ensures.items ∙ rows_blank_joined o.size c.push-in-Equal.new.self.items s (turned_blank o.size c.args.row s c.turned-in-Equal.ensures c.requires.blank) first }

pub returns-in-AtMost : goal.returns-in-AtMost
returns-in-AtMost c = joined c.args.self.now _ (c.args.row ∷ []) _ _ (row_of c.args.self.now.size c.args.row) c.push.ensures.items refl c.in-AtMost.is

pub returns-in-AtLeast : goal.returns-in-AtLeast
returns-in-AtLeast c =
    let n = c.args.self.now.size in let s = c.turned.result in
    joined c.args.self.now _ (s ∷ []) _ _ (row_of n c.args.row) c.push-in-AtLeast.ensures.items (ap (λ x. x ∷ []) (front_turned n c.args.row s c.turned.ensures)) c.in-AtLeast.is

pub returns-in-Equal : goal.returns-in-Equal
returns-in-Equal c =
    let o = c.args.self.now in let n = o.size in let r = c.args.row in let s = c.turned-in-Equal.result in
    joined o _ (r ∷ s ∷ []) _ _ (row_of n r) (c.push-in-Equal-2.ensures.items ∙ ap (λ rs. rs ++ s ∷ []) c.push-in-Equal.ensures.items ∙ append_assoc o.rows.items (r ∷ []) (s ∷ []))
    (ap (λ x. row_of n r ∷ x ∷ []) (front_turned n r s c.turned-in-Equal.ensures)) c.in-Equal.is
