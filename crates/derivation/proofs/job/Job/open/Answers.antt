use Rattle.std.proofs.Common.{true, [], map, length, take, None, refl, ap, ◌∙◌, arith}
use Rattle.terms.specs.Stored.{row_of}
use Rattle.law.specs.Table.{view}
use Rattle.law.proofs.Derivations.{bytes_lawful, law}
use Rattle.derivation.proofs.StoredJobs.{rows_are, size_small}
use Rattle.derivation.proofs.job.Job.open.Goals as goal

pub returns : goal.returns
returns g c =
    let o = c.args.self in let e = c.deref.ensures.0 in
    record {
      job = ap (λ f. record { costs = take f.size o.costs.items; rows = f.given }) c.begin.ensures.fixed ∙ ap (λ rs. record { costs = take o.size o.costs.items; rows = map (row_of o.size) rs }) e;
      moment = ap (λ h. view (record { table = h.rows; heights = h.heights; mark = h.mark; taken = None })) c.begin.ensures.held
          ∙ ap (λ rs. view (record { table = map (row_of o.size) rs; heights = []; mark = true; taken = None })) e;
      theory = refl;
      law = law _ _ (bytes_lawful _ _ (g.met.T.Theory.lawful _));
      sized = record { variables = size_small o; rows_few = omega (arith, rows_are o, ap length e, c.deref.ensures.1) };
    }
