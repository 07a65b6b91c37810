-- A trace that is followed to its end is a list of calls.
use Rattle.std.proofs.Common.{◌≡◌, ℕ, zero, suc, ◌+◌, ◌-◌, Bool, true, false, cond, eqb, leb, List, [], ◌∷◌, ◌++◌, length, Some, None, Ok, Err, Option, Result, sym, refl, ap, ◌∙◌}
use Rattle.terms.specs.declared.fault.Cause.TheVariants.{FileTooLong, TrailingBytes}
use Rattle.terms.specs.declared.fault.Fault.{Fault}
use Rattle.terms.specs.Faults.{answered, otherwise, unless}
use Rattle.terms.proofs.Passed.{clash}
use Rattle.theories.specs.Meaning.{Meaning}
use Rattle.law.specs.Calls.{Call}
use Rattle.law.specs.Jobs.{Job, size}
use Rattle.law.specs.Pile.{Moment, after, called, step}
use Rattle.files.specs.declared.fault.File.TheVariants.{Trace as inTrace}
use Rattle.files.specs.declared.fault.FileFault.{FileFault}
use Rattle.files.specs.JobFiles.{accepted}
use Rattle.files.specs.Places.{placed, then_file}
use Rattle.files.specs.Records.{all_records, and_records, at_end, file_read, records_read}
use Rattle.fields.specs.Rest.{and_then}
use Rattle.files.specs.TraceFiles.{Following, following, moment_in, record_done, step_done, trace_file, trace_way}
use Rattle.spelling.specs.StepsRead.{step_read}
use Rattle.files.proofs.RecordsRead.{all_are}

module _ (j : Job) (th : Meaning (List ℕ)) (w : ℕ) where
  -- calls lead from one moment to another
  abbrev pub Leading : Moment → Moment → Type 0
  Leading m e = (calls : List Call) × (e ≡ after j th m calls)

  -- a record that is done, by its two parts
  done_is : (s t : Following) (rest end : List ℕ) → ◌≡◌ {A = Result (Following × List ℕ) Fault} (Ok (s, rest)) (Ok (t, end)) → t.moment ≡ s.moment
  done_is s t rest end e = sym (ap (λ (q : Following × List ℕ). q.0.moment) parts)
    where
      parts : ◌≡◌ {A = Following × List ℕ} (s, rest) (t, end)
      parts = cc

  called_leads : (p : Moment × Result (Unit {0}) Fault) (t : Following) (rest end : List ℕ) → and_then {Y = Following × List ℕ} (accepted p) (λ made. Ok (following false made, rest)) ≡ Ok (t, end) → t.moment ≡ p.0
  called_leads (m, Ok done) t rest end e = done_is (following false m) t rest end e
  called_leads (m, Err f) t rest end e = clash (cc)

  step_leads : (m : Moment) (o : Option Call) (t : Following) (rest end : List ℕ) → step_done j th m rest o ≡ Ok (t, end) → Leading m t.moment
  step_leads m None t rest end e = ([], done_is (following true m) t rest end e)
  step_leads m (Some c) t rest end e = (c ∷ [], called_leads (called j th m c) t rest end e)

  read_leads : (m : Moment) (r : Result (Option Call × List ℕ) Fault) (t : Following) (end : List ℕ) → and_then r (λ p. step_done j th m p.1 p.0) ≡ Ok (t, end) → Leading m t.moment
  read_leads m (Ok p) t end e = step_leads m p.0 t p.1 end e
  read_leads m (Err f) t end e = clash (cc)

  after_both : (m : Moment) (cs ds : List Call) → after j th (after j th m cs) ds ≡ after j th m (cs ++ ds)
  after_both m [] ds = refl
  after_both m (c ∷ cs) ds = after_both (step j th m c) cs ds

  both : (m k e : Moment) → Leading m k → Leading k e → Leading m e
  both m k e a b = (a.0 ++ b.0, b.1 ∙ ap (λ q. after j th q b.0) a.1 ∙ after_both m a.0 b.0)

  end_leads : (nth byte : ℕ) (s t : Following) (o : Option Fault) → placed inTrace nth byte (otherwise o s) ≡ Ok t → Leading s.moment t.moment
  end_leads nth byte s t None e = ([], same)
    where
      same : t.moment ≡ s.moment
      same = cc
  end_leads nth byte s t (Some f) e = clash (cc)

  one_leads : (go : Following → List ℕ → Result Following FileFault) (nth byte : ℕ) (s t : Following) (bytes : List ℕ) → ((u : Following) (rest : List ℕ) → go u rest ≡ Ok t → Leading u.moment t.moment) →
      (r : Result (Following × List ℕ) Fault) → record_done j th w s bytes ≡ r → and_records go (placed inTrace nth byte r) ≡ Ok t → Leading s.moment t.moment
  one_leads go nth byte s t bytes onward (Ok p) g e = both s.moment p.0.moment t.moment (read_leads s.moment (step_read (size j) w bytes) p.0 p.1 g) (onward p.0 p.1 e)
  one_leads go nth byte s t bytes onward (Err f) g e = clash (cc)

  records_lead : (total fuel nth : ℕ) (s t : Following) (bytes : List ℕ) → records_read (trace_way j th w) total fuel nth s bytes ≡ Ok t → Leading s.moment t.moment
  records_lead total zero nth s t bytes e = clash (cc)
  records_lead total (suc fuel) nth s t bytes e = by s.ended (λ u rest. records_lead total fuel (nth + 1) u t rest) e
    where
      by : (b : Bool) → ((u : Following) (rest : List ℕ) → records_read (trace_way j th w) total fuel (nth + 1) u rest ≡ Ok t → Leading u.moment t.moment) → cond b (at_end (trace_way j th w) total nth s bytes) (and_records (records_read (trace_way j th w) total fuel (nth + 1)) (placed inTrace nth (total - length bytes) (record_done j th w s bytes))) ≡ Ok t → Leading s.moment t.moment
      by true onward f = end_leads nth (total - length bytes) s t (unless (eqb (length bytes) 0) TrailingBytes 0) f
      by false onward f = one_leads (records_read (trace_way j th w) total fuel (nth + 1)) nth (total - length bytes) s t bytes onward (record_done j th w s bytes) refl f

  whole_leads : (s t : Following) (bytes : List ℕ) (o : Option Fault) → then_file (placed inTrace 0 0 (answered o)) (λ fits. all_records (trace_way j th w) s bytes) ≡ Ok t → Leading s.moment t.moment
  whole_leads s t bytes None e = records_lead (length bytes) (suc (length bytes)) 0 s t bytes (all_are (trace_way j th w) s bytes ∙ e)
  whole_leads s t bytes (Some f) e = clash (cc)

  in-leads : (m e : Moment) (r : Result Following FileFault) → ((t : Following) → r ≡ Ok t → Leading m t.moment) → moment_in r ≡ Ok e → Leading m e
  in-leads m e (Ok t) f g = let l = f t refl in (l.0, same ∙ l.1)
    where
      same : e ≡ t.moment
      same = cc
  in-leads m e (Err x) f g = clash (cc)

  pub trace_leads : (m e : Moment) (bytes : List ℕ) → trace_file j th w m bytes ≡ Ok e → Leading m e
  trace_leads m e bytes g = in-leads m e (file_read (trace_way j th w) (following false m) bytes) (λ t. whole_leads (following false m) t bytes (unless (leb (length bytes) 65536) FileTooLong 0)) g
