use Rattle.spelling.specs.StepsSeen.{call_in}
use Rattle.writing.proofs.WrittenReadsBack.{written-reads_back}
use Rattle.writing.proofs.step_writer.write_step.Goals as goal

pub returns : goal.returns
returns c = record {
  step = c.write_record.ensures;
  back = written-reads_back c.args.n c.args.width (call_in c.args.step) c.args.out.now (c.write_record.new.out, c.write_record.result) c.write_record.ensures;
}
