use Rattle.spelling.proofs.ReadSpelt.{read_is_spelt}
use Rattle.spelling.proofs.step_reader.read_step.Goals as goal

pub returns : goal.returns
returns c = record {
  step = c.read_record.ensures;
  spelt = read_is_spelt c.args.n c.args.width c.args.bytes.now c.read_record.result (λ k. (c.type_inv.bytes k).fits) c.read_record.ensures;
}
