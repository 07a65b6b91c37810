use Rattle.std.proofs.Common.{sym, subst, List, ℕ, rules}
use Rattle.writing.specs.Laid.{HasRoom, Lays}
use Rattle.writing.proofs.LaidBytes.{places_as_bytes}
use Rattle.writing.proofs.pen.Pen.put_places.Goals as goal

pub put-requires : goal.put-requires
put-requires c =
    let is = places_as_bytes c.args.places.now c.as_flattened-bytes.result.now (λ i h. search rules) (λ k. search rules) c.as_flattened-bytes.ensures.value in
    subst (HasRoom c.args.self.now) (sym is) c.requires

pub returns : goal.returns
returns c =
    let is = places_as_bytes c.args.places.now c.as_flattened-bytes.result.now (λ i h. search rules) (λ k. search rules) c.as_flattened-bytes.ensures.value in
    subst (λ (bs : List ℕ). Lays c.args.self.now bs c.put.new.self) is c.put.ensures
