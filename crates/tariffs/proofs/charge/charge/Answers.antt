use Rattle.std.proofs.Common.{refl}
use Rattle.std.proofs.lemmas.Slice.Zip.{either_empty_from_Zip}
use Rattle.std.specs.Iterator.Adapters.{enumerate_source}
use Rattle.model.specs.Of.{of}
use Rattle.tariffs.proofs.Summed.{summed_all}
use Rattle.tariffs.proofs.charge.charge.Goals as goal

pub returns : goal.returns
returns g c =
    let pairs = enumerate_source c.loop-place.place-iterator in
    let empty = either_empty_from_Zip pairs (enumerate_source c.next.new.self) _ refl c.in-None.ensures.steps.0 in
    summed_all g.C.Amount g.C.Tariff (of c.args.roster.now) c.args.set.now _ _ empty c.loop-place.invariant
