use Rattle.std.specs.Iterator.Adapters.{enumerate_count, enumerate_source, zip_first, zip_second}
use Rattle.std.specs.Slice.Iter.{iter_rest}
use Rattle.model.specs.Of.{of}
use Rattle.tariffs.proofs.Summed.{Summed}
use Rattle.tariffs.proofs.charge.charge.Given as goal

abbrev pub invariant-loop-place : goal.invariant-loop-place
invariant-loop-place g l =
    let pairs = enumerate_source l.place-iterator in
    Summed g.C.Amount g.C.Tariff (of l.roster) l.set l.sum (enumerate_count l.place-iterator) (iter_rest (zip_first pairs)) (iter_rest (zip_second pairs))
