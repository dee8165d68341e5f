use Rattle.std.proofs.Common.{rules, tests}
use Rattle.std.proofs.lemmas.Iterator.{YieldsList-from_slice, YieldsList-from_zip, cases_from_all}
use Rattle.model.specs.Of.{of}
use Rattle.schedulability.specs.Floors.{Allowed}
use Rattle.schedulability.specs.Floorings.{kept_from_cases}
use Rattle.schedulability.proofs.floors.within_floors.Goals as goal

pub returns : goal.returns
returns c =
    let tasks = (of c.args.roster.now).tasks in
    let list = c.args.list.now in
    let road = YieldsList-from_zip {s = c.zip.result} (YieldsList-from_slice tasks cc) (YieldsList-from_slice list cc) in
    kept_from_cases tasks list c.all.result
    (cases_from_all c.all.new.self _ c.all.result Allowed (λ a. Allowed a → ⊥) c.all.ensures.ran road (λ x q k. search (rules, tests)) (λ x q k. search (rules, tests)))
