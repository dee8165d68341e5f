use Rattle.std.proofs.Common.{rules, tests, ap, ◌∙◌, ◌^◌, subst, sym, sum_by}
use Rattle.std.proofs.iter.Yields.{fronts}
use Rattle.std.proofs.lemmas.Iterator.{YieldsList, YieldsList-from_slice, YieldsList-from_zip, YieldsList-from_map, zips}
use Rattle.std.proofs.lemmas.Iterator.Consumers.{sum_by_from_yields_List, fits_by_from_yields_list}
use Rattle.std.proofs.lemmas.Iterator.Adapters.{serves_from_places}
use Rattle.std.specs.List.{zip}
use Rattle.model.specs.Of.{of}
use Rattle.model.proofs.Kept.{kept}
use Rattle.timing.proofs.Fronts.{zip_front}
use Rattle.schedulability.specs.Density.{part}
use Rattle.schedulability.specs.Parts.{Fits, density_fits, pairs_fit}
use Rattle.schedulability.proofs.density.needed.Goals as goal
use Rattle.schedulability.proofs.density.needed.Goals.{After-map}

-- each task, with the step that the list names for it
pairs : (c : After-map) → YieldsList (zips fronts fronts) (λ p. (p.0.now, p.1.now)) c.map.result.iter (zip (of c.args.roster.now).tasks c.args.set.now)
pairs c = YieldsList-from_zip (YieldsList-from_slice (of c.args.roster.now).tasks cc) (YieldsList-from_slice c.args.set.now cc)

pub sum-requires-clause-can : goal.sum-requires-clause-can
sum-requires-clause-can c =
    let s = of c.args.roster.now in
    let all = pairs_fit s c.args.set.now (kept c.args.roster.now) c.requires in
    ((tt, tt), serves_from_places (pairs c) (λ x q h. search rules) (λ x k low at. let fits = subst (Fits s) (sym at) (all k (x.0.now, x.1.now) low) in search rules))

pub sum-requires-clause-fits : goal.sum-requires-clause-fits
sum-requires-clause-fits c =
    let s = of c.args.roster.now in
    fits_by_from_yields_list (part s) (zip s.tasks c.args.set.now) c.map.result (2 ^ 64)
    (YieldsList-from_map _ (part s) (pairs c) c.map.ensures.closure (λ x r q k. search (rules, tests)))
    (density_fits s c.args.set.now (kept c.args.roster.now) c.requires)

pub returns : goal.returns
returns c =
    let s = of c.args.roster.now in
    sum_by_from_yields_List (part s) (zip s.tasks c.args.set.now) c.map.result c.sum.result c.sum.ensures.ran
    (YieldsList-from_map _ (part s) (pairs (goal.at.returns c).After-map) c.map.ensures.closure (λ x r q k. search (rules, tests)))
    ∙ ap (sum_by (part s)) (sym (zip_front s.tasks c.args.set.now))
