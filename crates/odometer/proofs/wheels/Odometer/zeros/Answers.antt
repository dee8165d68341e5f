use Rattle.std.proofs.Common.{◌==◌, reverse, take, ◌∙◌, rules, tests}
use Rattle.std.proofs.lemmas.Iterator.Adapters.{YieldsList-from_rev_slice}
use Rattle.std.proofs.lemmas.Iterator.Consumers.{count_from_yields_List}
use Rattle.std.proofs.lemmas.Iterator.Search.{YieldsList-from_take_while}
use Rattle.std.proofs.lemmas.List.Folds.{length-prefix_len}
use Rattle.odometer.proofs.Numbers.{zeros_counted}
use Rattle.odometer.proofs.Reading.{places_show}
use Rattle.odometer.proofs.wheels.Odometer.zeros.Goals as goal

pub returns : goal.returns
returns c =
    let o = c.self.inside in
    let ws = take o.places o.wheels in
    let shown = places_show o c.self.invariant in
    let counted =
    count_from_yields_List c.take_while.result _ c.count.ensures.ran
    (YieldsList-from_take_while _ (λ d. d == 0) (YieldsList-from_rev_slice ws (cc)) c.take_while.ensures.closure c.take_while.ensures.done (λ x b q k. search (rules, tests)))
    ∙ length-prefix_len (λ d. d == 0) (reverse ws)
    in
    rw (← c.self.view_is, counted, shown) (zeros_counted o.base o.places o.number o.some)
