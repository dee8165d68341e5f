use Rattle.std.proofs.Common.{◌≡◌, ℕ, max, List, [], ◌∷◌, map, filter, fold, unwrap_or, refl, sym, ap, ◌∙◌, rules, arith}
use Rattle.std.specs.List.{reduce}
use Rattle.std.proofs.lemmas.Iterator.{YieldsList-from_map, YieldsList-from_slice}
use Rattle.std.proofs.lemmas.Iterator.Adapters.{option_map_id}
use Rattle.std.proofs.lemmas.Iterator.Consumers.{YieldsList-at, YieldsList-from_filter, max_from_yields_List}
use Rattle.timing.specs.Times.{blocks}
use Rattle.timing.proofs.holds.blocking.Goals as goal

-- the greatest of a list, or 0 where it is empty
from_zero : (xs : List ℕ) → unwrap_or (reduce max xs) 0 ≡ fold max 0 xs
from_zero [] = refl
from_zero (x ∷ xs) = let e : x ≡ max 0 x = omega arith in ap (λ a. fold max a xs) e

pub returns : goal.returns
returns c =
    let longest =
    max_from_yields_List c.map.result c.max.result c.max.ensures.ran (
    YieldsList-from_map _ (λ h. h.time) (
    YieldsList-at c.map.ensures.source (
    YieldsList-from_filter _ (blocks c.args.priority) (YieldsList-from_slice c.args.holds.now cc) c.filter.ensures.closure (λ x r q k. search rules)
    )
    ) c.map.ensures.closure (λ x r q k. search rules)
    ) in
    c.unwrap_or.ensures ∙ ap (λ r. unwrap_or r 0) (sym (option_map_id _) ∙ longest) ∙ from_zero (map (λ h. h.time) (filter (blocks c.args.priority) c.args.holds.now))
