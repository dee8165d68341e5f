use Rattle.std.proofs.Common.{rules, tests, sym, ◌∙◌}
use Rattle.std.proofs.lemmas.Iterator.{YieldsList-from_slice}
use Rattle.std.proofs.lemmas.Iterator.Search.{any_from_yields_List}
use Rattle.model.specs.Records.{held_on}
use Rattle.model.proofs.Lists.{first_by_any}
use Rattle.model.proofs.rules.section_stands.Goals as goal

pub returns : goal.returns
returns c =
    any_from_yields_List (held_on c.args.owner c.args.resource) _ _ _ c.any.ensures.ran (YieldsList-from_slice c.args.sections.now cc) (λ x b q k. search (rules, tests))
    ∙ sym (first_by_any _ c.args.sections.now)
