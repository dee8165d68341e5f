-- Each step is compared with the next alone, and that is enough.
use Rattle.std.proofs.Common.{rules, Bool, ◌&&◌, nat_lt, nat_le, arith, refl, Decides}
use Rattle.std.proofs.lemmas.Fn.{always_returns_same}
use Rattle.std.proofs.lemmas.Bool.{le-leb, leb-true}
use Rattle.std.proofs.lemmas.Bool.Decides.{same_from_decides, Decides-and, Decides-ltb}
use Rattle.model.specs.declared.kinds.Step.{Step}
use Rattle.model.specs.Records.{Above}
use Rattle.model.proofs.Lists.{pairwise_from_sorted}
use Rattle.model.proofs.rules.falling.Goals as goal

abbrev is_above : Step → Step → Bool
is_above a b = nat_lt b.clock a.clock && nat_le b.voltage a.voltage

asks : (a b : Step) → Decides (is_above a b) (Above a b)
asks a b = Decides-and _ _ (Decides-ltb b.clock a.clock) (leb-true b.voltage a.voltage, le-leb b.voltage a.voltage)

pub returns : goal.returns
returns c =
    let answers = c.is_sorted_by.ensures.cases is_above (always_returns_same _ _ _ (λ a r f' k. let d : Decides r (Above a.0.now a.1.0.now) = search rules in (same_from_decides r _ d (asks a.0.now a.1.0.now), refl))) in
    pairwise_from_sorted Above is_above asks (λ x y z p q. (omega arith, omega arith)) c.args.steps.now (record { clock = 0; voltage = 0 }) _ answers
