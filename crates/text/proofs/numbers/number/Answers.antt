use Rattle.std.proofs.Common.{refl}
use Rattle.std.proofs.lemmas.Bool.{false≢true}
use Rattle.text.proofs.Writing.{shaped, unshaped}
use Rattle.text.proofs.numbers.number.Goals as goal

pub returns-then-is_shaped : goal.returns-then-is_shaped
returns-then-is_shaped c = shaped c.args.item.now c.read.result (c.if-is_shaped.ensures.0 refl) c.read.ensures

pub returns-else-is_shaped : goal.returns-else-is_shaped
returns-else-is_shaped c = unshaped c.args.item.now (λ s. false≢true (c.if-is_shaped.ensures.1 s))
