use Rattle.std.proofs.Common.{◌≡◌, ◌≢◌, rules, tests}
use Rattle.std.proofs.lemmas.Iterator.{IsFirst-from_position, YieldsList-from_slice}
use Rattle.std.proofs.lemmas.List.{take_rest}
use Rattle.std.proofs.option.Match.{if_some}
use Rattle.text.proofs.Cutting.{cut_at}
use Rattle.text.proofs.separators.cut.Goals as goal

pub returns : goal.returns
returns c =
    let bs = c.args.bytes.now in
    let sep = c.args.separator in
    let first = if_some _ _ _ c.in_ok-at.was (IsFirst-from_position _ _ _ (λ b. b ≡ sep) (λ b. b ≢ sep) c.position.ensures.ran (YieldsList-from_slice bs c.iter.ensures.rest) (λ x q k. search (rules, tests)) (λ x q k. search (rules, tests))) in
    rw take_rest (cut_at sep bs c.in_ok-at.at first.0 (first.1 0) first.2)
