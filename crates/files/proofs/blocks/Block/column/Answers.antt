use Rattle.std.proofs.Common.{◌≡◌, ◌≢◌, rules, tests}
use Rattle.std.proofs.lemmas.Iterator.{IsFirst-from_position, YieldsList-from_slice}
use Rattle.std.proofs.lemmas.Slice.Eq.{bytes_eq-Decides}
use Rattle.files.proofs.Naming.{column_of}
use Rattle.files.proofs.blocks.Block.column.Goals as goal

pub returns : goal.returns
returns c =
    let name = c.args.name.now in
    let table = c.names.result.now in
    column_of c.args.self table c.names.ensures name c.position.result
    (IsFirst-from_position _ _ _ (λ n. n.now ≡ name) (λ n. n.now ≢ name) c.position.ensures.ran (YieldsList-from_slice table c.iter.ensures.rest)
    (λ x q k. search (rules, tests, bytes_eq-Decides)) (λ x q k. search (rules, tests, bytes_eq-Decides)))
