-- The place past the last item is written, and is then the last.
use Rattle.std.proofs.Common.{◌<◌, length, arith}
use Rattle.std.proofs.lemmas.List.{take_more_set}
use Rattle.model.proofs.Tables.{length_held}
use Rattle.model.proofs.table.Table.push.Goals as goal

pub returns : goal.returns
returns g c =
    let t = c.args.self.now in
    let h : t.len < length t.items = omega (arith, length_held t) in
    take_more_set t.items t.len c.args.item h
