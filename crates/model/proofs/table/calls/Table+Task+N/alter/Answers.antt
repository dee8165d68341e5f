-- A write below the length is a write to the list, and so is the read.
use Rattle.std.proofs.Common.{◌<◌, arith, get_or-take}
use lib.Seq.{take-set-lt}
use Rattle.model.specs.Rewrite.{blank_task}
use Rattle.model.proofs.Tables.{length_held}
use Rattle.model.proofs.table.calls.Table+Task+N.alter.Goals as goal

pub returns : goal.returns
returns g c =
    let t = c.args.self.now in
    let h : c.args.at < t.len = omega (arith, length_held t) in
    let written = take-set-lt t.len t.items c.args.at c.rewrite.new.self h in
    let read = get_or-take t.len t.items c.args.at blank_task h in
    cc
